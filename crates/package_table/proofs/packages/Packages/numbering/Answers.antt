use Rattle.std.proofs.Common.{subst}
use Rattle.package_table.specs.Table.{symbol_count}
use Rattle.package_table.specs.Numbers.{Tables, table_now}
use Rattle.package_table.specs.Numbering.{AreSymbolsNumbered}
use Rattle.package_table.specs.Meaning.{numbered_of}
use Rattle.package_table.proofs.ByName.{numbers_always}
use Rattle.package_table.proofs.packages.Packages.numbering.Goals as goal

pub returns : goal.returns
returns c =
    subst (λ (ts : Tables). AreSymbolsNumbered (table_now ts) (symbol_count ts.0)) c.self.view_is
    (subst (AreSymbolsNumbered (numbered_of c.self.inside.sets)) c.self.invariant.state.counted (numbers_always c.self.inside.sets c.self.invariant.state.good))
