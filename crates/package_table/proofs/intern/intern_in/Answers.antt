use Rattle.std.proofs.Common.{◌+◌, ◌∙◌, sym, ap}
use Rattle.package_sets.specs.KeptSets.{name_at}
use Rattle.package_table.specs.Table.{symbol_count}
use Rattle.package_table.proofs.KeptChanges.{counted_new}
use Rattle.package_table.proofs.Adding.{adds_same}
use Rattle.package_table.proofs.intern.intern_in.Goals as goal

pub returns-clause-counted : goal.returns-clause-counted
returns-clause-counted c =
    c.in_ok-put_new.ensures.count ∙ ap (λ k. k + 1) c.requires.counted
    ∙ sym (ap symbol_count c.in_ok-put_new.ensures.ok
    ∙ counted_new _ (name_at c.args.sets.now.packages c.args.owner) c.args.name.now c.requires.package (sym c.in_default.ensures))

pub returns-in-Some-clause-adds : goal.returns-in-Some-clause-adds
returns-in-Some-clause-adds c = adds_same c.args.sets.now c.goodness.ensures
