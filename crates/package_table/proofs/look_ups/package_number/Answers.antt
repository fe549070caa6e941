use Rattle.std.proofs.Common.{◌≡◌, ◌<◌, ℕ, Option, None, Some, IfSome, length, position, bytes_eq, is_some, sym, ap, ◌∙◌}
use Rattle.package_sets.specs.KeptSets.{name_at}
use Rattle.package_table.proofs.Mapped.{named}
use Rattle.package_table.proofs.ByName.{package_some}
use Rattle.package_table.proofs.look_ups.package_number.Goals as goal

pub returns : goal.returns
returns c = record {
  there = ap is_some c.find_package.ensures ∙ package_some c.args.sets.now c.goodness.ensures c.args.owner.now;
  named = by c.find_package.result c.find_package.ensures;
}
  where
    by : (o : Option ℕ) → o ≡ position (bytes_eq c.args.owner.now) c.args.sets.now.packages → IfSome o (λ p. (p < length c.args.sets.now.packages) × (name_at c.args.sets.now.packages p ≡ c.args.owner.now))
    by None is = tt
    by (Some p) is = let at = named c.args.owner.now c.args.sets.now.packages p (sym is) in (at.0, sym at.1)
