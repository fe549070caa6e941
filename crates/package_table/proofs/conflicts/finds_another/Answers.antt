use Rattle.std.proofs.Common.{◌<◌, ℕ, length, sym, ap, subst}
use Rattle.package_table.proofs.Meant.{name_fits}
use Rattle.package_table.proofs.Puts.{found_known}
use Rattle.package_table.proofs.conflicts.finds_another.Goals as goal

pub found_number-requires-clause-name : goal.found_number-requires-clause-name
found_number-requires-clause-name c =
    subst (λ (j : ℕ). j < length c.args.sets.now.names) (sym (ap (λ (p : ℕ × ℕ). p.1) c.symbol.ensures)) (name_fits c.args.sets.now c.goodness.ensures c.args.symbol c.requires.symbol)

pub home_name-requires : goal.home_name-requires
home_name-requires c = (found_known c.args.sets.now c.goodness.ensures c.args.owner c.symbol.result.second c.in-Some.other (sym c.in-Some.ensures)).0
