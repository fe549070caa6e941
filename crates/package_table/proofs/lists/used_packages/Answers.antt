use Rattle.std.proofs.Common.{ℕ, ◌<◌, ◌∙◌, List, length, get_or, sym, ap, subst}
use Rattle.package_sets.specs.KeptSets.{pair_at, positions_of}
use Rattle.package_sets.proofs.Places.{all_at}
use Rattle.package_table.proofs.ListedBy.{place_fits}
use Rattle.package_table.proofs.lists.used_packages.Goals as goal

pub use_at-requires : goal.use_at-requires
use_at-requires c =
    subst (λ (xs : List ℕ). get_or xs c.loop-position.position-index 0 < length c.args.sets.now.uses) (sym c.uses_of-positions.ensures) (place_fits c.args.owner c.args.sets.now.uses c.loop-position.position-index (subst (λ (xs : List ℕ). c.loop-position.position-index < length xs) c.uses_of-positions.ensures c.loop-position-test.true))

pub package-requires : goal.package-requires
package-requires c =
    let fits = place_fits c.args.owner c.args.sets.now.uses c.loop-position.position-index (subst (λ (xs : List ℕ). c.loop-position.position-index < length xs) c.uses_of-positions.ensures c.loop-position-test.true) in
    subst (λ (i : ℕ). i < length c.args.sets.now.packages) (sym (ap (λ (p : ℕ × ℕ). p.1) c.use_at.ensures ∙ ap (λ (xs : List ℕ). (pair_at c.args.sets.now.uses (get_or xs c.loop-position.position-index 0)).1) c.uses_of-positions.ensures))
    (all_at (λ (u : ℕ × ℕ). (u.0 < length c.args.sets.now.packages) × (u.1 < length c.args.sets.now.packages)) c.args.sets.now.uses c.goodness.ensures.within.uses (get_or (positions_of c.args.owner c.args.sets.now.uses) c.loop-position.position-index 0) (0, 0) fits).1
