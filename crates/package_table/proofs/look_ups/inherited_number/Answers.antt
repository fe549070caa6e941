use Rattle.std.proofs.Common.{◌≡◌, ◌∙◌, ℕ, ◌<◌, ◌≤◌, ap, List, [], length, get_or, sym, subst, refl}
use Rattle.package_sets.proofs.Places.{all_at}
use Rattle.package_table.proofs.FoundBy.{positions_read, first_hit, first_missed, first_end}
use Rattle.package_sets.specs.KeptSets.{pair_at, positions_of}
use Rattle.package_table.proofs.look_ups.inherited_number.Goals as goal

pub use_at-used-requires : goal.use_at-used-requires
use_at-used-requires c =
    subst (λ (xs : List ℕ). get_or xs c.loop-position.position-index 0 < length c.args.sets.now.uses) (sym c.uses_of-position-items.ensures)
    (all_at (λ x. (x < length c.args.sets.now.uses) × ((pair_at c.args.sets.now.uses x).0 ≡ c.args.owner)) (positions_of c.args.owner c.args.sets.now.uses) (positions_read c.args.owner c.args.sets.now.uses [] c.args.sets.now.uses 0 refl refl) c.loop-position.position-index 0
    (subst (λ (xs : List ℕ). c.loop-position.position-index < length xs) c.uses_of-position-items.ensures c.loop-position-test.true)).0

pub returns-then-is_some : goal.returns-then-is_some
returns-then-is_some c =
    let at = ap (λ (p : ℕ × ℕ). p.1) c.use_at-used.ensures in
    let less = subst (λ (xs : List ℕ). c.loop-position.position-index < length xs) c.uses_of-position-items.ensures c.loop-position-test.true in
    first_hit c.args.sets.now c.args.name (positions_of c.args.owner c.args.sets.now.uses) c.loop-position.position-index c.use_at-used.result.second c.shown_number-number.result less
    (at ∙ ap (λ (xs : List ℕ). (pair_at c.args.sets.now.uses (get_or xs c.loop-position.position-index 0)).1) c.uses_of-position-items.ensures)
    c.shown_number-number.ensures (sym c.is_some.ensures ∙ c.if-is_some.true)
    ∙ c.loop-position.invariant

pub loop-position-preserved : goal.loop-position-preserved
loop-position-preserved c =
    let at = ap (λ (p : ℕ × ℕ). p.1) c.use_at-used.ensures in
    let less = subst (λ (xs : List ℕ). c.loop-position.position-index < length xs) c.uses_of-position-items.ensures c.loop-position-test.true in
    first_missed c.args.sets.now c.args.name (positions_of c.args.owner c.args.sets.now.uses) c.loop-position.position-index c.use_at-used.result.second c.shown_number-number.result less
    (at ∙ ap (λ (xs : List ℕ). (pair_at c.args.sets.now.uses (get_or xs c.loop-position.position-index 0)).1) c.uses_of-position-items.ensures)
    c.shown_number-number.ensures (sym c.is_some.ensures ∙ c.if-is_some.false)
    ∙ c.loop-position.invariant

pub returns : goal.returns
returns c =
    first_end c.args.sets.now c.args.name (positions_of c.args.owner c.args.sets.now.uses) c.loop-position.position-index
    (subst (λ (xs : List ℕ). length xs ≤ c.loop-position.position-index) c.uses_of-position-items.ensures c.loop-position-test.false)
    ∙ c.loop-position.invariant
