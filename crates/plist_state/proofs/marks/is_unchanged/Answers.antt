use Rattle.std.proofs.Common.{◌≡◌, List, [], ◌∷◌, length, refl, arith}
use Rattle.std.proofs.lemmas.Bool.Decides.{nat_tests}
use Rattle.plist_state.proofs.Marking.{nothing_since}
use Rattle.plist_state.proofs.marks.is_unchanged.Goals as goal

no_items : {A : Type 0} (xs : List A) → length xs ≡ 0 → xs ≡ []
no_items [] e = refl
no_items (x ∷ xs) e = absurd (omega (arith, e))

pub returns-then-is_empty : goal.returns-then-is_empty
returns-then-is_empty c = λ last.
    let none : length c.in-Some.newest.now.items ≡ 0 = grind (arith, nat_tests, c.is_empty.ensures, c.if-is_empty.true, c.in-Some.newest.now.ok.0) in
    nothing_since c.args.marks.now c.in-Some.newest.now c.in-Some.ensures.value (no_items c.in-Some.newest.now.items none) c.args.mark (grind (arith, nat_tests, last))
