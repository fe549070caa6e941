-- What is registered is known.
use Rattle.std.proofs.Common.{ℕ, suc, List, [], ◌∷◌, All, map, IsTrue, sym, subst, inl, inr, arith}
use Rattle.std.specs.Cmp.Lexicographic.{same_text}
use Rattle.std.proofs.lemmas.Bool.{or_cases}
use Rattle.readtable_core.specs.Names.{is_among, same_name}

-- where the name of each thing is among these names, each name that some thing has is
pub known_among : {X : Type 0} (f : X → List ℕ) (names : List (List ℕ)) (xs : List X) (name : List ℕ)
    → All (λ x. IsTrue (is_among names (f x))) xs → IsTrue (is_among (map f xs) name) → IsTrue (is_among names name)
known_among f names [] name all is = absurd (cc)
known_among f names (x ∷ xs) name all is =
    elim (or_cases (same_name (f x) name) (is_among (map f xs) name) is) [
      | inl same ↦ subst (λ n. IsTrue (is_among names n)) (same_text (f x) name (sym same)) (all 0 x (omega arith))
      | inr later ↦ known_among f names xs name (λ k d below. all (suc k) d (omega arith)) later
    ]
