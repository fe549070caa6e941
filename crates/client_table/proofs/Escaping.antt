-- A text with no byte that needs a backslash.
--     plain_escaped      it stands as it is
use Rattle.std.proofs.Common.{◌≡◌, ℕ, ◌||◌, Bool, true, false, if◌then◌else◌, List, [], ◌∷◌, ◌++◌, codes, refl, sym, ap}
use Rattle.std.specs.List.{list_any}
use Rattle.std.proofs.lemmas.Bool.{false≢true}
use Rattle.canon_printer.specs.Names.{with_backslashes}

pub plain_escaped : (test : ℕ → Bool) (cs : List ℕ) → list_any test cs ≡ false → with_backslashes test cs ≡ cs
plain_escaped test [] none = refl
plain_escaped test (c ∷ cs) none = by (plain_escaped test cs) (test c) none
  where
    by : (list_any test cs ≡ false → with_backslashes test cs ≡ cs) → (b : Bool) → (b || list_any test cs) ≡ false → (if b then codes "\\" ++ c ∷ [] else c ∷ []) ++ with_backslashes test cs ≡ c ∷ cs
    by rest true one = absurd (false≢true (sym one))
    by rest false none = ap (λ later. c ∷ later) (rest none)
