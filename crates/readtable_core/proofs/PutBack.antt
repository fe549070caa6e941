-- The old entry of a character, put back after any other: the readtable is as it was.
use Rattle.std.proofs.Common.{◌≡◌, ℕ, zero, suc, List, [], ◌∷◌, get_or, set, refl, ap}
use Rattle.readtable_core.specs.Tables.{CharacterEntry, Table, entry_at, no_entry}
use Rattle.readtable_core.specs.Changes.{with_character_entry}

set_back : {X : Type 0} (xs : List X) (i : ℕ) (x d : X) → set (set xs i x) i (get_or xs i d) ≡ xs
set_back [] i x d = refl
set_back (y ∷ ys) zero x d = refl
set_back (y ∷ ys) (suc i) x d = ap (λ zs. y ∷ zs) (set_back ys i x d)

pub put_back_at : (t : Table) (c : ℕ) (e none : CharacterEntry) → with_character_entry (with_character_entry t c e) c (get_or t.entries c none) ≡ t
put_back_at t c e none = ap (λ entries. record t { entries = entries }) (set_back t.entries c e none)

pub put_back : (t : Table) (c : ℕ) (e : CharacterEntry) → with_character_entry (with_character_entry t c e) c (entry_at t c) ≡ t
put_back t c e = put_back_at t c e no_entry
