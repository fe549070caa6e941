-- Of a write on a disk that mixes, each byte in its place: it may be whole or undone, what it leaves is bytes, and two of them, the second one
-- behind the first, are one.
use Rattle.std.proofs.Common.{◌≡◌, ◌⊎◌, ◌∙◌, inl, inr, ⊎_elim, ℕ, zero, suc, ◌+◌, ◌-◌, ◌<◌, ◌≤◌, List, [], ◌∷◌, ◌++◌, length, take, drop, get_or, refl, sym, ap, subst, arith, length-append, length-take, length-drop}
use Rattle.std.proofs.lemmas.Bool.{cases_lt}
use Rattle.std.proofs.lemmas.List.{get_or-append-add, get_or-drop, get_or-take, get_or_append_left}
use Rattle.disk_trait.specs.Disk.{AreBytes, written}
use Rattle.deferred_disk.specs.State.{MixedInPlace}

-- ---- bytes

bytes_each : (xs : List ℕ) → ((i : ℕ) → get_or xs i 0 < 256) → AreBytes xs
bytes_each [] each = tt
bytes_each (x ∷ xs) each = (each zero, bytes_each xs (λ i. each (suc i)))

byte_at : (xs : List ℕ) (i : ℕ) → AreBytes xs → get_or xs i 0 < 256
byte_at [] i are = omega arith
byte_at (x ∷ xs) zero are = are.0
byte_at (x ∷ xs) (suc i) are = byte_at xs i are.1

-- what is left of bytes is bytes
pub bytes_in_place : (at : ℕ) (bytes old new : List ℕ) → AreBytes bytes → MixedInPlace at bytes old new → AreBytes old → AreBytes new
bytes_in_place at bytes old new are mixed were =
    bytes_each new (λ i.
    ⊎_elim (λ is. subst (λ (x : ℕ). x < 256) (sym is) (byte_at old i were))
    (λ is. subst (λ (x : ℕ). x < 256) (sym is.3) (byte_at bytes is.0 are)) (mixed.each i))

-- ---- undone, in whole, and in two pieces

pub none_in_place : (at : ℕ) (bytes file : List ℕ) → MixedInPlace at bytes file file
none_in_place at bytes file = record { each = λ i. inl refl; no_shorter = omega arith; no_longer = omega arith }

pub whole_in_place : (at : ℕ) (bytes old : List ℕ) → at ≤ length old → MixedInPlace at bytes old (written at bytes old)
whole_in_place at bytes old within = record {
  each = λ i. elim (cases_lt i at) [
    | inl before ↦ inl (here i before)
    | inr behind ↦ elim (cases_lt i (at + length bytes)) [
      | inl inside ↦ inr (middle i behind inside)
      | inr past ↦ inl (rest i past)
    ]
  ];
  no_shorter = omega (arith, size, front, length-drop (at + length bytes) old);
  no_longer = omega (arith, size, front, length-drop (at + length bytes) old);
}
  where
    front : length (take at old) ≡ at
    front = omega (arith, length-take at old, within)

    size : length (written at bytes old) ≡ length (take at old) + length bytes + length (drop (at + length bytes) old)
    size = length-append (take at old ++ bytes) (drop (at + length bytes) old) ∙ ap (λ n. n + length (drop (at + length bytes) old)) (length-append (take at old) bytes)

    both : length (take at old ++ bytes) ≡ at + length bytes
    both = length-append (take at old) bytes ∙ ap (λ n. n + length bytes) front

    here : (i : ℕ) → i < at → get_or (written at bytes old) i 0 ≡ get_or old i 0
    here i before =
        get_or_append_left (take at old ++ bytes) (drop (at + length bytes) old) 0 i (omega (arith, both, before))
        ∙ get_or_append_left (take at old) bytes 0 i (omega (arith, front, before))
        ∙ get_or-take at old i 0 before

    middle : (i : ℕ) → at ≤ i → i < at + length bytes → (j : ℕ) × (i ≡ at + j) × (j < length bytes) × (get_or (written at bytes old) i 0 ≡ get_or bytes j 0)
    middle i behind inside =
        let j = i - at in
        let is : i ≡ at + j = omega (arith, behind) in
        let place : i ≡ length (take at old) + j = omega (arith, is, front) in (
          j,
          is,
          omega (arith, is, inside),
          get_or_append_left (take at old ++ bytes) (drop (at + length bytes) old) 0 i (omega (arith, both, inside))
              ∙ ap (λ (n : ℕ). get_or (take at old ++ bytes) n 0) place ∙ get_or-append-add (take at old) bytes j 0,
        )

    rest : (i : ℕ) → at + length bytes ≤ i → get_or (written at bytes old) i 0 ≡ get_or old i 0
    rest i past =
        let k = i - (at + length bytes) in
        let is : i ≡ at + length bytes + k = omega (arith, past) in
        let place : i ≡ length (take at old ++ bytes) + k = omega (arith, is, both) in
        ap (λ (n : ℕ). get_or (written at bytes old) n 0) place
        ∙ get_or-append-add (take at old ++ bytes) (drop (at + length bytes) old) k 0
        ∙ get_or-drop (at + length bytes) old k 0 ∙ ap (λ (n : ℕ). get_or old n 0) (sym is)

-- the second one writes on where the first one ends
pub both_in_place : (at : ℕ) (first second old mid new : List ℕ) → MixedInPlace at first old mid → MixedInPlace (at + length first) second mid new → MixedInPlace at (first ++ second) old new
both_in_place at first second old mid new one two = record {
  each = λ i. ⊎_elim (λ same. early i same) (λ is. inr (late i is)) (two.each i);
  no_shorter = omega (arith, one.no_shorter, two.no_shorter);
  no_longer = omega (arith, one.no_longer, two.no_longer, length-append first second);
}
  where
    early : (i : ℕ) → get_or new i 0 ≡ get_or mid i 0 → (get_or new i 0 ≡ get_or old i 0) ⊎ ((j : ℕ) × (i ≡ at + j) × (j < length (first ++ second)) × (get_or new i 0 ≡ get_or (first ++ second) j 0))
    early i same = ⊎_elim (λ was. inl (same ∙ was)) (λ is. inr (is.0, is.1, omega (arith, is.2, length-append first second), same ∙ is.3 ∙ sym (get_or_append_left first second 0 is.0 is.2))) (one.each i)

    late : (i : ℕ) → ((j : ℕ) × (i ≡ at + length first + j) × (j < length second) × (get_or new i 0 ≡ get_or second j 0)) → (j : ℕ) × (i ≡ at + j) × (j < length (first ++ second)) × (get_or new i 0 ≡ get_or (first ++ second) j 0)
    late i is = (length first + is.0, omega (arith, is.1), omega (arith, is.2, length-append first second), is.3 ∙ sym (get_or-append-add first second is.0 0))
