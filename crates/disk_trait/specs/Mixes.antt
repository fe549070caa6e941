-- What a mixing write may leave: a torn one may leave it too, and it may be whole.
use Rattle.std.proofs.Common.{◌≡◌, ◌⊎◌, ◌∙◌, inl, inr, ⊎_elim, ℕ, zero, suc, ◌+◌, ◌<◌, List, [], ◌∷◌, ◌++◌, length, take, drop, get_or, refl, sym, ap, subst, arith, length-append, length-take, length-drop}
use Rattle.disk_trait.specs.Disk.{AreBytes, Torn, Mixed, written}

bytes_each : (xs : List ℕ) → ((i : ℕ) → i < length xs → get_or xs i 0 < 256) → AreBytes xs
bytes_each [] each = tt
bytes_each (x ∷ xs) each = (each zero (omega arith), bytes_each xs (λ i within. each (suc i) (omega (arith, within))))

byte_at : (xs : List ℕ) (i : ℕ) → AreBytes xs → get_or xs i 0 < 256
byte_at [] i are = omega arith
byte_at (x ∷ xs) zero are = are.0
byte_at (x ∷ xs) (suc i) are = byte_at xs i are.1

-- a disk that mixes old and new bytes tears a write in one of the ways of any disk
pub mixed_torn : (at : ℕ) (bytes old new : List ℕ) → AreBytes bytes → AreBytes old → Mixed at bytes old new → Torn at (length bytes) old new
mixed_torn at bytes old new are were mixed = record {
  middle = mixed.middle;
  bytes = bytes_each mixed.middle (λ i within.
      ⊎_elim (λ is. subst (λ (x : ℕ). x < 256) (sym is) (byte_at bytes i are))
      (λ is. subst (λ (x : ℕ). x < 256) (sym is) (byte_at old (at + i) were)) (mixed.each i within));
  parts = mixed.parts;
  no_shorter = mixed.no_shorter;
  no_longer = mixed.no_longer;
}

-- a write in which each byte is the new one or the old one, and which is as long as the whole
pub merged_mixed : (at : ℕ) (bytes merged old : List ℕ) → length merged ≡ length bytes
    → ((i : ℕ) → i < length merged → (get_or merged i 0 ≡ get_or bytes i 0) ⊎ (get_or merged i 0 ≡ get_or old (at + i) 0))
    → Mixed at bytes old (written at merged old)
merged_mixed at bytes merged old long each = record {
  middle = merged;
  each = each;
  parts = ap (λ n. take at old ++ merged ++ drop (at + n) old) long;
  no_shorter = omega (arith, long, size, length-take at old, length-drop (at + length merged) old);
  no_longer = omega (arith, long, size, length-take at old, length-drop (at + length merged) old);
}
  where
    size : length (written at merged old) ≡ length (take at old) + length merged + length (drop (at + length merged) old)
    size = length-append (take at old ++ merged) (drop (at + length merged) old) ∙ ap (λ n. n + length (drop (at + length merged) old)) (length-append (take at old) merged)

-- a write that is done in whole is one of the mixtures
pub whole_mixed : (at : ℕ) (bytes old : List ℕ) → Mixed at bytes old (written at bytes old)
whole_mixed at bytes old = merged_mixed at bytes bytes old refl (λ i within. inl refl)
