-- What always holds of a reader, as a test and as what is asked where a byte is taken.
use Rattle.std.proofs.Common.{◌≡◌, ℕ, ◌≤◌, Bool, true, false, refl}
use Rattle.std.specs.Prelude.{◌&&◌, nat_le, IsTrue}
use Rattle.std.proofs.lemmas.Bool.{leb-true, false≢true}

both : (a b : Bool) → IsTrue (a && b) → IsTrue a × IsTrue b
both true b h = (refl, h)
both false b h = absurd (false≢true h)

below : (a b : ℕ) → IsTrue (nat_le a b) → a ≤ b
below a b = by (nat_le a b) refl
  where
    by : (r : Bool) → nat_le a b ≡ r → IsTrue r → a ≤ b
    by true e h = leb-true a b e
    by false e h = absurd (false≢true h)
