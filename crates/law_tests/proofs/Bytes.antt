-- The numbers of a slice of bytes are bytes.
use Rattle.std.proofs.Common.{ℕ, ◌<◌, suc, List, [], ◌∷◌, get_or}
use Rattle.disk_trait.specs.Disk.{AreBytes}

pub each_byte : (bytes : List ℕ) → ((i : ℕ) → get_or bytes i 0 < 256) → AreBytes bytes
each_byte [] each = tt
each_byte (b ∷ bs) each = (each 0, each_byte bs (λ i. each (suc i)))
