-- Two files of which neither is open, though half B is not empty: a store changes halves, or it is no store.
use Rattle.std.specs.Prelude.{ℕ, zero, suc, ◌<◌, ◌≤◌, length}
use Rattle.disk_trait.specs.Disk.{Image}
use Rattle.gate_log.specs.Layout.{HasOpenGate}

-- neither half is open, though half B is not empty
pub record AreShut (image : Image) : Type 0 where
  pub a : HasOpenGate image.a → ⊥
  pub b : HasOpenGate image.b → ⊥
  pub some : 0 < length image.b

-- half A was not open at a moment, and half B neither open nor empty at a later one
pub record WereShut (files : ℕ → Image) (from to : ℕ) : Type 0 where
  pub first : ℕ
  pub second : ℕ
  pub not_before : from ≤ first
  pub in_turn : first ≤ second
  pub not_after : second ≤ to
  pub a : HasOpenGate (files first).a → ⊥
  pub b : HasOpenGate (files second).b → ⊥
  pub some : 0 < length (files second).b

-- so many tries in turn found half A not open, and later half B neither open nor empty
unfoldable pub WereShutEachTime : ℕ → (ℕ → Image) → ℕ → ℕ → Type 0
WereShutEachTime zero files from to = from ≤ to
WereShutEachTime (suc count) files from to = (middle : ℕ) × WereShutEachTime count files from middle × WereShut files middle to
