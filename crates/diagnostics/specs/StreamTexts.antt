-- How a text is written to a stream.
use Rattle.std.specs.Prelude.{◌≡◌, ℕ, List, ◌++◌, Option, Some, Result, OnOk, OnErr}
use Rattle.sessions.specs.Streams.{Writes, WritesPart}
use Rattle.diagnostics.specs.declared.fault.Unwritten.{Unwritten}

-- what was written is the first part of this text, perhaps all of it
abbrev pub IsFrontWritten : List ℕ → Option (List ℕ) → List ℕ → Type 0
IsFrontWritten held written text = (front : List ℕ) × (rest : List ℕ) × (text ≡ front ++ rest) × (written ≡ Some (held ++ front))

-- what was written on is a front of this text
abbrev pub WritesFront : Option (List ℕ) → Option (List ℕ) → List ℕ → Type 0
WritesFront old new text = (held : List ℕ) → old ≡ Some held → IsFrontWritten held new text

-- the text was written whole; else a part of it was, from its front
pub record WritesText (result : Result Unit Unwritten) (old new : Option (List ℕ)) (text : List ℕ) : Type 0 where
  pub whole : OnOk result (Writes old new text)
  pub part : OnErr result (WritesPart old new text)

-- the text was written whole and flushed; else a part of it was written, from its front, or all of it and the flush failed
pub record WritesOut (result : Result Unit Unwritten) (old new : Option (List ℕ)) (text : List ℕ) : Type 0 where
  pub whole : OnOk result (Writes old new text)
  pub part : OnErr result (WritesFront old new text)
