-- What is written to a writer that tells its bytes.
use Rattle.std.specs.Prelude.{◌≡◌, ◌≢◌, ℕ, List, [], ◌++◌, Option, Some}

-- the text comes after what the writer held
abbrev pub Writes : Option (List ℕ) → Option (List ℕ) → List ℕ → Type 0
Writes old new text = (held : List ℕ) → old ≡ Some held → new ≡ Some (held ++ text)

-- the writer got a part of the text, from its front, and not all of it
pub record IsPart (held : List ℕ) (new : Option (List ℕ)) (text : List ℕ) : Type 0 where
  pub front : List ℕ
  pub rest : List ℕ
  pub parts : text ≡ front ++ rest
  pub more : rest ≢ []
  pub written : new ≡ Some (held ++ front)

-- of a writer that tells what it holds: it got a part of the text
abbrev pub WritesPart : Option (List ℕ) → Option (List ℕ) → List ℕ → Type 0
WritesPart old new text = (held : List ℕ) → old ≡ Some held → IsPart held new text
