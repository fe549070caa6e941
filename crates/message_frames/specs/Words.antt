-- What bytes begin with, of words: values that each are written in one way, of which some are wanted.
use Rattle.std.specs.Prelude.{ℕ, ◌≡◌, ◌<◌, List, ◌++◌, length, Result, Ok, Err}
use Rattle.message_frames.specs.declared.words.NotWhole.{NotWhole}
use Rattle.message_frames.specs.declared.words.NotWhole.TheVariants.{Begun, Malformed}

-- these bytes begin with this word, and these come after it
pub record Begins {X : Type 0} (word : X → List ℕ) (Wanted : X → Type 0) (x : X) (rest bytes : List ℕ) : Type 0 where
  pub wanted : Wanted x
  pub parts : bytes ≡ word x ++ rest

-- less than a word: there is one of which these bytes are a part from its front
pub record IsPartOfWord {X : Type 0} (word : X → List ℕ) (Wanted : X → Type 0) (bytes : List ℕ) : Type 0 where
  pub x : X
  pub more : List ℕ
  pub wanted : Wanted x
  pub parts : word x ≡ bytes ++ more
  pub some : 0 < length more

-- with no word, however they go on
abbrev pub BeginsNone : {X : Type 0} → (X → List ℕ) → (X → Type 0) → List ℕ → Type 0
BeginsNone {X = X} word Wanted bytes = (x : X) (more rest : List ℕ) → Wanted x → bytes ++ more ≡ word x ++ rest → ⊥

-- What a reader of words gives of bytes: the word that they begin with and what comes after it; or whether there may still be one.
abbrev pub Reads : {X : Type 0} → (X → List ℕ) → (X → Type 0) → List ℕ → Result (X × List ℕ) NotWhole → Type 0
Reads word Wanted bytes (Ok found) = Begins word Wanted found.0 found.1 bytes
Reads word Wanted bytes (Err Begun) = IsPartOfWord word Wanted bytes
Reads word Wanted bytes (Err Malformed) = BeginsNone word Wanted bytes
