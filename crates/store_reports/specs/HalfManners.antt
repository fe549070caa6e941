-- In which manner a half of version 3 is kept, and whose it is.
use Rattle.std.specs.Prelude.{◌≡◌, ◌≢◌, ℕ, ◌/◌, ◌%◌, nat_eq, if◌then◌else◌, List, [], ◌∷◌, ◌++◌, codes, Option, None, Some}
use Rattle.std.specs.List.{flat_map}
use Rattle.batched_half.specs.Layout.{BatchedHalf, HoldsHalf, contents_of}
use Rattle.batched_half.specs.Version3.{mark_of_one_sync}
use Rattle.gate_log.specs.Layout.{Contents}
use Rattle.store_reports.specs.EscapedText.{hexadecimal}
use Rattle.store_reports.specs.Notations.{figure}
use Rattle.store_reports.specs.declared.manner.HalfManner.{HalfManner}
use Rattle.store_reports.specs.declared.numbers.Notation.{Notation}
use Rattle.store_reports.specs.declared.numbers.Notation.TheVariants.{Json, Lines}

-- what is told of the manner of a half with these contents: of version 3 alone
abbrev pub TellsManner : Option HalfManner → Contents → List ℕ → Type 0
TellsManner None k file = k.version ≢ 3
TellsManner (Some told) k file = (h : BatchedHalf) × HoldsHalf h file × (contents_of h ≡ k) × (told.mark ≡ h.manner.mark) × (told.identity ≡ h.manner.identity)

-- how many syncs an append takes
abbrev pub syncs_of : ℕ → ℕ
syncs_of mark = if nat_eq mark mark_of_one_sync then 1 else 2

-- each byte as two digits in base 16
abbrev pub hexadecimal_text : List ℕ → List ℕ
hexadecimal_text bytes = flat_map (λ byte. hexadecimal (byte / 16) ∷ hexadecimal (byte % 16) ∷ []) bytes

-- the identity: a line, or a member of an object that is not its first one
abbrev pub identity_text : Notation → List ℕ → List ℕ
identity_text Lines identity = codes "identity " ++ hexadecimal_text identity ++ 10 ∷ []
identity_text Json identity = codes ",\"identity\":\"" ++ hexadecimal_text identity ++ 34 ∷ []

-- the syncs, and the identity
abbrev pub manner_text : Notation → HalfManner → List ℕ
manner_text notation manner = figure notation (codes "syncs") (syncs_of manner.mark) ++ identity_text notation manner.identity

-- nothing of a half that has no manner
abbrev pub known_manner : Notation → Option HalfManner → List ℕ
known_manner notation None = []
known_manner notation (Some manner) = manner_text notation manner
