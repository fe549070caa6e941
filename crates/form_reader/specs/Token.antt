-- What one byte is to a token: what is given with these bytes after it.
use Rattle.std.specs.Prelude.{ℕ, ◌≡◌, ◌+◌, Bool, true, false, List, ◌∷◌, Ok, nat_lt, if◌then◌else◌, ◌<◌, length, IsTrue}
use Rattle.lisp_object.specs.declared.refusal.TheConstants.{END_OF_FILE, INVALID_CHARACTER, INVALID_TRAIT, TOKEN_TOO_LONG, FORM_TOO_LONG}
use Rattle.readtable_core.specs.Tables.{Table}
use Rattle.token_scan.specs.declared.mark.Mark.{Mark}
use Rattle.token_scan.specs.declared.refusal.ScanRefusal.{ScanRefusal}
use Rattle.token_scan.specs.declared.refusal.ScanRefusal.TheVariants.{EndOfFile, InvalidCharacter, InvalidTrait, TokenTooLong}
use Rattle.token_scan.specs.Tokens.{in_bytes, typed_text}
use Rattle.token_scan.specs.ByteByByte.{Scan, token_from}
use Rattle.token_scan.specs.declared.stage.Stage.{Stage as ScanStage}
use Rattle.token_scan.specs.declared.stage.Stage.TheVariants.{Refused as ScanRefused}
use Rattle.form_reader.specs.declared.gather.LineByte.{LineByte}
use Rattle.form_reader.specs.declared.gather.LineByte.TheVariants.{More as LineMore, Ended as LineEnded, Refused as LineRefused}
use Rattle.lisp_reading.specs.declared.limits.Limits.{Limits}
use Rattle.lisp_reading.specs.Plans.{Read, fault, limited_token}
use Rattle.token_scan.specs.Marks.{are_ascii}
use Rattle.form_reader.specs.declared.token.BegunByte.{BegunByte}
use Rattle.form_reader.specs.declared.token.BegunByte.TheVariants.{More, Ended, Refused}
use Rattle.form_reader.specs.declared.token.FirstByte.{FirstByte}
use Rattle.form_reader.specs.declared.token.FirstByte.TheVariants.{More as FirstMore, Refused as FirstRefused}

-- it is not refused
abbrev pub is_going : ScanStage → Bool
is_going (ScanRefused refusal) = false
is_going _ = true

-- what the token gives if these bytes follow, under the limit of the text
abbrev pub token_read : Table → Limits → Scan → ℕ → List ℕ → Read (List Mark)
token_read table limits scan at cs = limited_token limits.text (in_bytes (token_from scan at (typed_text table cs))) (λ p. p.1)

-- before this byte: the byte that ends it is not taken
abbrev pub TokenFeeds : Table → Limits → Scan → ℕ → ℕ → List ℕ → LineByte → Read (List Mark) → Type 0
TokenFeeds table limits scan at c cs LineMore read = read ≡ token_read table limits scan (at + 1) cs
TokenFeeds table limits scan at c cs LineEnded read = read ≡ Ok (scan.marks, at, c ∷ cs)
TokenFeeds table limits scan at c cs (LineRefused number) read = read ≡ fault number at

-- the number of the refusal of a token at this offset, which is not beyond the limit
abbrev pub refused_number : ℕ → ScanRefusal → ℕ → ℕ
refused_number limit EndOfFile at = END_OF_FILE
refused_number limit InvalidCharacter at = if nat_lt at limit then INVALID_CHARACTER else FORM_TOO_LONG
refused_number limit InvalidTrait at = if nat_lt at limit then INVALID_TRAIT else FORM_TOO_LONG
refused_number limit TokenTooLong at = if nat_lt at limit then TOKEN_TOO_LONG else FORM_TOO_LONG

-- what a byte is to a token that has begun
abbrev pub FeedsBegunToken : Table → Limits → ℕ → ℕ → List ℕ → BegunByte → Read (List Mark) → Type 0
FeedsBegunToken table limits at c cs (More scan) read = read ≡ token_read table limits scan (at + 1) cs
FeedsBegunToken table limits at c cs (Ended marks) read = read ≡ Ok (marks.items, at, c ∷ cs)
FeedsBegunToken table limits at c cs (Refused number) read = read ≡ fault number at

-- a token that has ended has a mark, and its characters are below 128
abbrev pub IsBegunByte : BegunByte → Type 0
IsBegunByte (More scan) = Unit {0}
IsBegunByte (Ended marks) = (0 < length marks.items) × IsTrue (are_ascii marks.items)
IsBegunByte (Refused number) = Unit {0}

-- what the first byte is to a token
abbrev pub FirstFeeds : Table → Limits → ℕ → List ℕ → FirstByte → Read (List Mark) → Type 0
FirstFeeds table limits at cs (FirstMore scan) read = read ≡ token_read table limits scan (at + 1) cs
FirstFeeds table limits at cs (FirstRefused number) read = read ≡ fault number at
