-- A token as it is fed byte by byte: what the scan has come to, and what it gives if these bytes follow.
use Rattle.std.specs.Prelude.{ℕ, ◌≡◌, ◌+◌, List, [], ◌∷◌, ◌++◌, Ok, Bool, true, false, not, IsTrue}
use Rattle.readtable_core.specs.declared.characters.Syntax.{Syntax}
use Rattle.readtable_core.specs.declared.characters.Syntax.TheVariants.{SingleEscape, MultipleEscape}
use Rattle.token_scan.specs.declared.mark.Mark.{Mark}
use Rattle.token_scan.specs.declared.mark.Mark.TheVariants.{Plain, Quoted, Bar}
use Rattle.token_scan.specs.declared.refusal.ScanRefusal.{ScanRefusal}
use Rattle.token_scan.specs.declared.stage.Stage.{Stage}
use Rattle.token_scan.specs.declared.stage.Stage.TheVariants.{Outside, Inside, EscapedOutside, EscapedInside, Refused}
use Rattle.token_scan.specs.declared.scan.FedByte.{FedByte}
use Rattle.token_scan.specs.declared.scan.FedByte.TheVariants.{More, Ended, Refused as FedRefused}
use Rattle.token_scan.specs.Spelling.{ends_tokens}
use Rattle.token_scan.specs.Tokens.{TypedByte, kind, Scanned, fault_of_scan, with_front, outside, inside, escaped_outside, escaped_inside}

-- the marks so far, how many characters may still come, and where the next byte is
pub record Scan : Type 0 where
  pub marks : List Mark
  pub left : ℕ
  pub stage : Stage

-- nothing was fed yet
abbrev pub first_scan : ℕ → Scan
first_scan limit = record { marks = []; left = limit; stage = Outside }

-- nothing was fed yet, and the first character is taken as an escaped one
abbrev pub begun_escaped : ℕ → Scan
begun_escaped limit = record { marks = []; left = limit; stage = EscapedOutside }

-- a token from the stage on that a scan is in
abbrev pub from_stage : Stage → ℕ → ℕ → List TypedByte → Scanned
from_stage Outside left at text = outside left at text
from_stage Inside left at text = inside left at text
from_stage EscapedOutside left at text = escaped_outside left at text
from_stage EscapedInside left at text = escaped_inside left at text
from_stage (Refused refusal) left at text = fault_of_scan refusal at

-- what the token gives if this text follows, from this offset on
abbrev pub token_from : Scan → ℕ → List TypedByte → Scanned
token_from scan at text = with_front scan.marks (from_stage scan.stage scan.left at text)

-- whether a token would have no mark if it ended here
abbrev pub is_empty_token : List Mark → Stage → Bool
is_empty_token [] Outside = true
is_empty_token _ _ = false

-- a byte was taken: where the token ends then, it has a mark
abbrev pub has_begun : Scan → Bool
has_begun scan = not (is_empty_token scan.marks scan.stage)

abbrev pub refused_scan : Scan → ScanRefusal → Scan
refused_scan scan refusal = record scan { stage = Refused refusal }

-- ---- what a byte does

-- of an escape nothing or a bar, else the mark itself
abbrev pub marks_by : Mark → Syntax → List Mark
marks_by mark SingleEscape = []
marks_by mark MultipleEscape = Bar ∷ []
marks_by mark _ = mark ∷ []

-- the marks that a byte adds where it is taken
abbrev pub marks_of_byte : Stage → TypedByte → List Mark
marks_of_byte Outside x = marks_by (Plain x.byte) (kind x)
marks_of_byte Inside x = marks_by (Quoted x.byte) (kind x)
marks_of_byte EscapedOutside x = Quoted x.byte ∷ []
marks_of_byte EscapedInside x = Quoted x.byte ∷ []
marks_of_byte (Refused refusal) x = []

-- What the token gives if this text follows the byte.
abbrev pub fed_gives : FedByte → Scan → ℕ → TypedByte → List TypedByte → Scanned
fed_gives More new at x more = token_from new (at + 1) more
fed_gives Ended new at x more = Ok (new.marks, at, x ∷ more)
fed_gives (FedRefused refusal) new at x more = fault_of_scan refusal at

-- How a byte leaves the scan, where it adds these marks if it is taken, and the test says whether it may end a token.
abbrev pub LeavesBy : List Mark → Bool → FedByte → Scan → Scan → Type 0
LeavesBy marks ends More old new = (new.marks ≡ old.marks ++ marks) × IsTrue (has_begun new)
LeavesBy marks ends Ended old new = (new ≡ old) × (old.stage ≡ Outside) × IsTrue ends
LeavesBy marks ends (FedRefused refusal) old new = new ≡ refused_scan old refusal

-- what a byte leaves of a scan
abbrev pub ScanLeaves : FedByte → Scan → TypedByte → Scan → Type 0
ScanLeaves fed old x new = LeavesBy (marks_of_byte old.stage x) (ends_tokens (kind x)) fed old new
