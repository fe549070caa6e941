-- What one byte is to what a call gathers: what is given with these bytes after it.
use Rattle.std.specs.Prelude.{ℕ, ◌≡◌, ◌+◌, List, [], ◌∷◌, ◌++◌, Option, Some, None, Ok}
use Rattle.readtable_core.specs.Tables.{Table}
use Rattle.form_reader.specs.declared.gather.TextByte.{TextByte}
use Rattle.form_reader.specs.declared.gather.TextByte.TheVariants.{More as TextMore, Escape as TextEscape, Ended as TextEnded, Refused as TextRefused}
use Rattle.form_reader.specs.declared.gather.LineByte.{LineByte}
use Rattle.form_reader.specs.declared.gather.LineByte.TheVariants.{More as LineMore, Ended as LineEnded, Refused as LineRefused}
use Rattle.lisp_reading.specs.declared.limits.Limits.{Limits}
use Rattle.lisp_reading.specs.declared.way.Keep.{Keep}
use Rattle.lisp_reading.specs.Plans.{Read, fault, loop, next_byte, run}
use Rattle.lisp_reading.specs.Gathering.{text_turn, line_turn, block_turn, number_turn}

-- in a text, which has these characters then
abbrev pub TextFeeds : Table → Limits → ℕ → List ℕ → ℕ → List ℕ → TextByte → Read (List ℕ) → Type 0
TextFeeds table limits terminator text at cs TextMore read = read ≡ run table limits (loop limits (text_turn table terminator) text) (at + 1) cs
TextFeeds table limits terminator text at cs TextEscape read =
    read ≡ run table limits (next_byte (λ d. loop limits (text_turn table terminator) (text ++ d ∷ []))) (at + 1) cs
TextFeeds table limits terminator text at cs TextEnded read = read ≡ Ok (text, at + 1, cs)
TextFeeds table limits terminator text at cs (TextRefused number) read = read ≡ fault number at

-- after an escape in a text, which has these characters then
abbrev pub EscapeFeeds : Table → Limits → ℕ → List ℕ → ℕ → List ℕ → Option ℕ → Read (List ℕ) → Type 0
EscapeFeeds table limits terminator text at cs None read = read ≡ run table limits (loop limits (text_turn table terminator) text) (at + 1) cs
EscapeFeeds table limits terminator text at cs (Some number) read = read ≡ fault number at

-- What a byte of a line does: the line goes on with this text, or it ends after the byte, or it is refused there.
abbrev pub LineFeeds : Table → Limits → Keep → List ℕ → ℕ → List ℕ → LineByte → Read (List ℕ) → Type 0
LineFeeds table limits keep text at cs LineMore read = read ≡ run table limits (loop limits (line_turn keep) text) (at + 1) cs
LineFeeds table limits keep text at cs LineEnded read = read ≡ Ok (text, at + 1, cs)
LineFeeds table limits keep text at cs (LineRefused number) read = read ≡ fault number at

-- What a byte of a block does: the block goes on with these levels, or it ends after the byte, or it is refused there.
abbrev pub BlockFeeds : Table → Limits → ℕ × ℕ → ℕ → List ℕ → LineByte → Read (Unit {0}) → Type 0
BlockFeeds table limits levels at cs LineMore read = read ≡ run table limits (loop limits block_turn levels) (at + 1) cs
BlockFeeds table limits levels at cs LineEnded read = read ≡ Ok (tt, at + 1, cs)
BlockFeeds table limits levels at cs (LineRefused number) read = read ≡ fault number at

-- in the number of a dispatch call, before this byte: the byte that ends it is not taken
abbrev pub NumberFeeds : Table → Limits → Option ℕ → ℕ → ℕ → List ℕ → LineByte → Read (Option ℕ) → Type 0
NumberFeeds table limits argument at c cs LineMore read = read ≡ run table limits (loop limits number_turn argument) (at + 1) cs
NumberFeeds table limits argument at c cs LineEnded read = read ≡ Ok (argument, at, c ∷ cs)
NumberFeeds table limits argument at c cs (LineRefused number) read = read ≡ fault number at
