-- The records of the half in use, a line each.
use Rattle.std.specs.Prelude.{◌≡◌, ℕ, ◌+◌, Bool, if◌then◌else◌, List, [], ◌∷◌, ◌++◌, codes, decimal, nat_eq, nat_le, Some}
use Rattle.disk_trait.specs.Disk.{Image}
use Rattle.gate_log.specs.Layout.{Contents, LogRecord}
use Rattle.gate_log.specs.Log.{FilesMean}
use Rattle.log_look.specs.FirstRecords.{IsRecordPlace}
use Rattle.store_reports.specs.EscapedText.{shown_for_terminal}
use Rattle.store_reports.specs.Json.{number_member, string_member}
use Rattle.store_reports.specs.declared.log.LogPart.{LogPart}
use Rattle.store_reports.specs.declared.numbers.Notation.{Notation}
use Rattle.store_reports.specs.declared.numbers.Notation.TheVariants.{Json, Lines}

-- how many records there have to be, where the lines begin with the record of this number: the first of none may be asked for
abbrev pub least_records : ℕ → ℕ
least_records from = if nat_le from 1 then 0 else from

-- the number of a record, behind the generation and a dot where that is asked for
abbrev pub place_text : Bool → ℕ → ℕ → List ℕ
place_text with_generation generation number = (if with_generation then decimal generation ++ 46 ∷ [] else []) ++ decimal number

-- the readtable that a record is read under
abbrev pub mode_text : ℕ → List ℕ
mode_text kind = if nat_eq kind 0 then codes " current " else codes " rescue "

-- a record: its place, its mode and its text, and the end of the line
abbrev pub record_line : Bool → ℕ → ℕ → LogRecord → List ℕ
record_line with_generation generation number entry =
    place_text with_generation generation number ++ mode_text entry.kind ++ shown_for_terminal entry.text ++ 10 ∷ []

-- the first members of a record as an object: the generation and the number
unfoldable pub numbers_text : ℕ → ℕ → List ℕ
numbers_text generation number =
    123 ∷ [] ++ number_member (codes "generation") generation ++ 44 ∷ [] ++ number_member (codes "record") number ++ 44 ∷ []

-- the name of the readtable that a record is read under
abbrev pub mode_name : ℕ → List ℕ
mode_name kind = if nat_eq kind 0 then codes "current" else codes "rescue"

-- a record, as an object of JSON
abbrev pub record_object : ℕ → ℕ → LogRecord → List ℕ
record_object generation number entry =
    numbers_text generation number ++ string_member (codes "mode") (mode_name entry.kind)
    ++ 44 ∷ [] ++ string_member (codes "form") entry.text ++ 125 ∷ 10 ∷ []

-- a record, in this notation
abbrev pub record_text : Notation → Bool → ℕ → ℕ → LogRecord → List ℕ
record_text Lines with_generation generation number entry = record_line with_generation generation number entry
record_text Json with_generation generation number entry = record_object generation number entry

-- the texts of these records, of which the first has this number, from that of number `from` on
abbrev pub record_lines : LogPart → ℕ → ℕ → List LogRecord → List ℕ
record_lines part generation number [] = []
record_lines part generation number (entry ∷ entries) =
    (if nat_le part.from number then record_text part.notation part.with_generation generation number entry else [])
    ++ record_lines part generation (number + 1) entries

-- the records of this part of the log
abbrev pub log_text : LogPart → Contents → List ℕ
log_text part k = record_lines part k.generation 1 k.entries

-- these bytes mean contents that have such a part, and this is its text
pub record IsLogText (part : LogPart) (image : Image) (text : List ℕ) : Type 0 where
  pub contents : Contents
  pub means : FilesMean (Some contents) image
  pub place : IsRecordPlace (least_records part.from) part.generation contents
  pub is : text ≡ log_text part contents
