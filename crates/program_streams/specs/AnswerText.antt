-- The refusals of a text of answers, each a value as it is printed, or a refusal, and a newline.
use Rattle.std.specs.Prelude.{ℕ, ◌+◌, ◌≡◌, ◌==◌, if◌then◌else◌, Bool, true, false, min, List, [], ◌∷◌, ◌++◌, Option, Some, codes, decimal}
use Rattle.program_streams.specs.declared.answer_text.At.{At}
use Rattle.program_streams.specs.declared.refusals.Counts.{Counts}
use Rattle.program_streams.specs.declared.answer_text.At.TheVariants.{Start, Mark, Refusal, Value, ValueEscape, Text, TextEscape, Name, NameEscape}

-- a newline ends a value; a backslash takes the next character, a quotation mark begins a text, and a bar a name
abbrev pub in_value : ℕ → At
in_value byte =
    if byte == 10 then Start
    else (if byte == 34 then Text
    else (if byte == 124 then Name
    else (if byte == 92 then ValueEscape
    else Value)))

-- where one is in an answer after this byte of a text
abbrev pub in_text : ℕ → At
in_text byte = if byte == 34 then Value else (if byte == 92 then TextEscape else Text)

-- where one is after this byte of a name between bars
abbrev pub in_name : ℕ → At
in_name byte = if byte == 124 then Value else (if byte == 92 then NameEscape else Name)

-- where one is after this byte of the line of a refusal
abbrev pub in_refusal : ℕ → At
in_refusal byte = if byte == 10 then Start else Refusal

-- an exclamation mark and a space begin a refusal
abbrev pub at_start : ℕ → At
at_start byte = if byte == 33 then Mark else in_value byte

-- where one is after this byte behind the mark with which the line of a refusal begins
abbrev pub at_mark : ℕ → At
at_mark byte = if byte == 32 then Refusal else in_value byte

-- where the text of answers is after one byte more
abbrev pub place_after_byte : At → ℕ → At
place_after_byte Start byte = at_start byte
place_after_byte Mark byte = at_mark byte
place_after_byte Refusal byte = in_refusal byte
place_after_byte Value byte = in_value byte
place_after_byte ValueEscape byte = Value
place_after_byte Text byte = in_text byte
place_after_byte TextEscape byte = Text
place_after_byte Name byte = in_name byte
place_after_byte NameEscape byte = Name

-- what of a refusal stands in the text up to this byte, where nothing of it stood before
abbrev pub refusal_bytes_after : At → ℕ → List ℕ
refusal_bytes_after Mark byte = if byte == 32 then 33 ∷ 32 ∷ [] else []
refusal_bytes_after Refusal byte = byte ∷ []
refusal_bytes_after _ byte = []

-- where the text has come to after these bytes
unfoldable pub after_all : At → List ℕ → At
after_all at [] = at
after_all at (byte ∷ bytes) = after_all (place_after_byte at byte) bytes

-- the refusals among these bytes, each from where its exclamation mark and its space are there
unfoldable pub refusals_in : At → List ℕ → List ℕ
refusals_in at [] = []
refusals_in at (byte ∷ bytes) = refusal_bytes_after at byte ++ refusals_in (place_after_byte at byte) bytes

-- ---- how many answers a text has

-- as much of a number as one of 64 bits can tell
abbrev pub number_capped_at_64_bits : ℕ → ℕ
number_capped_at_64_bits n = min n 18446744073709551615

-- an answer ends here
abbrev pub is_end : At → Bool
is_end Start = true
is_end _ = false

-- whether one is in the line of a refusal
abbrev pub is_refusal_line : At → Bool
is_refusal_line Refusal = true
is_refusal_line _ = false

-- a byte after which an answer ends makes one more of its kind
abbrev pub counted_byte : At → Counts → ℕ → Counts
counted_byte at counts byte =
    if is_end (place_after_byte at byte) then
    (if is_refusal_line at then record counts { refusals = number_capped_at_64_bits (counts.refusals + 1) }
    else record counts { values = number_capped_at_64_bits (counts.values + 1) })
    else counts

-- with the answers that end within these bytes
unfoldable pub counted_on : At → Counts → List ℕ → Counts
counted_on at counts [] = counts
counted_on at counts (byte ∷ bytes) = counted_on (place_after_byte at byte) (counted_byte at counts byte) bytes

-- the line on them: how many answers there were, and how many of them were refusals
abbrev pub counts_line : Counts → List ℕ
counts_line counts =
    codes "answers " ++ (decimal (number_capped_at_64_bits (counts.values + counts.refusals)) ++ (codes " refusals " ++ (decimal counts.refusals ++ 10 ∷ [])))

-- the writer got these bytes
abbrev pub Gets : Option (List ℕ) → Option (List ℕ) → List ℕ → Type 0
Gets old new bytes = (held : List ℕ) → old ≡ Some held → new ≡ Some (held ++ bytes)
