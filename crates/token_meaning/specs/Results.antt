-- What the calls answer.
use Rattle.std.specs.Prelude.{◌≡◌, ◌<◌, ◌^◌, ℕ, ℤ, Bool, true, false, not, ◌&&◌, List, [], ◌∷◌, map, Option, None, Some, Result, Ok, Err}
use Rattle.std.specs.List.{list_all, list_any}
use Rattle.std.specs.Option.{SomeIff}
use Rattle.std.specs.Borrow.{Bor}
use Rattle.lisp_object.specs.declared.datum.Datum.{Datum}
use Rattle.lisp_object.specs.Ascii.{is_ascii}
use Rattle.lisp_object.specs.Object.{Object}
use Rattle.lisp_object.specs.Datum.{object_of, is_proper}
use Rattle.lisp_object.specs.declared.refusal.TheConstants.{END_OF_FILE, INVALID_CHARACTER, INVALID_TRAIT, DOTS_ONLY, FLOAT_TOKEN, NUMBER_RANGE, ZERO_DENOMINATOR, PACKAGE_MARKERS, TOKEN_TOO_LONG, NO_MEMORY}
use Rattle.token_scan.specs.declared.mark.Mark.{Mark}
use Rattle.token_scan.specs.declared.refusal.ScanRefusal.{ScanRefusal}
use Rattle.token_scan.specs.declared.refusal.ScanRefusal.TheVariants.{EndOfFile, InvalidCharacter, InvalidTrait, TokenTooLong}
use Rattle.token_meaning.specs.declared.refusal.MeaningRefusal.{MeaningRefusal}
use Rattle.token_meaning.specs.declared.refusal.MeaningRefusal.TheVariants.{DotsOnly, FloatToken, NumberRange, ZeroDenominator, PackageMarkers}
use Rattle.token_meaning.specs.declared.refusal.MeaningError.{MeaningError}
use Rattle.token_meaning.specs.declared.refusal.MeaningError.TheVariants.{OutOfMemory, Refused}
use Rattle.token_meaning.specs.declared.token.TokenName.{TokenName}
use Rattle.token_meaning.specs.declared.token.TokenName.TheVariants.{Unqualified, Keyword, External, Internal}
use Rattle.token_meaning.specs.declared.token.TokenMeaning.{TokenMeaning}
use Rattle.token_meaning.specs.declared.token.TokenMeaning.TheVariants.{Number, Dot, Name}
use Rattle.token_meaning.specs.declared.names.NameParts.{NameParts}
use Rattle.token_meaning.specs.declared.names.NameParts.TheVariants.{Unqualified as UnqualifiedParts, Keyword as KeywordParts, External as ExternalParts, Internal as InternalParts}
use Rattle.token_scan.specs.Marks.{characters}
use Rattle.token_meaning.specs.Numerals.{is_empty, signed, is_magnitude_in_range}
use Rattle.token_meaning.specs.Meanings.{Meaning, number, dot, name, is_package_marker}

-- ---- numbers of refusals

-- the numbers under which a token is refused while it is read
abbrev pub scan_refusal_number : ScanRefusal → ℕ
scan_refusal_number EndOfFile = END_OF_FILE
scan_refusal_number InvalidCharacter = INVALID_CHARACTER
scan_refusal_number InvalidTrait = INVALID_TRAIT
scan_refusal_number TokenTooLong = TOKEN_TOO_LONG

-- the numbers under which a token is refused that was read
abbrev pub meaning_refusal_number : MeaningRefusal → ℕ
meaning_refusal_number DotsOnly = DOTS_ONLY
meaning_refusal_number FloatToken = FLOAT_TOKEN
meaning_refusal_number NumberRange = NUMBER_RANGE
meaning_refusal_number ZeroDenominator = ZERO_DENOMINATOR
meaning_refusal_number PackageMarkers = PACKAGE_MARKERS

-- the number under which a meaning is not given
abbrev pub meaning_error_number : MeaningError → ℕ
meaning_error_number OutOfMemory = NO_MEMORY
meaning_error_number (Refused refusal) = meaning_refusal_number refusal

-- ---- meanings

-- the meaning that was answered
abbrev pub view_meaning : TokenMeaning → Meaning
view_meaning (Number datum) = number (object_of datum)
view_meaning Dot = dot
view_meaning (Name own) = name own

-- Out of memory is answered only for a name, and any other error is the refusal.
abbrev pub Fails : MeaningError → Result Meaning MeaningRefusal → Type 0
Fails OutOfMemory meaning = (own : TokenName) × (meaning ≡ Ok (name own))
Fails (Refused refusal) meaning = meaning ≡ Err refusal

-- what was answered is what the definition gives, unless memory for a name ran out
abbrev pub AnswersMeaning : Result TokenMeaning MeaningError → Result Meaning MeaningRefusal → Type 0
AnswersMeaning (Ok answer) meaning = meaning ≡ Ok (view_meaning answer)
AnswersMeaning (Err error) meaning = Fails error meaning

-- a number is a proper datum
abbrev pub IsProperNumber : TokenMeaning → Type 0
IsProperNumber (Number datum) = is_proper datum ≡ true
IsProperNumber Dot = Unit {0}
IsProperNumber (Name own) = Unit {0}

-- the bytes of a name are below 128
abbrev pub is_ascii_name : TokenName → Bool
is_ascii_name (Unqualified own) = list_all is_ascii own
is_ascii_name (Keyword own) = list_all is_ascii own
is_ascii_name (External prefix own) = list_all is_ascii prefix && list_all is_ascii own
is_ascii_name (Internal prefix own) = list_all is_ascii prefix && list_all is_ascii own

-- if it is a name, its bytes are below 128
abbrev pub HasAsciiName : TokenMeaning → Type 0
HasAsciiName (Number datum) = Unit {0}
HasAsciiName Dot = Unit {0}
HasAsciiName (Name own) = is_ascii_name own ≡ true

-- ---- numbers

-- the number that was answered
abbrev pub view_number : Result Datum MeaningRefusal → Result Object MeaningRefusal
view_number (Ok datum) = Ok (object_of datum)
view_number (Err refusal) = Err refusal

-- the number of this size and sign, where it is in range
abbrev pub IsSigned : Bool → ℕ → Result ℤ MeaningRefusal → Type 0
IsSigned negative size (Ok n) = (is_magnitude_in_range negative size ≡ true) × (n ≡ signed negative size)
IsSigned negative size (Err refusal) = (is_magnitude_in_range negative size ≡ false) × (refusal ≡ NumberRange)

-- the number, or None where it is beyond 128 bits
abbrev pub IsWorth : Option ℕ → ℕ → Type 0
IsWorth size worth = SomeIff size (worth < 2 ^ 128) worth

-- ---- names

-- both parts of what was cut
abbrev pub parts_of : {X : Type 0} → Bor (List X) × Bor (List X) → List X × List X
parts_of parts = (parts.0.now, parts.1.now)

-- whether a package marker is first
abbrev pub begins_with_marker : List Mark → Bool
begins_with_marker [] = false
begins_with_marker (m ∷ ms) = is_package_marker m

-- whether a mark is there, and no package marker
abbrev pub is_one_part : List Mark → Bool
is_one_part marks = not (is_empty marks) && not (list_any is_package_marker marks)

-- the name of these parts
abbrev pub name_of_parts : NameParts → TokenName
name_of_parts (UnqualifiedParts own) = Unqualified (characters own.now)
name_of_parts (KeywordParts own) = Keyword (characters own.now)
name_of_parts (ExternalParts prefix own) = External (characters prefix.now) (characters own.now)
name_of_parts (InternalParts prefix own) = Internal (characters prefix.now) (characters own.now)

-- the name of the parts that were found, or the refusal
abbrev pub view_parts : Result NameParts MeaningRefusal → Result Meaning MeaningRefusal
view_parts (Ok parts) = Ok (name (name_of_parts parts))
view_parts (Err refusal) = Err refusal
