-- What the calls are handed and answer.
use Rattle.std.specs.Prelude.{◌≡◌, ℕ, List, true, map, All, Option, Some, None, Result, Ok, Err, IsTrue}
use Rattle.std.specs.List.{list_all}
use Rattle.lisp_object.specs.Ascii.{is_ascii}
use Rattle.lisp_object.specs.declared.datum.Datum.{Datum}
use Rattle.lisp_object.specs.Object.{Object, IsSound}
use Rattle.lisp_object.specs.Datum.{object_of, is_proper}
use Rattle.lisp_object.specs.declared.refusal.TheConstants.{STRAY_CLOSE, NUMERIC_ARGUMENT, CHARACTER_NAME, RADIX_TOKEN, VECTOR_LENGTH, UNINTERNED_TOKEN, OUT_OF_PROFILE, NO_MEMORY}
use Rattle.token_scan.specs.Marks.{are_ascii}
use Rattle.token_meaning.specs.Results.{meaning_refusal_number}
use Rattle.std_macros.specs.declared.refusal.StdRefusal.{StdRefusal}
use Rattle.std_macros.specs.declared.refusal.StdRefusal.TheVariants.{StrayClose, Rational, NumericArgument, CharacterName, RadixToken, VectorLength, UninternedToken, OutOfProfile}
use Rattle.std_macros.specs.declared.refusal.FinishError.{FinishError}
use Rattle.std_macros.specs.declared.refusal.FinishError.TheVariants.{OutOfMemory, Refused}
use Rattle.std_macros.specs.declared.gathered.StdGathered.{StdGathered}
use Rattle.std_macros.specs.declared.gathered.StdGathered.TheVariants.{Nothing as GatheredNothing, One as GatheredOne, Many, Dotted, Text, Marks}
use Rattle.std_macros.specs.declared.gathered.Finished.{Finished}
use Rattle.std_macros.specs.declared.gathered.Finished.TheVariants.{One, Nothing}
use Rattle.std_macros.specs.Values.{Material, nothing, one, many, dotted, letters, marked, Value}

-- the numbers under which the standard functions refuse
abbrev pub std_refusal_number : StdRefusal → ℕ
std_refusal_number StrayClose = STRAY_CLOSE
std_refusal_number (Rational refusal) = meaning_refusal_number refusal
std_refusal_number NumericArgument = NUMERIC_ARGUMENT
std_refusal_number CharacterName = CHARACTER_NAME
std_refusal_number RadixToken = RADIX_TOKEN
std_refusal_number VectorLength = VECTOR_LENGTH
std_refusal_number UninternedToken = UNINTERNED_TOKEN
std_refusal_number OutOfProfile = OUT_OF_PROFILE

-- the number under which a call ends that has no value
abbrev pub finish_error_number : FinishError → ℕ
finish_error_number OutOfMemory = NO_MEMORY
finish_error_number (Refused refusal) = std_refusal_number refusal

-- the material that was handed in, as the definitions see it
abbrev pub view_gathered : StdGathered → Material
view_gathered GatheredNothing = nothing
view_gathered (GatheredOne datum) = one (object_of datum)
view_gathered (Many items) = many (map object_of items)
view_gathered (Dotted items tail) = dotted (map object_of items) (object_of tail)
view_gathered (Text bytes) = letters bytes
view_gathered (Marks marks) = marked marks.items

-- a datum, and all of these, are proper and sound
abbrev pub IsSoundDatum : Datum → Type 0
IsSoundDatum datum = (is_proper datum ≡ true) × IsSound (object_of datum)

-- each of these is proper and sound
abbrev pub AreSoundData : List Datum → Type 0
AreSoundData items = (list_all is_proper items ≡ true) × All (λ d. IsSound (object_of d)) items

-- its data are proper and sound, and its characters below 128
abbrev pub IsProperGathered : StdGathered → Type 0
IsProperGathered GatheredNothing = Unit {0}
IsProperGathered (GatheredOne datum) = IsSoundDatum datum
IsProperGathered (Many items) = AreSoundData items
IsProperGathered (Dotted items tail) = AreSoundData items × IsSoundDatum tail
IsProperGathered (Text bytes) = list_all is_ascii bytes ≡ true
IsProperGathered (Marks marks) = IsTrue (are_ascii marks.items)

-- the value that was answered
abbrev pub view_finished : Finished → Option Object
view_finished (One datum) = Some (object_of datum)
view_finished Nothing = None

-- Out of memory is answered only for an object, and any other error is the refusal.
abbrev pub FinishFails : FinishError → Value → Type 0
FinishFails OutOfMemory value = (x : Object) × (value ≡ Ok (Some x))
FinishFails (Refused refusal) value = value ≡ Err refusal

-- what was answered is the value, unless memory ran out
abbrev pub AnswersWithValue : Result Finished FinishError → Value → Type 0
AnswersWithValue (Ok answer) value = value ≡ Ok (view_finished answer)
AnswersWithValue (Err error) value = FinishFails error value

-- an object that was answered is a proper and sound datum
abbrev pub IsProperFinished : Finished → Type 0
IsProperFinished (One datum) = IsSoundDatum datum
IsProperFinished Nothing = Unit {0}
