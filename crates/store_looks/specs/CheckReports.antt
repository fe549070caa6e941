-- What `check` tells of a text.
use Rattle.std.specs.Prelude.{◌≡◌, ◌==◌, ◌⊎◌, ℕ, Bool, true, false, List, [], ◌∷◌, ◌++◌, length, codes, decimal, IfSome, Option, None, Some, Result, MatchResult}
use Rattle.std.specs.FinMap as finite
use Rattle.std.specs.List.{flat_map}
use Rattle.clap.specs.Words.{Text}
use Rattle.command_words.specs.CheckLine.{AsksToCheck}
use Rattle.command_words.specs.LookLine.{text_of}
use Rattle.command_words.specs.declared.check.Check.{Check}
use Rattle.diagnostics.specs.Refusals.{form_of, line_of}
use Rattle.diagnostics.specs.StreamTexts.{WritesFront}
use Rattle.diagnostics.specs.declared.refusal.Refusal.{Refusal}
use Rattle.diagnostics.specs.declared.refusal.Spots.{Spots}
use Rattle.form_check.specs.Checking.{Checking, check_of_text, setting_under}
use Rattle.form_check.specs.declared.checking.Unreadable.{Unreadable}
use Rattle.lisp_object.specs.Refusal.{name_of}
use Rattle.lisp_object.specs.declared.refusal.TheConstants.{OUTPUT}
use Rattle.log_look.specs.declared.sight.Sight.{Sight}
use Rattle.plist_state.specs.State.{WorldState, initial}
use Rattle.sessions.specs.Streams.{Writes}
use Rattle.sessions.specs.declared.ending.Place.{Place}
use Rattle.store_commands.specs.Status.{IsOfWords}
use Rattle.store_commands.specs.declared.status.Status.{Status}
use Rattle.store_commands.specs.declared.status.Status.TheVariants as statuses
use Rattle.store_looks.specs.LookReports.{LookHasWorldThat, notation_of, status_in}
use Rattle.store_looks.specs.declared.unlooked.Unlooked.{Unlooked}
use Rattle.store_reports.specs.Figures.{figure}
use Rattle.store_reports.specs.Json.{number_member, string_member}
use Rattle.store_reports.specs.declared.numbers.Notation.{Notation}
use Rattle.store_reports.specs.declared.numbers.Notation.TheVariants.{Json, Lines}
use Rattle.user_macros.specs.Functions.{Functions}

-- ---- the text that is told

-- the line on a form that cannot be read: its number, how many forms come before it, where it begins, and where it is refused
pub record IsRefusalOfUnreadable (one : Unreadable) (refusal : Refusal) : Type 0 where
  pub number : refusal.number ≡ one.number
  pub place : refusal.place ≡ record { forms = one.forms; start = one.start; at = one.at }

-- these refusals are those of the forms that cannot be read
unfoldable pub AreRefusalsOf : List Unreadable → List Refusal → Type 0
AreRefusalsOf [] [] = Unit {0}
AreRefusalsOf [] (refusal ∷ refusals) = ⊥
AreRefusalsOf (one ∷ others) [] = ⊥
AreRefusalsOf (one ∷ others) (refusal ∷ refusals) = IsRefusalOfUnreadable one refusal × AreRefusalsOf others refusals

-- a number that is not the first member of an object
unfoldable pub later_member : List ℕ → ℕ → List ℕ
later_member name value = figure Json name value

-- where a form is refused and where it began: its lines and columns, and the bytes before these places if no lines are known
abbrev pub place_members : Place → Option Spots → List ℕ
place_members place None = later_member (codes "after-bytes") place.at ++ later_member (codes "start-after-bytes") place.start
place_members place (Some spots) =
    later_member (codes "line") spots.at.line ++ later_member (codes "column") spots.at.column
    ++ later_member (codes "start-line") spots.start.line ++ later_member (codes "start-column") spots.start.column

-- a refusal as an object of JSON
abbrev pub refusal_object : Refusal → List ℕ
refusal_object refusal =
    123 ∷ [] ++ string_member (codes "name") (name_of refusal.number) ++ later_member (codes "number") refusal.number
    ++ later_member (codes "form") (form_of refusal) ++ place_members refusal.place refusal.spots ++ 125 ∷ 10 ∷ []

-- what is told of a form that cannot be read
abbrev pub unreadable_text : Notation → Refusal → List ℕ
unreadable_text Lines refusal = line_of refusal
unreadable_text Json refusal = refusal_object refusal

-- and last how many forms there are, and how many of them cannot be read
abbrev pub checked_counts_line : (forms unreadable : ℕ) → List ℕ
checked_counts_line forms unreadable = codes "forms " ++ decimal forms ++ codes " unreadable " ++ decimal unreadable ++ codes "\n"

-- how many forms there are, as an object of JSON
abbrev pub counts_object : (forms unreadable : ℕ) → List ℕ
counts_object forms unreadable =
    123 ∷ [] ++ number_member (codes "forms") forms ++ later_member (codes "unreadable") unreadable ++ 125 ∷ 10 ∷ []

-- how many forms there are, in this notation
abbrev pub form_counts_text : Notation → (forms unreadable : ℕ) → List ℕ
form_counts_text Lines forms unreadable = checked_counts_line forms unreadable
form_counts_text Json forms unreadable = counts_object forms unreadable

-- what `check` writes of what it found
pub record IsCheckText (notation : Notation) (found : Checking) (text : List ℕ) : Type 0 where
  pub refusals : List Refusal
  pub are : AreRefusalsOf found.1 refusals
  pub is : text ≡ flat_map (unreadable_text notation) refusals ++ form_counts_text notation found.0 (length found.1)

-- it was written, and the status says whether all forms can be read; or a part of it, and the output failed
unfoldable pub EndsCheck : Bool → Option (List ℕ) → Option (List ℕ) → List ℕ → Status → Type 0
EndsCheck all_are_readable held written text statuses.Done = Writes held written text × (all_are_readable ≡ true)
EndsCheck all_are_readable held written text statuses.FormRefused = Writes held written text × (all_are_readable ≡ false)
EndsCheck all_are_readable held written text (statuses.Fault number) = (number ≡ OUTPUT) × WritesFront held written text
EndsCheck all_are_readable held written text statuses.Helped = ⊥
EndsCheck all_are_readable held written text statuses.Unanswered = ⊥
EndsCheck all_are_readable held written text statuses.WordsRefused = ⊥
EndsCheck all_are_readable held written text statuses.LeftOut = ⊥

-- ---- under which world a text is read

-- the forms of a text that cannot be read in a world
unfoldable pub FindsIn : Functions → WorldState → List ℕ → Checking → Type 0
FindsIn functions world text found =
    IfSome (finite.get world.readtables world.current_readtable)
    (λ table. found ≡ check_of_text (setting_under table world.read_base world.packages world.current_package functions) text)

-- that of a new store, or that which a store in a folder had
unfoldable pub IsWorldCheckedUnder : Functions → {R : Type 0} → R → Option Text → WorldState → Type 0
IsWorldCheckedUnder functions macros None world = world ≡ initial
IsWorldCheckedUnder functions macros (Some folder) world = (sight : Sight) × LookHasWorldThat functions macros (λ had. world ≡ had) sight

-- of a file the text that it gave, and else that of the input
unfoldable pub IsTextOf : Option Text → Option (List ℕ) → List ℕ → Type 0
IsTextOf None input text = IfSome input (λ all. text ≡ all)
IsTextOf (Some file) input text = Unit {0}

module _ (functions registered : Functions) {R : Type 0} (macros : R) (input held written : Option (List ℕ)) where
  -- the text of the file was looked through, and this is told of it
  pub record TellsCheckedText (asked : Check) (status : Status) : Type 0 where
    pub text : List ℕ
    pub text_is : IsTextOf (text_of asked.file) input text
    pub world : WorldState
    pub world_is : IsWorldCheckedUnder functions macros (text_of asked.store) world
    pub found : Checking
    pub finds : FindsIn registered world text found
    pub told : List ℕ
    pub told_is : IsCheckText (notation_of asked.json) found told
    pub tells : EndsCheck (length found.1 == 0) held written told status

  -- the words are refused, or ask for help; or they ask for such a text, and this is told of it, or nothing
  unfoldable pub Checks : List Text → Status → Type 0
  Checks words status =
      IsOfWords status
      ⊎ ((asked : Check) × AsksToCheck words asked
      × ((ended : Result Status Unlooked) × (status ≡ status_in ended)
      × MatchResult ended (TellsCheckedText asked) (λ why. written ≡ held)))
