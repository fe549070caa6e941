-- Texts that are GET of a property, or SETF of one to a literal, and are carried out without a form being made.
use Rattle.std.specs.Prelude.{◌≡◌, ◌⊎◌, ℕ, List, ◌∷◌, ◌++◌, length, true, false, Ok}
use Rattle.lisp_object.specs.Object.{IsSound, Object}
use Rattle.lisp_operators.specs.Evaluation.{gives}
use Rattle.readtable_core.specs.Tables.{Table}
use Rattle.lisp_reading.specs.Reading.{form, is_whitespace}
use Rattle.package_table.specs.Resolving.{found_at, resolution}
use Rattle.package_table.specs.Symbols.{are_there}
use Rattle.package_table.specs.Table.{Name}
use Rattle.plain_reader.specs.Written.{setf_at}
use Rattle.plain_reader.specs.declared.literal.Literal.{Literal}
use Rattle.plist_state.specs.Sound.{IsValue}
use Rattle.plist_state.specs.State.{WorldState}
use Rattle.session_words.specs.declared.mode.Mode.{Mode}
use Rattle.user_macros.specs.Functions.{Functions}
use Rattle.prevalence_store.specs.meaning.Acceptance.{accepts, package_in, read_in, transaction_value}

-- in the package in which a text is read, a name finds the symbol of this home
abbrev pub IsFoundIn : WorldState → Mode → Name → List ℕ → Type 0
IsFoundIn world mode home name = resolution world.packages (package_in world mode) name ≡ Ok (found_at home)

-- Where both names find symbols, the text is this form and no more, whatever the functions of users are, and each of its symbols
-- is one of the packages.
pub record IsWholeSetf (world : WorldState) (mode : Mode) (text x y : List ℕ) (literal : Literal) : Type 0 where
  pub reads : (functions : Functions) (h i : Name) → IsFoundIn world mode h x → IsFoundIn world mode i y
      → read_in functions world mode text ≡ form (setf_at h x i y literal) 0 (length text) (length text)
  pub all_there : (h i : Name) → IsFoundIn world mode h x → IsFoundIn world mode i y → are_there world.packages (setf_at h x i y literal) ≡ true
  pub sound : (h i : Name) → IsFoundIn world mode h x → IsFoundIn world mode i y → IsSound (setf_at h x i y literal)

-- the rest of a text behind a whitespace character, or the text
abbrev pub IsBehindBlank : Table → List ℕ → List ℕ → Type 0
IsBehindBlank table text rest = (rest ≡ text) ⊎ ((c : ℕ) × (is_whitespace table c ≡ true) × (c ∷ rest ≡ text))

-- Whatever follows it, the text begins with a form from one offset to the other, and this is its value, which may be stored. It changes nothing.
pub record BeginsWithGet (functions : Functions) (world : WorldState) (mode : Mode) (text : List ℕ) (value : Object) (start stop : ℕ) : Type 0 where
  pub object : Object
  pub reads : (more : List ℕ) → read_in functions world mode (text ++ more) ≡ form object start stop stop
  pub valued : transaction_value functions.names world object ≡ gives value world
  pub storable : IsValue world.packages value

-- the world accepts the text with this value, and nothing is written
pub record AcceptsSilently (functions : Functions) (world : WorldState) (mode : Mode) (text : List ℕ) (value : Object) : Type 0 where
  pub own : List ℕ
  pub accepted : accepts functions world mode text ≡ Ok (record { value = value; world = world; wrote = false; text = own })
