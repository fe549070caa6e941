-- What reading a plain form comes to.
use Rattle.std.specs.Prelude.{ℕ, ◌≡◌, ◌<◌, Bool, List, [], ◌∷◌, ◌++◌, true, false, length}
use Rattle.std.specs.List.{list_all}
use Rattle.lisp_object.specs.Object.{Object, list_of}
use Rattle.readtable_core.specs.Tables.{Table}
use Rattle.package_table.specs.Symbols.{are_there}
use Rattle.package_table.specs.Table.{Name, Table as Packages}
use Rattle.user_macros.specs.Functions.{Functions}
use Rattle.lisp_reading.specs.declared.attempt.Found.TheVariants.{One as one}
use Rattle.lisp_reading.specs.declared.limits.Limits.{Limits}
use Rattle.lisp_reading.specs.Plans.{Plan, gives}
use Rattle.lisp_reading.specs.Setting.{Setting, setting_of}
use Rattle.lisp_reading.specs.Reading.{Items, attempt, items_after}
use Rattle.plain_reader.specs.declared.context.PlainContext.{PlainContext}
use Rattle.plain_reader.specs.declared.objects.Taken.{Taken}
use Rattle.plain_reader.specs.Coming.{ReadsOnAs}

-- reading with this, where these are the functions of users
abbrev pub setting : PlainContext → Functions → Setting
setting with functions = setting_of with.limits with.readtable.now with.base with.packages.now.0 with.current.now functions

-- reading was handed these
pub record IsHanded (limits : Limits) (table : Table) (base : ℕ) (packages : Packages) (current : Name) (with : PlainContext) : Type 0 where
  pub limits_are : with.limits ≡ limits
  pub table_is : with.readtable.now ≡ table
  pub base_is : with.base ≡ base
  pub packages_are : with.packages.now.0 ≡ packages
  pub current_is : with.current.now ≡ current

-- an attempt at an object where so many calls may be opened takes this from the text, whatever the functions are
abbrev pub Takes : PlainContext → ℕ → List ℕ → Taken → Type 0
Takes with room text t =
    (functions : Functions) → let setting = setting with functions in
    ReadsOnAs setting (attempt setting room) text (gives (one t.token t.object)) t.rest.now

-- the items of a list after these
abbrev pub items_from : Setting → ℕ → List Object → Plan Items
items_from setting room xs = items_after setting 41 (attempt setting room) xs

-- a list goes on from these items and this text with those, whatever the functions are
abbrev pub Gathers : PlainContext → ℕ → List Object → List ℕ → List Object → List ℕ → Type 0
Gathers with room xs text ys rest =
    (functions : Functions) → let setting = setting with functions in
    ReadsOnAs setting (items_from setting room xs) text (items_from setting room ys) rest

-- a list of these items is closed at the front of the text
abbrev pub Closes : Setting → ℕ → List Object → List ℕ → List ℕ → Type 0
Closes setting room xs text rest = ReadsOnAs setting (items_from setting room xs) text (gives (xs, true)) rest

-- a list whose opening parenthesis was before the text, where so many calls may be opened, has these items, whatever the functions are
abbrev pub TakesList : PlainContext → ℕ → List ℕ → List Object → List ℕ → Type 0
TakesList with room text xs rest =
    (functions : Functions) → let setting = setting with functions in
    ReadsOnAs setting (attempt setting room) (40 ∷ text) (gives (one false (list_of xs))) rest

-- an object that an attempt takes from the text is put behind these items, whatever the functions are
pub record Puts (with : PlainContext) (room : ℕ) (xs : List Object) (text : List ℕ) (ys : List Object) (rest : List ℕ) : Type 0 where
  pub token : Bool
  pub object : Object
  pub items : ys ≡ xs ++ object ∷ []
  pub takes : (functions : Functions) → ReadsOnAs (setting with functions) (attempt (setting with functions) room) text (gives (one token object)) rest

-- less of the text is left
abbrev pub LeavesLessText : List ℕ → Taken → Type 0
LeavesLessText text t = length t.rest.now < length text

-- each interned symbol of an object, and of these objects, is one of the packages
abbrev pub AreSymbolsThere : PlainContext → Object → Type 0
AreSymbolsThere with x = are_there with.packages.now.0 x ≡ true

-- all symbols of these objects are there
abbrev pub AllAreThere : PlainContext → List Object → Type 0
AllAreThere with xs = list_all (are_there with.packages.now.0) xs ≡ true

-- where all symbols are still known after a call, they were known before it, and this holds
abbrev pub IfStill : Bool → Bool → Type 0 → Type 0
IfStill before after fact = after ≡ true → (before ≡ true) × fact
