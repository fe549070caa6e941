-- What the calls of the evaluator answer.
use Rattle.std.specs.Prelude.{◌≡◌, ◌≢◌, ◌<◌, ◌⊎◌, ℕ, Bool, true, false, List, map, length, All, Option, Some, None, unwrap_or, Result, Ok, Err, IfOk}
use Rattle.lisp_object.specs.Object.{Object, symbol, nil}
use Rattle.lisp_object.specs.declared.refusal.TheConstants.{ARGUMENT_KIND, NO_SUCH_PACKAGE, PACKAGE_IS_LOCKED, NO_READTABLE, NO_MACRO}
use Rattle.lisp_object.specs.declared.datum.Datum.{Datum}
use Rattle.lisp_object.specs.Datum.{object_of, is_proper}
use Rattle.lisp_object.specs.Ascii.{is_ascii}
use Rattle.std.specs.List.{list_all}
use Rattle.package_table.specs.declared.error.PackageError.{PackageError}
use Rattle.package_table.specs.declared.error.PackageError.TheVariants.{OutOfMemory as NoRoom}
use Rattle.package_table.specs.Table.{Name, Table, is_locked}
use Rattle.plist_state.specs.Properties.{Symbol}
use Rattle.plist_state.specs.State.{WorldState, Worlds}
use Rattle.plist_state.specs.Sound.{IsValue}
use Rattle.plist_state.specs.Views.{symbol_of}
use Rattle.plist_state.specs.declared.symbol.Symbol.{Symbol as Stored}
use Rattle.plist_state.specs.declared.error.ReadtableError.{ReadtableError}
use Rattle.plist_state.specs.ErrorNumbers.{readtable_error_number}
use Rattle.lisp_operators.specs.declared.error.EvaluationError.{EvaluationError}
use Rattle.lisp_operators.specs.declared.error.EvaluationError.TheVariants.{Refused, OutOfMemory}
use Rattle.lisp_operators.specs.declared.evaluated.Evaluated.{Evaluated}
use Rattle.lisp_operators.specs.ErrorNumbers.{of_package}
use Rattle.lisp_operators.specs.Members.{each_in}
use Rattle.plist_state.specs.Changes.{with_property}
use Rattle.lisp_operators.specs.Evaluation.{Done, Evaluation, writes}
use Rattle.lisp_operators.specs.Properties.{t}

-- a proper datum whose value may be stored in these packages
pub record IsArgument (u : Table) (d : Datum) : Type 0 where
  pub proper : is_proper d ≡ true
  pub value : IsValue u (object_of d)

-- a datum of whose lists each is proper, and such data
abbrev pub IsProper : Datum → Type 0
IsProper d = is_proper d ≡ true

-- each of these is a proper datum
abbrev pub AreProper : List Datum → Type 0
AreProper = All IsProper

-- the objects of these data
abbrev pub objects : List Datum → List Object
objects ds = map object_of ds

-- a proper value
abbrev pub IsProperValue : Evaluated → Type 0
IsProperValue e = is_proper e.value ≡ true

-- characters below 128
abbrev pub IsAscii : List ℕ → Type 0
IsAscii characters = list_all is_ascii characters ≡ true

-- data that are arguments, as values of a world that was given
abbrev pub AreArgumentsOf : Worlds → List Datum → Type 0
AreArgumentsOf w ds = All (IsArgument w.0.packages) ds

-- what could be stored in the first can be stored in the second
abbrev pub KeepsArguments : Table → Table → Type 0
KeepsArguments u v = (d : Datum) → IsArgument u d → IsArgument v d

-- a symbol of a home and a name, as an object
abbrev pub object_of_symbol : Symbol → Object
object_of_symbol x = symbol x.0 x.1

-- NIL where there is no object
abbrev pub or_nil : Option Object → Object
or_nil x = unwrap_or x nil

-- a value that leaves this state
abbrev pub done : Evaluated → WorldState → Done Object
done e s = record { value = object_of e.value; state = s; wrote = e.wrote }

-- A call answers what the definition says: what was evaluated, in the state that it leaves, or the number of the refusal.
-- Where memory ran out it says nothing.
abbrev pub Answers : {A B : Type 0} → (A → WorldState → Done B) → Result A EvaluationError → WorldState → Evaluation B → Type 0
Answers view (Ok x) s said = said ≡ Ok (view x s)
Answers view (Err (Refused code)) s said = said ≡ Err code
Answers view (Err OutOfMemory) s said = Unit {0}

-- An operator answers what its definition says of these values, from the first of two states to the second.
abbrev pub CarriesOut : (List Object → WorldState → Evaluation Object) → List Datum → WorldState → WorldState → Result Evaluated EvaluationError → Type 0
CarriesOut function values old new result = Answers done result new (function (objects values) old)

-- the value of a property is told, which the second state has in place of the first
abbrev pub StoresProperty : WorldState → Symbol → Symbol → Object → WorldState → Result Evaluated EvaluationError → Type 0
StoresProperty old x i v new result = Answers done result new (writes v (with_property old x i v))

-- Changes of the packages answer what the definition says: the packages that they leave, and whether these are others; or the
-- refusal. Where memory ran out it says nothing.
abbrev pub MakesPackages : Result Bool PackageError → Table → Result (Table × Bool) PackageError → Type 0
MakesPackages (Ok wrote) u said = said ≡ Ok (u, wrote)
MakesPackages (Err NoRoom) u said = Unit {0}
MakesPackages (Err e) u said = said ≡ Err e

-- T, and whether the packages changed; or the refusal of the changes. T takes memory.
abbrev pub TellsPackageChange : Result Bool PackageError → Result Evaluated EvaluationError → Type 0
TellsPackageChange (Ok wrote) (Ok e) = (object_of e.value ≡ t) × (e.wrote ≡ wrote)
TellsPackageChange (Ok wrote) (Err error) = error ≡ OutOfMemory
TellsPackageChange (Err cause) (Ok e) = ⊥
TellsPackageChange (Err cause) (Err error) = error ≡ of_package cause

-- what was found; or where there is nothing, the refusal of this number
abbrev pub FoundOr : {A B : Type 0} → ℕ → (A → B) → Result A EvaluationError → Option B → Type 0
FoundOr code view (Ok x) o = Some (view x) ≡ o
FoundOr code view (Err error) o = (error ≡ Refused code) × (None ≡ o)

-- what an argument stands for, where it is of the kind that is asked for
abbrev pub IsOfKind : {A B : Type 0} → (A → B) → Result A EvaluationError → Option B → Type 0
IsOfKind view result o = FoundOr ARGUMENT_KIND view result o

-- the package of a name, where there is one
abbrev pub IsPackageOr : {A B : Type 0} → (A → B) → Result A EvaluationError → Option B → Type 0
IsPackageOr view result o = FoundOr NO_SUCH_PACKAGE view result o

-- the package of a name, where there is one and it is not locked
abbrev pub IsUnlockedPackageOr : {A : Type 0} → (A → Name) → Result A EvaluationError → Option Name → Type 0
IsUnlockedPackageOr view (Ok p) o = (Some (view p) ≡ o) × (is_locked (view p) ≡ false)
IsUnlockedPackageOr view (Err (Refused code)) o =
    ((code ≡ NO_SUCH_PACKAGE) × (None ≡ o)) ⊎ ((p : Name) × (code ≡ PACKAGE_IS_LOCKED) × (Some p ≡ o) × (is_locked p ≡ true))
IsUnlockedPackageOr view (Err OutOfMemory) o = Unit {0}

-- the readtable of a name, where there is one
abbrev pub IsReadtableOr : {A B : Type 0} → (A → B) → Result A EvaluationError → Option B → Type 0
IsReadtableOr view result o = FoundOr NO_READTABLE view result o

-- the readtable of a name, where it may be written
abbrev pub IsWritableOr : {A B : Type 0} → (A → B) → Result A EvaluationError → Result B ReadtableError → Type 0
IsWritableOr view (Ok x) said = said ≡ Ok (view x)
IsWritableOr view (Err error) said = (e : ReadtableError) × (error ≡ Refused (readtable_error_number e)) × (said ≡ Err e)

-- the function of a name, where a readtable may name it
abbrev pub IsFunctionOr : Result Name EvaluationError → Name → Bool → Type 0
IsFunctionOr (Ok f) name b = (f ≡ name) × (b ≡ true)
IsFunctionOr (Err error) name b = (error ≡ Refused NO_MACRO) × (b ≡ false)

-- arguments of just this number; or they are refused, and are of another
abbrev pub AreExactly : {A : Type 0} → ℕ → (A → List Datum) → List Datum → Result A EvaluationError → Type 0
AreExactly n view values (Ok x) = values ≡ view x
AreExactly n view values (Err error) = (error ≡ Refused ARGUMENT_KIND) × (length values ≢ n)

-- arguments of this number or more; or they are refused, and are fewer
abbrev pub AreAtLeast : {A : Type 0} → ℕ → (A → List Datum) → List Datum → Result A EvaluationError → Type 0
AreAtLeast n view values (Ok x) = values ≡ view x
AreAtLeast n view values (Err error) = (error ≡ Refused ARGUMENT_KIND) × (length values < n)

-- where these are arguments, this holds of what they are
abbrev pub WhereArguments : {A : Type 0} → List Datum → Result A EvaluationError → (Table → A → Type 0) → Type 0
WhereArguments values result holds = (u : Table) → All (IsArgument u) values → IfOk result (holds u)

-- one of these is not of the kind
abbrev pub IsRefusedAs : {A : Type 0} → (Object → Option A) → List Datum → EvaluationError → Type 0
IsRefusedAs kind members error = (error ≡ Refused ARGUMENT_KIND) × (None ≡ each_in kind (objects members))

-- The symbol and the indicator of a property, where both arguments are symbols. It takes no memory.
abbrev pub IsPropertyKey : Result (Stored × Stored) EvaluationError → Option Symbol → Option Symbol → Type 0
IsPropertyKey (Ok p) o i = (Some (symbol_of p.0) ≡ o) × (Some (symbol_of p.1) ≡ i)
IsPropertyKey (Err (Refused code)) o i = (code ≡ ARGUMENT_KIND) × ((None ≡ o) ⊎ (None ≡ i))
IsPropertyKey (Err OutOfMemory) o i = ⊥
