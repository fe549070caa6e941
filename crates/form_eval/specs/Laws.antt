-- What is asked of a form, and what an accepted form leaves.
use Rattle.std.specs.Prelude.{◌≡◌, ◌≤◌, length, true, Some}
use Rattle.form_eval.specs.declared.read_form.ReadForm.{ReadForm}
use Rattle.lisp_object.specs.Datum.{object_of}
use Rattle.lisp_object.specs.Object as object
use Rattle.lisp_object.specs.Object.{Object, symbol, uninterned, AllAtoms, object_depth}
use Rattle.package_table.specs.Table.{Name, Table}
use Rattle.package_table.specs.Lookup.{home_by_name}
use Rattle.package_table.specs.Growth.{Grows}
use Rattle.package_table.specs.Symbols.{are_there}
use Rattle.plist_state.specs.State.{WorldState}
use Rattle.plist_state.specs.Sound.{IsSoundWorldState, IsValue}
use Rattle.lisp_operators.specs.EvaluationAnswers.{IsProper}
use Rattle.lisp_operators.specs.Evaluation.{Done}

-- The home of an interned symbol finds no other symbol by its name, and the name of an uninterned one has at most 4,096
-- characters.
abbrev pub FitsTable : Table → Object → Type 0
FitsTable t (symbol home name) = (h : Name) → home_by_name t home name ≡ Some h → h ≡ home
FitsTable t (uninterned name) = length name ≤ 4096
FitsTable t _ = Unit {0}

-- a form: an object of depth at most 100 whose symbols fit
pub record IsForm (t : Table) (x : Object) : Type 0 where
  pub object : object.IsSound x
  pub depth : object_depth x ≤ 100
  pub symbols : AllAtoms (FitsTable t) x

-- A form that was read may be evaluated in these packages. Where its symbols are known to be there, they are.
pub record MayEvaluate (t : Table) (read : ReadForm) : Type 0 where
  pub proper : IsProper read.datum
  pub form : IsForm t (object_of read.datum)
  pub all_there : read.known ≡ true → are_there t (object_of read.datum) ≡ true

-- a sound state, in which no package, no symbol, no external name and no use is lost, and a value that may be stored
pub record IsSoundAfter (s : WorldState) (d : Done Object) : Type 0 where
  pub sound : IsSoundWorldState d.state
  pub grows : Grows s.packages d.state.packages
  pub value : IsValue d.state.packages d.value
