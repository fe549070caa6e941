-- Of the functions that are registered, reading asks only which names they have.
use Rattle.std.proofs.Common.{◌≡◌, ℕ, Bool, true, false, List, None, if◌then◌else◌, refl, sym}
use Rattle.std.specs.Prelude.{IsTrue}
use Rattle.readtable_core.specs.Names.{is_among}
use Rattle.readtable_core.specs.Tables.{Table}
use Rattle.package_table.specs.Table.{Name, Table as Packages}
use Rattle.user_macros.specs.Calls.{refused}
use Rattle.user_macros.specs.Functions.{Functions, named_among}
use Rattle.lisp_reading.specs.declared.limits.Limits.{Limits}
use Rattle.lisp_reading.specs.Setting.{setting_of}

pub setting_same : (limits : Limits) (table : Table) (base : ℕ) (packages : Packages) (current : Name) (functions : Functions) (names : List (List ℕ))
    → ((name : List ℕ) → is_among names name ≡ is_among functions.names name)
    → setting_of limits table base packages current (named_among names functions) ≡ setting_of limits table base packages current functions
setting_same limits table base packages current functions names same = λ i. record {
  limits = limits;
  table = table;
  base = base;
  packages = packages;
  current = current;
  way = λ name. if same name i then functions.way name else None;
  answer = λ name call. if same name i then functions.answer name call else refused 0;
}

pub one_answer : (a b : Bool) → (IsTrue a → IsTrue b) → (IsTrue b → IsTrue a) → a ≡ b
one_answer true true to from = refl
one_answer false false to from = refl
one_answer true false to from = sym (to refl)
one_answer false true to from = from refl
