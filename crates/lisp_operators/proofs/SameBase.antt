-- That no operator but SETF of *READ-BASE* changes the base in which numbers are read.
--     SameBase      what is said of two states
--     same_base      what each change keeps
use Rattle.std.proofs.Common.{◌≡◌, List, Result, Ok, Err, refl, ◌∙◌}
use Rattle.package_table.specs.Table.{Name}
use Rattle.plist_state.specs.declared.error.ReadtableError.{ReadtableError}
use Rattle.plist_state.specs.State.{Readtables, WorldState}
use Rattle.plist_state.specs.Changes.{with_case, with_macro, with_dispatching, with_dispatch, with_syntax, with_copy}
use Rattle.lisp_operators.proofs.KeepingOperators.{Changes, Leaves}

abbrev pub SameBase : WorldState → WorldState → Type 0
SameBase s t = t.read_base ≡ s.read_base

any_leaves : (s : WorldState) (r : Result Readtables ReadtableError) → Leaves SameBase s r
any_leaves s (Ok m) = refl
any_leaves s (Err e) = tt

pub same_base : (names : List Name) → Changes names SameBase
same_base names = record {
  none = λ s. refl;
  both = λ s t u before after. after ∙ before;
  properties = λ s m. refl;
  packages = λ s u. refl;
  current_package = λ s n. refl;
  current_readtable = λ s n. refl;
  cases = λ s n letters. any_leaves s (with_case s.readtables n letters);
  macros = λ s n c f non_terminating is. any_leaves s (with_macro s.readtables n c f non_terminating);
  dispatching = λ s n c non_terminating. any_leaves s (with_dispatching s.readtables n c non_terminating);
  dispatch = λ s n c sub f is. any_leaves s (with_dispatch s.readtables n c sub f);
  syntax = λ s n c o d. any_leaves s (with_syntax s.readtables n c o d);
  copies = λ s o n. any_leaves s (with_copy s.readtables o n);
}
