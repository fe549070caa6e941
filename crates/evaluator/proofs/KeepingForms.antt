-- That a relation between the state before a form and the state after it holds, where it holds of each change.
--     steps      what holds of each step
--     value_keeps      the value of a form
use Rattle.std.proofs.Common.{◌≡◌, ℕ, Bool, true, List}
use Rattle.lisp_object.specs.Object.{Object}
use Rattle.package_table.specs.Table.{Name}
use Rattle.plist_state.specs.State.{WorldState}
use Rattle.plist_state.specs.Changes.{with_base}
use Rattle.lisp_operators.specs.Evaluation.{Evaluation}
use Rattle.lisp_operators.proofs.Keeping as keeping
use Rattle.lisp_operators.proofs.Keeping.{keeps_then}
use Rattle.lisp_operators.proofs.KeepingOperators as family
use Rattle.lisp_operators.proofs.KeepingOperators.{Changes, list_keeps, get_keeps, set_keeps, remove_keeps, symbol_plist_keeps, increment_keeps, push_keeps, make_keeps, enter_keeps, intern_keeps, export_keeps, import_keeps, use_keeps, case_keeps, set_case_keeps, copy_keeps, enter_readtable_keeps, set_syntax_keeps, set_macro_keeps, get_macro_keeps, make_dispatch_keeps, set_dispatch_keeps, get_dispatch_keeps, set_base_keeps}
use Rattle.lisp_operators.proofs.LookUpLaws.{look_up_keeps}
use Rattle.lisp_operators.proofs.PlaceLaws.{change_keeps}
use Rattle.evaluator.specs.Value.{value_by}
use Rattle.evaluator.proofs.FunctionLaws.{computed_keeps}
use Rattle.evaluator.proofs.Induction.{Operators, Steps, every_value}

-- where SETF of *READ-BASE* is known, it is asked of a change of the base too
module _ (based : Bool) (names : List Name) (Kept : WorldState → WorldState → Type 0) (changes : Changes names Kept) (base : based ≡ true → (s : WorldState) (n : ℕ) → Kept s (with_base s n)) where
  abbrev Asks : WorldState → Object → Type 0
  Asks s x = Unit {0}

  abbrev Keeps : {A : Type 0} → WorldState → Evaluation A → Type 0
  Keeps = keeping.Keeps Kept

  abbrev IsKeeping : (List Object → WorldState → Evaluation Object) → Type 0
  IsKeeping = family.IsKeeping names Kept changes

  operators : Operators based names Asks Keeps Keeps IsKeeping
  operators = record {
    lists = list_keeps names Kept changes;
    gets = get_keeps names Kept changes;
    sets = set_keeps names Kept changes;
    removes = remove_keeps names Kept changes;
    plists = symbol_plist_keeps names Kept changes;
    increments = increment_keeps names Kept changes;
    pushes = push_keeps names Kept changes;
    makes = make_keeps names Kept changes;
    exports = export_keeps names Kept changes;
    imports = import_keeps names Kept changes;
    uses = use_keeps names Kept changes;
    interns = intern_keeps names Kept changes;
    cases = case_keeps names Kept changes;
    sets_case = set_case_keeps names Kept changes;
    copies = copy_keeps names Kept changes;
    enters = enter_readtable_keeps names Kept changes;
    sets_syntax = set_syntax_keeps names Kept changes;
    sets_macro = set_macro_keeps names Kept changes;
    gets_macro = get_macro_keeps names Kept changes;
    makes_dispatch = make_dispatch_keeps names Kept changes;
    sets_dispatch = set_dispatch_keeps names Kept changes;
    gets_dispatch = get_dispatch_keeps names Kept changes;
    sets_base = λ known. set_base_keeps names Kept changes (base known);
    computes = λ function xs s. computed_keeps Kept function xs s (changes.none s);
    looks_up = look_up_keeps Kept changes.none;
    changes_place = change_keeps Kept (λ s x i v. changes.properties s _);
  }

  pub steps : Steps based names Asks Keeps Keeps IsKeeping
  steps = record {
    operators = operators;
    last_one = λ xs later. record { kept = changes.none later };
    first_one = λ xs later. record { kept = changes.none later };
    in_package = λ s x asked _. enter_keeps names Kept changes x s;
    refused = λ s code _. record { kept = tt };
    all_refused = λ s code _. record { kept = tt };
    itself = λ s x _. record { kept = changes.none s };
    nothing = λ s asked _. record { kept = changes.none s };
    truth = λ s asked _. record { kept = changes.none s };
    current_package = λ s asked _. record { kept = changes.none s };
    current_readtable = λ s asked _. record { kept = changes.none s };
    read_base = λ s asked _. record { kept = changes.none s };
    none = λ s asked _. record { kept = changes.none s };
    parts = λ s a b _. (tt, tt);
    one_more = λ s o others is each. keeps_then Kept changes.both s o _ is (λ y t. keeps_then Kept changes.both t (others t) _ (each t (λ _ _. tt)) (λ ys end'. record { kept = changes.none end' }));
    more = λ s o others is each. keeps_then Kept changes.both s o _ is (λ xs t. keeps_then Kept changes.both t (others t) _ (each t (λ _ _. tt)) (λ ys end'. record { kept = changes.none end' }));
    then_one = λ s o next is each. keeps_then Kept changes.both s o next is (λ y t. each y t (λ _ _. tt) (record { kept = changes.none t }));
    of_values = λ s o function is keeps. keeps_then Kept changes.both s o function is keeps;
  }

  pub value_keeps : (s : WorldState) (x : Object) → Keeps s (value_by based names s x)
  value_keeps s x = every_value based names Asks Keeps Keeps IsKeeping steps s x tt
