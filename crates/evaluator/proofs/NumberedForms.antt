-- That a form is refused under a number of evaluation.
--     steps      what holds of each step
--     value_numbered      the value of a form
use Rattle.std.proofs.Common.{true, List}
use Rattle.lisp_object.specs.Object.{Object}
use Rattle.package_table.specs.Table.{Name}
use Rattle.plist_state.specs.State.{WorldState}
use Rattle.lisp_operators.specs.Evaluation.{Evaluation}
use Rattle.lisp_operators.proofs.Numbered.{Numbered, numbered_then}
use Rattle.lisp_operators.proofs.NumberedOperators.{IsNumberedFunction, list_numbered, get_numbered, set_numbered, remove_numbered, symbol_plist_numbered, increment_numbered, push_numbered, make_numbered, enter_numbered, intern_numbered, export_numbered, import_numbered, use_numbered, case_numbered, set_case_numbered, copy_numbered, enter_readtable_numbered, set_syntax_numbered, set_macro_numbered, get_macro_numbered, make_dispatch_numbered, set_dispatch_numbered, get_dispatch_numbered, set_base_numbered}
use Rattle.lisp_operators.proofs.LookUpLaws.{look_up_numbered}
use Rattle.lisp_operators.proofs.PlaceLaws.{change_numbered}
use Rattle.evaluator.specs.Value.{value}
use Rattle.evaluator.proofs.FunctionLaws.{computed_numbered}
use Rattle.evaluator.proofs.Induction.{Operators, Steps, every_value}

module _ (names : List Name) where
  abbrev Asks : WorldState → Object → Type 0
  Asks s x = Unit {0}

  abbrev Of : {A : Type 0} → WorldState → Evaluation A → Type 0
  Of s o = Numbered o

  operators : Operators true names Asks Of Of IsNumberedFunction
  operators = record {
    lists = list_numbered;
    gets = get_numbered;
    sets = set_numbered;
    removes = remove_numbered;
    plists = symbol_plist_numbered;
    increments = increment_numbered;
    pushes = push_numbered;
    makes = make_numbered;
    exports = export_numbered;
    imports = import_numbered;
    uses = use_numbered;
    interns = intern_numbered;
    cases = case_numbered;
    sets_case = set_case_numbered;
    copies = copy_numbered;
    enters = enter_readtable_numbered;
    sets_syntax = set_syntax_numbered;
    sets_macro = set_macro_numbered names;
    gets_macro = get_macro_numbered;
    makes_dispatch = make_dispatch_numbered;
    sets_dispatch = set_dispatch_numbered names;
    gets_dispatch = get_dispatch_numbered;
    sets_base = λ _. set_base_numbered;
    computes = computed_numbered;
    looks_up = look_up_numbered;
    changes_place = change_numbered;
  }

  pub steps : Steps true names Asks Of Of IsNumberedFunction
  steps = record {
    operators = operators;
    last_one = λ xs later. record { number = tt };
    first_one = λ xs later. record { number = tt };
    in_package = λ s x asked _. enter_numbered x s;
    refused = λ s code is. record { number = is };
    all_refused = λ s code is. record { number = is };
    itself = λ s x _. record { number = tt };
    nothing = λ s asked _. record { number = tt };
    truth = λ s asked _. record { number = tt };
    current_package = λ s asked _. record { number = tt };
    current_readtable = λ s asked _. record { number = tt };
    read_base = λ s asked _. record { number = tt };
    none = λ s asked _. record { number = tt };
    parts = λ s a b _. (tt, tt);
    one_more = λ s o others is each. numbered_then o _ is (λ y t. numbered_then (others t) _ (each t (λ _ _. tt)) (λ ys end'. record { number = tt }));
    more = λ s o others is each. numbered_then o _ is (λ xs t. numbered_then (others t) _ (each t (λ _ _. tt)) (λ ys end'. record { number = tt }));
    then_one = λ s o next is each. numbered_then o next is (λ y t. each y t (λ _ _. tt) (record { number = tt }));
    of_values = λ s o function is numbered. numbered_then o function is numbered;
  }

  pub value_numbered : (s : WorldState) (x : Object) → Numbered (value names s x)
  value_numbered s x = every_value true names Asks Of Of IsNumberedFunction steps s x tt
