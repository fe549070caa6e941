-- That a form which does not write leaves the state as it was.
--     steps      what holds of each step
--     value_silent      the value of a form
use Rattle.std.proofs.Common.{true, List, refl}
use Rattle.lisp_object.specs.Object.{Object}
use Rattle.package_table.specs.Table.{Name}
use Rattle.plist_state.specs.State.{WorldState}
use Rattle.lisp_operators.proofs.Silence.{Keeps, keeps_then}
use Rattle.lisp_operators.proofs.SilentOperators.{IsSilent, list_silent, get_silent, set_silent, remove_silent, symbol_plist_silent, increment_silent, push_silent, make_silent, enter_silent, intern_silent, export_silent, import_silent, use_silent, case_silent, set_case_silent, copy_silent, enter_readtable_silent, set_syntax_silent, set_macro_silent, get_macro_silent, make_dispatch_silent, set_dispatch_silent, get_dispatch_silent, set_base_silent}
use Rattle.lisp_operators.proofs.LookUpLaws.{look_up_silent}
use Rattle.lisp_operators.proofs.PlaceLaws.{change_silent}
use Rattle.evaluator.specs.Value.{value}
use Rattle.evaluator.proofs.FunctionLaws.{computed_silent}
use Rattle.evaluator.proofs.Induction.{Operators, Steps, every_value}

module _ (names : List Name) where
  abbrev Asks : WorldState → Object → Type 0
  Asks s x = Unit {0}

  operators : Operators true names Asks Keeps Keeps IsSilent
  operators = record {
    lists = list_silent;
    gets = get_silent;
    sets = set_silent;
    removes = remove_silent;
    plists = symbol_plist_silent;
    increments = increment_silent;
    pushes = push_silent;
    makes = make_silent;
    exports = export_silent;
    imports = import_silent;
    uses = use_silent;
    interns = intern_silent;
    cases = case_silent;
    sets_case = set_case_silent;
    copies = copy_silent;
    enters = enter_readtable_silent;
    sets_syntax = set_syntax_silent;
    sets_macro = set_macro_silent names;
    gets_macro = get_macro_silent;
    makes_dispatch = make_dispatch_silent;
    sets_dispatch = set_dispatch_silent names;
    gets_dispatch = get_dispatch_silent;
    sets_base = λ _. set_base_silent;
    computes = computed_silent;
    looks_up = look_up_silent;
    changes_place = change_silent;
  }

  pub steps : Steps true names Asks Keeps Keeps IsSilent
  steps = record {
    operators = operators;
    last_one = λ xs later. record { same = λ _. refl };
    first_one = λ xs later. record { same = λ _. refl };
    in_package = λ s x asked _. enter_silent x s;
    refused = λ s code _. record { same = tt };
    all_refused = λ s code _. record { same = tt };
    itself = λ s x _. record { same = λ _. refl };
    nothing = λ s asked _. record { same = λ _. refl };
    truth = λ s asked _. record { same = λ _. refl };
    current_package = λ s asked _. record { same = λ _. refl };
    current_readtable = λ s asked _. record { same = λ _. refl };
    read_base = λ s asked _. record { same = λ _. refl };
    none = λ s asked _. record { same = λ _. refl };
    parts = λ s a b _. (tt, tt);
    one_more = λ s o others is each. keeps_then s o _ is (λ y t. keeps_then t (others t) _ (each t (λ _ _. tt)) (λ ys end'. record { same = λ _. refl }));
    more = λ s o others is each. keeps_then s o _ is (λ xs t. keeps_then t (others t) _ (each t (λ _ _. tt)) (λ ys end'. record { same = λ _. refl }));
    then_one = λ s o next is each. keeps_then s o next is (λ y t. each y t (λ _ _. tt) (record { same = λ _. refl }));
    of_values = λ s o function is silent. keeps_then s o function is silent;
  }

  pub value_silent : (s : WorldState) (x : Object) → Keeps s (value names s x)
  value_silent s x = every_value true names Asks Keeps Keeps IsSilent steps s x tt
