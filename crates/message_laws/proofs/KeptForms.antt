-- That a relation between the world before a form and the world after it holds, where it holds of each change of property lists and
-- packages, and of every change that leaves these.
--     accepted_keeps      a form that is accepted
use Rattle.std.proofs.Common.{Bool, true, List, Ok, Err, Result}
use Rattle.lisp_object.specs.Object.{Object}
use Rattle.lisp_operators.specs.Evaluation.{Evaluation}
use Rattle.lisp_operators.proofs.Keeping as keeping
use Rattle.lisp_operators.proofs.Keeping.{keeps_also, keeps_then}
use Rattle.lisp_operators.proofs.LookUpLaws.{look_up_keeps}
use Rattle.lisp_operators.proofs.PlaceLaws.{change_keeps}
use Rattle.package_table.specs.declared.error.PackageError.{PackageError}
use Rattle.package_table.specs.Symbols.{symbols}
use Rattle.package_table.specs.Table.{Name, Table}
use Rattle.plist_state.specs.State.{WorldState}
use Rattle.plist_state.specs.Changes.{with_packages}
use Rattle.evaluator.specs.Value.{value}
use Rattle.evaluator.proofs.FunctionLaws.{computed_keeps}
use Rattle.evaluator.proofs.Induction.{Operators, Steps, every_value}
use Rattle.form_eval.specs.Acceptance.{accept, accepted_by as accepted_with, with_symbols_interned}
use Rattle.message_laws.proofs.KeptOperators as family
use Rattle.message_laws.proofs.KeptOperators.{HoldsOfChanges, LeavesKept, same, list_keeps, get_keeps, set_keeps, remove_keeps, symbol_plist_keeps, increment_keeps, push_keeps, make_keeps, enter_keeps, intern_keeps, export_keeps, import_keeps, use_keeps, case_keeps, set_case_keeps, copy_keeps, enter_readtable_keeps, set_syntax_keeps, set_macro_keeps, get_macro_keeps, make_dispatch_keeps, set_dispatch_keeps, get_dispatch_keeps, set_base_keeps}

module _ (names : List Name) (Kept : WorldState → WorldState → Type 0) (changes : HoldsOfChanges Kept) where
  abbrev Asks : WorldState → Object → Type 0
  Asks s x = Unit {0}

  abbrev Keeps : {A : Type 0} → WorldState → Evaluation A → Type 0
  Keeps = keeping.Keeps Kept

  abbrev IsKeeping : (List Object → WorldState → Evaluation Object) → Type 0
  IsKeeping = family.IsKeeping Kept changes

  still : (s : WorldState) → Kept s s
  still = same Kept changes

  operators : Operators true names Asks Keeps Keeps IsKeeping
  operators = record {
    lists = list_keeps Kept changes;
    gets = get_keeps Kept changes;
    sets = set_keeps Kept changes;
    removes = remove_keeps Kept changes;
    plists = symbol_plist_keeps Kept changes;
    increments = increment_keeps Kept changes;
    pushes = push_keeps Kept changes;
    makes = make_keeps Kept changes;
    exports = export_keeps Kept changes;
    imports = import_keeps Kept changes;
    uses = use_keeps Kept changes;
    interns = intern_keeps Kept changes;
    cases = case_keeps Kept changes;
    sets_case = set_case_keeps Kept changes;
    copies = copy_keeps Kept changes;
    enters = enter_readtable_keeps Kept changes;
    sets_syntax = set_syntax_keeps Kept changes;
    sets_macro = set_macro_keeps Kept changes names;
    gets_macro = get_macro_keeps Kept changes;
    makes_dispatch = make_dispatch_keeps Kept changes;
    sets_dispatch = set_dispatch_keeps Kept changes names;
    gets_dispatch = get_dispatch_keeps Kept changes;
    sets_base = λ _. set_base_keeps Kept changes;
    computes = λ function xs s. computed_keeps Kept function xs s (still s);
    looks_up = look_up_keeps Kept still;
    changes_place = change_keeps Kept changes.put;
  }

  steps : Steps true names Asks Keeps Keeps IsKeeping
  steps = record {
    operators = operators;
    last_one = λ xs later. record { kept = still later };
    first_one = λ xs later. record { kept = still later };
    in_package = λ s x asked _. enter_keeps Kept changes x s;
    refused = λ s code _. record { kept = tt };
    all_refused = λ s code _. record { kept = tt };
    itself = λ s x _. record { kept = still s };
    nothing = λ s asked _. record { kept = still s };
    truth = λ s asked _. record { kept = still s };
    current_package = λ s asked _. record { kept = still s };
    current_readtable = λ s asked _. record { kept = still s };
    read_base = λ s asked _. record { kept = still s };
    none = λ s asked _. record { kept = still s };
    parts = λ s a b _. (tt, tt);
    one_more = λ s o others is each. keeps_then Kept changes.both s o _ is (λ y t. keeps_then Kept changes.both t (others t) _ (each t (λ _ _. tt)) (λ ys end'. record { kept = still end' }));
    more = λ s o others is each. keeps_then Kept changes.both s o _ is (λ xs t. keeps_then Kept changes.both t (others t) _ (each t (λ _ _. tt)) (λ ys end'. record { kept = still end' }));
    then_one = λ s o next is each. keeps_then Kept changes.both s o next is (λ y t. each y t (λ _ _. tt) (record { kept = still t }));
    of_values = λ s o function is keeps. keeps_then Kept changes.both s o function is keeps;
  }

  value_keeps : (s : WorldState) (x : Object) → Keeps s (value names s x)
  value_keeps s x = every_value true names Asks Keeps Keeps IsKeeping steps s x tt

  after_symbols : (s : WorldState) (r : Result (Table × Bool) PackageError) (x : Object) → LeavesKept Kept s r → Keeps s (accepted_with true names s r x)
  after_symbols s (Ok p) x kept = keeps_also Kept changes.both s p.1 (with_packages s p.0) (value names (with_packages s p.0) x) kept (value_keeps (with_packages s p.0) x)
  after_symbols s (Err e) x kept = record { kept = tt }

  pub accepted_keeps : (s : WorldState) (x : Object) → keeping.Keeps Kept s (accept names s x)
  accepted_keeps s x = after_symbols s (with_symbols_interned s.packages (symbols x)) x (changes.interns s (symbols x))
