-- That a form which is evaluated in a sound state leaves a sound state.
--     value_safe      the value of a form
use Rattle.std.proofs.Common.{pos, true, false, List, [], ◌∷◌, ◌++◌}
use Rattle.std.proofs.lemmas.List.Elements.{All-append, All-cons, All-nil, All-head, All-tail}
use Rattle.lisp_object.specs.Object.{Object, integer, text, nil, list_of}
use Rattle.package_table.specs.Table as packages
use Rattle.package_table.specs.Table.{Name, Table, keyword}
use Rattle.package_table.specs.Growth.{Grows}
use Rattle.plist_state.specs.State.{WorldState}
use Rattle.plist_state.specs.Sound.{IsValue, IsSoundWorldState}
use Rattle.lisp_operators.specs.Evaluation.{Evaluation, gives, and_then}
use Rattle.lisp_operators.specs.Readtables.{AreFunctionNames, a_keyword_of}
use Rattle.lisp_operators.proofs.Good.{Goods, goods_here, goods_then}
use Rattle.lisp_operators.proofs.Storable.{AreValues, symbol_is_value, nil_value, t_value, text_value, value_grown, values_grown, value_parts}
use Rattle.lisp_operators.proofs.SoundProperties.{IsSafe, list_safe, get_safe, set_safe, remove_safe, symbol_plist_safe, increment_safe, push_safe}
use Rattle.lisp_operators.proofs.SoundPackages.{make_safe, enter_safe, intern_safe, export_safe, import_safe, use_safe}
use Rattle.lisp_operators.proofs.SoundReadtables.{case_safe, set_case_safe, copy_safe, enter_readtable_safe, set_syntax_safe, set_macro_safe, get_macro_safe, make_dispatch_safe, set_dispatch_safe, get_dispatch_safe}
use Rattle.lisp_operators.proofs.SoundBase.{set_base_safe, base_value}
use Rattle.lisp_operators.specs.Properties.{t}
use Rattle.evaluator.specs.Operators.{first}
use Rattle.lisp_operators.proofs.LookUpLaws.{look_up_safe}
use Rattle.lisp_operators.proofs.PlaceLaws.{change_safe}
use Rattle.evaluator.specs.Value.{value, last}
use Rattle.evaluator.proofs.FunctionLaws.{computed_safe}
use Rattle.evaluator.proofs.Induction.{Operators, Steps, every_value}

abbrev Asks : WorldState → Object → Type 0
Asks s x = IsSoundWorldState s × IsValue s.packages x

-- what is asked of a form stays so in a sound state whose packages have grown
stays : (s t : WorldState) → IsSoundWorldState t → Grows s.packages t.packages → (x : Object) → Asks s x → Asks t x
stays s t sound grows x asks = (sound, value_grown s.packages t.packages grows x asks.1)

last_value : (u : Table) → packages.AreSoundPackages u → (xs : List Object) → AreValues u xs → IsValue u (last xs)
last_value u sound [] are = nil_value u sound
last_value u sound (x ∷ []) are = All-head (IsValue u) x [] are
last_value u sound (x ∷ y ∷ ys) are = last_value u sound (y ∷ ys) (All-tail (IsValue u) x (y ∷ ys) are)

first_value : (u : Table) → packages.AreSoundPackages u → (xs : List Object) → AreValues u xs → IsValue u (first (list_of xs))
first_value u sound [] are = nil_value u sound
first_value u sound (x ∷ xs) are = All-head (IsValue u) x xs are

-- one value, and then more
cons_safe : (s : WorldState) (y : Object) (o : Evaluation (List Object)) → IsValue s.packages y → Goods AreValues s o → Goods AreValues s (and_then o (λ ys end'. gives (y ∷ ys) end'))
cons_safe s y o is safe =
    goods_then AreValues AreValues s o _ safe (λ ys end' sound grows are. goods_here AreValues end' (y ∷ ys) false sound (All-cons (IsValue end'.packages) y ys (value_grown s.packages end'.packages grows y is) are))

append_safe : (s : WorldState) (xs : List Object) (o : Evaluation (List Object)) → AreValues s.packages xs → Goods AreValues s o → Goods AreValues s (and_then o (λ ys end'. gives (xs ++ ys) end'))
append_safe s xs o before safe =
    goods_then AreValues AreValues s o _ safe (λ ys end' sound grows are. goods_here AreValues end' (xs ++ ys) false sound (All-append (IsValue end'.packages) xs ys (values_grown s.packages end'.packages grows xs before) are))

module _ (names : List Name) (all : AreFunctionNames names) where
  operators : Operators true names Asks (Goods IsValue) (Goods AreValues) IsSafe
  operators = record {
    lists = list_safe;
    gets = get_safe;
    sets = set_safe;
    removes = remove_safe;
    plists = symbol_plist_safe;
    increments = increment_safe;
    pushes = push_safe;
    makes = make_safe;
    exports = export_safe;
    imports = import_safe;
    uses = use_safe;
    interns = intern_safe;
    cases = case_safe;
    sets_case = set_case_safe;
    copies = copy_safe;
    enters = enter_readtable_safe;
    sets_syntax = set_syntax_safe;
    sets_macro = set_macro_safe names all;
    gets_macro = get_macro_safe;
    makes_dispatch = make_dispatch_safe;
    sets_dispatch = set_dispatch_safe names all;
    gets_dispatch = get_dispatch_safe;
    sets_base = λ _. set_base_safe;
    computes = computed_safe;
    looks_up = look_up_safe;
    changes_place = change_safe;
  }

  steps : Steps true names Asks (Goods IsValue) (Goods AreValues) IsSafe
  steps = record {
    operators = operators;
    last_one = λ xs later still are. goods_here IsValue later (last xs) false still (last_value later.packages still.packages xs are);
    first_one = λ xs later still are. goods_here IsValue later (first (list_of xs)) false still (first_value later.packages still.packages xs are);
    in_package = λ s x asked asks. enter_safe x s asks.0;
    refused = λ s code _. record { good = tt };
    all_refused = λ s code _. record { good = tt };
    itself = λ s x asks. goods_here IsValue s x false asks.0 asks.1;
    nothing = λ s asked asks. goods_here IsValue s nil false asks.0 (nil_value s.packages asks.0.packages);
    truth = λ s asked asks. goods_here IsValue s t false asks.0 (t_value s.packages asks.0.packages);
    current_package = λ s asked asks. goods_here IsValue s (text s.current_package) false asks.0 (text_value s.packages s.current_package (asks.0.packages.within.package_names s.current_package asks.0.current_package).ascii);
    current_readtable = λ s asked asks. goods_here IsValue s (a_keyword_of s.current_readtable) false asks.0 (symbol_is_value s.packages keyword s.current_readtable asks.0.packages (asks.0.readtables.names s.current_readtable asks.0.current_readtable));
    read_base = λ s asked asks. goods_here IsValue s (integer (pos s.read_base)) false asks.0 (base_value s.packages s.read_base asks.0.highest_base);
    none = λ s asked asks. goods_here AreValues s [] false asks.0 (All-nil (IsValue s.packages));
    parts = λ s a b asks. let both = value_parts s.packages a b asks.1 in ((asks.0, both.0), (asks.0, both.1));
    one_more = λ s o others is each. goods_then IsValue AreValues s o _ is (λ y t sound grows fits. cons_safe t y (others t) fits (each t (stays s t sound grows)));
    more = λ s o others is each. goods_then AreValues AreValues s o _ is (λ xs t sound grows are. append_safe t xs (others t) are (each t (stays s t sound grows)));
    then_one = λ s o next is each. goods_then IsValue IsValue s o next is (λ y later sound grows fits. each y later (stays s later sound grows) (goods_here IsValue later y false sound fits));
    of_values = λ s o function is safe. goods_then AreValues IsValue s o function is (λ xs t sound grows are. safe xs t sound are);
  }

  pub value_safe : (s : WorldState) (x : Object) → IsSoundWorldState s → IsValue s.packages x → Goods IsValue s (value names s x)
  value_safe s x sound is = every_value true names Asks (Goods IsValue) (Goods AreValues) IsSafe steps s x (sound, is)
