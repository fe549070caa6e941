-- Data that are arguments of a world stay so.
--     list_proper, forms_hold, forms_come, items_hold, arguments_value, apart_holds, binding_form, all_more, form_more      lists by what is in them
--     nil_holds, true_holds, no_arguments, none_made, all_proper, variables_proper, all_values, first_holds, rest_holds, first_among      values, and lists of them
--     waits_more, one_more, bindings_more, popped, taken_hold, spent_holds      what waits, variables, and steps
--     variable_holds      the value of a variable
--     may_finish      what is done next
--     arguments_grown, machine_grown      where packages have grown
use Rattle.std.proofs.Common.{◌≡◌, ℕ, zero, suc, ◌<◌, nat_lt, Bool, true, false, cond, List, [], ◌∷◌, ◌++◌, reverse, map, length, take, All, Option, Some, None, option_to_list, Ok, refl, sym, ap, subst, ◌∙◌, arith}
use Rattle.std.specs.Global.{Vec}
use Rattle.std.proofs.lemmas.List.Elements.{All-append, All-cons, All-nil, All-head, All-tail, All-weaker}
use Rattle.std.proofs.lemmas.Bool.{and_from}
use Rattle.std.proofs.lemmas.List.{reverse-reverse}
use Rattle.std.proofs.lemmas.List.Sums.{list_all-from_AllPass}
use Rattle.std.specs.List.{list_all}
use Rattle.lisp_object.specs.Object.{Object, integer, rational, character, text, symbol, uninterned, pair, vector, nil, pairs, list_of, is_proper_list}
use Rattle.lisp_object.specs.declared.datum.Datum
use Rattle.lisp_object.specs.declared.datum.Datum.{Datum}
use Rattle.lisp_object.specs.Datum.{object_of, is_proper}
use Rattle.lisp_object.proofs.Properness.{is_proper-List}
use Rattle.lisp_object.proofs.Objects.{object_of-List, object_of-dotted}
use Rattle.package_table.specs.Table.{Table, AreSoundPackages}
use Rattle.package_table.specs.Growth.{Grows}
use Rattle.package_table.proofs.Names.{same_some, none_some}
use Rattle.plist_state.specs.Properties.{Symbol}
use Rattle.plist_state.specs.Sound.{IsValue}
use Rattle.lisp_operators.specs.EvaluationAnswers.{IsArgument, IsProper, AreProper, objects}
use Rattle.lisp_operators.specs.Properties.{t}
use Rattle.lisp_operators.proofs.Storable.{nil_value, t_value, value_grown, value_parts}
use Rattle.evaluator.specs.Operators.{first}
use Rattle.evaluator.specs.Value.{rest}
use Rattle.evaluator.specs.ArgumentValues.{arguments_in}
use Rattle.kept_functions.specs.declared.environment.Binding.{Binding}
use Rattle.kept_functions.specs.Environments.{Environment, bound, is_same_variable}
use Rattle.kept_functions.specs.KeptFunctions.{binding_shown}
use Rattle.lexical_evaluation.specs.declared.frame.Target.{Target}
use Rattle.lexical_evaluation.specs.declared.frame.Target.TheVariants.{Operation, Function, NamedByFirst, Written, First, Enter, Global, Define, DefineReader}
use Rattle.lexical_evaluation.specs.declared.frame.Awaiting.{Awaiting}
use Rattle.lexical_evaluation.specs.declared.frame.Awaiting.TheVariants.{Arguments, Sequence, Choice, Seek, Clause, Guard, Assert, Bind, Scope, Call}
use Rattle.lexical_evaluation.specs.declared.machine.Machine.{Machine}
use Rattle.lexical_evaluation.specs.Values.{variable_named}
use Rattle.lexical_evaluation.specs.Machine.{Spends, ComesApart, binding_parts, to_come, variables_seen}
use Rattle.lexical_evaluation.specs.Arguments.{AreArguments, HaveArguments, IsTargetOf, MayFinish, IsFrameOf, IsMachineOf}
use Rattle.lexical_evaluation.proofs.Apart.{last_kept, reversed_all, items_proper}

-- a list with an item
pub list_proper : (ds items : List Datum) → items ≡ ds → AreProper ds → nat_lt 0 (length ds) ≡ true → is_proper (Datum.List items None) ≡ true
list_proper ds items same proper some =
    ap (λ l. is_proper (Datum.List l None)) same ∙ is_proper-List ds ∙ and_from (nat_lt 0 (length ds)) (list_all is_proper ds) some (list_all-from_AllPass is_proper ds proper)

module _ (u : Table) where
  -- ---- lists
  -- proper data whose list is a value
  pub forms_hold : (ds : List Datum) → AreProper ds → IsValue u (list_of (objects ds)) → AreArguments u ds
  forms_hold [] proper value = All-nil (IsArgument u)
  forms_hold (d ∷ ds) proper value =
      let parts = value_parts u (object_of d) (list_of (objects ds)) value in
      All-cons (IsArgument u) d ds (record { proper = All-head IsProper d ds proper; value = parts.0 }) (forms_hold ds (All-tail IsProper d ds proper) parts.1)

  -- with the next one last
  pub forms_come : (ds : List Datum) → AreProper ds → IsValue u (to_come ds) → AreArguments u ds
  forms_come ds proper value =
      subst (AreArguments u) (reverse-reverse ds) (reversed_all (IsArgument u) (reverse ds) (forms_hold (reverse ds) (reversed_all IsProper ds proper) value))

  pub nil_holds : AreSoundPackages u → (d : Datum) → object_of d ≡ nil → IsProper d → IsArgument u d
  nil_holds sound d is proper = record { proper = proper; value = subst (IsValue u) (sym is) (nil_value u sound) }

  pub true_holds : AreSoundPackages u → (d : Datum) → object_of d ≡ t → IsProper d → IsArgument u d
  true_holds sound d is proper = record { proper = proper; value = subst (IsValue u) (sym is) (t_value u sound) }

  pub no_arguments : AreArguments u []
  no_arguments = All-nil (IsArgument u)

  pub none_made : HaveArguments u []
  none_made = All-nil (λ (b : Binding). IsArgument u b.value)

  pub all_more : (items others more : List Datum) → more ≡ items ++ others → AreArguments u items → AreArguments u others → AreArguments u more
  all_more items others more grown are more_are = subst (AreArguments u) (sym grown) (All-append (IsArgument u) items others are more_are)

  pub form_more : (items more : List Datum) (d : Datum) → more ≡ items ++ d ∷ [] → AreArguments u items → IsArgument u d → AreArguments u more
  form_more items more d grown are is = all_more items (d ∷ []) more grown are (All-cons (IsArgument u) d [] is (All-nil (IsArgument u)))

  part_values : (items : List Datum) (end : Object) → AreProper items → IsValue u (pairs (map object_of items) end) → AreArguments u items
  part_values [] end proper is = All-nil (IsArgument u)
  part_values (d ∷ ds) end proper is =
      let parts = value_parts u (object_of d) (pairs (map object_of ds) end) is in
      All-cons (IsArgument u) d ds (record { proper = All-head IsProper d ds proper; value = parts.0 }) (part_values ds end (All-tail IsProper d ds proper) parts.1)

  pub items_hold : (d : Datum) (items : List Datum) (tail : Option Datum) → d ≡ Datum.List items tail → IsArgument u d → AreArguments u items
  items_hold d items None is argument = part_values items nil (items_proper d items None is argument.proper) (subst (IsValue u) (ap object_of is ∙ object_of-List items) argument.value)
  items_hold d items (Some end) is argument = part_values items (object_of end) (items_proper d items (Some end) is argument.proper) (subst (IsValue u) (ap object_of is ∙ object_of-dotted items end) argument.value)

  -- the arguments of a form whose list is a value
  pub arguments_value : (items : List Datum) → 0 < length items → IsValue u (list_of (objects items)) → IsValue u (arguments_in items)
  arguments_value [] some value = absurd (omega (arith, some))
  arguments_value (d ∷ ds) some value = (value_parts u (object_of d) (list_of (objects ds)) value).1

  -- a list, by its first item and what is behind it
  pub apart_holds : (x : Object) (d : Datum) (others : List Datum) → ComesApart x d others → IsValue u x → IsArgument u d × AreArguments u others
  apart_holds x d others apart value =
      let parts = value_parts u (object_of d) (to_come others) (subst (IsValue u) apart.object value) in
      (record { proper = apart.first_proper; value = parts.0 }, forms_come others apart.others_proper parts.1)

  -- the form of a binding
  pub binding_form : (x : Object) (variable : Symbol) (form : Object) → IsValue u x → binding_parts x ≡ Some (variable, form) → IsValue u form
  binding_form (pair a (pair b others)) variable form value is = given (is_proper_list others) is
    where
      given : (t : Bool) → cond {A = Option (Symbol × Object)} t (Some (variable_named a, b)) None ≡ Some (variable, form) → IsValue u form
      given true some = subst (λ (p : Symbol × Object). IsValue u p.1) (same_some (variable_named a, b) (variable, form) some) (value_parts u b others (value_parts u a (pair b others) value).1).0
      given false none = absurd (none_some (variable, form) none)
  binding_form (pair a (integer n)) variable form value is = absurd (none_some (variable, form) is)
  binding_form (pair a (rational n d)) variable form value is = absurd (none_some (variable, form) is)
  binding_form (pair a (character c)) variable form value is = absurd (none_some (variable, form) is)
  binding_form (pair a (text b)) variable form value is = absurd (none_some (variable, form) is)
  binding_form (pair a (symbol h n)) variable form value is = absurd (none_some (variable, form) is)
  binding_form (pair a (uninterned n)) variable form value is = absurd (none_some (variable, form) is)
  binding_form (pair a (vector xs)) variable form value is = absurd (none_some (variable, form) is)
  binding_form (integer n) variable form value is = absurd (none_some (variable, form) is)
  binding_form (rational n d) variable form value is = absurd (none_some (variable, form) is)
  binding_form (character c) variable form value is = absurd (none_some (variable, form) is)
  binding_form (text b) variable form value is = absurd (none_some (variable, form) is)
  binding_form (symbol h n) variable form value is = absurd (none_some (variable, form) is)
  binding_form (uninterned n) variable form value is = absurd (none_some (variable, form) is)
  binding_form (vector xs) variable form value is = absurd (none_some (variable, form) is)

  pub all_proper : (ds : List Datum) → AreArguments u ds → AreProper ds
  all_proper ds are = All-weaker (IsArgument u) IsProper (λ d is. is.proper) ds are

  pub variables_proper : (bindings : List Binding) → HaveArguments u bindings → All (λ (b : Binding). IsProper b.value) bindings
  variables_proper bindings are = All-weaker (λ (b : Binding). IsArgument u b.value) (λ (b : Binding). IsProper b.value) (λ b is. is.proper) bindings are

  pub all_values : (ds : List Datum) → AreArguments u ds → All (IsValue u) (objects ds)
  all_values [] are = All-nil (IsValue u)
  all_values (d ∷ ds) are = All-cons (IsValue u) (object_of d) (objects ds) (All-head (IsArgument u) d ds are).value (all_values ds (All-tail (IsArgument u) d ds are))

  pub first_holds : AreSoundPackages u → (x : Object) → IsValue u x → IsValue u (first x)
  first_holds sound (pair a b) is = (value_parts u a b is).0
  first_holds sound (integer n) is = nil_value u sound
  first_holds sound (rational n d) is = nil_value u sound
  first_holds sound (character c) is = nil_value u sound
  first_holds sound (text b) is = nil_value u sound
  first_holds sound (symbol h n) is = nil_value u sound
  first_holds sound (uninterned n) is = nil_value u sound
  first_holds sound (vector xs) is = nil_value u sound

  pub rest_holds : AreSoundPackages u → (x : Object) → IsValue u x → IsValue u (rest x)
  rest_holds sound (pair a b) is = (value_parts u a b is).1
  rest_holds sound (integer n) is = nil_value u sound
  rest_holds sound (rational n d) is = nil_value u sound
  rest_holds sound (character c) is = nil_value u sound
  rest_holds sound (text b) is = nil_value u sound
  rest_holds sound (symbol h n) is = nil_value u sound
  rest_holds sound (uninterned n) is = nil_value u sound
  rest_holds sound (vector xs) is = nil_value u sound

  -- the first of values that need not be a value as a list
  pub first_among : AreSoundPackages u → (ds : List Datum) → AreArguments u ds → IsValue u (first (list_of (objects ds)))
  first_among sound [] are = nil_value u sound
  first_among sound (d ∷ ds) are = (All-head (IsArgument u) d ds are).value

  -- ---- what waits, and variables
  pub waits_more : (m : Machine) (frames : Vec Awaiting) (frame : Awaiting) → IsMachineOf u m → frames.items ≡ m.frames.items ++ frame ∷ [] → IsFrameOf u frame → IsMachineOf u (record m { frames = frames })
  waits_more m frames frame hand grown is = record {
    sound = hand.sound;
    frames = subst (All (IsFrameOf u)) (sym grown) (All-append (IsFrameOf u) m.frames.items (frame ∷ []) hand.frames (All-cons (IsFrameOf u) frame [] is (All-nil (IsFrameOf u))));
    bindings = hand.bindings;
  }

  pub one_more : (bindings more : List Binding) (b : Binding) → more ≡ bindings ++ b ∷ [] → HaveArguments u bindings → IsArgument u b.value → HaveArguments u more
  one_more bindings more b grown are is =
      let P = (λ (k : Binding). IsArgument u k.value) in
      subst (HaveArguments u) (sym grown) (All-append P bindings (b ∷ []) are (All-cons P b [] is (All-nil P)))

  pub bindings_more : (bindings made more : List Binding) → more ≡ bindings ++ made → HaveArguments u bindings → HaveArguments u made → HaveArguments u more
  bindings_more bindings made more grown are made_are = subst (HaveArguments u) (sym grown) (All-append (λ (b : Binding). IsArgument u b.value) bindings made are made_are)

  -- those that were seen before
  pub taken_hold : (n : ℕ) (bindings : List Binding) → HaveArguments u bindings → HaveArguments u (take n bindings)
  taken_hold zero bindings are = none_made
  taken_hold (suc n) [] are = none_made
  taken_hold (suc n) (b ∷ bs) are =
      let P = (λ (k : Binding). IsArgument u k.value) in
      All-cons P b (take n bs) (All-head P b bs are) (taken_hold n bs (All-tail P b bs are))

  -- the last of some is taken away
  pub popped : (items rest : List Datum) (result : Option Datum) (x : Datum) → items ≡ rest ++ option_to_list result → result ≡ Some x → AreArguments u items → AreArguments u rest × IsArgument u x
  popped items rest result x same is are = last_kept (IsArgument u) items rest result x same is are

  -- steps are taken
  pub spent_holds : (n : ℕ) (old mid : Machine) (done : Unit {0}) → Spends n old mid (Ok done) → IsMachineOf u old → IsMachineOf u mid
  spent_holds n old mid done spent hand = subst (IsMachineOf u) (sym spent.1) (record { sound = hand.sound; frames = hand.frames; bindings = hand.bindings })

  -- ---- the value of a variable
  abbrev HoldValues : Environment → Type 0
  HoldValues env = All (λ p. IsValue u p.1) env

  shown : (bindings : List Binding) → HaveArguments u bindings → HoldValues (map binding_shown bindings)
  shown [] are = All-nil (λ (p : Symbol × Object). IsValue u p.1)
  shown (b ∷ bs) are =
      let P = (λ (k : Binding). IsArgument u k.value) in
      All-cons (λ (p : Symbol × Object). IsValue u p.1) (binding_shown b) (map binding_shown bs) (All-head P b bs are).value (shown bs (All-tail P b bs are))

  bound_or : (b : Bool) (w : Object) (o : Option Object) (v : Object) → cond b (Some w) o ≡ Some v → IsValue u w → (o ≡ Some v → IsValue u v) → IsValue u v
  bound_or true w o v some is later = subst (IsValue u) (same_some w v some) is
  bound_or false w o v some is later = later some

  bound_holds : (env : Environment) (x : Symbol) (v : Object) → HoldValues env → bound env x ≡ Some v → IsValue u v
  bound_holds [] x v are is = absurd (none_some v is)
  bound_holds (p ∷ ps) x v are is =
      bound_or (is_same_variable p.0 x) p.1 (bound ps x) v is (All-head (λ (q : Symbol × Object). IsValue u q.1) p ps are)
      (λ later. bound_holds ps x v (All-tail (λ (q : Symbol × Object). IsValue u q.1) p ps are) later)

  pub variable_holds : (bindings : List Binding) (x : Symbol) (v : Object) → HaveArguments u bindings → Some v ≡ bound (variables_seen bindings) x → IsValue u v
  variable_holds bindings x v are is =
      bound_holds (variables_seen bindings) x v (shown (reverse bindings) (reversed_all (λ (k : Binding). IsArgument u k.value) bindings are)) (sym is)

  -- ---- what is done next
  pub may_finish : (target : Target) (values : List Datum) → IsTargetOf u target → MayFinish u target values
  may_finish (Operation operation place steps) values is = is
  may_finish (Function x) values is = is
  may_finish NamedByFirst values is = is
  may_finish (Written parts) values is = is
  may_finish First values is = is
  may_finish Enter values is = is
  may_finish Global values is = is
  may_finish Define values is = absurd is
  may_finish DefineReader values is = absurd is

-- ---- packages that have grown
module _ (u v : Table) (grows : Grows u v) where
  argument_grown : (d : Datum) → IsArgument u d → IsArgument v d
  argument_grown d is = record { proper = is.proper; value = value_grown u v grows (object_of d) is.value }

  pub arguments_grown : (ds : List Datum) → AreArguments u ds → AreArguments v ds
  arguments_grown ds are = All-weaker (IsArgument u) (IsArgument v) argument_grown ds are

  variables_grown : (bindings : List Binding) → HaveArguments u bindings → HaveArguments v bindings
  variables_grown bindings are = All-weaker (λ (b : Binding). IsArgument u b.value) (λ (b : Binding). IsArgument v b.value) (λ b is. argument_grown b.value is) bindings are

  target_grown : (target : Target) → IsTargetOf u target → IsTargetOf v target
  target_grown (Operation operation place steps) is = is
  target_grown (Function x) is = argument_grown x is
  target_grown NamedByFirst is = is
  target_grown (Written parts) is = arguments_grown parts.items is
  target_grown First is = is
  target_grown Enter is = is
  target_grown Global is = is
  target_grown Define is = absurd is
  target_grown DefineReader is = absurd is

  frame_grown : (frame : Awaiting) → IsFrameOf u frame → IsFrameOf v frame
  frame_grown (Arguments target forms values) is = (target_grown target is.0, arguments_grown forms.items is.1, arguments_grown values.items is.2)
  frame_grown (Sequence forms) is = arguments_grown forms.items is
  frame_grown (Choice forms) is = arguments_grown forms.items is
  frame_grown (Seek truth forms) is = arguments_grown forms.items is
  frame_grown (Clause forms others) is = (arguments_grown forms.items is.0, arguments_grown others.items is.1)
  frame_grown (Guard truth forms) is = arguments_grown forms.items is
  frame_grown Assert is = is
  frame_grown (Bind in_turn x others made forms) is = (arguments_grown others.items is.0, variables_grown made.items is.1, arguments_grown forms.items is.2)
  frame_grown (Scope length) is = is
  frame_grown (Call before deeper) is = variables_grown before.items is

  pub machine_grown : (m : Machine) → AreSoundPackages v → IsMachineOf u m → IsMachineOf v m
  machine_grown m sound hand = record {
    sound = sound;
    frames = All-weaker (IsFrameOf u) (IsFrameOf v) frame_grown m.frames.items hand.frames;
    bindings = variables_grown m.bindings.items hand.bindings;
  }
