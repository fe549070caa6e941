-- What is done with the values of arguments.
--     keeps_as, keeps_refused, keeps_spent      steps from the first of two states to the second
--     made_on, made_stops, made_refused      what an operator gave takes its weight
--     ways_calling      a call is the body, by the rules of one call less
--     finish_as, other_name, operator_named, function_named, no_function      by what is done, and by a name
--     not_called, called_as      an operator as a function
--     no_first, no_global, other_global, no_reader, first_and_rest, first_removed      where there are no values, and the first of them
use Rattle.std.proofs.Common.{◌≡◌, ◌<◌, ◌-◌, ℕ, Bool, true, false, ◌||◌, nat_le, if◌then◌else◌, List, [], ◌∷◌, ◌++◌, reverse, take, drop, slice_index_or, length, Option, Some, None, is_some, Result, Ok, Err, refl, sym, ap, subst, ◌∙◌, arith}
use Rattle.std.proofs.lemmas.Bool.{false≢true}
use Rattle.lisp_object.specs.declared.datum.Datum.{Datum}
use Rattle.lisp_object.specs.declared.refusal.TheConstants.{ARGUMENT_COUNT, ARGUMENT_KIND, NOT_A_FORM, UNKNOWN_OPERATOR}
use Rattle.lisp_object.specs.Object.{Object, integer, rational, character, text, symbol, uninterned, pair, vector, list_of}
use Rattle.lisp_object.specs.Datum.{object_of}
use Rattle.package_table.specs.Table.{Name}
use Rattle.plist_state.specs.State.{WorldState}
use Rattle.lisp_operators.specs.ArgumentKinds.{a_symbol}
use Rattle.lisp_operators.specs.Evaluation.{Evaluation}
use Rattle.lisp_operators.specs.EvaluationAnswers.{Answers, done, objects}
use Rattle.lisp_operators.specs.declared.error.EvaluationError.{EvaluationError}
use Rattle.lisp_operators.specs.declared.error.EvaluationError.TheVariants.{Refused, OutOfMemory}
use Rattle.evaluator.specs.Operators.{Operator, Action, quotes, sequence, chooses, assigns, increments, pushes, enters_package, calls, seeks, selects, guards, keeps_first, asserts, changes, counts, first}
use Rattle.evaluator.specs.Value.{rest}
use Rattle.evaluator.specs.Operations.{operator, action_of}
use Rattle.evaluator.specs.declared.operation.Operation.{Operation}
use Rattle.evaluator.specs.declared.operation.Operation.TheVariants.{Quote, Progn, If, MakeList, Get, Setf, Remprop, SymbolPlist, Incf, Push, MakePackage, InPackage, Export, Import, UsePackage, Intern, CopyReadtable, InReadtable, SetSyntaxFromChar, SetMacroCharacter, GetMacroCharacter, MakeDispatchMacroCharacter, SetDispatchMacroCharacter, GetDispatchMacroCharacter, ReadtableCase, Computes, Decides, LooksUp, Changes}
use Rattle.evaluator.specs.declared.decision.Decision.TheVariants.{And, Or, Cond, When, Unless, Prog1, Assert}
use Rattle.evaluator.specs.declared.place.PlaceForm.TheVariants.{Property}
use Rattle.kept_functions.specs.declared.environment.Binding.{Binding}
use Rattle.kept_functions.specs.declared.bounds.TheConstants.{TOO_MANY_STEPS}
use Rattle.kept_functions.specs.Environments.{Environment}
use Rattle.kept_functions.specs.Definitions.{Definition, function_in}
use Rattle.kept_functions.specs.Counting.{Point, Counting, here, then_on, wrote_too, spending, weight, at_point}
use Rattle.lexical_evaluation.specs.declared.frame.Target.{Target}
use Rattle.lexical_evaluation.specs.declared.frame.Awaiting.{Awaiting}
use Rattle.lexical_evaluation.specs.declared.machine.Machine.{Machine}
use Rattle.lexical_evaluation.specs.declared.machine.NextStep.{NextStep}
use Rattle.lexical_evaluation.specs.Values.{LexicalRules, called_operator, called_function, called_or, named_function, steps_over_packages}
use Rattle.lexical_evaluation.specs.Calls.{call_at}
use Rattle.lexical_evaluation.specs.Machine.{Ways, IsCalling, KeepsOutcome, ComesOn, Spends, continued, comes_to, around, point_of, value_given, bindings_after, deeper_after, variables_seen, finished_in, named_by_first, global_value}
use Rattle.lexical_evaluation.specs.Ways.{ways, performed, is_call}
use Rattle.lexical_evaluation.proofs.Thens.{wrote_wrote, wrote_then, or_false}
use Rattle.lexical_evaluation.proofs.Calling.{spent_so, spent_out}
use Rattle.lexical_evaluation.proofs.Continuing.{refused}
use Rattle.lexical_evaluation.proofs.Forms.{step_stops, step_taken}
use Rattle.lexical_evaluation.proofs.Going.{comes_as}

-- ---- steps
module _ (w : Ways) (s t : WorldState) (old new : Machine) (f : LexicalRules → Environment → Point → Counting Object) where
  abbrev here_in : (LexicalRules → Environment → Point → Counting Object) → Counting Object
  here_in g = g (w.rules old.deeper) (around old) (point_of old s)

  pub keeps_as : (result : Result NextStep EvaluationError) (g : LexicalRules → Environment → Point → Counting Object) → here_in f ≡ here_in g → KeepsOutcome w s t old new result g → KeepsOutcome w s t old new result f
  keeps_as result g same keeps = comes_as w t (comes_to w old (here_in f)) (comes_to w old (here_in g)) new result (ap (comes_to w old) same) keeps

  pub keeps_refused : (code : ℕ) → here_in f ≡ Err code → KeepsOutcome w s t old new (Err (Refused code)) f
  keeps_refused code same = ap (comes_to w old) same ∙ refused w old code

-- so many steps are taken first
pub keeps_spent : (w : Ways) (s t : WorldState) (n : ℕ) (old mid new : Machine) (result : Result NextStep EvaluationError) (f : LexicalRules → Environment → Point → Counting Object) (u : Unit {0}) → Spends n old mid (Ok u)
    → KeepsOutcome w s t mid new result f → KeepsOutcome w s t old new result (λ rules seen p. spending n p (f rules seen))
keeps_spent w s t n old mid new result f u spent keeps =
    comes_as w t (comes_to w old (spending n (point_of old s) (f (w.rules old.deeper) (around old)))) (comes_to w mid (f (w.rules mid.deeper) (around mid) (point_of mid s))) new result
    (step_taken w s n old mid f u spent) keeps

-- ---- what an operator gave
wrote_before : (w : Ways) (n : ℕ) (frames : List Awaiting) (bindings : List Binding) (b : Bool) (o : Counting Object)
    → continued w n frames bindings (wrote_too b o) ≡ wrote_too b (continued w n frames bindings o)
wrote_before w n [] bindings b o = refl
wrote_before w n (frame ∷ frames) bindings b o =
    ap (continued w (deeper_after frame n) frames (bindings_after frame bindings)) (wrote_then b o (value_given (w.rules n) w.does (variables_seen bindings) frame))
    ∙ wrote_before w (deeper_after frame n) frames (bindings_after frame bindings) b (then_on o (value_given (w.rules n) w.does (variables_seen bindings) frame))

module _ (w : Ways) (s t : WorldState) (old new : Machine) (x : Object) (wrote both : Bool) (o : Evaluation Object) (is : o ≡ Ok (record { value = x; state = t; wrote = wrote })) (joined : both ≡ (old.wrote || wrote)) where
  abbrev reached : Point → Counting Object
  reached later = Ok (record { value = x; point = later; wrote = wrote })

  abbrev started : Point
  started = record { state = t; left = old.left }

  pub made_on : (u : Unit {0}) → Spends (weight x) (record old { wrote = both }) new (Ok u) → comes_to w old (at_point (point_of old s) o) ≡ comes_to w new (here x (point_of new t))
  made_on u spent =
      let later : Point = record { state = t; left = old.left - weight x } in
      let on : Counting Object = continued w old.deeper (reverse old.frames.items) old.bindings.items (here x later) in
      ap (λ q. comes_to w old (at_point (point_of old s) q)) is
      ∙ ap (comes_to w old) (spent_so (weight x) started reached spent.0)
      ∙ ap (λ b. comes_to w old (Ok (record { value = x; point = later; wrote = b }))) (sym (or_false wrote))
      ∙ ap (wrote_too old.wrote) (wrote_before w old.deeper (reverse old.frames.items) old.bindings.items wrote (here x later))
      ∙ wrote_wrote old.wrote wrote on
      ∙ ap (λ b. wrote_too b on) (sym joined)
      ∙ ap (λ (m : Machine). comes_to w m (here x (point_of m t))) (sym spent.1)

  pub made_stops : (error : EvaluationError) → Spends (weight x) (record old { wrote = both }) new (Err error) → ComesOn w t (comes_to w old (at_point (point_of old s) o)) new (Err error)
  made_stops (Refused code) spent =
      ap (λ q. comes_to w old (at_point (point_of old s) q)) is
      ∙ ap (comes_to w old) (spent_out (weight x) started reached spent.0)
      ∙ refused w old TOO_MANY_STEPS ∙ ap Err (sym spent.1)
  made_stops OutOfMemory spent = tt

pub made_refused : (w : Ways) (s t : WorldState) (old new : Machine) (o : Evaluation Object) (error : EvaluationError) → Answers done (Err error) t o → ComesOn w t (comes_to w old (at_point (point_of old s) o)) new (Err error)
made_refused w s t old new o (Refused code) is = ap (λ q. comes_to w old (at_point (point_of old s) q)) is ∙ refused w old code
made_refused w s t old new o OutOfMemory is = tt

-- ---- by what is done
pub finish_as : (names : List Name) (s t : WorldState) (old new : Machine) (result : Result NextStep EvaluationError) (xs : List Object) (target this : Target) → target ≡ this
    → KeepsOutcome (ways names) s t old new result (λ rules seen p. finished_in rules (performed names) seen this xs p)
    → KeepsOutcome (ways names) s t old new result (λ rules seen p. finished_in rules (performed names) seen target xs p)
finish_as names s t old new result xs target this is keeps =
    subst (λ k. KeepsOutcome (ways names) s t old new result (λ rules seen p. finished_in rules (performed names) seen k xs p)) (sym is) keeps

-- ---- by a name
pub ways_calling : (names : List Name) → IsCalling (ways names)
unfolding call_at
ways_calling names = record { none = λ definition xs p. refl; more = λ n definition xs p. refl }

module _ (rules : LexicalRules) (xs : List Object) (p : Point) where
  pub other_name : (x : Object) → None ≡ a_symbol x → named_function rules x xs p ≡ Err ARGUMENT_KIND
  other_name (symbol h n) none = absurd (false≢true (ap is_some none))
  other_name (integer n) none = refl
  other_name (rational n d) none = refl
  other_name (character c) none = refl
  other_name (text b) none = refl
  other_name (uninterned n) none = refl
  other_name (pair a b) none = refl
  other_name (vector ys) none = refl

  module _ (x : Object) (h n : Name) (is : x ≡ symbol h n) where
    pub operator_named : (operator : Operator) → Some operator ≡ rules.table (symbol h n) → named_function rules x xs p ≡ called_operator (symbol h n) operator operator.action xs p
    operator_named operator found = ap (λ y. named_function rules y xs p) is ∙ ap (λ o. called_or rules (h, n) o xs p) (sym found)

    no_operator : None ≡ rules.table (symbol h n) → named_function rules x xs p ≡ called_function rules (rules.function p.state (h, n)) xs p
    no_operator none = ap (λ y. named_function rules y xs p) is ∙ ap (λ o. called_or rules (h, n) o xs p) (sym none)

    pub function_named : (definition : Definition) → None ≡ rules.table (symbol h n) → Some definition ≡ rules.function p.state (h, n) → named_function rules x xs p ≡ rules.call definition xs p
    function_named definition none found = no_operator none ∙ ap (λ o. called_function rules o xs p) (sym found)

    pub no_function : None ≡ rules.table (symbol h n) → None ≡ rules.function p.state (h, n) → named_function rules x xs p ≡ Err UNKNOWN_OPERATOR
    no_function none found = no_operator none ∙ ap (λ o. called_function rules o xs p) (sym found)

-- ---- an operator as a function
pub not_called : (head : Object) (operator : Operator) (xs : List Object) (p : Point) (action : Action) → is_call action ≡ false → called_operator head operator action xs p ≡ Err UNKNOWN_OPERATOR
not_called head operator xs p (calls function) is = absurd (false≢true (sym is))
not_called head operator xs p quotes is = refl
not_called head operator xs p sequence is = refl
not_called head operator xs p chooses is = refl
not_called head operator xs p assigns is = refl
not_called head operator xs p increments is = refl
not_called head operator xs p pushes is = refl
not_called head operator xs p enters_package is = refl
not_called head operator xs p (seeks truth) is = refl
not_called head operator xs p selects is = refl
not_called head operator xs p (guards truth) is = refl
not_called head operator xs p keeps_first is = refl
not_called head operator xs p asserts is = refl
not_called head operator xs p (changes function) is = refl

module _ (names : List Name) (head : Object) (xs : List Object) (p : Point) where
  abbrev performed_at : Operation → Point → Counting Object
  performed_at operation later = at_point later (performed names operation Property xs later.state)

  called_by : (operation : Operation) → is_call (action_of names operation) ≡ true
      → called_operator head (operator names operation) (action_of names operation) xs p
      ≡ (if counts (operator names operation) (length xs) then spending (steps_over_packages head) p (performed_at operation) else Err ARGUMENT_COUNT)
  called_by MakeList is = refl
  called_by Get is = refl
  called_by Remprop is = refl
  called_by SymbolPlist is = refl
  called_by MakePackage is = refl
  called_by Export is = refl
  called_by Import is = refl
  called_by UsePackage is = refl
  called_by Intern is = refl
  called_by CopyReadtable is = refl
  called_by InReadtable is = refl
  called_by SetSyntaxFromChar is = refl
  called_by SetMacroCharacter is = refl
  called_by GetMacroCharacter is = refl
  called_by MakeDispatchMacroCharacter is = refl
  called_by SetDispatchMacroCharacter is = refl
  called_by GetDispatchMacroCharacter is = refl
  called_by ReadtableCase is = refl
  called_by (Computes function) is = refl
  called_by (LooksUp operator) is = refl
  called_by Quote is = absurd (false≢true is)
  called_by Progn is = absurd (false≢true is)
  called_by If is = absurd (false≢true is)
  called_by Setf is = absurd (false≢true is)
  called_by Incf is = absurd (false≢true is)
  called_by Push is = absurd (false≢true is)
  called_by InPackage is = absurd (false≢true is)
  called_by (Decides And) is = absurd (false≢true is)
  called_by (Decides Or) is = absurd (false≢true is)
  called_by (Decides Cond) is = absurd (false≢true is)
  called_by (Decides When) is = absurd (false≢true is)
  called_by (Decides Unless) is = absurd (false≢true is)
  called_by (Decides Prog1) is = absurd (false≢true is)
  called_by (Decides Assert) is = absurd (false≢true is)
  called_by (Changes operator) is = absurd (false≢true is)

  abbrev counted_or : Operation → Bool → Counting Object
  counted_or operation b = if b then spending (steps_over_packages head) p (performed_at operation) else Err ARGUMENT_COUNT

  pub called_other : (operation : Operation) → is_call (action_of names operation) ≡ true → counts (operator names operation) (length xs) ≡ false
      → called_operator head (operator names operation) (action_of names operation) xs p ≡ Err ARGUMENT_COUNT
  called_other operation is other = called_by operation is ∙ ap (counted_or operation) other

  pub called_as : (operation : Operation) (steps : ℕ) → is_call (action_of names operation) ≡ true → counts (operator names operation) (length xs) ≡ true → steps ≡ steps_over_packages head
      → called_operator head (operator names operation) (action_of names operation) xs p ≡ spending steps p (performed_at operation)
  called_as operation steps is counted over = called_by operation is ∙ ap (counted_or operation) counted ∙ ap (λ n. spending n p (performed_at operation)) (sym over)

-- ---- no values, and the first of them
pub no_first : (rules : LexicalRules) (ds : List Datum) (p : Point) → length ds ≡ 0 → named_by_first rules (objects ds) p ≡ Err ARGUMENT_COUNT
no_first rules [] p none = refl
no_first rules (d ∷ ds) p none = absurd (omega (arith, none))

pub no_global : (rules : LexicalRules) (ds : List Datum) (p : Point) → length ds ≡ 0 → global_value rules (objects ds) p ≡ Err NOT_A_FORM
no_global rules [] p none = refl
no_global rules (d ∷ ds) p none = absurd (omega (arith, none))

pub other_global : (rules : LexicalRules) (xs : List Object) (p : Point) (x : Object) → None ≡ a_symbol x → global_value rules (x ∷ xs) p ≡ Err NOT_A_FORM
other_global rules xs p (symbol h n) none = absurd (false≢true (ap is_some none))
other_global rules xs p (integer n) none = refl
other_global rules xs p (rational n d) none = refl
other_global rules xs p (character c) none = refl
other_global rules xs p (text b) none = refl
other_global rules xs p (uninterned n) none = refl
other_global rules xs p (pair a b) none = refl
other_global rules xs p (vector ys) none = refl

pub no_reader : (names : List Name) (n : ℕ) (ds : List Datum) (p : Point) → length ds ≡ 0 → ((ways names).rules n).defined_reader (list_of (objects ds)) p ≡ Err ARGUMENT_KIND
no_reader names n [] p none = refl
no_reader names n (d ∷ ds) p none = absurd (omega (arith, none))

pub first_and_rest : (ds : List Datum) → 0 < length ds → pair (first (list_of (objects ds))) (rest (list_of (objects ds))) ≡ list_of (objects ds)
first_and_rest [] some = absurd (omega (arith, some))
first_and_rest (d ∷ ds) some = refl

pub first_removed : (ds others : List Datum) (d : Datum) → 0 < length ds → d ≡ slice_index_or ds 0 d → others ≡ take 0 ds ++ drop 1 ds → object_of d ∷ objects others ≡ objects ds
first_removed [] others d some is same = absurd (omega (arith, some))
first_removed (e ∷ es) others d some is same = ap (λ x. object_of x ∷ objects others) is ∙ ap (λ l. object_of e ∷ objects l) same
