-- A form by its head and its arguments.
--     place_stops      what is no place
--     form_as      by what is at the head
--     begun_form, other_head, list_begun      a list
--     step_stops, step_on      steps that are taken
--     constant_value, uninterned_value, symbol_here, dotted_value, listed      a datum
use Rattle.std.proofs.Common.{◌≡◌, ℕ, Bool, true, false, ◌&&◌, not, if◌then◌else◌, List, [], Option, Some, None, is_some, unwrap_or, Result, Ok, Err, refl, sym, ap, subst, ◌∙◌}
use Rattle.std.proofs.lemmas.Bool.{false≢true}
use Rattle.lisp_object.specs.declared.datum.Datum
use Rattle.lisp_object.specs.declared.datum.Datum.{Datum}
use Rattle.lisp_object.specs.Object.{Object, integer, rational, character, text, symbol, uninterned, pair, vector, list_of, is_proper_list}
use Rattle.lisp_object.specs.Datum.{object_of, is_proper}
use Rattle.lisp_object.specs.declared.refusal.TheConstants.{NOT_A_FORM}
use Rattle.lisp_object.proofs.Objects.{object_of-List}
use Rattle.package_table.specs.Table.{Name}
use Rattle.plist_state.specs.Properties.{Symbol}
use Rattle.plist_state.specs.State.{WorldState}
use Rattle.lisp_operators.specs.ArgumentKinds.{a_symbol}
use Rattle.lisp_operators.specs.EvaluationAnswers.{objects}
use Rattle.lisp_operators.specs.Members.{symbol_of_member}
use Rattle.lisp_operators.specs.declared.error.EvaluationError.{EvaluationError}
use Rattle.lisp_operators.specs.declared.error.EvaluationError.TheVariants.{Refused, OutOfMemory}
use Rattle.lisp_operators.proofs.Shapes.{dotted_pair}
use Rattle.evaluator.specs.declared.operation.Operation.{Operation}
use Rattle.evaluator.specs.Operators.{is_interned}
use Rattle.evaluator.specs.Operations.{action_of}
use Rattle.evaluator.specs.ArgumentValues.{refusal_of_place, RefusesIfSome}
use Rattle.evaluator.proofs.Steps.{is_constant}
use Rattle.kept_functions.specs.declared.bounds.TheConstants.{TOO_MANY_STEPS}
use Rattle.kept_functions.specs.Environments.{Environment, bound}
use Rattle.kept_functions.specs.Counting.{Point, Counting, here, spending}
use Rattle.lexical_evaluation.specs.declared.machine.head.FormHead.{FormHead}
use Rattle.lexical_evaluation.specs.declared.machine.Machine.{Machine}
use Rattle.lexical_evaluation.specs.declared.machine.NextStep.{NextStep}
use Rattle.lexical_evaluation.specs.Values.{LexicalRules, value_in, variable_value, action_in, form_value, head_of}
use Rattle.lexical_evaluation.specs.Machine.{Ways, KeepsOutcome, ComesOn, Spends, comes_to, around, point_of}
use Rattle.lexical_evaluation.specs.Ways.{ways, head_shown, parts_in}
use Rattle.lexical_evaluation.proofs.Beginning.{refused_place}
use Rattle.lexical_evaluation.proofs.Calling.{spent_so, spent_out}
use Rattle.lexical_evaluation.proofs.Continuing.{refused}

pub place_stops : (A : Type 0) (names : List Name) (s : WorldState) (head : Object) (m : Machine) (operation : Operation) (arguments : Object) (error : EvaluationError) → RefusesIfSome {A = A} (refusal_of_place operation arguments) (Err error)
    → ComesOn (ways names) s (comes_to (ways names) m (action_in head (point_of m s) (action_of names operation) arguments (parts_in ((ways names).rules m.deeper) (around m) (point_of m s) arguments))) m (Err error)
place_stops A names s head m operation arguments (Refused code) is =
    ap (comes_to (ways names) m) (refused_place names head (point_of m s) arguments (parts_in ((ways names).rules m.deeper) (around m) (point_of m s) arguments) operation code is)
    ∙ refused (ways names) m code
place_stops A names s head m operation arguments OutOfMemory is = absurd is

pub form_as : (old new : Machine) (result : Result NextStep EvaluationError) (names : List Name) (s : WorldState) (x arguments : Object) (head this : FormHead) → head ≡ this
    → KeepsOutcome (ways names) s s old new result (λ rules seen p. form_value rules p x (head_shown names this) arguments (parts_in rules seen p arguments))
    → KeepsOutcome (ways names) s s old new result (λ rules seen p. form_value rules p x (head_shown names head) arguments (parts_in rules seen p arguments))
form_as old new result names s x arguments head this is keeps =
    subst (λ h. KeepsOutcome (ways names) s s old new result (λ rules seen p. form_value rules p x (head_shown names h) arguments (parts_in rules seen p arguments))) (sym is) keeps

-- ---- a list
abbrev pub begun_form : Object → Object → LexicalRules → Environment → Point → Counting Object
begun_form x arguments rules seen begun = form_value rules begun x (head_of rules begun.state x) arguments (parts_in rules seen begun arguments)

module _ (rules : LexicalRules) (seen : Environment) (p : Point) where
  abbrev begun_at : Object → Object → Point → Counting Object
  begun_at x arguments begun = form_value rules begun x (head_of rules begun.state x) arguments (parts_in rules seen begun arguments)

  abbrev list_at : Bool → Object → Object → Counting Object
  list_at b x arguments = if not b then Err NOT_A_FORM else spending 1 p (begun_at x arguments)

  pub other_head : (x arguments : Object) → None ≡ a_symbol x → value_in rules seen p (pair x arguments) ≡ Err NOT_A_FORM
  unfolding value_in
  other_head (symbol h n) arguments none = absurd (false≢true (ap is_some none))
  other_head (integer n) arguments none = refl
  other_head (rational n d) arguments none = refl
  other_head (character c) arguments none = refl
  other_head (text b) arguments none = refl
  other_head (uninterned n) arguments none = refl
  other_head (pair a b) arguments none = refl
  other_head (vector xs) arguments none = refl

  pub list_begun : (h n : Name) (arguments : Object) → is_proper_list arguments ≡ true → value_in rules seen p (pair (symbol h n) arguments) ≡ spending 1 p (begun_at (symbol h n) arguments)
  unfolding value_in
  list_begun h n arguments proper = ap (λ b. list_at b (symbol h n) arguments) proper

  and_false : (b : Bool) → (b && false) ≡ false
  and_false true = refl
  and_false false = refl

  dotted_pair_value : (x arguments : Object) → is_proper_list arguments ≡ false → value_in rules seen p (pair x arguments) ≡ Err NOT_A_FORM
  unfolding value_in
  dotted_pair_value x arguments none = ap (λ b. list_at (is_interned x && b) x arguments) none ∙ ap (λ b. list_at b x arguments) (and_false (is_interned x))

  pub dotted_value : (d : Datum) (items : List Datum) (tail : Option Datum) → d ≡ Datum.List items tail → is_proper d ≡ true → is_some tail ≡ true → value_in rules seen p (object_of d) ≡ Err NOT_A_FORM
  dotted_value d items tail is proper some =
      let shape = dotted_pair d items tail is proper some in
      ap (value_in rules seen p) shape.2 ∙ dotted_pair_value shape.0 shape.1 shape.3

  -- ---- atoms
  pub constant_value : (x : Object) → is_constant x ≡ true → value_in rules seen p x ≡ here x p
  unfolding value_in
  constant_value (integer n) is = refl
  constant_value (rational n d) is = refl
  constant_value (character c) is = refl
  constant_value (text b) is = refl
  constant_value (vector xs) is = refl
  constant_value (symbol h n) is = absurd (false≢true is)
  constant_value (uninterned n) is = absurd (false≢true is)
  constant_value (pair a b) is = absurd (false≢true is)

  pub uninterned_value : (name : Name) → value_in rules seen p (uninterned name) ≡ Err NOT_A_FORM
  unfolding value_in
  uninterned_value name = refl

  symbol_at : (x : Symbol) → value_in rules seen p (symbol x.0 x.1) ≡ variable_value rules (x.0, x.1) p (bound seen (x.0, x.1))
  unfolding value_in
  symbol_at x = refl

  symbol_named : (x : Object) → is_interned x ≡ true → x ≡ symbol (unwrap_or (a_symbol x) ([], [])).0 (unwrap_or (a_symbol x) ([], [])).1
  symbol_named (symbol h n) is = refl
  symbol_named (integer n) is = absurd (false≢true is)
  symbol_named (rational n d) is = absurd (false≢true is)
  symbol_named (character c) is = absurd (false≢true is)
  symbol_named (text b) is = absurd (false≢true is)
  symbol_named (uninterned n) is = absurd (false≢true is)
  symbol_named (pair a b) is = absurd (false≢true is)
  symbol_named (vector xs) is = absurd (false≢true is)

  pub symbol_is : (d : Datum) (h n : Name) → is_interned (object_of d) ≡ true → (h, n) ≡ symbol_of_member d → object_of d ≡ symbol h n
  symbol_is d h n is named = symbol_named (object_of d) is ∙ ap (λ (y : Symbol). symbol y.0 y.1) (sym named)

  pub symbol_here : (d : Datum) (h n : Name) → is_interned (object_of d) ≡ true → (h, n) ≡ symbol_of_member d → value_in rules seen p (object_of d) ≡ variable_value rules (h, n) p (bound seen (h, n))
  symbol_here d h n is named = ap (value_in rules seen p) (symbol_is d h n is named) ∙ symbol_at (h, n)

pub listed : (d : Datum) (items xs : List Datum) (tail : Option Datum) → d ≡ Datum.List items tail → is_some tail ≡ false → xs ≡ items → object_of d ≡ list_of (objects xs)
listed d items xs None is none same = ap object_of is ∙ object_of-List items ∙ ap (λ l. list_of (objects l)) (sym same)
listed d items xs (Some end') is none same = absurd (false≢true (sym none))

-- ---- steps that are taken
module _ (w : Ways) (s : WorldState) (n : ℕ) (old mid : Machine) (f : LexicalRules → Environment → Point → Counting Object) where
  pub step_stops : (new : Machine) (error : EvaluationError) → Spends n old mid (Err error) → ComesOn w s (comes_to w old (spending n (point_of old s) (f (w.rules old.deeper) (around old)))) new (Err error)
  step_stops new (Refused code) spent =
      ap (comes_to w old) (spent_out n (point_of old s) (f (w.rules old.deeper) (around old)) spent.0) ∙ refused w old TOO_MANY_STEPS ∙ ap Err (sym spent.1)
  step_stops new OutOfMemory spent = tt

  pub step_taken : (u : Unit {0}) → Spends n old mid (Ok u) → comes_to w old (spending n (point_of old s) (f (w.rules old.deeper) (around old))) ≡ comes_to w mid (f (w.rules mid.deeper) (around mid) (point_of mid s))
  step_taken u spent =
      ap (comes_to w old) (spent_so n (point_of old s) (f (w.rules old.deeper) (around old)) spent.0)
      ∙ ap (λ (m : Machine). comes_to w m (f (w.rules m.deeper) (around m) (point_of m s))) (sym spent.1)
