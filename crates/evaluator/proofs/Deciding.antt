-- The operators that decide which of their forms are evaluated, a form at a time.
--     stopped, going_on      a form that is refused, and one that has a value, before another
--     proper_test, assert_refused, assert_false, assert_true, assert_answers      ASSERT
--     none_sought, sought_stops, sought_next, sought_here, sought_last      AND and OR
--     each_clause, no_clauses      the clauses of COND
--     conditional_is, selected_stops, selected_next, selected_test, selected_forms, none_selected      COND
--     later_items      what comes after the operator
--     guarded_stops, guarded_passes, guarded_forms      WHEN and UNLESS
--     first_stops, first_others_stop, first_kept      PROG1
use Rattle.std.proofs.Common.{◌≡◌, ◌≤◌, ◌<◌, ◌+◌, ℕ, Bool, true, false, not, ◌||◌, ◌&&◌, cond, All, List, [], ◌∷◌, Result, Ok, Err, map, length, drop, get_or, refl, sym, ap, subst, ◌∙◌, arith}
use Rattle.std.specs.Prelude.{IfOk}
use Rattle.std.proofs.Math.Seq.{drop-length}
use Rattle.std.proofs.lemmas.List.Elements.{All-tail}
use Rattle.lisp_object.specs.Object.{Object, pair, nil, list_of}
use Rattle.lisp_object.specs.Datum.{object_of}
use Rattle.lisp_object.specs.declared.datum.Datum.{Datum}
use Rattle.lisp_object.specs.declared.refusal.TheConstants.{ARGUMENT_KIND, ASSERTION_FAILED}
use Rattle.package_table.specs.Table.{Name, Table}
use Rattle.plist_state.specs.State.{WorldState}
use Rattle.lisp_operators.specs.declared.error.EvaluationError.{EvaluationError}
use Rattle.lisp_operators.specs.declared.error.EvaluationError.TheVariants.{Refused, OutOfMemory}
use Rattle.lisp_operators.specs.declared.evaluated.Evaluated.{Evaluated}
use Rattle.lisp_operators.specs.EvaluationAnswers.{Answers, done, IsArgument, KeepsArguments, IsProperValue}
use Rattle.lisp_operators.specs.Evaluation.{Done, Evaluation, gives, also, and_then}
use Rattle.lisp_operators.specs.ArgumentKinds.{is_true, is_pair}
use Rattle.lisp_operators.specs.Properties.{t as truth_symbol}
use Rattle.evaluator.specs.Operators.{first}
use Rattle.evaluator.specs.Value.{value, values, other_value, sought, selected, guarded, has_truth, is_clause, are_clauses, last, value_over}
use Rattle.evaluator.specs.ArgumentValues.{arguments_of, conditional, asserted, first_value, operation_value, sequence_value}
use Rattle.evaluator.specs.declared.operation.Operation.TheVariants.{Decides}
use Rattle.evaluator.specs.declared.decision.Decision.{Decision}
use Rattle.evaluator.specs.declared.decision.Decision.TheVariants.{Assert}
use Rattle.evaluator.specs.Operations.{OperationTakesCount}
use Rattle.evaluator.specs.declared.wanted.ValueUse.{ValueUse}
use Rattle.evaluator.specs.declared.wanted.ValueUse.TheVariants.{Truth, Nothing}
use Rattle.evaluator.specs.StandIns.{seen, stand_in}
use Rattle.evaluator.proofs.Branches.{other_one}
use Rattle.evaluator.proofs.Forms.{one_argument, arguments_from}
use Rattle.evaluator.proofs.Sequences.{any_default}
use Rattle.evaluator.proofs.Steps.{forms_from, or_false, value_first}
use Rattle.evaluator.proofs.Seen.{seen_also, refused_seen, refused_so, evaluated_so, truth_of}

-- ---- a form before another
pub stopped : (e : EvaluationError) (s u : WorldState) (o : Evaluation Object) (next : Object → WorldState → Evaluation Object) → Answers done (Err e) s o → Answers done (Err e) u (and_then o next)
stopped (Refused code) s u o next h = ap (λ p. and_then p next) h
stopped OutOfMemory s u o next h = tt

-- a form of which it is seen whether it is true, before one that its truth chooses
pub going_on : (w : ValueUse) (o : Evaluation Object) (d : Evaluated) (s : WorldState) (b : Bool) (next : Object → WorldState → Evaluation Object) → ((x : Object) → is_true (stand_in w x) ≡ is_true x)
    → seen w o ≡ Ok (done d s) → is_true (object_of d.value) ≡ b
    → (v : Object) × (stand_in w v ≡ object_of d.value) × (is_true v ≡ b) × (and_then o next ≡ also d.wrote (next v s))
going_on w o d s b next same h test =
    let so = evaluated_so w o (done d s) h in
    (so.0, so.2, sym (same so.0) ∙ ap is_true so.2 ∙ test, ap (λ p. and_then p next) so.1)

-- ---- ASSERT
pub proper_test : (u : Table) (r : Result Evaluated EvaluationError) → IfOk r (λ e. IsArgument u e.value) → IfOk r IsProperValue
proper_test u (Ok e) is = is.proper
proper_test u (Err e) is = tt

module _ (o : Evaluation Object) (s : WorldState) where
  pub assert_refused : (e : EvaluationError) → Answers done (Err e) s (seen Truth o) → Answers done (Err e) s (asserted o)
  assert_refused (Refused code) h = ap asserted (refused_so Truth (Refused code) s s o h)
  assert_refused OutOfMemory h = tt

  given : (d : Evaluated) (b : Bool) → seen Truth o ≡ Ok (done d s) → is_true (object_of d.value) ≡ b → asserted o ≡ also d.wrote (cond b (gives nil s) (Err ASSERTION_FAILED))
  given d b h test =
      let so = going_on Truth o d s b (λ x later. cond (is_true x) (gives nil later) (Err ASSERTION_FAILED)) truth_of h test in
      so.3 ∙ ap (λ k. also d.wrote (cond k (gives nil s) (Err ASSERTION_FAILED))) so.2

  pub assert_false : (d : Evaluated) → seen Truth o ≡ Ok (done d s) → is_true (object_of d.value) ≡ false → asserted o ≡ Err ASSERTION_FAILED
  assert_false d h test = given d false h test

  pub assert_true : (d : Evaluated) (r : Result Evaluated EvaluationError) → seen Truth o ≡ Ok (done d s) → is_true (object_of d.value) ≡ true → Answers done r s (also d.wrote (gives nil s)) → Answers done r s (asserted o)
  assert_true d r h test after = subst (Answers done r s) (sym (given d true h test)) after

assert_form : (names : List Name) (s : WorldState) (items : List Datum) (x : Datum) → 2 ≤ length items → x ≡ get_or items 1 x
    → operation_value names (Decides Assert) (arguments_of (map object_of items)) s ≡ asserted (value names s (object_of x))
assert_form names s items x some is =
    ap (λ l. asserted (other_value names s l)) (one_argument items x some is) ∙ ap asserted (other_one names s (object_of x) (list_of (map object_of (drop 2 items))))

pub assert_answers : (w : ValueUse) (names : List Name) (s u : WorldState) (items : List Datum) (x : Datum) (decision : Decision) (r : Result Evaluated EvaluationError) → decision ≡ Assert → OperationTakesCount (Decides decision) (length items) → x ≡ get_or items 1 x
    → Answers done r u (seen w (asserted (value names s (object_of x)))) → Answers done r u (seen w (operation_value names (Decides decision) (arguments_of (map object_of items)) s))
assert_answers w names s u items x decision r same counted is h =
    let some : 2 ≤ length items = (subst (λ d. OperationTakesCount (Decides d) (length items)) same counted).0 in
    subst (λ o. Answers done r u (seen w o))
    (sym (ap (λ d. operation_value names (Decides d) (arguments_of (map object_of items)) s) same ∙ assert_form names s items x some is)) h

-- ---- the rest of a list of forms
more_forms : (items : List Datum) (i : ℕ) (f : Datum) → i < length items → is_pair (list_of (map object_of (drop i items))) ≡ true
more_forms items i f within = ap is_pair (forms_from items i (get_or items i f) within (any_default items i f))

no_more : (items : List Datum) (i : ℕ) → i ≡ length items → list_of (map object_of (drop i items)) ≡ nil
no_more items i end = ap (λ l. list_of (map object_of l)) (ap (λ n. drop n items) end ∙ drop-length items)

-- ---- AND and OR
pub sought_of : (names : List Name) (truth : Bool) (s : WorldState) (x xs : Object)
    → sought names truth s (pair x xs) ≡ and_then (value names s x) (λ y later. cond (has_truth truth y) (gives y later) (cond (is_pair xs) (sought names truth later xs) (gives y later)))
unfolding value_over
sought_of names truth s x xs = refl

sought_nil : (names : List Name) (truth : Bool) (s : WorldState) → sought names truth s nil ≡ gives (cond truth nil truth_symbol) s
unfolding value_over
sought_nil names truth s = refl

pub none_sought : (names : List Name) (truth : Bool) (s : WorldState) (items : List Datum) → length items ≡ 1 → sought names truth s (arguments_of (map object_of items)) ≡ gives (cond truth nil truth_symbol) s
none_sought names truth s [] is = absurd (omega arith)
none_sought names truth s (x ∷ []) is = sought_nil names truth s
none_sought names truth s (x ∷ y ∷ ys) is = absurd (omega arith)

module _ (names : List Name) (truth : Bool) (s t : WorldState) (items : List Datum) (i : ℕ) (f : Datum) (within : i < length items) (at : f ≡ get_or items i f) where
  abbrev after_form : Object
  after_form = list_of (map object_of (drop (i + 1) items))

  sought_at : sought names truth s (list_of (map object_of (drop i items))) ≡ and_then (value names s (object_of f)) (λ y later. cond (has_truth truth y) (gives y later) (cond (is_pair after_form) (sought names truth later after_form) (gives y later)))
  sought_at = ap (sought names truth s) (forms_from items i f within at) ∙ sought_of names truth s (object_of f) after_form

  pub sought_stops : (w : ValueUse) (e : EvaluationError) (u : WorldState) → Answers done (Err e) t (seen w (value names s (object_of f))) → Answers done (Err e) u (sought names truth s (list_of (map object_of (drop i items))))
  sought_stops w e u h =
      subst (Answers done (Err e) u) (sym sought_at) (stopped e t u (value names s (object_of f)) _ (refused_so w e t t (value names s (object_of f)) h))

  -- the form is not the last one
  pub sought_next : (w : ValueUse) (d : Evaluated) → ((x : Object) → is_true (stand_in w x) ≡ is_true x) → i + 1 < length items → seen w (value names s (object_of f)) ≡ Ok (done d t) → has_truth truth (object_of d.value) ≡ false
      → sought names truth s (list_of (map object_of (drop i items))) ≡ also d.wrote (sought names truth t (list_of (map object_of (drop (i + 1) items))))
  sought_next w d same more h test =
      let so = going_on w (value names s (object_of f)) d t (is_true (object_of d.value)) (λ y later. cond (has_truth truth y) (gives y later) (cond (is_pair after_form) (sought names truth later after_form) (gives y later))) same h refl in
      sought_at ∙ so.3 ∙ ap (λ b. also d.wrote (cond b (gives so.0 t) (cond (is_pair after_form) (sought names truth t after_form) (gives so.0 t)))) (ap (λ b. cond truth b (not b)) so.2 ∙ test)
      ∙ ap (λ b. also d.wrote (cond b (sought names truth t after_form) (gives so.0 t))) (more_forms items (i + 1) f more)

  pub sought_here : (w : ValueUse) (d : Evaluated) → ((x : Object) → is_true (stand_in w x) ≡ is_true x) → ((x : Object) → has_truth truth x ≡ true → stand_in w x ≡ x)
      → seen w (value names s (object_of f)) ≡ Ok (done d t) → has_truth truth (object_of d.value) ≡ true → sought names truth s (list_of (map object_of (drop i items))) ≡ Ok (done d t)
  sought_here w d same kept h test =
      let so = going_on w (value names s (object_of f)) d t (is_true (object_of d.value)) (λ y later. cond (has_truth truth y) (gives y later) (cond (is_pair after_form) (sought names truth later after_form) (gives y later))) same h refl in
      let found : has_truth truth so.0 ≡ true = ap (λ b. cond truth b (not b)) so.2 ∙ test in
      sought_at ∙ so.3 ∙ ap (λ b. also d.wrote (cond b (gives so.0 t) (cond (is_pair after_form) (sought names truth t after_form) (gives so.0 t)))) found
      ∙ ap (λ b. Ok (record { value = so.0; state = t; wrote = b })) (or_false d.wrote)
      ∙ ap (λ x. Ok (record { value = x; state = t; wrote = d.wrote })) (sym (kept so.0 found) ∙ so.1)

  -- the last form
  pub sought_last : i + 1 ≡ length items → sought names truth s (list_of (map object_of (drop i items))) ≡ value names s (object_of f)
  sought_last end =
      sought_at ∙ ap (λ l. and_then (value names s (object_of f)) (λ y later. cond (has_truth truth y) (gives y later) (cond (is_pair l) (sought names truth later l) (gives y later)))) (no_more items (i + 1) end)
      ∙ itself (value names s (object_of f))
    where
      same : (d : Done Object) (b : Bool) → also d.wrote (cond b (gives d.value d.state) (gives d.value d.state)) ≡ Ok d
      same d true = ap (λ w. Ok (record { value = d.value; state = d.state; wrote = w })) (or_false d.wrote)
      same d false = ap (λ w. Ok (record { value = d.value; state = d.state; wrote = w })) (or_false d.wrote)

      itself : (o : Evaluation Object) → and_then o (λ y later. cond (has_truth truth y) (gives y later) (gives y later)) ≡ o
      itself (Err code) = refl
      itself (Ok d) = same d (has_truth truth d.value)

-- ---- the clauses of COND
-- the first of them, and the others
pub each_clause : (items : List Datum) (i : ℕ) (f : Datum) → i < length items → f ≡ get_or items i f
    → are_clauses (list_of (map object_of (drop i items))) ≡ (is_clause (object_of f) && are_clauses (list_of (map object_of (drop (i + 1) items))))
each_clause items i f within at = ap are_clauses (forms_from items i f within at)

pub no_clauses : (items : List Datum) (i : ℕ) → i ≡ length items → are_clauses (list_of (map object_of (drop i items))) ≡ true
no_clauses items i end = ap are_clauses (no_more items i end)

-- ---- COND
pub conditional_is : (names : List Name) (s : WorldState) (forms : Object) → are_clauses forms ≡ true → conditional names s forms ≡ selected names s forms
conditional_is names s forms all = ap (λ b. cond b (selected names s forms) (Err ARGUMENT_KIND)) all

pub selected_of : (names : List Name) (s : WorldState) (test forms others : Object)
    → selected names s (pair (pair test forms) others) ≡ and_then (value names s test) (λ y later. cond (is_true y) (cond (is_pair forms) (sequence_value names later forms) (gives y later)) (selected names later others))
unfolding value_over
selected_of names s test forms others = refl

selected_nil : (names : List Name) (s : WorldState) → selected names s nil ≡ gives nil s
unfolding value_over
selected_nil names s = refl

pub none_selected : (names : List Name) (s : WorldState) (items : List Datum) (i : ℕ) → i ≡ length items → selected names s (list_of (map object_of (drop i items))) ≡ gives nil s
none_selected names s items i end = ap (selected names s) (no_more items i end) ∙ selected_nil names s

module _ (names : List Name) (s t : WorldState) (items clause : List Datum) (i : ℕ) (f x : Datum) (within : i < length items) (at : f ≡ get_or items i f)
    (is : object_of f ≡ list_of (map object_of clause)) (some : 1 ≤ length clause) (head : x ≡ get_or clause 0 x) where
  abbrev body : Object
  body = list_of (map object_of (drop 1 clause))

  abbrev others : Object
  others = list_of (map object_of (drop (i + 1) items))

  selected_at : selected names s (list_of (map object_of (drop i items)))
      ≡ and_then (value names s (object_of x)) (λ y later. cond (is_true y) (cond (is_pair body) (sequence_value names later body) (gives y later)) (selected names later others))
  selected_at =
      ap (selected names s) (forms_from items i f within at ∙ ap (λ c. pair c others) (is ∙ forms_from clause 0 x some head)) ∙ selected_of names s (object_of x) body others

  pub selected_stops : (w : ValueUse) (e : EvaluationError) (u : WorldState) → Answers done (Err e) t (seen w (value names s (object_of x))) → Answers done (Err e) u (selected names s (list_of (map object_of (drop i items))))
  selected_stops w e u h =
      subst (Answers done (Err e) u) (sym selected_at) (stopped e t u (value names s (object_of x)) _ (refused_so w e t t (value names s (object_of x)) h))

  selected_so : (w : ValueUse) (d : Evaluated) (b : Bool) → ((z : Object) → is_true (stand_in w z) ≡ is_true z) → seen w (value names s (object_of x)) ≡ Ok (done d t) → is_true (object_of d.value) ≡ b
      → (v : Object) × (stand_in w v ≡ object_of d.value) × (is_true v ≡ b)
      × (selected names s (list_of (map object_of (drop i items))) ≡ also d.wrote (cond b (cond (is_pair body) (sequence_value names t body) (gives v t)) (selected names t others)))
  selected_so w d b same h test =
      let so = going_on w (value names s (object_of x)) d t b (λ y later. cond (is_true y) (cond (is_pair body) (sequence_value names later body) (gives y later)) (selected names later others)) same h test in
      (so.0, so.1, so.2, selected_at ∙ so.3 ∙ ap (λ k. also d.wrote (cond k (cond (is_pair body) (sequence_value names t body) (gives so.0 t)) (selected names t others))) so.2)

  pub selected_next : (w : ValueUse) (d : Evaluated) → ((z : Object) → is_true (stand_in w z) ≡ is_true z) → seen w (value names s (object_of x)) ≡ Ok (done d t) → is_true (object_of d.value) ≡ false
      → selected names s (list_of (map object_of (drop i items))) ≡ also d.wrote (selected names t (list_of (map object_of (drop (i + 1) items))))
  selected_next w d same h test = (selected_so w d false same h test).3

  -- the test alone, of which the value is kept
  pub selected_test : (w : ValueUse) (d : Evaluated) → ((z : Object) → is_true (stand_in w z) ≡ is_true z) → ((z : Object) → has_truth true z ≡ true → stand_in w z ≡ z) → length clause ≡ 1
      → seen w (value names s (object_of x)) ≡ Ok (done d t) → is_true (object_of d.value) ≡ true → selected names s (list_of (map object_of (drop i items))) ≡ Ok (done d t)
  selected_test w d same kept one h test =
      let so = selected_so w d true same h test in
      so.3 ∙ ap (λ l. also d.wrote (cond (is_pair l) (sequence_value names t l) (gives so.0 t))) (no_more clause 1 (sym one))
      ∙ ap (λ b. Ok (record { value = so.0; state = t; wrote = b })) (or_false d.wrote)
      ∙ ap (λ z. Ok (record { value = z; state = t; wrote = d.wrote })) (sym (kept so.0 so.2) ∙ so.1)

  pub selected_forms : (w : ValueUse) (d : Evaluated) → ((z : Object) → is_true (stand_in w z) ≡ is_true z) → 1 < length clause → seen w (value names s (object_of x)) ≡ Ok (done d t) → is_true (object_of d.value) ≡ true
      → selected names s (list_of (map object_of (drop i items))) ≡ also d.wrote (sequence_value names t (arguments_of (map object_of clause)))
  selected_forms w d same more h test =
      let so = selected_so w d true same h test in
      so.3 ∙ ap (λ b. also d.wrote (cond b (sequence_value names t body) (gives so.0 t))) (more_forms clause 1 f more)
      ∙ ap (λ l. also d.wrote (sequence_value names t l)) (sym (arguments_from clause))

-- ---- WHEN and UNLESS
pub guarded_of : (names : List Name) (truth : Bool) (s : WorldState) (x forms : Object)
    → guarded names truth s (pair x forms) ≡ and_then (value names s x) (λ y later. cond (has_truth truth y) (sequence_value names later forms) (gives nil later))
unfolding value_over
guarded_of names truth s x forms = refl

-- the arguments of a list without its head, which are those after the first
later_arguments : (items xs : List Datum) → 2 ≤ length items → xs ≡ drop 1 items → arguments_of (map object_of xs) ≡ list_of (map object_of (drop 2 items))
later_arguments [] xs some same = absurd (omega arith)
later_arguments (x ∷ []) xs some same = absurd (omega arith)
later_arguments (x ∷ y ∷ ys) xs some same = ap (λ l. arguments_of (map object_of l)) same

pub later_items : (u v : Table) (items xs : List Datum) → 2 ≤ length items → xs ≡ drop 1 items → KeepsArguments u v → All (IsArgument u) items → (1 ≤ length xs) × All (IsArgument v) xs
later_items u v [] xs some same keeps all = absurd (omega arith)
later_items u v (x ∷ []) xs some same keeps all = absurd (omega arith)
later_items u v (x ∷ y ∷ ys) xs some same keeps all =
    subst (λ l. (1 ≤ length l) × All (IsArgument v) l) (sym same) (omega arith, λ k d h. keeps _ (All-tail (IsArgument u) x (y ∷ ys) all k d h))

module _ (w : ValueUse) (names : List Name) (truth : Bool) (s t : WorldState) (items : List Datum) (x : Datum) (some : 2 ≤ length items) (is : x ≡ get_or items 1 x) where
  abbrev forms : Object
  forms = list_of (map object_of (drop 2 items))

  guarded_at : guarded names truth s (arguments_of (map object_of items)) ≡ and_then (value names s (object_of x)) (λ y later. cond (has_truth truth y) (sequence_value names later forms) (gives nil later))
  guarded_at = ap (guarded names truth s) (one_argument items x some is) ∙ guarded_of names truth s (object_of x) forms

  pub guarded_stops : (e : EvaluationError) (u : WorldState) → Answers done (Err e) t (seen Truth (value names s (object_of x))) → Answers done (Err e) u (seen w (guarded names truth s (arguments_of (map object_of items))))
  guarded_stops e u h =
      refused_seen w e u _ (subst (Answers done (Err e) u) (sym guarded_at) (stopped e t u (value names s (object_of x)) _ (refused_so Truth e t t (value names s (object_of x)) h)))

  guarded_so : (d : Evaluated) (b : Bool) → seen Truth (value names s (object_of x)) ≡ Ok (done d t) → has_truth truth (object_of d.value) ≡ b
      → seen w (guarded names truth s (arguments_of (map object_of items))) ≡ also d.wrote (seen w (cond b (sequence_value names t forms) (gives nil t)))
  guarded_so d b h test =
      let so = going_on Truth (value names s (object_of x)) d t (is_true (object_of d.value)) (λ y later. cond (has_truth truth y) (sequence_value names later forms) (gives nil later)) truth_of h refl in
      ap (seen w) (guarded_at ∙ so.3 ∙ ap (λ k. also d.wrote (cond k (sequence_value names t forms) (gives nil t))) (ap (λ b. cond truth b (not b)) so.2 ∙ test))
      ∙ seen_also w d.wrote (cond b (sequence_value names t forms) (gives nil t))

  pub guarded_passes : (d : Evaluated) (r : Result Evaluated EvaluationError) (u : WorldState) → seen Truth (value names s (object_of x)) ≡ Ok (done d t) → has_truth truth (object_of d.value) ≡ false
      → Answers done r u (also d.wrote (seen w (gives nil t))) → Answers done r u (seen w (guarded names truth s (arguments_of (map object_of items))))
  guarded_passes d r u h test after = subst (Answers done r u) (sym (guarded_so d false h test)) after

  pub guarded_forms : (xs : List Datum) → xs ≡ drop 1 items → (d : Evaluated) (r : Result Evaluated EvaluationError) (u : WorldState) → seen Truth (value names s (object_of x)) ≡ Ok (done d t) → has_truth truth (object_of d.value) ≡ true
      → Answers done r u (also d.wrote (seen w (sequence_value names t (arguments_of (map object_of xs))))) → Answers done r u (seen w (guarded names truth s (arguments_of (map object_of items))))
  guarded_forms xs same d r u h test after =
      subst (Answers done r u) (ap (λ l. also d.wrote (seen w (sequence_value names t l))) (later_arguments items xs some same) ∙ sym (guarded_so d true h test)) after

-- ---- PROG1
-- the first of some values stays it, whatever comes after it
first_of : (y : Object) (v : Bool) (o : Evaluation (List Object))
    → and_then (also v (and_then o (λ ys end'. gives (y ∷ ys) end'))) (λ xs later. gives (first (list_of xs)) later) ≡ also v (and_then (and_then o (λ xs later. gives (last xs) later)) (λ z later. gives y later))
first_of y v (Err code) = refl
first_of y v (Ok d) = ap (λ b. Ok (record { value = y; state = d.state; wrote = b })) (ors v d.wrote)
  where
    ors : (a b : Bool) → ((a || (b || false)) || false) ≡ (a || ((b || false) || false))
    ors true b = refl
    ors false true = refl
    ors false false = refl

module _ (w : ValueUse) (names : List Name) (s t : WorldState) (items : List Datum) (x : Datum) (some : 2 ≤ length items) (is : x ≡ get_or items 1 x) where
  first_at : first_value names s (arguments_of (map object_of items)) ≡ first_value names s (pair (object_of x) (list_of (map object_of (drop 2 items))))
  first_at = ap (first_value names s) (one_argument items x some is)

  first_refused : (xs : Object) (code : ℕ) → value names s (object_of x) ≡ Err code → first_value names s (pair (object_of x) xs) ≡ Err code
  unfolding value_over
  first_refused xs code e = ap (λ o. and_then (and_then o (λ y later. and_then (values names later xs) (λ ys end'. gives (y ∷ ys) end'))) (λ ys later. gives (first (list_of ys)) later)) e

  pub first_stops : (e : EvaluationError) (u : WorldState) → Answers done (Err e) t (seen w (value names s (object_of x))) → Answers done (Err e) u (seen w (first_value names s (arguments_of (map object_of items))))
  first_stops (Refused code) u h =
      ap (seen w) (first_at ∙ first_refused (list_of (map object_of (drop 2 items))) code (refused_so w (Refused code) t t (value names s (object_of x)) h))
  first_stops OutOfMemory u h = tt

  first_so : (xs : List Datum) → xs ≡ drop 1 items → (v : Object) (b : Bool) → value names s (object_of x) ≡ Ok (record { value = v; state = t; wrote = b })
      → first_value names s (arguments_of (map object_of items)) ≡ also b (and_then (sequence_value names t (arguments_of (map object_of xs))) (λ z later. gives v later))
  first_so xs same v b h =
      first_at ∙ ap (λ o. and_then o (λ xs later. gives (first (list_of xs)) later)) (value_first names s (object_of x) (list_of (map object_of (drop 2 items))) v t b h)
      ∙ first_of v b (values names t (list_of (map object_of (drop 2 items))))
      ∙ ap (λ l. also b (and_then (sequence_value names t l) (λ z later. gives v later))) (sym (later_arguments items xs some same))

  pub first_others_stop : (xs : List Datum) → xs ≡ drop 1 items → (d : Evaluated) (e : EvaluationError) (u : WorldState) → seen w (value names s (object_of x)) ≡ Ok (done d t)
      → Answers done (Err e) u (seen Nothing (sequence_value names t (arguments_of (map object_of xs)))) → Answers done (Err e) u (seen w (first_value names s (arguments_of (map object_of items))))
  first_others_stop xs same d (Refused code) u h stops =
      let so = evaluated_so w (value names s (object_of x)) (done d t) h in
      ap (seen w) (first_so xs same so.0 d.wrote so.1
      ∙ ap (λ o. also d.wrote (and_then o (λ z later. gives so.0 later))) (refused_so Nothing (Refused code) u u (sequence_value names t (arguments_of (map object_of xs))) stops))
  first_others_stop xs same d OutOfMemory u h stops = tt

  pub first_kept : (xs : List Datum) → xs ≡ drop 1 items → (d e : Evaluated) (u : WorldState) (b : Bool) → seen w (value names s (object_of x)) ≡ Ok (done d t)
      → seen Nothing (sequence_value names t (arguments_of (map object_of xs))) ≡ Ok (done e u) → b ≡ (d.wrote || e.wrote)
      → seen w (first_value names s (arguments_of (map object_of items))) ≡ Ok (record { value = object_of d.value; state = u; wrote = b })
  first_kept xs same d e u b h later wrote =
      let so = evaluated_so w (value names s (object_of x)) (done d t) h in
      let more = evaluated_so Nothing (sequence_value names t (arguments_of (map object_of xs))) (done e u) later in
      ap (seen w) (first_so xs same so.0 d.wrote so.1 ∙ ap (λ o. also d.wrote (and_then o (λ z later. gives so.0 later))) more.1)
      ∙ ap (λ k. Ok (record { value = stand_in w so.0; state = u; wrote = d.wrote || k })) (or_false e.wrote)
      ∙ ap (λ k. Ok (record { value = stand_in w so.0; state = u; wrote = k })) (sym wrote)
      ∙ ap (λ z. Ok (record { value = z; state = u; wrote = b })) so.2
