-- The values of which a datum is LIST.
--     listed_items, no_items, all_proper      of a list, and of what is none
--     listed_then      a function of them, where it takes any number
--     here, refused_here      a value in a state, and a refusal
use Rattle.std.proofs.Common.{◌≡◌, ℕ, Bool, true, false, ◌||◌, cond, nat_lt, List, [], ◌∷◌, Option, Some, None, Result, Ok, Err, All, codes, map, refl, sym, ap, ◌∙◌}
use Rattle.std.proofs.lemmas.Bool.{and_parts, false≢true}
use Rattle.std.proofs.lemmas.List.Elements.{All-cons, All-nil}
use Rattle.std.specs.List.{list_all}
use Rattle.lisp_object.specs.declared.datum.Datum
use Rattle.lisp_object.specs.declared.datum.Datum.{Datum}
use Rattle.lisp_object.specs.Object.{Object, nil, pairs, list_of, is_proper_list, object_is_list, object_depth, object_size}
use Rattle.lisp_object.specs.Datum.{object_of, is_proper}
use Rattle.lisp_object.proofs.Lists.{is_list-other}
use Rattle.lisp_object.proofs.Objects.{object_of-List, object_of-dotted, object_of-Symbol}
use Rattle.lisp_object.proofs.ProperLists.{end_of_proper, list_object, no_list_object, no_proper_list, pairs_proper, proper_pairs}
use Rattle.plist_state.specs.State.{WorldState}
use Rattle.lisp_operators.specs.declared.error.EvaluationError.{EvaluationError}
use Rattle.lisp_operators.specs.declared.error.EvaluationError.TheVariants.{Refused, OutOfMemory}
use Rattle.lisp_operators.specs.declared.evaluated.Evaluated.{Evaluated}
use Rattle.lisp_operators.specs.EvaluationAnswers.{Answers, done}
use Rattle.lisp_operators.specs.Evaluation.{Done, Evaluation, gives, also, and_then}
use Rattle.lisp_operators.specs.ArgumentKinds.{is_pair}
use Rattle.lisp_operators.specs.Properties.{list}
use Rattle.value_functions.specs.declared.functions.ValueFunction.{ValueFunction}
use Rattle.value_functions.specs.FunctionAnswers.{AnswersValue}
use Rattle.value_functions.specs.Functions.{most_arguments, function_value, if_listed}
use Rattle.evaluator.specs.Operators.{first, computed, computed_value, value_here}
use Rattle.evaluator.specs.Value.{rest}
use Rattle.evaluator.proofs.Steps.{or_false}

-- ---- items
same_items : (ys xs : List Object) → pairs ys nil ≡ pairs xs nil → ys ≡ xs
same_items [] [] is = refl
same_items [] (x ∷ xs) is = absurd (false≢true (ap is_pair is))
same_items (y ∷ ys) [] is = absurd (false≢true (ap is_pair (sym is)))
same_items (y ∷ ys) (x ∷ xs) is = ap (λ z. z ∷ ys) (ap first is) ∙ ap (λ zs. x ∷ zs) (same_items ys xs (ap rest is))

pub listed_items : (d : Datum) (items : List Datum) (tail : Option Datum) (xs : List Object) → d ≡ Datum.List items tail → is_proper d ≡ true → object_of d ≡ list_of xs → map object_of items ≡ xs
listed_items d items None xs is proper same = same_items (map object_of items) xs (sym (ap object_of is ∙ object_of-List items) ∙ same)
listed_items d items (Some end) xs is proper same =
    let last = end_of_proper items end (ap is_proper (sym is) ∙ proper) in
    absurd (false≢true (sym (pairs_proper (map object_of items) (object_of end) ∙ no_proper_list (object_of end) (no_list_object end last.0 last.1))
    ∙ ap is_proper_list (sym (ap object_of is ∙ object_of-dotted items end) ∙ same) ∙ proper_pairs xs))

pub no_items : (d : Datum) (xs : List Object) → is_proper d ≡ true → ((items : List Datum) (tail : Option Datum) → d ≡ Datum.List items tail → ⊥) → object_of d ≡ list_of xs → [] ≡ xs
no_items d [] proper other same = refl
no_items d (x ∷ xs) proper other same = absurd (false≢true (sym (is_list-other d other not_nil) ∙ list_object d proper ∙ ap object_is_list same))
  where
    not_nil : d ≡ Datum.Symbol (codes "COMMON-LISP") (codes "NIL") → ⊥
    not_nil e = false≢true (ap is_pair (sym (ap object_of e ∙ object_of-Symbol (codes "COMMON-LISP") (codes "NIL")) ∙ same))

-- ---- functions of values
pub here : (s : WorldState) (v : Result Object ℕ) (d : Datum) → AnswersValue (Ok d) v → value_here s v ≡ Ok (record { value = object_of d; state = s; wrote = false })
here s v d is = ap (value_here s) is

pub refused_here : (s : WorldState) (v : Result Object ℕ) (e : EvaluationError) → AnswersValue (Err e) v → Answers done (Err e) s (value_here s v)
refused_here s v (Refused code) is = ap (value_here s) is
refused_here s v OutOfMemory is = tt

pub all_proper : (xs : List Datum) → list_all is_proper xs ≡ true → All (λ d. is_proper d ≡ true) xs
all_proper [] e = All-nil (λ d. is_proper d ≡ true)
all_proper (x ∷ xs) e =
    let both = and_parts (is_proper x) (list_all is_proper xs) e in
    All-cons (λ d. is_proper d ≡ true) x xs both.0 (all_proper xs both.1)

-- ---- LIST of values, and a function of them
module _ (xs : List Object) (w : Bool) (t : WorldState) (e : Evaluated) (s : WorldState) (v : Result Object ℕ) where
  -- where these are the two tests of LIST
  abbrev tested : Bool → Bool → Evaluation Object → Evaluation Object
  tested deep large on = cond deep (Err 45) (cond large (Err 46) on)

  abbrev tested_value : Bool → Bool → Result Object ℕ
  tested_value deep large = cond deep (Err 45) (cond large (Err 46) v)

  by_tests : (deep large : Bool) → also w (tested deep large (gives (list_of xs) t)) ≡ Ok (done e s)
      → (list_of xs ≡ object_of e.value) × (also w (value_here t (tested_value deep large)) ≡ also e.wrote (value_here s v))
  by_tests true large is = absurd (cc)
  by_tests false true is = absurd (cc)
  by_tests false false is = (
    ap (λ (f : Done Object). f.value) same,
    ap (λ u. also w (value_here u v)) (ap (λ (f : Done Object). f.state) same)
        ∙ ap (λ b. also b (value_here s v)) (sym (or_false w) ∙ ap (λ (f : Done Object). f.wrote) same),
  )
    where
      same : ◌≡◌ {A = Done Object} (record { value = list_of xs; state = t; wrote = w || false }) (done e s)
      same = cc

-- A function that takes any number of values, of those of which this is LIST.
pub listed_then : (function : ValueFunction) (values : Evaluation (List Object)) (e : Evaluated) (s : WorldState) → most_arguments function ≡ None → and_then values list ≡ Ok (done e s)
    → (xs : List Object) × (object_of e.value ≡ list_of xs) × (and_then values (computed function) ≡ also e.wrote (computed_value function xs s))
listed_then function (Err code) e s any is = absurd (cc)
listed_then function (Ok d) e s any is =
    let both = by_tests d.value d.wrote d.state e s (function_value function d.value) (nat_lt 100 (object_depth (list_of d.value))) (nat_lt 1000000 (object_size (list_of d.value))) is in
    (d.value, sym both.0, ap (λ m. also d.wrote (value_here d.state (if_listed m d.value (function_value function d.value)))) any ∙ both.1)

-- LIST is refused
stops : (xs : List Object) (w : Bool) (t : WorldState) (v : Result Object ℕ) (code : ℕ) (deep large : Bool) → also w (cond deep (Err 45) (cond large (Err 46) (gives (list_of xs) t))) ≡ Err code
    → also w (value_here t (cond deep (Err 45) (cond large (Err 46) v))) ≡ Err code
stops xs w t v code true large is = is
stops xs w t v code false true is = is
stops xs w t v code false false is = absurd (cc)

pub listed_stops : (function : ValueFunction) (values : Evaluation (List Object)) (e : EvaluationError) (s : WorldState) → most_arguments function ≡ None → Answers done (Err e) s (and_then values list)
    → Answers done (Err e) s (and_then values (computed function))
listed_stops function values OutOfMemory s any is = tt
listed_stops function (Err number) (Refused code) s any is = is
listed_stops function (Ok d) (Refused code) s any is =
    ap (λ m. also d.wrote (value_here d.state (if_listed m d.value (function_value function d.value)))) any
    ∙ stops d.value d.wrote d.state (function_value function d.value) code (nat_lt 100 (object_depth (list_of d.value))) (nat_lt 1000000 (object_size (list_of d.value))) is
