-- Evaluation, a step at a time.
--     value_symbol, value_constant, value_uninterned, value_dotted      forms that are no lists of arguments
--     items_arguments, list_arguments      what is in a list
--     followed_start, followed_step, followed_both, followed_refused, followed_end      forms one after the other
--     good_value      what holds after the value of a form
use Rattle.std.proofs.Common.{◌≡◌, ◌<◌, ◌+◌, ℕ, Bool, true, false, ◌||◌, List, [], ◌∷◌, ◌++◌, All, Ok, Err, Option, Some, None, is_some, map, length, drop, get_or, refl, sym, ap, subst, ◌∙◌, add-one, suc}
use Rattle.std.proofs.Math.Seq.{drop-cons, drop-length}
use Rattle.std.proofs.Math.Bool.{and-false}
use Rattle.std.specs.List.{list_all}
use Rattle.std.proofs.lemmas.Bool.{and_parts, false≢true}
use Rattle.std.proofs.lemmas.List.Elements.{All-append, All-cons, All-nil, All-head, All-tail}
use Rattle.lisp_object.specs.declared.datum.Datum
use Rattle.lisp_object.specs.declared.datum.Datum.{Datum}
use Rattle.lisp_object.specs.declared.refusal.TheConstants.{NOT_A_FORM}
use Rattle.lisp_object.specs.Object.{Object, integer, rational, character, text, symbol, uninterned, pair, vector, nil, pairs, list_of, is_proper_list}
use Rattle.lisp_object.specs.Datum.{object_of, is_proper}
use Rattle.lisp_object.proofs.Objects.{object_of-List, object_of-dotted}
use Rattle.lisp_object.proofs.ProperLists.{items_of_proper}
use Rattle.package_table.specs.Table.{Name, Table}
use Rattle.package_table.specs.Growth.{Grows}
use Rattle.plist_state.specs.State.{WorldState}
use Rattle.plist_state.specs.Sound.{IsSoundWorldState, IsValue}
use Rattle.lisp_operators.specs.declared.error.EvaluationError.{EvaluationError}
use Rattle.lisp_operators.specs.declared.error.EvaluationError.TheVariants.{Refused, OutOfMemory}
use Rattle.lisp_operators.specs.Evaluation.{Done, Evaluation, gives, also, and_then}
use Rattle.evaluator.specs.Value.{value, values, symbol_value, value_over}
use Rattle.lisp_operators.specs.Readtables.{AreFunctionNames}
use Rattle.lisp_operators.specs.EvaluationAnswers.{IsArgument, Answers, done}
use Rattle.evaluator.specs.ArgumentValues.{all_done}
use Rattle.evaluator.specs.ArgumentValues.{values_after}
use Rattle.lisp_operators.proofs.Good.{Goods, IsGood}
use Rattle.lisp_operators.proofs.Storable.{value_parts, value_grown}
use Rattle.evaluator.proofs.Places.{some_items}
use Rattle.evaluator.proofs.SoundForms.{value_safe}
use Rattle.lisp_operators.proofs.Shapes.{dotted_pair}

-- ---- atoms, and lists that do not end in NIL
pub value_symbol : (names : List Name) (s : WorldState) (home name : Name) → value names s (symbol home name) ≡ symbol_value home name s
unfolding value_over
value_symbol names s home name = refl

pub value_uninterned : (names : List Name) (s : WorldState) (name : Name) → value names s (uninterned name) ≡ Err NOT_A_FORM
unfolding value_over
value_uninterned names s name = refl

abbrev pub is_constant : Object → Bool
is_constant (symbol home name) = false
is_constant (uninterned name) = false
is_constant (pair a b) = false
is_constant _ = true

pub value_constant : (names : List Name) (s : WorldState) (x : Object) → is_constant x ≡ true → value names s x ≡ gives x s
unfolding value_over
value_constant names s (integer n) e = refl
value_constant names s (rational n d) e = refl
value_constant names s (character c) e = refl
value_constant names s (text b) e = refl
value_constant names s (vector xs) e = refl
value_constant names s (symbol h n) e = absurd (false≢true e)
value_constant names s (uninterned n) e = absurd (false≢true e)
value_constant names s (pair a b) e = absurd (false≢true e)

value_improper : (names : List Name) (s : WorldState) (a b : Object) → is_proper_list b ≡ false → value names s (pair a b) ≡ Err NOT_A_FORM
unfolding value_over
value_improper names s a b e = rw (e, and-false) refl

pub value_dotted : (names : List Name) (s : WorldState) (d : Datum) (items : List Datum) (tail : Option Datum) → d ≡ Datum.List items tail → is_proper d ≡ true → is_some tail ≡ true → value names s (object_of d) ≡ Err NOT_A_FORM
value_dotted names s d items tail is proper some =
    let shape = dotted_pair d items tail is proper some in
    ap (value names s) shape.2 ∙ value_improper names s shape.0 shape.1 shape.3

-- ---- what is in a list
part_values : (u : Table) (xs : List Datum) (end : Object) → IsValue u (pairs (map object_of xs) end) → All (λ d. IsValue u (object_of d)) xs
part_values u [] end is = All-nil (λ d. IsValue u (object_of d))
part_values u (x ∷ xs) end is =
    let parts = value_parts u (object_of x) (pairs (map object_of xs) end) is in
    All-cons (λ d. IsValue u (object_of d)) x xs parts.0 (part_values u xs end parts.1)

are_arguments : (u : Table) (xs : List Datum) → list_all is_proper xs ≡ true → All (λ d. IsValue u (object_of d)) xs → All (IsArgument u) xs
are_arguments u [] proper values = All-nil (IsArgument u)
are_arguments u (x ∷ xs) proper values =
    let both = and_parts (is_proper x) (list_all is_proper xs) proper in
    All-cons (IsArgument u) x xs (record { proper = both.0; value = All-head (λ d. IsValue u (object_of d)) x xs values })
    (are_arguments u xs both.1 (All-tail (λ d. IsValue u (object_of d)) x xs values))

pub items_arguments : (u : Table) (d : Datum) (items : List Datum) (tail : Option Datum) → d ≡ Datum.List items tail → IsArgument u d → All (IsArgument u) items
items_arguments u d items None is argument =
    are_arguments u items ((items_of_proper items None (ap is_proper (sym is) ∙ argument.proper)).1)
    (part_values u items nil (subst (IsValue u) (ap object_of is ∙ object_of-List items) argument.value))
items_arguments u d items (Some end) is argument =
    are_arguments u items ((items_of_proper items (Some end) (ap is_proper (sym is) ∙ argument.proper)).1)
    (part_values u items (object_of end) (subst (IsValue u) (ap object_of is ∙ object_of-dotted items end) argument.value))

pub list_arguments : (u : Table) (d : Datum) (items xs : List Datum) (tail : Option Datum) → d ≡ Datum.List items tail → IsArgument u d → xs ≡ items → (0 < length xs) × All (IsArgument u) xs
list_arguments u d items xs tail is argument same =
    (some_items d items xs tail is argument.proper same, subst (All (IsArgument u)) (sym same) (items_arguments u d items tail is argument))

pub argument_grown : (u v : Table) → Grows u v → (d : Datum) → IsArgument u d → IsArgument v d
argument_grown u v grows d is = record { proper = is.proper; value = value_grown u v grows (object_of d) is.value }

-- ---- the value of a form is good
pub good_value : (names : List Name) (s : WorldState) (x : Object) (d : Done Object) → AreFunctionNames names → IsSoundWorldState s → IsValue s.packages x → value names s x ≡ Ok d → IsGood IsValue s d
good_value names s x d all sound is e = (subst (Goods IsValue s) e (value_safe names all s x sound is)).good

-- ---- forms one after the other
pub or_false : (b : Bool) → (b || false) ≡ b
or_false true = refl
or_false false = refl

also_nothing : {A : Type 0} (o : Evaluation A) → also false o ≡ o
also_nothing (Ok d) = refl
also_nothing (Err code) = refl

same_values : (o : Evaluation (List Object)) → and_then o (λ ys end'. gives ([] ++ ys) end') ≡ o
same_values (Ok d) = ap (λ b. Ok (record { value = d.value; state = d.state; wrote = b })) (or_false d.wrote)
same_values (Err code) = refl

pub followed_start : (names : List Name) (s : WorldState) (forms : Object) → values_after names [] false s forms ≡ values names s forms
followed_start names s forms = also_nothing (and_then (values names s forms) (λ ys end'. gives ([] ++ ys) end')) ∙ same_values (values names s forms)

-- with the value of the first
next : (xs : List Object) (w : Bool) (y : Object) (v : Bool) (o : Evaluation (List Object))
    → also w (and_then (also v (and_then o (λ ys end'. gives (y ∷ ys) end'))) (λ ys end'. gives (xs ++ ys) end')) ≡ also (w || v) (and_then o (λ ys end'. gives ((xs ++ y ∷ []) ++ ys) end'))
next xs w y v (Err code) = refl
next xs w y v (Ok d) = ap (λ l. Ok (record { value = l; state = d.state; wrote = w || ((v || (d.wrote || false)) || false) })) (joined xs)
    ∙ ap (λ b. Ok (record { value = (xs ++ y ∷ []) ++ d.value; state = d.state; wrote = b })) (ors w v d.wrote)
  where
    joined : (zs : List Object) → zs ++ (y ∷ d.value) ≡ (zs ++ y ∷ []) ++ d.value
    joined [] = refl
    joined (z ∷ zs) = ap (λ l. z ∷ l) (joined zs)

    ors : (a b e : Bool) → (a || ((b || (e || false)) || false)) ≡ ((a || b) || (e || false))
    ors true b e = refl
    ors false true e = refl
    ors false false true = refl
    ors false false false = refl

pub forms_from : (forms : List Datum) (i : ℕ) (f : Datum) → i < length forms → f ≡ get_or forms i f → list_of (map object_of (drop i forms)) ≡ pair (object_of f) (list_of (map object_of (drop (i + 1) forms)))
forms_from forms i f within is =
    ap (λ l. list_of (map object_of l)) (drop-cons forms i f within) ∙ ap (λ d. pair (object_of d) (list_of (map object_of (drop (suc i) forms)))) (sym is)
    ∙ ap (λ n. pair (object_of f) (list_of (map object_of (drop n forms)))) (sym (add-one i))

pub value_first : (names : List Name) (s : WorldState) (x rest : Object) (y : Object) (t : WorldState) (v : Bool) → value names s x ≡ Ok (record { value = y; state = t; wrote = v })
    → values names s (pair x rest) ≡ also v (and_then (values names t rest) (λ ys end'. gives (y ∷ ys) end'))
unfolding value_over
value_first names s x rest y t v e = ap (λ o. and_then o (λ y later. and_then (values names later rest) (λ ys end'. gives (y ∷ ys) end'))) e

pub followed_step : (names : List Name) (xs : List Object) (w : Bool) (s : WorldState) (forms : List Datum) (i : ℕ) (f : Datum) (y : Object) (t : WorldState) (v : Bool) → i < length forms → f ≡ get_or forms i f
    → value names s (object_of f) ≡ Ok (record { value = y; state = t; wrote = v })
    → values_after names xs w s (list_of (map object_of (drop i forms))) ≡ values_after names (xs ++ y ∷ []) (w || v) t (list_of (map object_of (drop (i + 1) forms)))
followed_step names xs w s forms i f y t v within is e =
    ap (values_after names xs w s) (forms_from forms i f within is)
    ∙ ap (λ o. also w (and_then o (λ ys end'. gives (xs ++ ys) end'))) (value_first names s (object_of f) (list_of (map object_of (drop (i + 1) forms))) y t v e)
    ∙ next xs w y v (values names t (list_of (map object_of (drop (i + 1) forms))))

-- the same, where what was written is told
pub followed_both : (names : List Name) (xs : List Object) (w v both : Bool) (s t : WorldState) (forms : List Datum) (i : ℕ) (f : Datum) (y : Object) (o : Evaluation (List Object)) → o ≡ values_after names xs w s (list_of (map object_of (drop i forms)))
    → i < length forms → f ≡ get_or forms i f → value names s (object_of f) ≡ Ok (record { value = y; state = t; wrote = v }) → both ≡ (w || v) → o ≡ values_after names (xs ++ y ∷ []) both t (list_of (map object_of (drop (i + 1) forms)))
followed_both names xs w v both s t forms i f y o before within is e told =
    before ∙ followed_step names xs w s forms i f y t v within is e ∙ ap (λ b. values_after names (xs ++ y ∷ []) b t (list_of (map object_of (drop (i + 1) forms)))) (sym told)

refused_first : (names : List Name) (s : WorldState) (x rest : Object) (code : ℕ) → value names s x ≡ Err code → values names s (pair x rest) ≡ Err code
unfolding value_over
refused_first names s x rest code e = ap (λ o. and_then o (λ y later. and_then (values names later rest) (λ ys end'. gives (y ∷ ys) end'))) e

pub followed_refused : (names : List Name) (xs : List Object) (w : Bool) (s : WorldState) (forms : List Datum) (i : ℕ) (f : Datum) (code : ℕ) → i < length forms → f ≡ get_or forms i f
    → value names s (object_of f) ≡ Err code → values_after names xs w s (list_of (map object_of (drop i forms))) ≡ Err code
followed_refused names xs w s forms i f code within is e =
    ap (values_after names xs w s) (forms_from forms i f within is)
    ∙ ap (λ o. also w (and_then o (λ ys end'. gives (xs ++ ys) end'))) (refused_first names s (object_of f) (list_of (map object_of (drop (i + 1) forms))) code e)

values_none : (names : List Name) (s : WorldState) → values names s nil ≡ gives [] s
unfolding value_over
values_none names s = refl

pub followed_end : (names : List Name) (xs : List Object) (w : Bool) (s : WorldState) (forms : List Datum) → values_after names xs w s (list_of (map object_of (drop (length forms) forms))) ≡ Ok (record { value = xs; state = s; wrote = w })
followed_end names xs w s forms =
    ap (λ l. values_after names xs w s (list_of (map object_of l))) (drop-length forms)
    ∙ ap (λ o. also w (and_then o (λ ys end'. gives (xs ++ ys) end'))) (values_none names s)
    ∙ ap (λ l. Ok (record { value = l; state = s; wrote = w || false })) (whole xs)
    ∙ ap (λ b. Ok (record { value = xs; state = s; wrote = b })) (or_false w)
  where
    whole : (zs : List Object) → zs ++ [] ≡ zs
    whole [] = refl
    whole (z ∷ zs) = ap (λ l. z ∷ l) (whole zs)

pub all_more : (v : Table) (xs ys : List Datum) (x : Datum) → ys ≡ xs ++ x ∷ [] → All (IsArgument v) xs → IsArgument v x → All (IsArgument v) ys
all_more v xs ys x is all one = subst (All (IsArgument v)) (sym is) (All-append (IsArgument v) xs (x ∷ []) all (All-cons (IsArgument v) x [] one (All-nil (IsArgument v))))

pub followed_stops : (names : List Name) (xs : List Object) (w : Bool) (s t u : WorldState) (forms : List Datum) (i : ℕ) (f : Datum) (e : EvaluationError) (o : Evaluation (List Object)) → o ≡ values_after names xs w s (list_of (map object_of (drop i forms)))
    → i < length forms → f ≡ get_or forms i f → Answers done (Err e) t (value names s (object_of f)) → Answers all_done (Err e) u o
followed_stops names xs w s t u forms i f (Refused code) o same within is h = same ∙ followed_refused names xs w s forms i f code within is h
followed_stops names xs w s t u forms i f OutOfMemory o same within is h = tt

pub followed_at_end : (names : List Name) (xs : List Object) (w : Bool) (s : WorldState) (forms : List Datum) (i : ℕ) → i ≡ length forms → values_after names xs w s (list_of (map object_of (drop i forms))) ≡ Ok (record { value = xs; state = s; wrote = w })
followed_at_end names xs w s forms i is = ap (λ n. values_after names xs w s (list_of (map object_of (drop n forms)))) is ∙ followed_end names xs w s forms
