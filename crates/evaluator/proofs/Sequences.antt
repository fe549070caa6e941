-- PROGN, a form at a time.
--     sequence_step, sequence_stops      a form that is not the last
--     same_last, sequence_last, no_forms      the last one; no form
--     also_also, also_refused, answered, refused_after, step_after      what was written before
use Rattle.std.proofs.Common.{◌≡◌, ◌<◌, ◌+◌, ◌-◌, ℕ, Bool, true, false, ◌||◌, zero, suc, List, [], ◌∷◌, Result, Ok, Err, map, length, drop, get_or, refl, sym, ap, subst, ◌∙◌, arith}
use Rattle.std.proofs.Math.Seq.{drop-length}
use Rattle.lisp_object.specs.Object.{Object, pair, nil, list_of}
use Rattle.lisp_object.specs.Datum.{object_of}
use Rattle.lisp_object.specs.declared.datum.Datum.{Datum}
use Rattle.package_table.specs.Table.{Name}
use Rattle.plist_state.specs.State.{WorldState}
use Rattle.lisp_operators.specs.declared.error.EvaluationError.{EvaluationError}
use Rattle.lisp_operators.specs.declared.error.EvaluationError.TheVariants.{Refused, OutOfMemory}
use Rattle.lisp_operators.specs.EvaluationAnswers.{Answers, done}
use Rattle.lisp_operators.specs.Evaluation.{Evaluation, gives, also, and_then}
use Rattle.evaluator.specs.Value.{last, value, values, value_over}
use Rattle.evaluator.specs.ArgumentValues.{arguments_of, sequence_value}
use Rattle.lisp_operators.specs.declared.evaluated.Evaluated.{Evaluated}
use Rattle.evaluator.specs.declared.wanted.ValueUse.{ValueUse}
use Rattle.evaluator.specs.StandIns.{seen}
use Rattle.evaluator.proofs.Seen.{seen_also, refused_seen}
use Rattle.evaluator.proofs.Steps.{or_false, forms_from, value_first}

or_or : (a b : Bool) → ((a || b) || false) ≡ (a || (b || false))
or_or true b = refl
or_or false b = refl

pub also_also : (a b : Bool) (o : Evaluation Object) → also a (also b o) ≡ also (a || b) o
also_also true b (Ok d) = refl
also_also false b (Ok d) = refl
also_also a b (Err code) = refl

pub also_refused : (e : EvaluationError) (s : WorldState) (w : Bool) (o p : Evaluation Object) → o ≡ also w p → Answers done (Err e) s p → Answers done (Err e) s o
also_refused (Refused code) s w o p same is = same ∙ ap (also w) is
also_refused OutOfMemory s w o p same is = tt

-- what a loop over forms answers: the forms before wrote this, or not
module _ (w : ValueUse) (wrote : Bool) (o p : Evaluation Object) where
  pub answered : (q : Evaluation Object) (r : Result Evaluated EvaluationError) (u : WorldState) → o ≡ also wrote p → p ≡ q → Answers done r u (also wrote (seen w q)) → Answers done r u (seen w o)
  answered q r u same is h = subst (Answers done r u) (sym (ap (seen w) (same ∙ ap (also wrote) is) ∙ seen_also w wrote q)) h

pub refused_after : (w : ValueUse) (e : EvaluationError) (s : WorldState) (wrote : Bool) (o p : Evaluation Object) → o ≡ also wrote p → Answers done (Err e) s p → Answers done (Err e) s (seen w o)
refused_after w e s wrote o p same is = refused_seen w e s o (also_refused e s wrote o p same is)

pub step_after : (a b both : Bool) (o p q : Evaluation Object) → o ≡ also a p → p ≡ also b q → both ≡ (a || b) → o ≡ also both q
step_after a b both o p q same is either = same ∙ ap (also a) is ∙ also_also a b q ∙ ap (λ w. also w q) (sym either)

-- the last of values is that of those after the first
later_last : (y z : Object) (v : Bool) (o : Evaluation (List Object))
    → and_then (and_then (also v (and_then o (λ zs end'. gives (z ∷ zs) end'))) (λ ys end'. gives (y ∷ ys) end')) (λ xs later. gives (last xs) later)
    ≡ and_then (also v (and_then o (λ zs end'. gives (z ∷ zs) end'))) (λ xs later. gives (last xs) later)
later_last y z v (Err code) = refl
later_last y z v (Ok e) = ap (λ b. Ok (record { value = last (z ∷ e.value); state = e.state; wrote = b })) (or_false ((v || (e.wrote || false)) || false))

after_first : (y : Object) (p : Evaluation Object) (others : WorldState → Evaluation (List Object))
    → and_then (and_then (and_then p (λ z later. and_then (others later) (λ zs end'. gives (z ∷ zs) end'))) (λ ys end'. gives (y ∷ ys) end')) (λ xs later. gives (last xs) later)
    ≡ and_then (and_then p (λ z later. and_then (others later) (λ zs end'. gives (z ∷ zs) end'))) (λ xs later. gives (last xs) later)
after_first y (Err code) others = refl
after_first y (Ok d) others = later_last y d.value d.wrote (others d.state)

also_last : (v : Bool) (o : Evaluation (List Object)) → and_then (also v o) (λ xs later. gives (last xs) later) ≡ also v (and_then o (λ xs later. gives (last xs) later))
also_last v (Err code) = refl
also_last v (Ok d) = ap (λ b. Ok (record { value = last d.value; state = d.state; wrote = b })) (or_or v d.wrote)

two_forms : (names : List Name) (t : WorldState) (y g rest : Object)
    → and_then (and_then (values names t (pair g rest)) (λ ys end'. gives (y ∷ ys) end')) (λ xs later. gives (last xs) later) ≡ sequence_value names t (pair g rest)
unfolding value_over
two_forms names t y g rest = after_first y (value names t g) (λ later. values names later rest)

step_of : (names : List Name) (s t : WorldState) (x g rest y : Object) (v : Bool) → value names s x ≡ Ok (record { value = y; state = t; wrote = v })
    → sequence_value names s (pair x (pair g rest)) ≡ also v (sequence_value names t (pair g rest))
step_of names s t x g rest y v is =
    ap (λ o. and_then o (λ xs later. gives (last xs) later)) (value_first names s x (pair g rest) y t v is)
    ∙ also_last v (and_then (values names t (pair g rest)) (λ ys end'. gives (y ∷ ys) end'))
    ∙ ap (also v) (two_forms names t y g rest)

pub any_default : (xs : List Datum) (i : ℕ) (d : Datum) → get_or xs i d ≡ get_or xs i (get_or xs i d)
any_default [] i d = refl
any_default (x ∷ xs) zero d = refl
any_default (x ∷ xs) (suc i) d = any_default xs i d

-- the last of a list, by its index
pub same_last : (items : List Datum) (i : ℕ) (f : Datum) → i + 1 ≡ length items → f ≡ get_or items (length items - 1) f → f ≡ get_or items i f
same_last items i f end is = let at : length items - 1 ≡ i = omega (arith, end) in is ∙ ap (λ n. get_or items n f) at

pub sequence_step : (names : List Name) (s t : WorldState) (items : List Datum) (i : ℕ) (f : Datum) (y : Object) (v : Bool) → i + 1 < length items → f ≡ get_or items i f
    → value names s (object_of f) ≡ Ok (record { value = y; state = t; wrote = v })
    → sequence_value names s (list_of (map object_of (drop i items))) ≡ also v (sequence_value names t (list_of (map object_of (drop (i + 1) items))))
sequence_step names s t items i f y v within at is =
    let g = get_or items (i + 1) f in
    let rest = list_of (map object_of (drop (i + 1 + 1) items)) in
    let next : list_of (map object_of (drop (i + 1) items)) ≡ pair (object_of g) rest = forms_from items (i + 1) g within (any_default items (i + 1) f) in
    ap (sequence_value names s) (forms_from items i f (omega arith) at ∙ ap (pair (object_of f)) next)
    ∙ step_of names s t (object_of f) (object_of g) rest y v is
    ∙ ap (λ l. also v (sequence_value names t l)) (sym next)

refused_first : (names : List Name) (s : WorldState) (x rest : Object) (code : ℕ) → value names s x ≡ Err code → sequence_value names s (pair x rest) ≡ Err code
unfolding value_over
refused_first names s x rest code e = ap (λ o. and_then (and_then o (λ y later. and_then (values names later rest) (λ ys end'. gives (y ∷ ys) end'))) (λ xs later. gives (last xs) later)) e

pub sequence_stops : (names : List Name) (s t u : WorldState) (items : List Datum) (i : ℕ) (f : Datum) (e : EvaluationError) → i < length items → f ≡ get_or items i f
    → Answers done (Err e) t (value names s (object_of f)) → Answers done (Err e) u (sequence_value names s (list_of (map object_of (drop i items))))
sequence_stops names s t u items i f (Refused code) within at is =
    ap (sequence_value names s) (forms_from items i f within at) ∙ refused_first names s (object_of f) (list_of (map object_of (drop (i + 1) items))) code is
sequence_stops names s t u items i f OutOfMemory within at is = tt

one_form : (o : Evaluation Object) → and_then (and_then o (λ y later. and_then (gives [] later) (λ ys end'. gives (y ∷ ys) end'))) (λ xs later. gives (last xs) later) ≡ o
one_form (Err code) = refl
one_form (Ok d) = ap (λ b. Ok (record { value = d.value; state = d.state; wrote = b })) (alone d.wrote)
  where
    alone : (b : Bool) → ((b || (false || false)) || false) ≡ b
    alone true = refl
    alone false = refl

last_form : (names : List Name) (s : WorldState) (x : Object) → sequence_value names s (pair x nil) ≡ value names s x
unfolding value_over
last_form names s x = one_form (value names s x)

pub sequence_last : (names : List Name) (s : WorldState) (items : List Datum) (i : ℕ) (f : Datum) → i + 1 ≡ length items → f ≡ get_or items i f
    → sequence_value names s (list_of (map object_of (drop i items))) ≡ value names s (object_of f)
sequence_last names s items i f is at =
    ap (sequence_value names s) (forms_from items i f (omega arith) at ∙ ap (λ l. pair (object_of f) (list_of (map object_of l))) (ap (λ n. drop n items) is ∙ drop-length items))
    ∙ last_form names s (object_of f)

sequence_none : (names : List Name) (s : WorldState) → sequence_value names s nil ≡ gives nil s
unfolding value_over
sequence_none names s = refl

pub no_forms : (names : List Name) (s : WorldState) (items : List Datum) → length items ≡ 1 → sequence_value names s (arguments_of (map object_of items)) ≡ gives nil s
no_forms names s [] is = absurd (omega arith)
no_forms names s (x ∷ []) is = sequence_none names s
no_forms names s (x ∷ y ∷ ys) is = absurd (omega arith)
