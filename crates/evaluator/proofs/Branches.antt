-- IF, by what its first argument gives.
--     other_one      the value of a form
--     choice_refused, choice_true, choice_none, choice_other      it is refused, true, or NIL with and without a third argument
use Rattle.std.proofs.Common.{◌≡◌, ◌≤◌, Bool, true, false, cond, List, [], ◌∷◌, Result, Ok, Err, map, length, drop, get_or, refl, sym, ap, subst, ◌∙◌, arith}
use Rattle.lisp_object.specs.declared.datum.Datum.{Datum}
use Rattle.lisp_object.specs.Object.{Object, pair, nil, list_of}
use Rattle.lisp_object.specs.Datum.{object_of}
use Rattle.package_table.specs.Table.{Name}
use Rattle.plist_state.specs.State.{WorldState}
use Rattle.lisp_operators.specs.declared.error.EvaluationError.{EvaluationError}
use Rattle.lisp_operators.specs.declared.error.EvaluationError.TheVariants.{Refused, OutOfMemory}
use Rattle.lisp_operators.specs.declared.evaluated.Evaluated.{Evaluated}
use Rattle.lisp_operators.specs.ArgumentKinds.{is_true}
use Rattle.lisp_operators.specs.Evaluation.{gives, also, and_then}
use Rattle.evaluator.specs.Value.{value, choice, other_value, value_over}
use Rattle.lisp_operators.specs.EvaluationAnswers.{Answers, done}
use Rattle.evaluator.specs.ArgumentValues.{arguments_of}
use Rattle.evaluator.specs.declared.wanted.ValueUse.{ValueUse}
use Rattle.evaluator.specs.declared.wanted.ValueUse.TheVariants.{Truth}
use Rattle.evaluator.specs.StandIns.{seen}
use Rattle.evaluator.proofs.Forms.{two_arguments}
use Rattle.evaluator.proofs.Seen.{seen_also, refused_seen, refused_so, evaluated_so, truth_of}

choice_of : (names : List Name) (s : WorldState) (x y others : Object)
    → choice names s (pair x (pair y others)) ≡ and_then (value names s x) (λ z later. cond (is_true z) (value names later y) (other_value names later others))
unfolding value_over
choice_of names s x y others = refl

at_two : (xs : List Datum) (e : Datum) → 3 ≤ length xs → get_or xs 2 e ≡ get_or xs 2 (get_or xs 2 e)
at_two [] e some = absurd (omega arith)
at_two (a ∷ []) e some = absurd (omega arith)
at_two (a ∷ b ∷ []) e some = absurd (omega arith)
at_two (a ∷ b ∷ c ∷ cs) e some = refl

pub choice_refused : (w : ValueUse) (names : List Name) (s t u : WorldState) (items : List Datum) (x : Datum) (e : EvaluationError) → 3 ≤ length items → x ≡ get_or items 1 x
    → Answers done (Err e) t (seen Truth (value names s (object_of x))) → Answers done (Err e) u (seen w (choice names s (arguments_of (map object_of items))))
choice_refused w names s t u items x e some is h =
    refused_seen w e u (choice names s (arguments_of (map object_of items))) (refused names s t u items x e some is (refused_so Truth e t t (value names s (object_of x)) h))
  where
    refused : (names : List Name) (s t u : WorldState) (items : List Datum) (x : Datum) (e : EvaluationError) → 3 ≤ length items → x ≡ get_or items 1 x → Answers done (Err e) t (value names s (object_of x))
        → Answers done (Err e) u (choice names s (arguments_of (map object_of items)))
    refused names s t u items x (Refused code) some is h =
        ap (choice names s) (two_arguments items x (get_or items 2 x) some is (at_two items x some))
        ∙ choice_of names s (object_of x) (object_of (get_or items 2 x)) (list_of (map object_of (drop 3 items)))
        ∙ ap (λ o. and_then o (λ z later. cond (is_true z) (value names later (object_of (get_or items 2 x))) (other_value names later (list_of (map object_of (drop 3 items)))))) h
    refused names s t u items x OutOfMemory some is h = tt

after_test : (names : List Name) (s t : WorldState) (items : List Datum) (x y : Datum) (v : Object) (wrote b : Bool) → 3 ≤ length items → x ≡ get_or items 1 x → y ≡ get_or items 2 y
    → value names s (object_of x) ≡ Ok (record { value = v; state = t; wrote = wrote }) → is_true v ≡ b
    → choice names s (arguments_of (map object_of items)) ≡ also wrote (cond b (value names t (object_of y)) (other_value names t (list_of (map object_of (drop 3 items)))))
after_test names s t items x y v wrote b some is at h test =
    ap (choice names s) (two_arguments items x y some is at) ∙ choice_of names s (object_of x) (object_of y) (list_of (map object_of (drop 3 items)))
    ∙ ap (λ o. and_then o (λ z later. cond (is_true z) (value names later (object_of y)) (other_value names later (list_of (map object_of (drop 3 items)))))) h
    ∙ ap (λ k. also wrote (cond k (value names t (object_of y)) (other_value names t (list_of (map object_of (drop 3 items)))))) test

-- the same, where it is only seen whether the first is true, and less may be seen of the value
seen_test : (w : ValueUse) (names : List Name) (s t : WorldState) (items : List Datum) (x y : Datum) (d : Evaluated) (b : Bool) → 3 ≤ length items → x ≡ get_or items 1 x → y ≡ get_or items 2 y
    → seen Truth (value names s (object_of x)) ≡ Ok (done d t) → is_true (object_of d.value) ≡ b
    → seen w (choice names s (arguments_of (map object_of items))) ≡ also d.wrote (seen w (cond b (value names t (object_of y)) (other_value names t (list_of (map object_of (drop 3 items))))))
seen_test w names s t items x y d b some is at h test =
    let so = evaluated_so Truth (value names s (object_of x)) (done d t) h in
    ap (seen w) (after_test names s t items x y so.0 d.wrote b some is at so.1 (sym (truth_of so.0) ∙ ap is_true so.2 ∙ test))
    ∙ seen_also w d.wrote (cond b (value names t (object_of y)) (other_value names t (list_of (map object_of (drop 3 items)))))

pub choice_true : (w : ValueUse) (names : List Name) (s t u : WorldState) (items : List Datum) (x y : Datum) (d : Evaluated) (r : Result Evaluated EvaluationError) → 3 ≤ length items → x ≡ get_or items 1 x → y ≡ get_or items 2 y
    → seen Truth (value names s (object_of x)) ≡ Ok (done d t) → is_true (object_of d.value) ≡ true → Answers done r u (also d.wrote (seen w (value names t (object_of y)))) → Answers done r u (seen w (choice names s (arguments_of (map object_of items))))
choice_true w names s t u items x y d r some is at h test after = subst (Answers done r u) (sym (seen_test w names s t items x y d true some is at h test)) after

other_none : (names : List Name) (s : WorldState) → other_value names s nil ≡ gives nil s
unfolding value_over
other_none names s = refl

pub other_one : (names : List Name) (s : WorldState) (x rest : Object) → other_value names s (pair x rest) ≡ value names s x
unfolding value_over
other_one names s x rest = refl

pub choice_none : (w : ValueUse) (names : List Name) (s t u : WorldState) (items : List Datum) (x : Datum) (d : Evaluated) (r : Result Evaluated EvaluationError) → 3 ≤ length items → length items ≡ 3 → x ≡ get_or items 1 x
    → seen Truth (value names s (object_of x)) ≡ Ok (done d t) → is_true (object_of d.value) ≡ false → Answers done r u (also d.wrote (seen w (gives nil t))) → Answers done r u (seen w (choice names s (arguments_of (map object_of items))))
choice_none w names s t u items x d r some three is h test after =
    subst (Answers done r u)
    (sym (seen_test w names s t items x (get_or items 2 x) d false some is (at_two items x some) h test
    ∙ ap (λ l. also d.wrote (seen w (other_value names t (list_of (map object_of l))))) (none_left items three)
    ∙ ap (λ o. also d.wrote (seen w o)) (other_none names t)))
    after
  where
    none_left : (xs : List Datum) → length xs ≡ 3 → drop 3 xs ≡ []
    none_left [] e = absurd (omega arith)
    none_left (a ∷ []) e = absurd (omega arith)
    none_left (a ∷ b ∷ []) e = absurd (omega arith)
    none_left (a ∷ b ∷ c ∷ []) e = refl
    none_left (a ∷ b ∷ c ∷ k ∷ ks) e = absurd (omega arith)

pub choice_other : (w : ValueUse) (names : List Name) (s t u : WorldState) (items : List Datum) (x z : Datum) (d : Evaluated) (r : Result Evaluated EvaluationError) → 3 ≤ length items → (length items ≡ 3 → ⊥) → x ≡ get_or items 1 x → z ≡ get_or items 3 z
    → seen Truth (value names s (object_of x)) ≡ Ok (done d t) → is_true (object_of d.value) ≡ false → Answers done r u (also d.wrote (seen w (value names t (object_of z)))) → Answers done r u (seen w (choice names s (arguments_of (map object_of items))))
choice_other w names s t u items x z d r some more is at h test after =
    subst (Answers done r u)
    (sym (seen_test w names s t items x (get_or items 2 x) d false some is (at_two items x some) h test
    ∙ ap (λ l. also d.wrote (seen w (other_value names t l))) (one_left items z some more at)
    ∙ ap (λ o. also d.wrote (seen w o)) (other_one names t (object_of z) (list_of (map object_of (drop 4 items))))))
    after
  where
    one_left : (xs : List Datum) (e : Datum) → 3 ≤ length xs → (length xs ≡ 3 → ⊥) → e ≡ get_or xs 3 e → list_of (map object_of (drop 3 xs)) ≡ pair (object_of e) (list_of (map object_of (drop 4 xs)))
    one_left [] e some' more' at' = absurd (omega arith)
    one_left (a ∷ []) e some' more' at' = absurd (omega arith)
    one_left (a ∷ b ∷ []) e some' more' at' = absurd (omega arith)
    one_left (a ∷ b ∷ c ∷ []) e some' more' at' = absurd (more' refl)
    one_left (a ∷ b ∷ c ∷ k ∷ ks) e some' more' at' = ap (λ w. pair (object_of w) (list_of (map object_of ks))) (sym at')
