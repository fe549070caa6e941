-- EQUAL, by what the objects are.
--     unequal_lengths      lists of other lengths
--     no_list, pair_and_other      a list, and what is none
--     tail_ends, equal_lists      lists by their items and their ends
--     nil_end_alone      NIL is EQUAL to no other end
use Rattle.std.proofs.Common.{◌≡◌, ◌≢◌, ◌<◌, ◌+◌, ℕ, zero, suc, Bool, true, false, ◌&&◌, cond, List, [], ◌∷◌, length, get_or, map, drop, Option, Some, None, option_map, IfSome, bytes_eq, refl, sym, ap, subst, ◌∙◌, arith}
use Rattle.std.specs.Prelude.{codes}
use Rattle.std.specs.Cmp.Lexicographic.{bytes_decides}
use Rattle.std.proofs.lemmas.Bool.{false≢true, and_parts}
use Rattle.std.specs.Option.{option_map_or}
use Rattle.lisp_object.specs.declared.datum.Datum
use Rattle.lisp_object.specs.declared.datum.Datum.{Datum, roll-Datum, out-Datum, roll-out-Datum, fold-roll-Datum}
use Rattle.lisp_object.specs.declared.datum.Datum.TheOpen.{Datum-F}
use Rattle.lisp_object.specs.declared.datum.Datum.TheVariants.{rolls-List}
use Rattle.lisp_object.specs.Object.{Object, integer, rational, character, text, symbol, uninterned, pair, vector, pairs, nil, is_nil, object_is_list}
use Rattle.lisp_object.specs.Datum.{object_of, object_step, is_proper, is_list}
use Rattle.lisp_object.proofs.Objects.{object_of-List, object_of-dotted}
use Rattle.lisp_object.proofs.ProperLists.{no_list_object, end_of_proper}
use Rattle.lisp_operators.specs.ArgumentKinds.{is_pair, a_text}
use Rattle.lisp_operators.specs.EvaluationAnswers.{objects, or_nil}
use Rattle.value_functions.specs.Equality.{is_eql, is_equal}
use Rattle.value_functions.proofs.Ends.{no_pair}

pair_not_end : (a b t : Object) → is_pair t ≡ false → is_equal (pair a b) t ≡ false
pair_not_end a b (integer n) other = refl
pair_not_end a b (rational n d) other = refl
pair_not_end a b (character c) other = refl
pair_not_end a b (text c) other = refl
pair_not_end a b (symbol h n) other = refl
pair_not_end a b (uninterned n) other = refl
pair_not_end a b (pair x y) other = absurd (false≢true (sym other))
pair_not_end a b (vector xs) other = refl

end_not_pair : (s a b : Object) → is_pair s ≡ false → is_equal s (pair a b) ≡ false
end_not_pair (integer n) a b other = refl
end_not_pair (rational n d) a b other = refl
end_not_pair (character c) a b other = refl
end_not_pair (text c) a b other = refl
end_not_pair (symbol h n) a b other = refl
end_not_pair (uninterned n) a b other = refl
end_not_pair (pair x y) a b other = absurd (false≢true (sym other))
end_not_pair (vector xs) a b other = refl

and_false : (b : Bool) → (b && false) ≡ false
and_false true = refl
and_false false = refl

pub unequal_lengths : (xs ys : List Datum) (s t : Object) → is_pair s ≡ false → is_pair t ≡ false → length xs ≢ length ys
    → is_equal (pairs (objects xs) s) (pairs (objects ys) t) ≡ false
unequal_lengths [] [] s t no_s no_t differ = absurd (differ refl)
unequal_lengths [] (y ∷ ys) s t no_s no_t differ = end_not_pair s (object_of y) (pairs (objects ys) t) no_s
unequal_lengths (x ∷ xs) [] s t no_s no_t differ = pair_not_end (object_of x) (pairs (objects xs) s) t no_t
unequal_lengths (x ∷ xs) (y ∷ ys) s t no_s no_t differ =
    ap (λ b. is_equal (object_of x) (object_of y) && b) (unequal_lengths xs ys s t no_s no_t (λ same. differ (ap suc same)))
    ∙ and_false (is_equal (object_of x) (object_of y))

-- ---- data that are lists
no_list-layer : (y : Datum-F Datum) → ((items : List Datum) (tail : Option Datum) → roll-Datum y ≡ Datum.List items tail → ⊥)
    → is_pair (object_of (roll-Datum y)) ≡ false
no_list-layer (Datum-F.Integer n) _ = ap is_pair (fold-roll-Datum Object object_step (Datum-F.Integer n))
no_list-layer (Datum-F.Rational r) _ = ap is_pair (fold-roll-Datum Object object_step (Datum-F.Rational r))
no_list-layer (Datum-F.Char c) _ = ap is_pair (fold-roll-Datum Object object_step (Datum-F.Char c))
no_list-layer (Datum-F.Text bytes) _ = ap is_pair (fold-roll-Datum Object object_step (Datum-F.Text bytes))
no_list-layer (Datum-F.Symbol home name) _ = ap is_pair (fold-roll-Datum Object object_step (Datum-F.Symbol home name))
no_list-layer (Datum-F.Uninterned name) _ = ap is_pair (fold-roll-Datum Object object_step (Datum-F.Uninterned name))
no_list-layer (Datum-F.List items tail) not_list = absurd (not_list items tail (rolls-List items tail))
no_list-layer (Datum-F.Vector items) _ = ap is_pair (fold-roll-Datum Object object_step (Datum-F.Vector items))

pub no_list : (d : Datum) → ((items : List Datum) (tail : Option Datum) → d ≢ Datum.List items tail) → is_pair (object_of d) ≡ false
no_list d not_list =
    sym (ap (λ x. is_pair (object_of x)) (roll-out-Datum d))
    ∙ no_list-layer (out-Datum d) (λ items tail e. not_list items tail (sym (roll-out-Datum d) ∙ e))

pub pair_and_other : (x y : Object) → is_pair y ≡ false → (a b : Object) → false ≡ is_equal (pair a b) y
pair_and_other x y other a b = sym (pair_not_end a b y other)

pub list_is : (d : Datum) (items : List Datum) (tail : Option Datum) → d ≡ Datum.List items tail
    → object_of d ≡ pairs (objects items) (or_nil (option_map object_of tail))
list_is d items None is = ap object_of is ∙ object_of-List items
list_is d items (Some end) is = ap object_of is ∙ object_of-dotted items end

pub tail_ends : (d : Datum) (items : List Datum) (tail : Option Datum) → d ≡ Datum.List items tail → is_proper d ≡ true
    → IfSome tail (λ end. (is_proper end ≡ true) × (is_list end ≡ false))
tail_ends d items None is proper = tt
tail_ends d items (Some end) is proper = end_of_proper items end (ap is_proper (sym is) ∙ proper)

end_no_list : (tail : Option Datum) → IfSome tail (λ end. (is_proper end ≡ true) × (is_list end ≡ false))
    → is_pair (or_nil (option_map object_of tail)) ≡ false
end_no_list None is = refl
end_no_list (Some end) is = no_pair (object_of end) (no_list_object end is.0 is.1)

-- lists by what is so of their items, and by their ends
pub equal_lists : (a b : Datum) (xs ys : List Datum) (t u : Option Datum) (r : Bool) → a ≡ Datum.List xs t → b ≡ Datum.List ys u
    → is_proper a ≡ true → is_proper b ≡ true
    → ((s v : Object) → is_pair s ≡ false → is_pair v ≡ false → is_equal (pairs (objects xs) s) (pairs (objects ys) v) ≡ (r && is_equal s v))
    → (r && is_equal (or_nil (option_map object_of t)) (or_nil (option_map object_of u))) ≡ is_equal (object_of a) (object_of b)
equal_lists a b xs ys t u r is also first second each =
    sym (each (or_nil (option_map object_of t)) (or_nil (option_map object_of u)) (end_no_list t (tail_ends a xs t is first)) (end_no_list u (tail_ends b ys u also second)))
    ∙ ap (λ x. is_equal x (pairs (objects ys) (or_nil (option_map object_of u)))) (sym (list_is a xs t is))
    ∙ ap (is_equal (object_of a)) (sym (list_is b ys u also))

-- ---- NIL at the end of one list alone
nil_symbol_alone : (home name : List ℕ) → is_nil home name ≡ false → (b : Bool) → is_equal nil (symbol home name) ≡ b → b ≡ false
nil_symbol_alone home name other false e = refl
nil_symbol_alone home name other true e =
    let parts = and_parts (bytes_eq (codes "COMMON-LISP") home) (bytes_eq (codes "NIL") name) e in
    let same : is_nil (codes "COMMON-LISP") (codes "NIL") ≡ is_nil home name =
    λ i. is_nil ((bytes_decides (codes "COMMON-LISP") home).0 parts.0 i) ((bytes_decides (codes "NIL") name).0 parts.1 i) in
    absurd (false≢true (sym (same ∙ other)))

nil_alone : (x : Object) → object_is_list x ≡ false → is_equal nil x ≡ false
nil_alone (integer n) other = refl
nil_alone (rational n d) other = refl
nil_alone (character c) other = refl
nil_alone (text b) other = refl
nil_alone (symbol h n) other = nil_symbol_alone h n other (is_equal nil (symbol h n)) refl
nil_alone (uninterned n) other = refl
nil_alone (pair a b) other = absurd (false≢true (sym other))
nil_alone (vector xs) other = refl

pub nil_end_alone : (tail end : Option Datum) (d : Datum) → tail ≡ None → end ≡ Some d → IfSome end (λ x. (is_proper x ≡ true) × (is_list x ≡ false))
    → false ≡ is_equal (or_nil (option_map object_of tail)) (or_nil (option_map object_of end))
nil_end_alone tail end d none some is =
    let ends : (is_proper d ≡ true) × (is_list d ≡ false) = subst (λ o. IfSome o (λ x. (is_proper x ≡ true) × (is_list x ≡ false))) some is in
    sym ((λ i. is_equal (or_nil (option_map object_of (none i))) (or_nil (option_map object_of (some i)))) ∙ nil_alone (object_of d) (no_list_object d ends.0 ends.1))
