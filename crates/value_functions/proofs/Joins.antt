-- Lists that end in NIL, as sequences and joined.
--     items_of_list, no_items      the items of a list
--     sequence_is      a sequence that is no vector and no text is a list
--     objects-reverse      the objects of a list backwards
--     joined_more, not_joined      APPEND of one list more
use Rattle.std.proofs.Common.{◌≡◌, true, false, cond, List, [], ◌∷◌, ◌++◌, reverse, option_map, is_some, Option, Some, None, Ok, Err, refl, sym, ap, ◌∙◌}
use mathlib.Core.List.{reverse_aux}
use Rattle.std.proofs.lemmas.Bool.{false≢true}
use Rattle.lisp_object.specs.Object.{Object, integer, rational, character, text, symbol, uninterned, pair, vector, is_nil, pairs, list_of, is_proper_list}
use Rattle.lisp_object.specs.declared.refusal.TheConstants.{ARGUMENT_KIND}
use Rattle.lisp_object.specs.declared.datum.Datum
use Rattle.lisp_object.specs.declared.datum.Datum.{Datum}
use Rattle.lisp_object.specs.Datum.{object_of, is_proper}
use Rattle.lisp_object.proofs.Lists.{pairs-append}
use Rattle.lisp_object.proofs.Objects.{object_of-List, object_of-Vector}
use Rattle.lisp_object.proofs.ProperLists.{proper_list_items, proper_vector_items}
use Rattle.lisp_object.proofs.Properness.{is_proper-Vector}
use Rattle.std.specs.List.{list_all}
use Rattle.std.proofs.lemmas.List.Sums.{AllPass-from_list_all, list_all-from_AllPass}
use Rattle.lisp_operators.specs.EvaluationAnswers.{objects, AreProper}
use Rattle.lisp_operators.proofs.Shapes.{pair_at, dotted_pair}
use Rattle.value_functions.specs.FunctionAnswers.{FunctionValue, then_value}
use Rattle.value_functions.specs.Predicates.{is_vector}
use Rattle.value_functions.specs.Sequences.{list, items, items_of, a_sequence, a_vector}
use Rattle.value_functions.specs.Building.{followed_by, appended_lists}

pub items_of_list : (xs : List Object) → items_of (list_of xs) ≡ Some xs
items_of_list [] = refl
items_of_list (x ∷ xs) = ap (option_map (λ ys. x ∷ ys)) (items_of_list xs)

pub no_items : (x : Object) → is_proper_list x ≡ false → items_of x ≡ None
no_items (integer n) other = refl
no_items (rational n d) other = refl
no_items (character c) other = refl
no_items (text b) other = refl
no_items (symbol h n) other = ap (λ t. cond t (Some []) None) other
no_items (uninterned n) other = refl
no_items (pair a b) other = ap (option_map (λ ys. a ∷ ys)) (no_items b other)
no_items (vector xs) other = refl

pub sequence_is : (x : Object) → is_vector x ≡ false → a_sequence x ≡ option_map list (items_of x)
sequence_is (integer n) other = refl
sequence_is (rational n d) other = refl
sequence_is (character c) other = refl
sequence_is (text b) other = absurd (false≢true (sym other))
sequence_is (symbol h n) other = refl
sequence_is (uninterned n) other = refl
sequence_is (pair a b) other = refl
sequence_is (vector xs) other = absurd (false≢true (sym other))

-- ---- backwards
objects-reverse_aux : (xs ys : List Datum) → objects (reverse_aux xs ys) ≡ reverse_aux (objects xs) (objects ys)
objects-reverse_aux [] ys = refl
objects-reverse_aux (x ∷ xs) ys = objects-reverse_aux xs (x ∷ ys)

pub objects-reverse : (xs : List Datum) → objects (reverse xs) ≡ reverse (objects xs)
objects-reverse xs = objects-reverse_aux xs []

-- ---- by the data
pub list_items_of : (d : Datum) (xs : List Datum) → d ≡ Datum.List xs None → Some (objects xs) ≡ items_of (object_of d)
list_items_of d xs is = sym (ap (λ e. items_of (object_of e)) is ∙ ap items_of (object_of-List xs) ∙ items_of_list (objects xs))

pub dotted_items_of : (d : Datum) (xs : List Datum) (tail : Option Datum) → d ≡ Datum.List xs tail → is_proper d ≡ true → is_some tail ≡ true → None ≡ items_of (object_of d)
dotted_items_of d xs tail is proper some =
    let found = dotted_pair d xs tail is proper some in
    sym (ap items_of found.2 ∙ no_items (pair found.0 found.1) found.3)

pub vector_items_of : (d : Datum) (xs : List Datum) → d ≡ Datum.Vector xs → Some (objects xs) ≡ a_vector (object_of d)
vector_items_of d xs is = sym (ap (λ e. a_vector (object_of e)) is ∙ ap a_vector (object_of-Vector xs) ∙ items_of_list (objects xs))

pub vector_sequence : (d : Datum) (xs : List Datum) → d ≡ Datum.Vector xs → Some (items (objects xs)) ≡ a_sequence (object_of d)
vector_sequence d xs is = sym (ap (λ e. a_sequence (object_of e)) is ∙ ap a_sequence (object_of-Vector xs) ∙ ap (option_map items) (items_of_list (objects xs)))

pub list_sequence : (d : Datum) (xs : List Datum) (tail : Option Datum) → d ≡ Datum.List xs tail → is_proper d ≡ true → option_map list (items_of (object_of d)) ≡ a_sequence (object_of d)
list_sequence d xs tail is proper = sym (sequence_is (object_of d) (sym (pair_at is_vector false d xs tail (λ _ _. refl) is proper)))

pub list_no_vector : (d : Datum) (xs : List Datum) (tail : Option Datum) → d ≡ Datum.List xs tail → is_proper d ≡ true → None ≡ a_vector (object_of d)
list_no_vector d xs tail is proper = pair_at a_vector None d xs tail (λ _ _. refl) is proper

-- ---- lists that are joined
followed_list : (xs : List Object) (end : Object) → followed_by (list_of xs) end ≡ Ok (pairs xs end)
followed_list [] end = refl
followed_list (x ∷ xs) end = ap (λ v. then_value v (λ joined. Ok (pair x joined))) (followed_list xs end)

followed_not : (x end : Object) → is_proper_list x ≡ false → followed_by x end ≡ Err ARGUMENT_KIND
followed_not (integer n) end other = refl
followed_not (rational n d) end other = refl
followed_not (character c) end other = refl
followed_not (text b) end other = refl
followed_not (symbol h n) end other = ap (λ t. cond t (Ok end) (Err ARGUMENT_KIND)) other
followed_not (uninterned n) end other = refl
followed_not (pair a b) end other = ap (λ v. then_value v (λ joined. Ok (pair a joined))) (followed_not b end other)
followed_not (vector xs) end other = refl

-- a value, or a refusal of a kind
abbrev IsOfKind : FunctionValue → Type 0
IsOfKind (Ok x) = Unit {0}
IsOfKind (Err code) = code ≡ ARGUMENT_KIND

kind_then : (r : FunctionValue) (next : Object → FunctionValue) → IsOfKind r → ((x : Object) → IsOfKind (next x)) → IsOfKind (then_value r next)
kind_then (Ok x) next is each = each x
kind_then (Err code) next is each = is

followed_kind : (x end : Object) → IsOfKind (followed_by x end)
followed_kind (integer n) end = refl
followed_kind (rational n d) end = refl
followed_kind (character c) end = refl
followed_kind (text b) end = refl
followed_kind (symbol h n) end = elim (is_nil h n) as (λ t. IsOfKind (cond t (Ok end) (Err ARGUMENT_KIND))) [ true ↦ tt | false ↦ refl ]
followed_kind (uninterned n) end = refl
followed_kind (pair a b) end = kind_then (followed_by b end) (λ joined. Ok (pair a joined)) (followed_kind b end) (λ _. tt)
followed_kind (vector xs) end = refl

appended_kind : (xs : List Object) → IsOfKind (appended_lists xs)
appended_kind [] = tt
appended_kind (x ∷ []) = tt
appended_kind (x ∷ y ∷ ys) = kind_then (appended_lists (y ∷ ys)) (followed_by x) (appended_kind (y ∷ ys)) (followed_kind x)

join : (front xs : List Object) (r : FunctionValue) → then_value (then_value r (followed_by (list_of xs))) (λ end. Ok (pairs front end)) ≡ then_value r (λ end. Ok (pairs (front ++ xs) end))
join front xs (Err code) = refl
join front xs (Ok end) = ap (λ v. then_value v (λ e. Ok (pairs front e))) (followed_list xs end) ∙ ap Ok (sym (pairs-append front xs end))

pub joined_more : (front xs : List Object) (x y : Object) (ys : List Object) → x ≡ list_of xs
    → then_value (appended_lists (x ∷ y ∷ ys)) (λ end. Ok (pairs front end)) ≡ then_value (appended_lists (y ∷ ys)) (λ end. Ok (pairs (front ++ xs) end))
joined_more front xs x y ys is = ap (λ z. then_value (then_value (appended_lists (y ∷ ys)) (followed_by z)) (λ end. Ok (pairs front end))) is ∙ join front xs (appended_lists (y ∷ ys))

cut : (front : List Object) (x : Object) (r : FunctionValue) → is_proper_list x ≡ false → IsOfKind r → then_value (then_value r (followed_by x)) (λ end. Ok (pairs front end)) ≡ Err ARGUMENT_KIND
cut front x (Ok end) other is = ap (λ v. then_value v (λ e. Ok (pairs front e))) (followed_not x end other)
cut front x (Err code) other is = ap Err is

pub not_joined : (front : List Object) (x y : Object) (ys : List Object) → is_proper_list x ≡ false
    → then_value (appended_lists (x ∷ y ∷ ys)) (λ end. Ok (pairs front end)) ≡ Err ARGUMENT_KIND
not_joined front x y ys other = cut front x (appended_lists (y ∷ ys)) other (appended_kind (y ∷ ys))

-- ---- proper data
pub list_items_proper : (d : Datum) (xs ys : List Datum) (tail : Option Datum) → d ≡ Datum.List xs tail → ys ≡ xs → is_proper d ≡ true → AreProper ys
list_items_proper d xs ys tail is same proper = AllPass-from_list_all is_proper ys (ap (list_all is_proper) same ∙ proper_list_items d xs tail is proper)

pub vector_items_proper : (d : Datum) (xs ys : List Datum) → d ≡ Datum.Vector xs → ys ≡ xs → is_proper d ≡ true → AreProper ys
vector_items_proper d xs ys is same proper = AllPass-from_list_all is_proper ys (ap (list_all is_proper) same ∙ proper_vector_items d xs is proper)

pub vector_proper : (xs ys : List Datum) → xs ≡ ys → AreProper ys → is_proper (Datum.Vector xs) ≡ true
vector_proper xs ys same are = is_proper-Vector xs ∙ ap (list_all is_proper) same ∙ list_all-from_AllPass is_proper ys are
