-- Lists that end in NIL, by the data that they are.
--     list_items_of, dotted_items_of, list_items_proper      the items of a list
use Rattle.std.proofs.Common.{◌≡◌, true, false, cond, List, [], ◌∷◌, option_map, is_some, Option, Some, None, refl, sym, ap, ◌∙◌}
use Rattle.std.specs.List.{list_all}
use Rattle.std.proofs.lemmas.List.Sums.{AllPass-from_list_all}
use Rattle.lisp_object.specs.Object.{Object, integer, rational, character, text, symbol, uninterned, pair, vector, list_of, is_proper_list}
use Rattle.lisp_object.specs.declared.datum.Datum
use Rattle.lisp_object.specs.declared.datum.Datum.{Datum}
use Rattle.lisp_object.specs.Datum.{object_of, is_proper}
use Rattle.lisp_object.proofs.Objects.{object_of-List}
use Rattle.lisp_object.proofs.ProperLists.{proper_list_items}
use Rattle.lisp_operators.specs.EvaluationAnswers.{objects, AreProper}
use Rattle.lisp_operators.proofs.Shapes.{dotted_pair}
use Rattle.value_functions.specs.Sequences.{items_of}

items_of_list : (xs : List Object) → items_of (list_of xs) ≡ Some xs
items_of_list [] = refl
items_of_list (x ∷ xs) = ap (option_map (λ ys. x ∷ ys)) (items_of_list xs)

no_items : (x : Object) → is_proper_list x ≡ false → items_of x ≡ None
no_items (integer n) other = refl
no_items (rational n d) other = refl
no_items (character c) other = refl
no_items (text b) other = refl
no_items (symbol h n) other = ap (λ t. cond t (Some []) None) other
no_items (uninterned n) other = refl
no_items (pair a b) other = ap (option_map (λ ys. a ∷ ys)) (no_items b other)
no_items (vector xs) other = refl

pub list_items_of : (d : Datum) (xs : List Datum) → d ≡ Datum.List xs None → Some (objects xs) ≡ items_of (object_of d)
list_items_of d xs is = sym (ap (λ e. items_of (object_of e)) is ∙ ap items_of (object_of-List xs) ∙ items_of_list (objects xs))

pub dotted_items_of : (d : Datum) (xs : List Datum) (tail : Option Datum) → d ≡ Datum.List xs tail → is_proper d ≡ true → is_some tail ≡ true → None ≡ items_of (object_of d)
dotted_items_of d xs tail is proper some =
    let found = dotted_pair d xs tail is proper some in
    sym (ap items_of found.2 ∙ no_items (pair found.0 found.1) found.3)

pub list_items_proper : (d : Datum) (xs ys : List Datum) (tail : Option Datum) → d ≡ Datum.List xs tail → ys ≡ xs → is_proper d ≡ true → AreProper ys
list_items_proper d xs ys tail is same proper = AllPass-from_list_all is_proper ys (ap (list_all is_proper) same ∙ proper_list_items d xs tail is proper)
