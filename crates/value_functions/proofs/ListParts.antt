-- Lists by their parts, as data and as objects.
--     dotted_parts, closed_parts      the parts of a list that ends in another object, and of one that ends in NIL
--     parts_items, parts_end      they are proper
--     all_proper, each_proper      items that are proper, by two words
use Rattle.std.proofs.Common.{◌≡◌, Bool, true, false, List, [], ◌∷◌, All, Option, Some, None, Result, Ok, Err, IfOk, refl, sym, ap, subst, ◌∙◌}
use Rattle.std.specs.Borrow.{Bor}
use Rattle.std.specs.List.{list_all}
use Rattle.std.specs.Option.{option_map_or}
use Rattle.std.proofs.lemmas.Bool.{and_parts, and_from}
use Rattle.std.proofs.lemmas.List.Elements.{All-cons, All-nil, All-head, All-tail}
use Rattle.lisp_object.specs.declared.datum.Datum
use Rattle.lisp_object.specs.declared.datum.Datum.{Datum}
use Rattle.lisp_object.specs.Object.{nil, pairs, object_is_list}
use Rattle.lisp_object.specs.Datum.{object_of, is_proper, is_list}
use Rattle.lisp_object.proofs.Objects.{object_of-List, object_of-dotted}
use Rattle.lisp_object.proofs.ProperLists.{proper_list_items, end_of_proper, proper_list_object}
use Rattle.lisp_operators.specs.EvaluationAnswers.{objects, AreProper, IsProper}
use Rattle.value_functions.specs.Parts.{IsListEnd}

pub all_proper : (items : List Datum) → list_all is_proper items ≡ true → AreProper items
all_proper [] all = All-nil IsProper
all_proper (x ∷ xs) all =
    let both = and_parts (is_proper x) (list_all is_proper xs) all in
    All-cons IsProper x xs both.0 (all_proper xs both.1)

pub each_proper : (items : List Datum) → AreProper items → list_all is_proper items ≡ true
each_proper [] all = refl
each_proper (x ∷ xs) all =
    and_from (is_proper x) (list_all is_proper xs) (All-head IsProper x xs all) (each_proper xs (All-tail IsProper x xs all))

pub dotted_parts : (d : Datum) (items parts : List Datum) (tail : Option Datum) (end last : Datum)
    → d ≡ Datum.List items tail → tail ≡ Some end → parts ≡ items → last ≡ end → is_proper d ≡ true
    → (object_of d ≡ pairs (objects parts) (object_of last)) × (object_is_list (object_of d) ≡ true)
dotted_parts d items parts tail end last is some same ending proper = (
  ap object_of (is ∙ ap (Datum.List items) some) ∙ object_of-dotted items end
      ∙ ap (λ xs. pairs (objects xs) (object_of end)) (sym same) ∙ ap (λ x. pairs (objects parts) (object_of x)) (sym ending),
  proper_list_object d items tail is proper,
)

pub closed_parts : (d : Datum) (items parts : List Datum) (tail : Option Datum)
    → d ≡ Datum.List items tail → tail ≡ None → parts ≡ items → is_proper d ≡ true
    → (object_of d ≡ pairs (objects parts) nil) × (object_is_list (object_of d) ≡ true)
closed_parts d items parts tail is none same proper = (
  ap object_of (is ∙ ap (Datum.List items) none) ∙ object_of-List items ∙ ap (λ xs. pairs (objects xs) nil) (sym same),
  proper_list_object d items tail is proper,
)

pub parts_items : (d : Datum) (items parts : List Datum) (tail : Option Datum)
    → d ≡ Datum.List items tail → parts ≡ items → is_proper d ≡ true → AreProper parts
parts_items d items parts tail is same proper = subst AreProper (sym same) (all_proper items (proper_list_items d items tail is proper))

pub parts_end : (d : Datum) (items : List Datum) (tail : Option Datum) (end last : Datum)
    → d ≡ Datum.List items tail → tail ≡ Some end → last ≡ end → is_proper d ≡ true
    → (is_proper last ≡ true) × (is_list last ≡ false)
parts_end d items tail end last is some ending proper =
    subst (λ x. (is_proper x ≡ true) × (is_list x ≡ false)) (sym ending)
    (end_of_proper items end (ap is_proper (sym (is ∙ ap (Datum.List items) some)) ∙ proper))

-- the list of such items is proper, if the tail is
pub list_is_proper : {E : Type 0} (result : Result Datum E) (copies items : List Datum) (tail : Option Datum)
    → IfOk result (λ d. list_all is_proper copies ≡ true → option_map_or is_proper tail true ≡ true → is_proper d ≡ true)
    → copies ≡ items → AreProper items → option_map_or is_proper tail true ≡ true → IfOk result IsProper
list_is_proper (Ok d) copies items tail is same all end = is (ap (list_all is_proper) same ∙ each_proper items all) end
list_is_proper (Err e) copies items tail is same all end = tt

pub end_proper : (end : Option (Bor Datum)) (last : Bor Datum) (d : Datum) → IsListEnd end → end ≡ Some last → d ≡ last.now → is_proper d ≡ true
end_proper end last d is some same = ap is_proper same ∙ (subst IsListEnd some is).0
