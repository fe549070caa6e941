-- Which data are FORGET-NAMES without arguments.
--     dotted_form, longer_form      a list that ends in another object, or has more items, is not
--     listed_name, head_proper      a list is no name, and what is first in a proper one is proper
--     alone_form      one with an item is, if that is the symbol
use Rattle.std.proofs.Common.{◌≡◌, ◌<◌, true, false, ◌&&◌, List, [], ◌∷◌, Option, Some, None, is_some, get_or, length, refl, sym, ap, ◌∙◌, arith}
use Rattle.std.proofs.Math.Bool.{and-false, and-true}
use Rattle.std.specs.List.{list_all}
use Rattle.std.proofs.lemmas.Bool.{and_parts, false≢true}
use Rattle.lisp_object.specs.declared.datum.Datum
use Rattle.lisp_object.specs.declared.datum.Datum.{Datum}
use Rattle.lisp_object.specs.Object.{Object, integer, rational, character, text, symbol, uninterned, pair, vector, is_proper_list}
use Rattle.lisp_object.specs.Datum.{object_of, is_proper}
use Rattle.lisp_object.proofs.Objects.{object_of-List, object_of-dotted}
use Rattle.lisp_object.proofs.ProperLists.{items_of_proper}
use Rattle.lisp_operators.proofs.Shapes.{dotted_pair}
use Rattle.prevalence_store.specs.meaning.Forgetting.{is_forget_names, is_forgetting, is_nothing}

-- a list is no symbol
pub listed_name : (d : Datum) (items : List Datum) (tail : Option Datum) → d ≡ Datum.List items tail → is_proper d ≡ true → is_forget_names (object_of d) ≡ false
listed_name d [] tail is proper = absurd (omega (arith, (items_of_proper [] tail (ap is_proper (sym is) ∙ proper)).0))
listed_name d (y ∷ ys) None is proper = ap is_forget_names (ap object_of is ∙ object_of-List (y ∷ ys))
listed_name d (y ∷ ys) (Some end) is proper = ap is_forget_names (ap object_of is ∙ object_of-dotted (y ∷ ys) end)

not_nothing : (x : Object) → is_proper_list x ≡ false → is_nothing x ≡ false
not_nothing (symbol home name) is = is
not_nothing (integer n) is = refl
not_nothing (rational n d) is = refl
not_nothing (character c) is = refl
not_nothing (text characters) is = refl
not_nothing (uninterned name) is = refl
not_nothing (pair a b) is = refl
not_nothing (vector xs) is = refl

pub dotted_form : (d : Datum) (items : List Datum) (tail : Option Datum) → d ≡ Datum.List items tail → is_proper d ≡ true → is_some tail ≡ true → is_forgetting (object_of d) ≡ false
dotted_form d items tail is proper some =
    let shape = dotted_pair d items tail is proper some in
    ap is_forgetting shape.2 ∙ ap (λ b. is_forget_names shape.0 && b) (not_nothing shape.1 shape.3) ∙ and-false (is_forget_names shape.0)

module _ (d : Datum) where
  some_items : (items : List Datum) (tail : Option Datum) → d ≡ Datum.List items tail → is_proper d ≡ true → 0 < length items
  some_items items tail is proper = (items_of_proper items tail (ap is_proper (sym is) ∙ proper)).0

  -- its first item is proper too
  pub head_proper : (items xs : List Datum) (tail : Option Datum) (x : Datum) → d ≡ Datum.List items tail → is_proper d ≡ true → xs ≡ items → length xs ≡ 1 → x ≡ get_or xs 0 x → is_proper x ≡ true
  head_proper items [] tail x is proper same one first = absurd (omega (arith, one))
  head_proper items (y ∷ ys) tail x is proper same one first =
      let all : list_all is_proper (y ∷ ys) ≡ true = ap (list_all is_proper) same ∙ (items_of_proper items tail (ap is_proper (sym is) ∙ proper)).1 in
      ap is_proper first ∙ (and_parts (is_proper y) (list_all is_proper ys) all).0

  pub longer_form : (items xs : List Datum) (tail : Option Datum) → d ≡ Datum.List items tail → is_proper d ≡ true → is_some tail ≡ false → xs ≡ items → (length xs ≡ 1 → ⊥)
      → is_forgetting (object_of d) ≡ false
  longer_form items xs (Some end) is proper none same more = absurd (false≢true (sym none))
  longer_form [] xs None is proper none same more = absurd (omega (arith, some_items [] None is proper))
  longer_form (y ∷ []) xs None is proper none same more = absurd (more (ap length same))
  longer_form (y ∷ z ∷ zs) xs None is proper none same more =
      ap is_forgetting (ap object_of is ∙ object_of-List (y ∷ z ∷ zs)) ∙ and-false (is_forget_names (object_of y))

  pub alone_form : (items xs : List Datum) (tail : Option Datum) (x : Datum) → d ≡ Datum.List items tail → is_proper d ≡ true → is_some tail ≡ false → xs ≡ items → length xs ≡ 1 → x ≡ get_or xs 0 x
      → is_forgetting (object_of d) ≡ is_forget_names (object_of x)
  alone_form items xs (Some end) x is proper none same one first = absurd (false≢true (sym none))
  alone_form [] xs None x is proper none same one first = absurd (omega (arith, some_items [] None is proper))
  alone_form (y ∷ []) xs None x is proper none same one first =
      let head : x ≡ y = first ∙ ap (λ l. get_or l 0 x) same in
      ap is_forgetting (ap object_of is ∙ object_of-List (y ∷ [])) ∙ and-true (is_forget_names (object_of y)) ∙ ap (λ z. is_forget_names (object_of z)) (sym head)
  alone_form (y ∷ z ∷ zs) xs None x is proper none same one first = absurd (omega (arith, one, ap length same))
