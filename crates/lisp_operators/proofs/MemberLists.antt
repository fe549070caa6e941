-- Lists of arguments of a kind.
--     members_or_each      one argument, or a list of them, by its members
--     members_list, members_dotted, members_proper, all_of_map      the members of a datum
use Rattle.std.proofs.Common.{◌≡◌, ℕ, Bool, true, false, cond, List, [], ◌∷◌, Option, Some, None, option_map, option_and_then, map, is_some, All, refl, sym, ap, subst, ◌∙◌}
use Rattle.std.specs.Option.{option_map_or}
use Rattle.std.specs.List.{list_all}
use Rattle.std.proofs.lemmas.Bool.{false≢true, and_parts}
use Rattle.std.proofs.lemmas.List.Elements.{All-cons, All-nil, All-head, All-tail}
use Rattle.lisp_object.specs.declared.datum.Datum.{Datum}
use Rattle.lisp_object.specs.Object.{Object, integer, rational, character, text, symbol, uninterned, pair, vector, is_nil, list_of, object_is_list, is_proper_list}
use Rattle.lisp_object.specs.declared.datum.Datum
use Rattle.lisp_object.specs.Datum.{object_of, is_proper}
use Rattle.lisp_object.proofs.ProperLists.{proper_list_object, items_of_proper}
use Rattle.lisp_operators.proofs.Shapes.{dotted_pair}
use Rattle.lisp_operators.proofs.ArgumentLists.{list_object}
use Rattle.lisp_operators.specs.ArgumentKinds.{each_of, one_or_each}
use Rattle.lisp_operators.specs.Members.{each_in, AreMembers}

module _ {A : Type 0} (kind : Object → Option A) where
  each_of_list : (xs : List Object) → each_of kind (list_of xs) ≡ each_in kind xs
  each_of_list [] = refl
  each_of_list (x ∷ xs) = ap (λ r. option_and_then (λ y. option_map (λ ys. y ∷ ys) r) (kind x)) (each_of_list xs)

  pub no_more : (o : Option A) → option_and_then (λ y. option_map (λ (ys : List A). y ∷ ys) None) o ≡ None
  no_more None = refl
  no_more (Some y) = refl

  each_of_improper : (x : Object) → is_proper_list x ≡ false → each_of kind x ≡ None
  each_of_improper (pair a b) e = ap (λ r. option_and_then (λ y. option_map (λ ys. y ∷ ys) r) (kind a)) (each_of_improper b e) ∙ no_more (kind a)
  each_of_improper (symbol h n) e = ap (λ b. cond b (Some []) None) e
  each_of_improper (integer n) e = refl
  each_of_improper (rational n d) e = refl
  each_of_improper (character c) e = refl
  each_of_improper (text b) e = refl
  each_of_improper (uninterned n) e = refl
  each_of_improper (vector xs) e = refl

  only : (o : Option A) → option_map (λ y. y ∷ []) o ≡ option_and_then (λ y. option_map (λ (ys : List A). y ∷ ys) (Some [])) o
  only None = refl
  only (Some y) = refl

  of_one : (x : Object) (xs : List Object) → xs ≡ x ∷ [] → option_map (λ y. y ∷ []) (kind x) ≡ each_in kind xs
  of_one x xs e = only (kind x) ∙ ap (each_in kind) (sym e)

  of_symbol : (h n : List ℕ) (xs : List Object) (b : Bool) → is_nil h n ≡ b → (b ≡ true → symbol h n ≡ list_of xs) → (b ≡ false → xs ≡ symbol h n ∷ [])
      → cond b (Some []) (option_map (λ y. y ∷ []) (kind (symbol h n))) ≡ each_in kind xs
  of_symbol h n [] true is whole one = refl
  of_symbol h n (x ∷ xs) true is whole one = absurd (let e : symbol h n ≡ pair x (list_of xs) = whole refl in cc)
  of_symbol h n xs false is whole one = of_one (symbol h n) xs (one refl)

  pub members_or_each : (x : Object) (o : Option (List Object)) → AreMembers x o → one_or_each kind x ≡ option_map_or (each_in kind) o None
  members_or_each (pair a b) (Some xs) are = ap (each_of kind) (are.0 refl) ∙ each_of_list xs
  members_or_each (symbol h n) (Some xs) are = of_symbol h n xs (is_nil h n) refl are.0 are.1
  members_or_each (integer n) (Some xs) are = of_one (integer n) xs (are.1 refl)
  members_or_each (rational n d) (Some xs) are = of_one (rational n d) xs (are.1 refl)
  members_or_each (character c) (Some xs) are = of_one (character c) xs (are.1 refl)
  members_or_each (text b) (Some xs) are = of_one (text b) xs (are.1 refl)
  members_or_each (uninterned n) (Some xs) are = of_one (uninterned n) xs (are.1 refl)
  members_or_each (vector ys) (Some xs) are = of_one (vector ys) xs (are.1 refl)
  members_or_each (pair a b) None are = each_of_improper (pair a b) are.1
  members_or_each (symbol h n) None are = absurd (false≢true (sym are.1 ∙ are.0))
  members_or_each (integer n) None are = absurd (false≢true are.0)
  members_or_each (rational n d) None are = absurd (false≢true are.0)
  members_or_each (character c) None are = absurd (false≢true are.0)
  members_or_each (text b) None are = absurd (false≢true are.0)
  members_or_each (uninterned n) None are = absurd (false≢true are.0)
  members_or_each (vector xs) None are = absurd (false≢true are.0)

-- ---- the members of a datum
pub members_list : (d : Datum) (items xs : List Datum) (tail : Option Datum) → d ≡ Datum.List items tail → is_proper d ≡ true → is_some tail ≡ false → xs ≡ items → AreMembers (object_of d) (Some (map object_of xs))
members_list d items xs tail is proper none same = (
  λ _. list_object d items tail is none ∙ ap (λ l. list_of (map object_of l)) (sym same),
  λ other. absurd (false≢true (sym other ∙ proper_list_object d items tail is proper)),
)

pub members_dotted : (d : Datum) (items : List Datum) (tail : Option Datum) → d ≡ Datum.List items tail → is_proper d ≡ true → is_some tail ≡ true → AreMembers (object_of d) None
members_dotted d items tail is proper some =
    let shape = dotted_pair d items tail is proper some in
    subst (λ x. (object_is_list x ≡ true) × (is_proper_list x ≡ false)) (sym shape.2) (refl, shape.3)

all_proper : (xs : List Datum) → list_all is_proper xs ≡ true → All (λ d. is_proper d ≡ true) xs
all_proper [] e = All-nil (λ d. is_proper d ≡ true)
all_proper (x ∷ xs) e =
    let both = and_parts (is_proper x) (list_all is_proper xs) e in
    All-cons (λ d. is_proper d ≡ true) x xs both.0 (all_proper xs both.1)

pub members_proper : (d : Datum) (items xs : List Datum) (tail : Option Datum) → d ≡ Datum.List items tail → is_proper d ≡ true → xs ≡ items → All (λ x. is_proper x ≡ true) xs
members_proper d items xs tail is proper same = subst (All (λ x. is_proper x ≡ true)) (sym same) (all_proper items ((items_of_proper items tail (ap is_proper (sym is) ∙ proper)).1))

pub all_of_map : {X Y : Type 0} (P : Y → Type 0) (f : X → Y) (xs : List X) → All P (map f xs) → All (λ x. P (f x)) xs
all_of_map P f [] all = All-nil (λ x. P (f x))
all_of_map P f (x ∷ xs) all = All-cons (λ z. P (f z)) x xs (All-head P (f x) (map f xs) all) (all_of_map P f xs (All-tail P (f x) (map f xs) all))
