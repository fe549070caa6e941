-- Lists, as data and as objects.
--     items_of_proper, tail_of_proper, end_of_proper      what a proper list has in it
--     proper_list_items, proper_list_tail, proper_vector_items      the same of a datum that is one
--     list_object, no_list_object, proper_list_object      a proper datum is a list where its object is
--     pairs_proper, proper_pairs, no_proper_list, proper_list_is, nil_symbol      which objects are proper lists
use Rattle.std.proofs.Common.{◌≡◌, ◌<◌, List, [], ◌∷◌, Option, Some, None, Bool, true, false, not, ◌&&◌, nat_lt, length, map, refl, sym, ap, subst, ◌∙◌, ltb-true, arith}
use Rattle.std.specs.Prelude.{ℕ, codes}
use Rattle.std.specs.List.{list_all}
use Rattle.std.specs.Str.{bytes_eq}
use Rattle.std.specs.Cmp.Lexicographic.{bytes_decides}
use Rattle.std.specs.Option.{option_map_or}
use Rattle.std.proofs.lemmas.Bool.{and_parts, not-true}
use Rattle.lisp_object.specs.declared.datum.Datum
use Rattle.lisp_object.specs.declared.datum.Datum.{Datum, roll-Datum, out-Datum, roll-out-Datum, map-Datum, fold-roll-Datum}
use Rattle.lisp_object.specs.declared.datum.Datum.TheOpen.{Datum-F}
use Rattle.lisp_object.specs.declared.datum.Datum.TheVariants.{rolls-List}
use Rattle.lisp_object.specs.Object.{Object, list_of, is_nil, pair, nil, pairs, object_is_list, is_proper_list}
use Rattle.lisp_object.specs.Datum.{object_of, object_step, standing, standing_step, is_proper, is_list}
use Rattle.lisp_object.proofs.Objects.{object_of-List, object_of-dotted}
use Rattle.lisp_object.proofs.Properness.{is_proper-List, is_proper-dotted, is_proper-Vector, is_list-List, is_list-dotted}

pub items_of_proper : (items : List Datum) (tail : Option Datum) → is_proper (Datum.List items tail) ≡ true
    → (0 < length items) × (list_all is_proper items ≡ true)
items_of_proper items None e =
    let parts : (nat_lt 0 (length items) ≡ true) × (list_all is_proper items ≡ true) =
    and_parts (nat_lt 0 (length items)) (list_all is_proper items) (sym (is_proper-List items) ∙ e) in
    (ltb-true 0 (length items) parts.0, parts.1)
items_of_proper items (Some d) e =
    let whole : ((nat_lt 0 (length items) && list_all is_proper items) ≡ true) × ((is_proper d && not (is_list d)) ≡ true) =
    and_parts (nat_lt 0 (length items) && list_all is_proper items) (is_proper d && not (is_list d)) (sym (is_proper-dotted items d) ∙ e) in
    let parts : (nat_lt 0 (length items) ≡ true) × (list_all is_proper items ≡ true) =
    and_parts (nat_lt 0 (length items)) (list_all is_proper items) whole.0 in
    (ltb-true 0 (length items) parts.0, parts.1)

pub tail_of_proper : (items : List Datum) (tail : Option Datum) → is_proper (Datum.List items tail) ≡ true
    → option_map_or (λ d. is_proper d && not (is_list d)) tail true ≡ true
tail_of_proper items None e = refl
tail_of_proper items (Some d) e =
    (and_parts (nat_lt 0 (length items) && list_all is_proper items) (is_proper d && not (is_list d)) (sym (is_proper-dotted items d) ∙ e)).1

-- what ends a proper list after a dot is proper, and no list
pub end_of_proper : (items : List Datum) (end : Datum) → is_proper (Datum.List items (Some end)) ≡ true
    → (is_proper end ≡ true) × (is_list end ≡ false)
end_of_proper items end e =
    let parts : (is_proper end ≡ true) × (not (is_list end) ≡ true) =
    and_parts (is_proper end) (not (is_list end)) (tail_of_proper items (Some end) e) in
    (parts.0, not-true (is_list end) parts.1)

pub proper_list_items : (d : Datum) (items : List Datum) (tail : Option Datum) → d ≡ Datum.List items tail → is_proper d ≡ true
    → list_all is_proper items ≡ true
proper_list_items d items tail is e = (items_of_proper items tail (ap is_proper (sym is) ∙ e)).1

pub proper_list_tail : (d : Datum) (items : List Datum) (tail : Option Datum) → d ≡ Datum.List items tail → is_proper d ≡ true
    → option_map_or (λ x. is_proper x && not (is_list x)) tail true ≡ true
proper_list_tail d items tail is e = tail_of_proper items tail (ap is_proper (sym is) ∙ e)

pub proper_vector_items : (d : Datum) (items : List Datum) → d ≡ Datum.Vector items → is_proper d ≡ true
    → list_all is_proper items ≡ true
proper_vector_items d items is e = sym (is_proper-Vector items) ∙ (ap is_proper (sym is) ∙ e)

-- ---- as objects
pub pairs_proper : (xs : List Object) (end : Object) → is_proper_list (pairs xs end) ≡ is_proper_list end
pairs_proper [] end = refl
pairs_proper (x ∷ xs) end = pairs_proper xs end

pub proper_pairs : (xs : List Object) → is_proper_list (pairs xs nil) ≡ true
proper_pairs xs = pairs_proper xs nil

-- what is no list is no proper list
pub no_proper_list : (x : Object) → object_is_list x ≡ false → is_proper_list x ≡ false
no_proper_list (Object.symbol home name) other = other
no_proper_list (pair a b) other = absurd (cc)
no_proper_list (Object.integer n) other = refl
no_proper_list (Object.rational n d) other = refl
no_proper_list (Object.character c) other = refl
no_proper_list (Object.text bytes) other = refl
no_proper_list (Object.uninterned name) other = refl
no_proper_list (Object.vector xs) other = refl

-- a symbol that is named NIL is NIL
pub nil_symbol : (home name : List ℕ) → is_nil home name ≡ true → Object.symbol home name ≡ nil
nil_symbol home name named =
    let parts : (bytes_eq home (codes "COMMON-LISP") ≡ true) × (bytes_eq name (codes "NIL") ≡ true) =
    and_parts (bytes_eq home (codes "COMMON-LISP")) (bytes_eq name (codes "NIL")) named in
    λ i. Object.symbol ((bytes_decides home (codes "COMMON-LISP")).0 parts.0 i) ((bytes_decides name (codes "NIL")).0 parts.1 i)

-- a proper list is the list of its items
pub proper_list_is : (x : Object) → is_proper_list x ≡ true → (xs : List Object) × (x ≡ list_of xs)
proper_list_is (Object.symbol home name) named = ([], nil_symbol home name named)
proper_list_is (pair a b) proper =
    let later : (xs : List Object) × (b ≡ list_of xs) = proper_list_is b proper in
    (a ∷ later.0, ap (pair a) later.1)
proper_list_is (Object.integer n) other = absurd (cc)
proper_list_is (Object.rational n d) other = absurd (cc)
proper_list_is (Object.character c) other = absurd (cc)
proper_list_is (Object.text bytes) other = absurd (cc)
proper_list_is (Object.uninterned name) other = absurd (cc)
proper_list_is (Object.vector xs) other = absurd (cc)

pairs_list : (items : List Datum) (end : Object) → 0 < length items → object_is_list (pairs (map object_of items) end) ≡ true
pairs_list [] end some = absurd (omega arith)
pairs_list (x ∷ xs) end some = refl

-- a proper datum is a list where its object is
abbrev Agrees : Datum → Type 0
Agrees d = is_proper d ≡ true → is_list d ≡ object_is_list (object_of d)

list_arm : (items : List Datum) (tail : Option Datum) → Agrees (Datum.List items tail)
list_arm items None e =
    is_list-List items ∙ sym (ap object_is_list (object_of-List items) ∙ pairs_list items nil (items_of_proper items None e).0)
list_arm items (Some d) e =
    is_list-dotted items d
    ∙ sym (ap object_is_list (object_of-dotted items d) ∙ pairs_list items (object_of d) (items_of_proper items (Some d) e).0)

abbrev second : Bool × Bool → Bool
second p = p.1

-- both tests at a variant that is no `List`
alike : (y : Datum-F Datum) → (standing_step (map-Datum Datum (Bool × Bool) standing y)).1 ≡ object_is_list (object_step (map-Datum Datum Object object_of y)) → Agrees (roll-Datum y)
alike y e _ =
    ap second (fold-roll-Datum (Bool × Bool) standing_step y) ∙ e ∙ sym (ap object_is_list (fold-roll-Datum Object object_step y))

layer : (y : Datum-F Datum) → Agrees (roll-Datum y)
layer (Datum-F.Integer n) = alike (Datum-F.Integer n) refl
layer (Datum-F.Rational r) = alike (Datum-F.Rational r) refl
layer (Datum-F.Char c) = alike (Datum-F.Char c) refl
layer (Datum-F.Text bytes) = alike (Datum-F.Text bytes) refl
layer (Datum-F.Symbol home name) = alike (Datum-F.Symbol home name) refl
layer (Datum-F.Uninterned name) = alike (Datum-F.Uninterned name) refl
layer (Datum-F.List items tail) = subst Agrees (sym (rolls-List items tail)) (list_arm items tail)
layer (Datum-F.Vector items) = alike (Datum-F.Vector items) refl

pub list_object : (d : Datum) → is_proper d ≡ true → is_list d ≡ object_is_list (object_of d)
list_object d = subst Agrees (roll-out-Datum d) (layer (out-Datum d))

-- the object of a proper datum that is no list is no list
pub no_list_object : (d : Datum) → is_proper d ≡ true → is_list d ≡ false → object_is_list (object_of d) ≡ false
no_list_object d proper other = sym (list_object d proper) ∙ other

is_a_list : (items : List Datum) (tail : Option Datum) → is_list (Datum.List items tail) ≡ true
is_a_list items None = is_list-List items
is_a_list items (Some d) = is_list-dotted items d

pub proper_list_object : (d : Datum) (items : List Datum) (tail : Option Datum) → d ≡ Datum.List items tail → is_proper d ≡ true
    → object_is_list (object_of d) ≡ true
proper_list_object d items tail is proper = sym (list_object d proper) ∙ ap is_list is ∙ is_a_list items tail
