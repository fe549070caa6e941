-- Lists that are joined.
use Rattle.std.proofs.Common.{◌≡◌, ◌≢◌, ℕ, ◌<◌, List, [], ◌∷◌, ◌++◌, length, map, Option, Some, None, Bool, true, false, not, ◌&&◌, nat_lt, refl, sym, ap, ◌∙◌, inl, inr, arith}
use Rattle.std.specs.Prelude.{codes}
use Rattle.std.specs.List.{list_all}
use Rattle.std.specs.Str.{bytes_eq}
use Rattle.std.specs.Cmp.Lexicographic.{bytes_decides}
use Rattle.std.proofs.lemmas.List.{map-append, length-append}
use Rattle.std.proofs.lemmas.List.Folds.{list_all-append}
use Rattle.std.proofs.lemmas.Bool.{and_parts, and_from, lt-ltb, cases_Bool}
use Rattle.lisp_object.specs.declared.datum.Datum
use Rattle.lisp_object.specs.declared.datum.Datum.{Datum, roll-Datum, out-Datum, roll-out-Datum, fold-roll-Datum}
use Rattle.lisp_object.specs.declared.datum.Datum.TheOpen.{Datum-F}
use Rattle.lisp_object.specs.declared.datum.Datum.TheVariants.{rolls-Symbol, rolls-List}
use Rattle.lisp_object.specs.Object.{Object, nil, is_nil, pairs}
use Rattle.lisp_object.specs.Datum.{object_of, standing_step, is_proper, is_list}
use Rattle.lisp_object.proofs.Objects.{object_of-List, object_of-dotted}
use Rattle.lisp_object.proofs.Properness.{is_proper-List, is_proper-dotted}

abbrev second : Bool × Bool → Bool
second p = p.1

-- a symbol that is not NIL has another home or another name
pub not_named_nil : (home name : List ℕ) → (Datum.Symbol home name ≡ Datum.Symbol (codes "COMMON-LISP") (codes "NIL") → ⊥) → is_nil home name ≡ false
not_named_nil home name other =
    elim (cases_Bool (is_nil home name)) [
      | inl named ↦
          let parts : (bytes_eq home (codes "COMMON-LISP") ≡ true) × (bytes_eq name (codes "NIL") ≡ true) =
          and_parts (bytes_eq home (codes "COMMON-LISP")) (bytes_eq name (codes "NIL")) named in
          absurd (other (λ i. Datum.Symbol ((bytes_decides home (codes "COMMON-LISP")).0 parts.0 i) ((bytes_decides name (codes "NIL")).0 parts.1 i)))
      | inr unnamed ↦ unnamed
    ]

pub pairs-append : (xs ys : List Object) (end : Object) → pairs (xs ++ ys) end ≡ pairs xs (pairs ys end)
pairs-append [] ys end = refl
pairs-append (x ∷ xs) ys end = ap (Object.pair x) (pairs-append xs ys end)

pub object_of-joined : (items more : List Datum) (tail : Option Datum)
    → object_of (Datum.List (items ++ more) tail) ≡ pairs (map object_of items) (object_of (Datum.List more tail))
object_of-joined items more None =
    object_of-List (items ++ more) ∙ ap (λ xs. pairs xs nil) (map-append object_of items more)
    ∙ pairs-append (map object_of items) (map object_of more) nil
    ∙ ap (pairs (map object_of items)) (sym (object_of-List more))
object_of-joined items more (Some tail) =
    object_of-dotted (items ++ more) tail ∙ ap (λ xs. pairs xs (object_of tail)) (map-append object_of items more)
    ∙ pairs-append (map object_of items) (map object_of more) (object_of tail)
    ∙ ap (pairs (map object_of items)) (sym (object_of-dotted more tail))

-- more items in front keep a list proper
some_more : (items more : List Datum) → 0 < length items → nat_lt 0 (length (items ++ more)) ≡ true
some_more items more some = lt-ltb 0 (length (items ++ more)) (omega (arith, length-append items more, some))

all_more : (items more : List Datum) → list_all is_proper items ≡ true → list_all is_proper more ≡ true → list_all is_proper (items ++ more) ≡ true
all_more items more a b =
    list_all-append is_proper items more ∙ and_from (list_all is_proper items) (list_all is_proper more) a b

pub is_proper-joined : (items more : List Datum) (tail : Option Datum) → 0 < length items → list_all is_proper items ≡ true
    → is_proper (Datum.List more tail) ≡ true → is_proper (Datum.List (items ++ more) tail) ≡ true
is_proper-joined items more None some all proper =
    let parts : (nat_lt 0 (length more) ≡ true) × (list_all is_proper more ≡ true) =
    and_parts (nat_lt 0 (length more)) (list_all is_proper more) (sym (is_proper-List more) ∙ proper) in
    is_proper-List (items ++ more)
    ∙ and_from (nat_lt 0 (length (items ++ more))) (list_all is_proper (items ++ more)) (some_more items more some) (all_more items more all parts.1)
is_proper-joined items more (Some tail) some all proper =
    let ends : Bool = is_proper tail && not (is_list tail) in
    let whole : ((nat_lt 0 (length more) && list_all is_proper more) ≡ true) × (ends ≡ true) =
    and_parts (nat_lt 0 (length more) && list_all is_proper more) ends (sym (is_proper-dotted more tail) ∙ proper) in
    let parts : (nat_lt 0 (length more) ≡ true) × (list_all is_proper more ≡ true) =
    and_parts (nat_lt 0 (length more)) (list_all is_proper more) whole.0 in
    is_proper-dotted (items ++ more) tail
    ∙ and_from (nat_lt 0 (length (items ++ more)) && list_all is_proper (items ++ more)) ends
    (and_from (nat_lt 0 (length (items ++ more))) (list_all is_proper (items ++ more)) (some_more items more some) (all_more items more all parts.1))
    whole.1

-- what `list` gives where there are items: they end in NIL, in a list or in another object
pub proper_items : (items : List Datum) → 0 < length items → list_all is_proper items ≡ true → is_proper (Datum.List items None) ≡ true
proper_items items some all =
    is_proper-List items ∙ and_from (nat_lt 0 (length items)) (list_all is_proper items) (lt-ltb 0 (length items) some) all

pub proper_dotted : (items : List Datum) (tail : Datum) → 0 < length items → list_all is_proper items ≡ true
    → is_proper tail ≡ true → is_list tail ≡ false → is_proper (Datum.List items (Some tail)) ≡ true
proper_dotted items tail some all proper other =
    is_proper-dotted items tail
    ∙ and_from (nat_lt 0 (length items) && list_all is_proper items) (is_proper tail && not (is_list tail))
    (and_from (nat_lt 0 (length items)) (list_all is_proper items) (lt-ltb 0 (length items) some) all)
    (and_from (is_proper tail) (not (is_list tail)) proper (ap not other))

-- what is no `List` and not NIL is no list
is_list-layer : (y : Datum-F Datum) → ((items : List Datum) (tail : Option Datum) → roll-Datum y ≡ Datum.List items tail → ⊥)
    → roll-Datum y ≢ Datum.Symbol (codes "COMMON-LISP") (codes "NIL") → is_list (roll-Datum y) ≡ false
is_list-layer (Datum-F.Integer n) _ _ = ap second (fold-roll-Datum (Bool × Bool) standing_step (Datum-F.Integer n))
is_list-layer (Datum-F.Rational r) _ _ = ap second (fold-roll-Datum (Bool × Bool) standing_step (Datum-F.Rational r))
is_list-layer (Datum-F.Char c) _ _ = ap second (fold-roll-Datum (Bool × Bool) standing_step (Datum-F.Char c))
is_list-layer (Datum-F.Text bytes) _ _ = ap second (fold-roll-Datum (Bool × Bool) standing_step (Datum-F.Text bytes))
is_list-layer (Datum-F.Symbol home name) _ not_nil =
    ap second (fold-roll-Datum (Bool × Bool) standing_step (Datum-F.Symbol home name)) ∙ not_named_nil home name (λ e. not_nil (rolls-Symbol home name ∙ e))
is_list-layer (Datum-F.Uninterned name) _ _ = ap second (fold-roll-Datum (Bool × Bool) standing_step (Datum-F.Uninterned name))
is_list-layer (Datum-F.List items tail) not_list _ = absurd (not_list items tail (rolls-List items tail))
is_list-layer (Datum-F.Vector items) _ _ = ap second (fold-roll-Datum (Bool × Bool) standing_step (Datum-F.Vector items))

pub is_list-other : (d : Datum) → ((items : List Datum) (tail : Option Datum) → d ≡ Datum.List items tail → ⊥)
    → d ≢ Datum.Symbol (codes "COMMON-LISP") (codes "NIL") → is_list d ≡ false
is_list-other d not_list not_nil =
    let rolled : roll-Datum (out-Datum d) ≡ d = roll-out-Datum d in
    ap is_list (sym rolled)
    ∙ is_list-layer (out-Datum d) (λ items tail e. not_list items tail (sym rolled ∙ e)) (λ e. not_nil (sym rolled ∙ e))
