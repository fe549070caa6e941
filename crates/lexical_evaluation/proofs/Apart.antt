-- Lists that are taken apart.
--     last_of, last_kept, come_more      what holds of all holds of the last one and of the others; one form more
--     apart_so, dotted_so, other_so      by the items and the tail
--     atom_so, items_proper      what is no list; the items of one
--     no_bindings      bindings that are no list with an item are none at all
use Rattle.std.proofs.Common.{◌≡◌, ◌≢◌, Bool, true, false, ◌&&◌, cond, List, [], ◌∷◌, ◌++◌, All, reverse, map, length, Option, Some, None, is_some, option_map, option_to_list, refl, sym, ap, subst, ◌∙◌, arith}
use Rattle.std.specs.List.{list_all}
use Rattle.std.specs.Option.{option_map_or}
use Rattle.std.specs.Global.{Vec}
use Rattle.std.proofs.lemmas.Bool.{false≢true}
use Rattle.std.proofs.lemmas.List.{reverse-append, reverse-reverse, length-reverse}
use Rattle.std.proofs.lemmas.List.Sums.{AllPass-from_list_all}
use Rattle.std.proofs.lemmas.List.Elements.{All-append, All-cons, All-nil, All-head, All-tail}
use Rattle.lisp_object.specs.declared.datum.Datum
use Rattle.lisp_object.specs.declared.datum.Datum.{Datum, roll-Datum, out-Datum, roll-out-Datum, fold-roll-Datum}
use Rattle.lisp_object.specs.declared.datum.Datum.TheOpen.{Datum-F}
use Rattle.lisp_object.specs.declared.datum.Datum.TheVariants.{rolls-List}
use Rattle.lisp_object.specs.Object.{Object, integer, rational, character, text, symbol, uninterned, pair, vector, nil, is_nil, list_of, is_proper_list}
use Rattle.lisp_object.specs.Datum.{object_of, object_step, is_proper}
use Rattle.lisp_object.proofs.Objects.{object_of-List}
use Rattle.lisp_object.proofs.ProperLists.{items_of_proper, proper_pairs, nil_symbol}
use Rattle.lisp_operators.specs.ArgumentKinds.{is_pair}
use Rattle.lisp_operators.specs.EvaluationAnswers.{IsProper, AreProper}
use Rattle.value_functions.specs.Sequences.{items_of}
use Rattle.evaluator.specs.Value.{is_clause}
use Rattle.lisp_operators.proofs.Shapes.{dotted_pair}
use Rattle.lexical_evaluation.specs.Values.{are_bindings, is_binding}
use Rattle.lexical_evaluation.specs.Machine.{to_come, IsHeaded, ComesApart}
use Rattle.lexical_evaluation.proofs.Steps.{next_of}

-- ---- the last of some
pub last_of : {X : Type 0} (P : X → Type 0) (rest : List X) (x : X) → All P (rest ++ x ∷ []) → All P rest × P x
last_of P [] x all = (All-nil P, All-head P x [] all)
last_of P (y ∷ ys) x all =
    let more = last_of P ys x (All-tail P y (ys ++ x ∷ []) all) in
    (All-cons P y ys (All-head P y (ys ++ x ∷ []) all) more.0, more.1)

pub last_kept : {X : Type 0} (P : X → Type 0) (items rest : List X) (result : Option X) (x : X) → items ≡ rest ++ option_to_list result → result ≡ Some x → All P items → All P rest × P x
last_kept P items rest result x same is all = last_of P rest x (subst (All P) (same ∙ ap (λ r. rest ++ option_to_list r) is) all)

pub reversed_all : {X : Type 0} (P : X → Type 0) (xs : List X) → All P xs → All P (reverse xs)
reversed_all P [] all = All-nil P
reversed_all P (x ∷ xs) all =
    subst (All P) (sym (reverse-append (x ∷ []) xs)) (All-append P (reverse xs) (x ∷ []) (reversed_all P xs (All-tail P x xs all)) (All-cons P x [] (All-head P x xs all) (All-nil P)))

-- one form more, which is the next one
pub come_more : (items more : List Datum) (x : Datum) → more ≡ items ++ x ∷ [] → to_come more ≡ pair (object_of x) (to_come items)
come_more items more x is = ap to_come is ∙ ap (λ l. list_of (map object_of l)) (reverse-append items (x ∷ []))

-- ---- a list
apart_of : (d : Datum) (items turned rest : List Datum) (result : Option Datum) (first : Datum) → d ≡ Datum.List items None → is_proper d ≡ true → turned ≡ reverse items → turned ≡ rest ++ option_to_list result → result ≡ Some first
    → ComesApart (object_of d) first rest
apart_of d items turned rest result first is proper so same found =
    let all : AreProper items = AllPass-from_list_all is_proper items ((items_of_proper items None (ap is_proper (sym is) ∙ proper)).1) in
    let parts = last_kept IsProper turned rest result first same found (subst AreProper (sym so) (reversed_all IsProper items all)) in
    record {
      object = ap object_of is ∙ object_of-List items ∙ ap (λ l. list_of (map object_of l)) (sym (reverse-reverse items)) ∙ ap to_come (sym so) ∙ next_of turned rest result first same found;
      list = proper_pairs (map object_of (reverse rest));
      first_proper = parts.1;
      others_proper = parts.0;
    }

pub apart_so : (d : Datum) (items turned : List Datum) (tail : Option Datum) (rest : Vec Datum) (result : Option Datum) (first : Datum) → d ≡ Datum.List items tail → is_proper d ≡ true → is_some tail ≡ false → turned ≡ reverse items
    → turned ≡ rest.items ++ option_to_list result → result ≡ Some first → IsHeaded d (Some (first, rest))
apart_so d items turned None rest result first is proper none so same found = apart_of d items turned rest.items result first is proper so same found
apart_so d items turned (Some end) rest result first is proper none so same found = absurd (false≢true (sym none))

-- with no items it is none
pub empty_so : (d : Datum) (items turned : List Datum) (tail : Option Datum) → d ≡ Datum.List items tail → is_proper d ≡ true → turned ≡ reverse items → length turned ≡ 0 → IsHeaded d None
empty_so d items turned tail is proper so none =
    absurd (omega (arith, (items_of_proper items tail (ap is_proper (sym is) ∙ proper)).0, sym (length-reverse items), ap length (sym so), none))

pub dotted_so : (d : Datum) (items : List Datum) (tail : Option Datum) → d ≡ Datum.List items tail → is_proper d ≡ true → is_some tail ≡ true → IsHeaded d None
dotted_so d items tail is proper some =
    let shape = dotted_pair d items tail is proper some in
    ap is_clause shape.2 ∙ shape.3

no_pair : (y : Datum-F Datum) → ((items : List Datum) (tail : Option Datum) → roll-Datum y ≡ Datum.List items tail → ⊥) → is_pair (object_of (roll-Datum y)) ≡ false
no_pair (Datum-F.Integer n) _ = ap is_pair (fold-roll-Datum Object object_step (Datum-F.Integer n))
no_pair (Datum-F.Rational r) _ = ap is_pair (fold-roll-Datum Object object_step (Datum-F.Rational r))
no_pair (Datum-F.Char c) _ = ap is_pair (fold-roll-Datum Object object_step (Datum-F.Char c))
no_pair (Datum-F.Text bytes) _ = ap is_pair (fold-roll-Datum Object object_step (Datum-F.Text bytes))
no_pair (Datum-F.Symbol home name) _ = ap is_pair (fold-roll-Datum Object object_step (Datum-F.Symbol home name))
no_pair (Datum-F.Uninterned name) _ = ap is_pair (fold-roll-Datum Object object_step (Datum-F.Uninterned name))
no_pair (Datum-F.List items tail) not_list = absurd (not_list items tail (rolls-List items tail))
no_pair (Datum-F.Vector items) _ = ap is_pair (fold-roll-Datum Object object_step (Datum-F.Vector items))

pub other_so : (d : Datum) → ((items : List Datum) (tail : Option Datum) → d ≢ Datum.List items tail) → IsHeaded d None
other_so d not_list =
    let rolled : roll-Datum (out-Datum d) ≡ d = roll-out-Datum d in
    ap (λ b. b && is_proper_list (object_of d)) (sym (ap (λ x. is_pair (object_of x)) rolled) ∙ no_pair (out-Datum d) (λ items tail e. not_list items tail (sym rolled ∙ e)))

pub atom_so : (d : Datum) → ((items : List Datum) (tail : Option Datum) → d ≢ Datum.List items tail) → is_pair (object_of d) ≡ false
atom_so d not_list =
    let rolled : roll-Datum (out-Datum d) ≡ d = roll-out-Datum d in
    sym (ap (λ x. is_pair (object_of x)) rolled) ∙ no_pair (out-Datum d) (λ items tail e. not_list items tail (sym rolled ∙ e))

-- the items of a proper list
pub items_proper : (d : Datum) (items : List Datum) (tail : Option Datum) → d ≡ Datum.List items tail → is_proper d ≡ true → AreProper items
items_proper d items tail is proper = AllPass-from_list_all is_proper items ((items_of_proper items tail (ap is_proper (sym is) ∙ proper)).1)

-- ---- bindings
no_items : (x : Object) → is_proper_list x ≡ false → items_of x ≡ None
no_items (integer n) other = refl
no_items (rational n d) other = refl
no_items (character c) other = refl
no_items (text b) other = refl
no_items (symbol h n) other = ap (λ t. cond t (Some []) None) other
no_items (uninterned n) other = refl
no_items (pair a b) other = ap (option_map (λ ys. a ∷ ys)) (no_items b other)
no_items (vector xs) other = refl

none_there : (x : Object) → items_of x ≡ None → are_bindings x ≡ true → ⊥
none_there x none are = false≢true (sym (ap (λ o. option_map_or (list_all is_binding) o false) none) ∙ are)

pub no_bindings : (x : Object) → is_clause x ≡ false → are_bindings x ≡ true → nil ≡ x
no_bindings (pair a b) not_list are = absurd (none_there (pair a b) (no_items (pair a b) not_list) are)
no_bindings (symbol h n) not_list are = sym (nil_symbol h n (tested (is_nil h n) are))
  where
    tested : (b : Bool) → option_map_or (list_all is_binding) (cond b (Some []) None) false ≡ true → b ≡ true
    tested true are' = refl
    tested false are' = absurd (false≢true are')
no_bindings (integer n) not_list are = absurd (false≢true are)
no_bindings (rational n d) not_list are = absurd (false≢true are)
no_bindings (character c) not_list are = absurd (false≢true are)
no_bindings (text b) not_list are = absurd (false≢true are)
no_bindings (uninterned n) not_list are = absurd (false≢true are)
no_bindings (vector xs) not_list are = absurd (false≢true are)
