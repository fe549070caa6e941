-- Objects by the data that stand for them, and the kinds of arguments by one another.
--     pair_at      a list with items is a pair
--     no_symbol    what is no `Symbol` stands for no symbol
--     name_by_parts, keyword_by_parts      designators of names, and keywords, by symbols and texts
use Rattle.std.proofs.Common.{◌≡◌, ◌≢◌, ℕ, Bool, true, false, ◌&&◌, cond, List, [], ◌∷◌, not, is_some, Option, Some, None, bytes_eq, map, length, refl, sym, ap, ◌∙◌, ◌<◌, ◌-◌, ◌^◌, min, nat_lt, arith}
use Rattle.std.proofs.lemmas.Bool.Decides.{nat_tests}
use Rattle.std.specs.Option.{option_map_or}
use Rattle.lisp_object.specs.declared.datum.Datum
use Rattle.lisp_object.specs.declared.datum.Datum.{Datum, roll-Datum, out-Datum, roll-out-Datum, fold-roll-Datum}
use Rattle.lisp_object.specs.declared.datum.Datum.TheOpen.{Datum-F}
use Rattle.lisp_object.specs.declared.datum.Datum.TheVariants.{rolls-Symbol, rolls-List}
use Rattle.lisp_object.specs.Object.{Object, integer, rational, character, text, symbol, uninterned, pair, vector, nil, is_nil, pairs, is_proper_list}
use Rattle.lisp_object.specs.Datum.{object_of, object_step, is_proper, is_list}
use Rattle.lisp_object.proofs.Objects.{object_of-List, object_of-dotted}
use Rattle.std.specs.List.{list_all}
use Rattle.std.proofs.lemmas.Bool.{false≢true, and_parts}
use Rattle.lisp_object.proofs.Lists.{proper_items}
use Rattle.lisp_object.proofs.ProperLists.{items_of_proper, tail_of_proper, pairs_proper, no_proper_list, no_list_object}
use Rattle.package_table.specs.Table.{keyword}
use Rattle.plist_state.specs.State.{standard_name}
use Rattle.lisp_operators.specs.ArgumentKinds.{a_symbol, a_name, a_text, a_keyword, a_source, is_true}

pub name_by_parts : (x : Object) → a_name x ≡ option_map_or (λ p. Some p.1) (a_symbol x) (a_text x)
name_by_parts (integer n) = refl
name_by_parts (rational n d) = refl
name_by_parts (character c) = refl
name_by_parts (text b) = refl
name_by_parts (symbol h n) = refl
name_by_parts (uninterned n) = refl
name_by_parts (pair a b) = refl
name_by_parts (vector xs) = refl

pub keyword_by_parts : (x : Object) → a_keyword x ≡ option_map_or (λ p. cond (bytes_eq p.0 keyword) (Some p.1) None) (a_symbol x) None
keyword_by_parts (integer n) = refl
keyword_by_parts (rational n d) = refl
keyword_by_parts (character c) = refl
keyword_by_parts (text b) = refl
keyword_by_parts (symbol h n) = refl
keyword_by_parts (uninterned n) = refl
keyword_by_parts (pair a b) = refl
keyword_by_parts (vector xs) = refl

pair_of : {A : Type 0} (f : Object → A) (r : A) (items : List Datum) (tail : Option Datum) → 0 < length items → ((a b : Object) → r ≡ f (pair a b)) → r ≡ f (object_of (Datum.List items tail))
pair_of f r [] tail some same = absurd (omega arith)
pair_of f r (a ∷ more) None some same = same (object_of a) (pairs (map object_of more) nil) ∙ ap f (sym (object_of-List (a ∷ more)))
pair_of f r (a ∷ more) (Some end) some same = same (object_of a) (pairs (map object_of more) (object_of end)) ∙ ap f (sym (object_of-dotted (a ∷ more) end))

pub pair_at : {A : Type 0} (f : Object → A) (r : A) (d : Datum) (items : List Datum) (tail : Option Datum) → ((a b : Object) → r ≡ f (pair a b)) → d ≡ Datum.List items tail → is_proper d ≡ true → r ≡ f (object_of d)
pair_at f r d items tail same is proper =
    pair_of f r items tail ((items_of_proper items tail (ap is_proper (sym is) ∙ proper)).0) same ∙ ap (λ x. f (object_of x)) (sym is)

-- what is no `Symbol` stands for no symbol
no_symbol-layer : (y : Datum-F Datum) → ((home name : List ℕ) → roll-Datum y ≡ Datum.Symbol home name → ⊥) → is_proper (roll-Datum y) ≡ true → None ≡ a_symbol (object_of (roll-Datum y))
no_symbol-layer (Datum-F.Integer n) _ _ = sym (ap a_symbol (fold-roll-Datum Object object_step (Datum-F.Integer n)))
no_symbol-layer (Datum-F.Rational r) _ _ = sym (ap a_symbol (fold-roll-Datum Object object_step (Datum-F.Rational r)))
no_symbol-layer (Datum-F.Char c) _ _ = sym (ap a_symbol (fold-roll-Datum Object object_step (Datum-F.Char c)))
no_symbol-layer (Datum-F.Text bytes) _ _ = sym (ap a_symbol (fold-roll-Datum Object object_step (Datum-F.Text bytes)))
no_symbol-layer (Datum-F.Symbol home name) not_symbol _ = absurd (not_symbol home name (rolls-Symbol home name))
no_symbol-layer (Datum-F.Uninterned name) _ _ = sym (ap a_symbol (fold-roll-Datum Object object_step (Datum-F.Uninterned name)))
no_symbol-layer (Datum-F.List items tail) _ proper =
    pair_at a_symbol None (roll-Datum (Datum-F.List items tail)) items tail (λ _ _. refl) (rolls-List items tail) proper
no_symbol-layer (Datum-F.Vector items) _ _ = sym (ap a_symbol (fold-roll-Datum Object object_step (Datum-F.Vector items)))

pub no_symbol : (d : Datum) → ((home name : List ℕ) → d ≢ Datum.Symbol home name) → is_proper d ≡ true → None ≡ a_symbol (object_of d)
no_symbol d not_symbol proper =
    let rolled : roll-Datum (out-Datum d) ≡ d = roll-out-Datum d in
    no_symbol-layer (out-Datum d) (λ home name e. not_symbol home name (sym rolled ∙ e)) (ap is_proper rolled ∙ proper)
    ∙ ap (λ x. a_symbol (object_of x)) rolled

-- a count that is cut off at 2^64-1 passes the same tests
pub depth_test : (d : ℕ) → nat_lt 100 (min d (2 ^ 64 - 1)) ≡ nat_lt 100 d
depth_test d = grind (arith, nat_tests)

pub size_test : (d : ℕ) → nat_lt 1000000 (min d (2 ^ 64 - 1)) ≡ nat_lt 1000000 d
size_test d = grind (arith, nat_tests)

-- a list of proper items, where it is not empty
pub proper_list : (values items : List Datum) (empty : Bool) → items ≡ values → list_all is_proper values ≡ true → (length items ≡ 0 → empty ≡ true) → empty ≡ false → is_proper (Datum.List items None) ≡ true
proper_list values [] empty is proper none other = absurd (false≢true (sym other ∙ none refl))
proper_list values (x ∷ xs) empty is proper none other = proper_items (x ∷ xs) (omega arith) (ap (list_all is_proper) is ∙ proper)

pub source_by_parts : (x : Object) → a_source x ≡ option_map_or (λ p. cond (is_nil p.0 p.1) (Some standard_name) (cond (bytes_eq p.0 keyword) (Some p.1) None)) (a_symbol x) None
source_by_parts (integer n) = refl
source_by_parts (rational n d) = refl
source_by_parts (character c) = refl
source_by_parts (text b) = refl
source_by_parts (symbol h n) = refl
source_by_parts (uninterned n) = refl
source_by_parts (pair a b) = refl
source_by_parts (vector xs) = refl

pub truth_by_parts : (x : Object) → is_true x ≡ option_map_or (λ p. cond (is_nil p.0 p.1) false true) (a_symbol x) true
truth_by_parts (integer n) = refl
truth_by_parts (rational n d) = refl
truth_by_parts (character c) = refl
truth_by_parts (text b) = refl
truth_by_parts (symbol h n) = refl
truth_by_parts (uninterned n) = refl
truth_by_parts (pair a b) = refl
truth_by_parts (vector xs) = refl

-- a list that ends in another object
pub dotted_pair : (d : Datum) (items : List Datum) (tail : Option Datum) → d ≡ Datum.List items tail → is_proper d ≡ true → is_some tail ≡ true
    → (a : Object) × (b : Object) × (object_of d ≡ pair a b) × (is_proper_list b ≡ false)
dotted_pair d [] tail is proper some = absurd (omega (arith, (items_of_proper [] tail (ap is_proper (sym is) ∙ proper)).0))
dotted_pair d (y ∷ ys) None is proper some = absurd (false≢true some)
dotted_pair d (y ∷ ys) (Some end) is proper some =
    let last : (is_proper end && not (is_list end)) ≡ true = tail_of_proper (y ∷ ys) (Some end) (ap is_proper (sym is) ∙ proper) in
    let both = and_parts (is_proper end) (not (is_list end)) last in (
      object_of y,
      pairs (map object_of ys) (object_of end),
      ap object_of is ∙ object_of-dotted (y ∷ ys) end,
      pairs_proper (map object_of ys) (object_of end) ∙ no_proper_list (object_of end) (no_list_object end both.0 (not_true (is_list end) both.1)),
    )
  where
    not_true : (b : Bool) → not b ≡ true → b ≡ false
    not_true true e = sym e
    not_true false e = refl
