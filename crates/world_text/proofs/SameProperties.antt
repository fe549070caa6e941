-- States with one object of their property lists have the same property lists.
use Rattle.std.proofs.Common.{◌≡◌, Bool, false, List, [], ◌∷◌, map, Some, None, refl, sym, ap, ◌∙◌, unwrap_or}
use Rattle.std.specs.Prelude.{Option, cond, is_some}
use Rattle.std.specs.List.{flat_map}
use Rattle.std.specs.Ordering.{eq_by_cmp}
use Rattle.std.specs.FinMap as finite
use Rattle.std.specs.FinMap.{contains_key-keys, same_map}
use Rattle.lisp_object.specs.Object as object
use Rattle.lisp_object.specs.Object.{Object, list_of}
use Rattle.plist_state.specs.Properties.{Symbol, Plist, symbol_cmp}
use Rattle.plist_state.specs.State.{WorldState}
use Rattle.plist_state.specs.Changes.{plist}
use Rattle.plist_state.proofs.Orders.{symbol_total, symbol_exact, one_symbol}
use Rattle.world_text.specs.Snapshot.{symbol_object, plist_object, properties_object}
use Rattle.world_text.proofs.RowsByKey.{rows, same_rows, mapped_rows, same_list}

abbrev eq : Symbol → Symbol → Bool
eq = eq_by_cmp symbol_cmp

abbrev flat : Plist → List Object
flat ps = flat_map (λ p. symbol_object p.0 ∷ p.1 ∷ []) ps

same_flat : (ps qs : Plist) → flat ps ≡ flat qs → ps ≡ qs
same_flat [] [] e = refl
same_flat [] (q ∷ qs) e = absurd cc
same_flat (p ∷ ps) [] e = absurd cc
same_flat (p ∷ ps) (q ∷ qs) e =
    let home : p.0.0 ≡ q.0.0 = cc in
    let name : p.0.1 ≡ q.0.1 = cc in
    let value : p.1 ≡ q.1 = cc in
    let later : flat ps ≡ flat qs = cc in
    λ i. ((home i, name i), value i) ∷ same_flat ps qs later i

-- whether a row is of the symbol
abbrev of_head : Symbol → Object → Bool
of_head q (object.symbol home name) = eq q (home, name)
of_head q _ = false

abbrev of : Symbol → Object → Bool
of q (object.pair a b) = of_head q a
of q _ = false

abbrev row : WorldState → Symbol → Option Object
row s x = Some (plist_object x (plist s x))

is_of : (s : WorldState) (q x : Symbol) (b : Object) → row s x ≡ Some b → of q b ≡ eq q x
is_of s q x b e = ap (of q) (ap (λ o. unwrap_or o b) (sym e))

by_lists : (q : Symbol) (a b : Option Plist)
    → ◌≡◌ {A = Option Object} (cond (is_some a) (Some (plist_object q (unwrap_or a []))) None) (cond (is_some b) (Some (plist_object q (unwrap_or b []))) None) → a ≡ b
by_lists q None None e = refl
by_lists q None (Some b) e = absurd cc
by_lists q (Some a) None e = absurd cc
by_lists q (Some a) (Some b) e =
    let lists : list_of (flat a) ≡ list_of (flat b) = cc in
    ap (λ x. Some x) (same_flat a b (same_list (flat a) (flat b) lists))

pub same_properties : (s t : WorldState) → properties_object s ≡ properties_object t → s.properties ≡ t.properties
same_properties s t e =
    let xs = symbols s in
    let ys = symbols t in
    let lists : rows (row s) xs ≡ rows (row t) ys =
    sym (mapped_rows (λ x. plist_object x (plist s x)) xs)
    ∙ same_list (map (λ x. plist_object x (plist s x)) xs) (map (λ x. plist_object x (plist t x)) ys) e
    ∙ mapped_rows (λ x. plist_object x (plist t x)) ys in
    same_map symbol_total symbol_exact s.properties t.properties (λ q.
    by_lists q (finite.get s.properties q) (finite.get t.properties q)
    (ap (λ b. cond b (row s q) None) (contains_key-keys s.properties q)
    ∙ same_rows eq of (row s) (row t) one_symbol (is_of s) (is_of t) xs ys lists q
    ∙ ap (λ b. cond b (row t q) None) (sym (contains_key-keys t.properties q))))
  where
    symbols : WorldState → List Symbol
    symbols u = finite.keys u.properties
