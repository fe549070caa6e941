-- The rows of property lists, as they are put one after the other.
use Rattle.std.proofs.Common.{◌≡◌, ◌≢◌, ℕ, suc, ◌+◌, ◌-◌, ◌≤◌, ◌<◌, Bool, true, false, cond, List, [], ◌∷◌, ◌++◌, length, map, take, drop, get_or, Option, Some, None, IsTrue, refl, sym, ap, subst, ◌∙◌, arith, append_assoc}
use Rattle.std.specs.Prelude.{All, is_some, unwrap_or, ◌||◌}
use Rattle.std.specs.List.{list_all, list_any, flat_map}
use Rattle.std.specs.Ordering.{eq_by_cmp}
use Rattle.std.specs.Cmp.{eq_by_cmp_equiv}
use Rattle.std.specs.FinMap as finite
use Rattle.std.specs.FinMap.{get-empty, contains_key-keys, same_map}
use Rattle.std.proofs.Math.Seq.{take-length}
use Rattle.std.proofs.lemmas.List.{append-nil}
use Rattle.std.proofs.lemmas.List.Folds.{list_any_more}
use Rattle.std.proofs.lemmas.List.Elements.{All-head, All-tail}
use Rattle.std.proofs.lemmas.Bool.{and_parts}
use Rattle.lisp_object.specs.declared.datum.Datum.{Datum}
use Rattle.lisp_object.specs.Object.{Object}
use Rattle.lisp_object.specs.Datum.{object_of, is_proper}
use Rattle.package_table.specs.Table as packages
use Rattle.plist_state.specs.Properties.{Symbol, Plist, symbol_cmp, same_symbol, value_at, with_value, list_at, with_list}
use Rattle.plist_state.specs.State.{WorldState}
use Rattle.plist_state.specs.Changes.{plist, with_property}
use Rattle.plist_state.specs.Readers.{symbols_with_properties}
use Rattle.plist_state.specs.Sound.{IsSoundWorldState, IsSymbol, IsPlist, IsValue, IsApart}
use Rattle.plist_state.proofs.Orders.{symbol_total, symbol_exact, one_symbol}
use Rattle.plist_state.proofs.Lists.{kept, get-with_list, list-with_list, with_list_twice}
use Rattle.world_text.specs.Snapshot.{symbol_object}
use Rattle.snapshot_text.specs.BuiltWorlds.{with_properties, with_each, built_with_packages, built_with_properties}
use Rattle.snapshot_text.specs.Rows.{row_symbol_at, HasRowsUpTo}
use Rattle.snapshot_text.proofs.KeysSoFar.{keys_apart, next_is_new, at_index}

-- ---- the properties of one symbol
abbrev pub flat : Plist → List Object
flat ps = flat_map (λ p. symbol_object p.0 ∷ p.1 ∷ []) ps

-- What is left of a row are properties that may be set, and that make of the world now what is to be made.
pub record IsLeft (t : packages.Table) (x : Symbol) (made now : WorldState) (rest : List Datum) : Type 0 where
  pub proper : list_all is_proper rest ≡ true
  pub properties : Plist
  pub objects : map object_of rest ≡ flat properties
  pub indicators : All (λ p. IsSymbol t p.0) properties
  pub values : All (λ p. IsValue t p.1) properties
  pub packages : now.packages ≡ t
  pub is : with_each now x properties ≡ made

pub all_left : (s : WorldState) (x : Symbol) (ps : Plist) (rest : List Datum) → list_all is_proper rest ≡ true → map object_of rest ≡ flat ps → IsPlist s.packages ps
    → IsLeft s.packages x (with_each s x ps) s rest
all_left s x ps rest proper e plist =
    record { proper = proper; properties = ps; objects = e; indicators = plist.indicators; values = plist.values; packages = refl; is = refl }

-- where nothing is left
pub none_left : (t : packages.Table) (x : Symbol) (made now : WorldState) (rest : List Datum) → IsLeft t x made now rest → length rest ≡ 0 → now ≡ made
none_left t x made now (a ∷ rest) left none = absurd (omega arith)
none_left t x made now [] left none = nothing left.properties left.objects left.is
  where
    nothing : (ps : Plist) → [] ≡ flat ps → with_each now x ps ≡ made → now ≡ made
    nothing [] e is = is
    nothing (p ∷ ps) e is = absurd cc

-- one object alone is not left
pub not_one : (t : packages.Table) (x : Symbol) (made now : WorldState) (rest : List Datum) → IsLeft t x made now rest → length rest ≡ 1 → ⊥
not_one t x made now [] left one = absurd (omega arith)
not_one t x made now (a ∷ b ∷ rest) left one = absurd (omega arith)
not_one t x made now (a ∷ []) left one = odd left.properties left.objects
  where
    odd : (ps : Plist) → object_of a ∷ [] ≡ flat ps → ⊥
    odd [] e = absurd cc
    odd (p ∷ ps) e = absurd cc

-- the next two are an indicator and a value
pub record IsNext (t : packages.Table) (x : Symbol) (made now : WorldState) (a b : Datum) (later : List Datum) : Type 0 where
  pub indicator_proper : is_proper a ≡ true
  pub value_proper : is_proper b ≡ true
  pub indicator : Symbol
  pub named : object_of a ≡ symbol_object indicator
  pub there : IsSymbol t indicator
  pub value : IsValue t (object_of b)
  pub packages : now.packages ≡ t
  pub then : IsLeft t x made (with_property now x indicator (object_of b)) later

next_two : (t : packages.Table) (x : Symbol) (made now : WorldState) (a b : Datum) (later : List Datum) → IsLeft t x made now (a ∷ b ∷ later) → IsNext t x made now a b later
next_two t x made now a b later left = go left.properties left.objects left.indicators left.values left.is
  where
    go : (ps : Plist) → object_of a ∷ object_of b ∷ map object_of later ≡ flat ps → All (λ p. IsSymbol t p.0) ps → All (λ p. IsValue t p.1) ps
        → with_each now x ps ≡ made → IsNext t x made now a b later
    go [] e indicators values is = absurd cc
    go (p ∷ ps) e indicators values is =
        let first = and_parts (is_proper a) (list_all is_proper (b ∷ later)) left.proper in
        let second = and_parts (is_proper b) (list_all is_proper later) first.1 in
        let named : object_of a ≡ symbol_object p.0 = cc in
        let value : p.1 ≡ object_of b = cc in
        let objects : map object_of later ≡ flat ps = cc in
        record {
          indicator_proper = first.0;
          value_proper = second.0;
          indicator = p.0;
          named = named;
          there = All-head (λ p. IsSymbol t p.0) p ps indicators;
          value = subst (IsValue t) value (All-head (λ p. IsValue t p.1) p ps values);
          packages = left.packages;
          then = record {
            proper = second.1;
            properties = ps;
            objects = objects;
            indicators = All-tail (λ p. IsSymbol t p.0) p ps indicators;
            values = All-tail (λ p. IsValue t p.1) p ps values;
            packages = left.packages;
            is = ap (λ v. with_each (with_property now x p.0 v) x ps) (sym value) ∙ is;
          };
        }

all_but_two : (n : ℕ) → suc (suc n) - 2 ≡ n
all_but_two n = omega arith

pub next_left : (t : packages.Table) (x : Symbol) (made now : WorldState) (rest : List Datum) (a b : Datum) → IsLeft t x made now rest → 2 ≤ length rest
    → a ≡ get_or rest 0 a → b ≡ get_or rest 1 b → IsNext t x made now a b (take (length rest - 2) (drop 2 rest))
next_left t x made now [] a b left two is_a is_b = absurd (omega arith)
next_left t x made now (c ∷ []) a b left two is_a is_b = absurd (omega arith)
next_left t x made now (c ∷ d ∷ rest) a b left two is_a is_b =
    subst (IsNext t x made now a b) (sym (ap (λ n. take n rest) (all_but_two (length rest)) ∙ take-length rest)) (next_two t x made now a b rest
    (subst (λ c. IsLeft t x made now (c ∷ b ∷ rest)) (sym is_a) (subst (λ d. IsLeft t x made now (c ∷ d ∷ rest)) (sym is_b) left)))

-- indicators that are new are put last
with_new : (done : Plist) (i : Symbol) (v : Object) → value_at done i ≡ None → with_value done i v ≡ done ++ (i, v) ∷ []
with_new [] i v none = refl
with_new (q ∷ qs) i v none =
    elim (same_symbol i q.0) as (λ b. cond b (Some q.1) (value_at qs i) ≡ None → cond b ((q.0, v) ∷ qs) (q ∷ with_value qs i v) ≡ q ∷ (qs ++ (i, v) ∷ [])) [
      | true ↦ λ e. absurd cc
      | false ↦ λ e. ap (λ ps. q ∷ ps) (with_new qs i v e)
    ] none

absent_after : (done : Plist) (p : Symbol × Object) (i : Symbol) → value_at done i ≡ None → same_symbol i p.0 ≡ false → value_at (done ++ p ∷ []) i ≡ None
absent_after [] p i none other = ap (λ b. cond b (Some p.1) None) other
absent_after (q ∷ qs) p i none other =
    elim (same_symbol i q.0) as (λ b. cond b (Some q.1) (value_at qs i) ≡ None → cond b (Some q.1) (value_at (qs ++ p ∷ []) i) ≡ None) [
      | true ↦ λ e. absurd cc
      | false ↦ λ e. absent_after qs p i e other
    ] none

absent_head : (b : Bool) (x : Object) (o : Option Object) → cond b (Some x) o ≡ None → (b ≡ false) × (o ≡ None)
absent_head true x o e = absurd cc
absent_head false x o e = (refl, e)

-- each indicator of the second list is absent in the first
abbrev AreNew : Plist → Plist → Type 0
AreNew done [] = Unit {0}
AreNew done (p ∷ ps) = (value_at done p.0 ≡ None) × AreNew done ps

new_after : (done : Plist) (p : Symbol × Object) (ps : Plist) → AreNew done ps → value_at ps p.0 ≡ None → AreNew (done ++ p ∷ []) ps
new_after done p [] new none = tt
new_after done p (q ∷ qs) new none =
    let head = absent_head (same_symbol p.0 q.0) q.1 (value_at qs p.0) none in
    (absent_after done p q.0 new.0 ((eq_by_cmp_equiv symbol_total).symm q.0 p.0 ∙ head.0), new_after done p qs new.1 head.1)

new_first : (p : Symbol × Object) (ps : Plist) → value_at ps p.0 ≡ None → AreNew (p ∷ []) ps
new_first p ps none = new_after [] p ps (nothing ps) none
  where
    nothing : (qs : Plist) → AreNew [] qs
    nothing [] = tt
    nothing (q ∷ qs) = (refl, nothing qs)

each_after : (s : WorldState) (x : Symbol) (done ps : Plist) → IsApart ps → AreNew done ps
    → with_each (with_properties s (with_list s.properties x done)) x ps ≡ with_properties s (with_list s.properties x (done ++ ps))
each_after s x done [] apart new = ap (λ qs. with_properties s (with_list s.properties x qs)) (sym (append-nil done))
each_after s x done (p ∷ ps) apart new =
    let m = with_list s.properties x done in
    let put : with_list m x (with_value (list_at m x) p.0 p.1) ≡ with_list s.properties x (done ++ p ∷ []) =
    ap (λ qs. with_list m x (with_value qs p.0 p.1)) (list-with_list s.properties x done)
    ∙ ap (with_list m x) (with_new done p.0 p.1 new.0) ∙ with_list_twice s.properties x done (done ++ p ∷ []) in
    ap (λ n. with_each (with_properties s n) x ps) put
    ∙ each_after s x (done ++ p ∷ []) ps apart.1 (new_after done p ps new.1 apart.0)
    ∙ ap (λ qs. with_properties s (with_list s.properties x qs)) (append_assoc done (p ∷ []) ps)

-- the properties of a symbol that has none
pub each_is_list : (s : WorldState) (x : Symbol) (ps : Plist) → ps ≢ [] → IsApart ps → plist s x ≡ [] → with_each s x ps ≡ with_properties s (with_list s.properties x ps)
each_is_list s x [] some apart none = absurd (some refl)
each_is_list s x (p ∷ ps) some apart none =
    ap (λ qs. with_each (with_properties s (with_list s.properties x (with_value qs p.0 p.1))) x ps) none
    ∙ each_after s x (p ∷ []) ps apart.1 (new_first p ps apart.0)

-- ---- all rows
abbrev tied : Symbol → Symbol → Bool
tied = eq_by_cmp symbol_cmp

abbrev none : Symbol
none = ([], [])

pub at_first : (s now : WorldState) → now ≡ built_with_packages s → HasRowsUpTo s 0 now
at_first s now is = record {
  rest = is ∙ ap (with_properties (built_with_packages s)) (sym (ap (λ (w : WorldState). w.properties) is));
  lists = λ q. ap (λ (w : WorldState). finite.get w.properties q) is ∙ get-empty symbol_cmp q;
}

-- the row at an index may be put
pub record IsRow (s now : WorldState) (n : ℕ) : Type 0 where
  pub key : IsTrue (finite.contains_key s.properties (row_symbol_at s n))
  pub there : IsSymbol now.packages (row_symbol_at s n)
  pub may_be : IsPlist now.packages (plist s (row_symbol_at s n))
  pub absent : plist now (row_symbol_at s n) ≡ []

has_list : (s : WorldState) (x : Symbol) → IsTrue (finite.contains_key s.properties x) → finite.get s.properties x ≡ Some (plist s x)
has_list s x there =
    elim (finite.get s.properties x) as (λ o. is_some o ≡ true → o ≡ Some (unwrap_or o [])) [
      | None ↦ λ e. absurd cc
      | Some ps ↦ λ e. refl
    ] there

-- the symbol of the row at an index has properties
pub key_at : (s : WorldState) (n : ℕ) → n < length (symbols_with_properties s) → IsTrue (finite.contains_key s.properties (row_symbol_at s n))
key_at s n few =
    contains_key-keys s.properties (row_symbol_at s n) ∙ at_index symbol_cmp symbol_total (symbols_with_properties s) n none few

pub row_at : (s : WorldState) → IsSoundWorldState s → (n : ℕ) (now : WorldState) → HasRowsUpTo s n now → n < length (symbols_with_properties s) → IsRow s now n
row_at s sound n now so_far few =
    let xs = symbols_with_properties s in
    let x = row_symbol_at s n in
    let there : IsTrue (finite.contains_key s.properties x) = key_at s n few in
    let same : s.packages ≡ now.packages = sym (ap (λ (w : WorldState). w.packages) so_far.rest) in
    record {
      key = there;
      there = subst (λ t. IsSymbol t x) same (sound.symbols x there);
      may_be = subst (λ t. IsPlist t (plist s x)) same (sound.properties x (plist s x) (has_list s x there));
      absent = ap (λ o. unwrap_or o []) (so_far.lists x
          ∙ ap (λ b. cond b (finite.get s.properties x) None) (next_is_new symbol_cmp symbol_total xs n none (keys_apart symbol_cmp s.properties) few));
    }

-- one key more
one_more : (b t : Bool) (o p : Option Plist) → (t ≡ true → o ≡ p) → cond t p (cond b o None) ≡ cond (b || t) o None
one_more true true o p same = sym (same refl)
one_more true false o p same = refl
one_more false true o p same = sym (same refl)
one_more false false o p same = refl

pub next_up_to : (s : WorldState) → IsSoundWorldState s → (n : ℕ) (now then : WorldState) → HasRowsUpTo s n now → n < length (symbols_with_properties s)
    → then ≡ with_properties now (with_list now.properties (row_symbol_at s n) (plist s (row_symbol_at s n))) → HasRowsUpTo s (n + 1) then
next_up_to s sound n now then so_far few is =
    let xs = symbols_with_properties s in
    let x = row_symbol_at s n in
    let there : IsTrue (finite.contains_key s.properties x) = key_at s n few in
    let listed : finite.get s.properties x ≡ kept (plist s x) = has_list s x there ∙ some_kept (plist s x) (sound.properties x (plist s x) (has_list s x there)).some in
    record {
      rest = is ∙ ap (λ (w : WorldState). with_properties w (with_list now.properties x (plist s x))) so_far.rest
          ∙ ap (with_properties (built_with_packages s)) (sym (ap (λ (w : WorldState). w.properties) is));
      lists = λ q. ap (λ (w : WorldState). finite.get w.properties q) is ∙ get-with_list now.properties x (plist s x) q
          ∙ ap (cond (tied q x) (kept (plist s x))) (so_far.lists q)
          ∙ one_more (list_any (tied q) (take n xs)) (tied q x) (finite.get s.properties q) (kept (plist s x)) (λ t. ap (finite.get s.properties) (one_symbol q x t) ∙ listed)
          ∙ ap (λ b. cond b (finite.get s.properties q) None) (sym (list_any_more (tied q) xs n none few));
    }
  where
    some_kept : (ps : Plist) → ps ≢ [] → Some ps ≡ kept ps
    some_kept [] some = absurd (some refl)
    some_kept (p ∷ ps) some = refl

pub at_last : (s : WorldState) (n : ℕ) (now : WorldState) → HasRowsUpTo s n now → n ≡ length (symbols_with_properties s) → now ≡ built_with_properties s
at_last s n now so_far all =
    let xs = symbols_with_properties s in
    let same : now.properties ≡ s.properties = same_map symbol_total symbol_exact now.properties s.properties (λ q.
    so_far.lists q ∙ ap (λ ys. cond (list_any (tied q) ys) (finite.get s.properties q) None) (ap (λ k. take k xs) all ∙ take-length xs)
    ∙ ap (λ b. cond b (finite.get s.properties q) None) (sym (contains_key-keys s.properties q)) ∙ itself (finite.get s.properties q)) in
    so_far.rest ∙ ap (with_properties (built_with_packages s)) same
  where
    itself : (o : Option Plist) → cond (is_some o) o None ≡ o
    itself None = refl
    itself (Some ps) = refl
