-- Symbols in lists: those of a part are those of the whole.
--     among_itself, among_left, among_right      the first, and those of a list joined with another
--     among_flat, among_properties      what stands in the list of a symbol stands in the property lists
--     imported_from, imported_where      a symbol that is present in another package than its home
use Rattle.std.proofs.Common.{◌≡◌, Bool, true, false, not, ◌&&◌, ◌||◌, None, Some, List, [], ◌∷◌, ◌++◌, is_some, refl, sym, ap, subst, ◌∙◌}
use Rattle.std.specs.Prelude.{bytes_eq, option_map, unwrap_or}
use Rattle.std.specs.List.{list_any, flat_map}
use Rattle.std.specs.Option.{option_map_or}
use Rattle.std.specs.Ordering.{eq_by_cmp}
use Rattle.std.specs.FinMap as finite
use Rattle.std.specs.FinMap.{contains_key-keys}
use Rattle.std.proofs.lemmas.Bool.{false≢true, or_left, or_right, and_parts, and_from, not-true}
use Rattle.std.proofs.lemmas.List.Folds.{list_any-append}
use Rattle.package_table.specs.Table.{Name, name_cmp, Present, Table, entry_at, IsPresent}
use Rattle.package_table.specs.Readers.{package_names}
use Rattle.package_table.proofs.Names.{tied_same}
use Rattle.package_table.proofs.Frames.{equal_itself, equal_names, not_equal, unequal_names}
use Rattle.plist_state.specs.Properties.{Symbol, Plist, Properties, symbol_cmp, same_symbol, list_at}
use Rattle.plist_state.proofs.Orders.{one_symbol, symbol_tied}
use Rattle.snapshot_text.proofs.PartFinds.{present_entry, present_package}
use Rattle.forgotten_names.specs.NeededSymbols.{stands_among, plist_symbols, property_symbols, has_symbol, is_imported}

pub among_itself : (x : Symbol) (xs : List Symbol) → stands_among x (x ∷ xs) ≡ true
among_itself x xs = or_left (same_symbol x x) (stands_among x xs) (symbol_tied x)

pub among_later : (x y : Symbol) (xs : List Symbol) → stands_among x xs ≡ true → stands_among x (y ∷ xs) ≡ true
among_later x y xs is = or_right (same_symbol x y) (stands_among x xs) is

pub among_left : (x : Symbol) (xs ys : List Symbol) → stands_among x xs ≡ true → stands_among x (xs ++ ys) ≡ true
among_left x xs ys is = list_any-append (same_symbol x) xs ys ∙ or_left (stands_among x xs) (stands_among x ys) is

pub among_right : (x : Symbol) (xs ys : List Symbol) → stands_among x ys ≡ true → stands_among x (xs ++ ys) ≡ true
among_right x xs ys is = list_any-append (same_symbol x) xs ys ∙ or_right (stands_among x xs) (stands_among x ys) is

pub among_flat : (f : Symbol → List Symbol) (ks : List Symbol) (q x : Symbol) → list_any (eq_by_cmp symbol_cmp q) ks ≡ true → stands_among x (f q) ≡ true → stands_among x (flat_map f ks) ≡ true
among_flat f [] q x there is = absurd (false≢true there)
among_flat f (k ∷ ks) q x there is =
    elim (eq_by_cmp symbol_cmp q k) as (λ b. eq_by_cmp symbol_cmp q k ≡ b → (b || list_any (eq_by_cmp symbol_cmp q) ks) ≡ true → stands_among x (f k ++ flat_map f ks) ≡ true) [
      | true ↦ λ tied _. among_left x (f k) (flat_map f ks) (subst (λ (y : Symbol). stands_among x (f y) ≡ true) (one_symbol q k tied) is)
      | false ↦ λ _ later. among_right x (f k) (flat_map f ks) (among_flat f ks q x later is)
    ] refl there

pub among_properties : (m : Properties) (q : Symbol) (ps : Plist) → finite.get m q ≡ Some ps → (x : Symbol) → stands_among x (q ∷ plist_symbols ps) ≡ true → stands_among x (property_symbols m) ≡ true
among_properties m q ps is x among =
    among_flat (λ (y : Symbol). y ∷ plist_symbols (list_at m y)) (finite.keys m) q x
    (sym (contains_key-keys m q) ∙ ap is_some is)
    (subst (λ (l : Plist). stands_among x (q ∷ plist_symbols l) ≡ true) (sym (ap (λ o. unwrap_or o []) is)) among)

-- ---- imports

passing_key : (test : Name → Bool) (ks : List Name) (q : Name) → list_any (eq_by_cmp name_cmp q) ks ≡ true → test q ≡ true → list_any test ks ≡ true
passing_key test [] q among passes = absurd (false≢true among)
passing_key test (k ∷ ks) q among passes =
    elim (eq_by_cmp name_cmp q k) as (λ b. eq_by_cmp name_cmp q k ≡ b → (b || list_any (eq_by_cmp name_cmp q) ks) ≡ true → (test k || list_any test ks) ≡ true) [
      | true ↦ λ tied _. or_left (test k) (list_any test ks) (ap test (sym (tied_same q k tied)) ∙ passes)
      | false ↦ λ _ later. or_right (test k) (list_any test ks) (passing_key test ks q later passes)
    ] refl among

key_passing : (test : Name → Bool) (ks : List Name) → list_any test ks ≡ true → (q : Name) × (test q ≡ true)
key_passing test [] is = absurd (false≢true is)
key_passing test (k ∷ ks) is =
    elim (test k) as (λ b. test k ≡ b → (b || list_any test ks) ≡ true → (q : Name) × (test q ≡ true)) [
      | true ↦ λ passes _. (k, passes)
      | false ↦ λ _ later. key_passing test ks later
    ] refl is

symbol_from_home : (t : Table) (x : Symbol) (p : Name) → IsPresent t p x.1 x.0 → has_symbol t x p ≡ true
symbol_from_home t x p here =
    let e = present_entry t p x.1 x.0 here in
    ap (λ o. option_map_or (λ (e : Present). bytes_eq e.home x.0) o false) e.1 ∙ ap (λ h. bytes_eq h x.0) e.2 ∙ equal_itself x.0

home_from_symbol : (t : Table) (x : Symbol) (p : Name) → has_symbol t x p ≡ true → IsPresent t p x.1 x.0
home_from_symbol t x p is =
    elim (entry_at t p x.1) as (λ o. option_map_or (λ (e : Present). bytes_eq e.home x.0) o false ≡ true → option_map (λ (e : Present). e.home) o ≡ Some x.0) [
      | None ↦ λ absent. absurd (false≢true absent)
      | Some e ↦ λ same. ap (λ h. Some h) (equal_names e.home x.0 same)
    ] is

pub imported_from : (t : Table) (p n h : Name) → IsPresent t p n h → (h ≡ p → ⊥) → is_imported t (h, n) ≡ true
imported_from t p n h here differ =
    passing_key (λ q. not (bytes_eq q h) && has_symbol t (h, n) q) (package_names t) p
    (sym (contains_key-keys t p) ∙ present_package t p n h here)
    (and_from (not (bytes_eq p h)) (has_symbol t (h, n) p) (ap not (not_equal p h (λ (same : p ≡ h). differ (sym same)))) (symbol_from_home t (h, n) p here))

pub imported_where : (t : Table) (x : Symbol) → is_imported t x ≡ true → (p : Name) × IsPresent t p x.1 x.0 × (x.0 ≡ p → ⊥)
imported_where t x is =
    let q = key_passing (λ p. not (bytes_eq p x.0) && has_symbol t x p) (package_names t) is in
    let both = and_parts (not (bytes_eq q.0 x.0)) (has_symbol t x q.0) q.1 in
    (q.0, home_from_symbol t x q.0 both.1, λ (same : x.0 ≡ q.0). unequal_names q.0 x.0 (not-true (bytes_eq q.0 x.0) both.0) (sym same))
