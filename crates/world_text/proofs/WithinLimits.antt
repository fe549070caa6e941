-- The objects of a snapshot are within the limits under which it is read: tokens of 8,192 characters, and nesting of 104.
use Rattle.std.proofs.Common.{◌≡◌, ℕ, suc, ◌+◌, ◌≤◌, ◌<◌, ◌^◌, Bool, true, false, not, List, [], ◌∷◌, ◌++◌, map, filter, length, Some, None, get_or, unwrap_or, refl, sym, subst, inl, inr, arith}
use Rattle.std.specs.Prelude.{ℤ, pos, negsuc, All, codes, decimal, ◌==◌, ◌&&◌, if◌then◌else◌, FitsSigned, Option}
use Rattle.std.specs.Fmt.{signed_decimal}
use Rattle.std.specs.Int.{w128}
use Rattle.std.specs.List.{flat_map, range_with_len}
use Rattle.std.specs.Str.{bytes_eq}
use Rattle.std.specs.FinMap as finite
use Rattle.std.proofs.lemmas.Fmt.{length-decimal-le_wide}
use Rattle.std.proofs.lemmas.List.{length-append}
use Rattle.lisp_object.specs.Object as o
use Rattle.lisp_object.specs.Object.{Object, AllAtoms, IsSound, object_depth, depth_along, list_of}
use Rattle.readtable_core.specs.Tables as readtable
use Rattle.readtable_core.specs.Tables.{CharacterEntry, entry_at, standard}
use Rattle.readtable_core.specs.NamedFunctions.{same_entry}
use Rattle.package_table.specs.Table as packages
use Rattle.package_table.specs.Table.{Name, Table, keyword, common_lisp}
use Rattle.package_table.specs.Lookup.{is_symbol, is_external}
use Rattle.package_table.specs.Readers.{package_names, used_names, imports}
use Rattle.canon_printer.specs.Written.{printed_ratio, character_name}
use Rattle.canon_printer.specs.Printed.{is_accessible}
use Rattle.canon_printer.proofs.Resolved.{home_there}
use Rattle.plist_state.specs.Properties.{Symbol, Plist}
use Rattle.plist_state.specs.State.{WorldState, standard_name}
use Rattle.plist_state.specs.Changes.{plist}
use Rattle.plist_state.specs.Readers.{readtable_names, symbols_with_properties}
use Rattle.plist_state.specs.Sound as state
use Rattle.plist_state.specs.Sound.{IsSymbolStorable, IsValue}
use Rattle.world_text.specs.PrintedTokens.{token_length, AreTokensWithin}
use Rattle.world_text.specs.Snapshot.{texts, made_names, shown_names, imported_name, package_object, packages_object, symbol_object, plist_object, properties_object, number, dispatch_object, dispatch_objects, entry_object, entry_objects, readtable_object, snapshot_readtable, readtables_object, tables_object, tables_object_1, tables_object_in}
use Rattle.world_text.proofs.Versions.{third_by}

-- ---- tokens

decimal_short : (n : ℕ) → n < 2 ^ 128 → length (decimal n) ≤ 39
decimal_short n h = length-decimal-le_wide 39 n (omega arith) (omega arith) (omega arith)

signed_short : (n : ℤ) → FitsSigned w128 n → length (signed_decimal n) ≤ 40
signed_short (pos n) fits = let below : n < 2 ^ 127 = fits.sfits in omega (arith, decimal_short n (omega arith))
signed_short (negsuc n) fits = let below : n < 2 ^ 127 = fits.sfits in omega (arith, decimal_short (suc n) (omega arith))

ratio_short : (n : ℤ) (d : ℕ) → FitsSigned w128 n → d < 2 ^ 128 → length (printed_ratio n d) ≤ 80
ratio_short n d fits small =
    omega (arith, signed_short n fits, decimal_short d small, length-append (signed_decimal n ++ codes "/") (decimal d), length-append (signed_decimal n) (codes "/"))

either_short : (b : Bool) (xs ys : List ℕ) → length xs ≤ 9 → length ys ≤ 9 → length (if b then xs else ys) ≤ 9
either_short true xs ys p q = p
either_short false xs ys p q = q

character_short : (c : ℕ) → length (character_name c) ≤ 9
character_short c =
    either_short (c == 8) _ _ (omega arith) (either_short (c == 9) _ _ (omega arith) (either_short (c == 10) _ _ (omega arith)
    (either_short (c == 12) _ _ (omega arith) (either_short (c == 13) _ _ (omega arith) (either_short (c == 32) _ _ (omega arith) (either_short (c == 127) _ _ (omega arith) (omega arith)))))))

prefix_short : (a k e : Bool) (h : ℕ) → (if a then 0 else (if k then 1 else (if e then h + 1 else h + 2))) ≤ h + 2
prefix_short true k e h = omega arith
prefix_short false true e h = omega arith
prefix_short false false true h = omega arith
prefix_short false false false h = omega arith

module _ (t : Table) (current : Name) (sound : packages.AreSoundPackages t) where
  symbol_short : (home name : Name) → packages.IsPresent t home name home → token_length t current (o.symbol home name) ≤ 8192
  symbol_short home name there =
      let home_short : length home ≤ 256 = (sound.within.package_names home (home_there t home name sound there)).short in
      let name_short : length name ≤ 4096 = (sound.within.symbol_names home name home there).short in
      omega (arith, prefix_short (is_accessible t current home name) (bytes_eq home keyword) (is_symbol t home name && is_external t home name) (length home))

  pub tokens_short : (x : Object) → IsSound x → AllAtoms (IsSymbolStorable t) x → AreTokensWithin t current 8192 x
  tokens_short (o.pair a b) s k = (tokens_short a s.0 k.0, tokens_short b s.1 k.1)
  tokens_short (o.vector xs) s k = tokens_short xs s.0 k
  tokens_short (o.integer n) s k = omega (arith, signed_short n s)
  tokens_short (o.rational n d) s k = omega (arith, ratio_short n d s.0 s.1)
  tokens_short (o.character c) s k = omega (arith, character_short c)
  tokens_short (o.text bytes) s k = omega arith
  tokens_short (o.symbol home name) s k = symbol_short home name k
  tokens_short (o.uninterned name) s k = omega (arith, k)

-- ---- nesting

-- each has at most this depth
abbrev AreDeep : ℕ → List Object → Type 0
AreDeep d [] = Unit {0}
AreDeep d (x ∷ xs) = (object_depth x ≤ d) × AreDeep d xs

along : (d : ℕ) (xs : List Object) → AreDeep d xs → depth_along (list_of xs) ≤ d
along d [] h = omega arith
along d (x ∷ xs) h = let first : object_depth x ≤ d = h.0 in let rest = along d xs h.1 in omega arith

list_depth : (d : ℕ) (xs : List Object) → AreDeep d xs → object_depth (list_of xs) ≤ d + 1
list_depth d [] h = omega arith
list_depth d (x ∷ xs) h = let first : object_depth x ≤ d = h.0 in let rest = along d xs h.1 in omega arith

each_deep : {A : Type 0} (f : A → Object) (d : ℕ) → ((x : A) → object_depth (f x) ≤ d) → (xs : List A) → AreDeep d (map f xs)
each_deep f d h [] = tt
each_deep f d h (x ∷ xs) = (h x, each_deep f d h xs)

both_deep : (d : ℕ) (xs ys : List Object) → AreDeep d xs → AreDeep d ys → AreDeep d (xs ++ ys)
both_deep d [] ys p q = q
both_deep d (x ∷ xs) ys p q = (p.0, both_deep d xs ys p.1 q)

flat_deep : {A : Type 0} (f : A → List Object) (d : ℕ) → ((x : A) → AreDeep d (f x)) → (xs : List A) → AreDeep d (flat_map f xs)
flat_deep f d h [] = tt
flat_deep f d h (x ∷ xs) = both_deep d (f x) (flat_map f xs) (h x) (flat_deep f d h xs)

texts_depth : (ns : List Name) → object_depth (texts ns) ≤ 1
texts_depth ns = list_depth 0 (map (λ n. o.text n) ns) (each_deep (λ n. o.text n) 0 (λ n. omega arith) ns)

package_depth : (t : Table) (p : Name) → object_depth (package_object t p) ≤ 3
package_depth t p =
    let rows = list_depth 1 (map imported_name (imports t p)) (each_deep imported_name 1 (λ r. texts_depth (r.0 ∷ r.1 ∷ [])) (imports t p)) in
    let used = texts_depth (used_names t p) in
    let made = texts_depth (made_names t p) in
    let shown = texts_depth (shown_names t p) in
    list_depth 2 (o.text p ∷ texts (used_names t p) ∷ texts (made_names t p) ∷ texts (shown_names t p) ∷ list_of (map imported_name (imports t p)) ∷ [])
    (omega arith, (omega arith, (omega arith, (omega arith, (omega arith, tt)))))

pub packages_depth : (t : Table) → object_depth (packages_object t) ≤ 104
packages_depth t =
    let ps = filter (λ p. not (bytes_eq p common_lisp)) (package_names t) in
    let deep = list_depth 3 (map (package_object t) ps) (each_deep (package_object t) 3 (package_depth t) ps) in
    omega arith

flat_values : (t : Table) (ps : Plist) → All (λ p. IsValue t p.1) ps → AreDeep 100 (flat_map (λ p. symbol_object p.0 ∷ p.1 ∷ []) ps)
flat_values t [] vs = tt
flat_values t (p ∷ ps) vs = (omega arith, ((vs 0 p (omega arith)).depth, flat_values t ps (λ k q lt. vs (suc k) q (omega arith))))

module _ (s : WorldState) (sound : state.IsSoundWorldState s) where
  plist_values : (x : Symbol) → AreDeep 100 (flat_map (λ p. symbol_object p.0 ∷ p.1 ∷ []) (plist s x))
  plist_values x =
      elim (finite.get s.properties x) as (λ ps. finite.get s.properties x ≡ ps → AreDeep 100 (flat_map (λ p. symbol_object p.0 ∷ p.1 ∷ []) (unwrap_or ps []))) [
        | None ↦ λ _. tt
        | Some ps ↦ λ got. flat_values s.packages ps (sound.properties x ps got).values
      ] refl

  pub plist_depth : (x : Symbol) → object_depth (plist_object x (plist s x)) ≤ 101
  plist_depth x = list_depth 100 (symbol_object x ∷ flat_map (λ p. symbol_object p.0 ∷ p.1 ∷ []) (plist s x)) (omega arith, plist_values x)

  pub properties_depth : object_depth (properties_object s) ≤ 104
  properties_depth =
      let xs = symbols_with_properties s in
      let deep = list_depth 101 (map (λ x. plist_object x (plist s x)) xs) (each_deep (λ x. plist_object x (plist s x)) 101 plist_depth xs) in
      omega arith

pair_deep : (f : Option Name) (sub : ℕ) → AreDeep 1 (dispatch_object f sub)
pair_deep None sub = tt
pair_deep (Some f) sub = (list_depth 0 (number sub ∷ o.text f ∷ []) (omega arith, (omega arith, tt)), tt)

dispatch_deep : (e : CharacterEntry) → AreDeep 1 (dispatch_objects e)
unfolding dispatch_objects
dispatch_deep e = flat_deep (λ sub. dispatch_object (get_or e.dispatch sub None) sub) 1 (λ sub. pair_deep (get_or e.dispatch sub None) sub) (range_with_len 0 128)

entry_depth : (c : ℕ) (e : CharacterEntry) → object_depth (entry_object c e) ≤ 3
entry_depth c e =
    let dispatch = list_depth 1 (dispatch_objects e) (dispatch_deep e) in
    omega arith

entries_deep : (t : readtable.Table) → AreDeep 3 (entry_objects t)
unfolding entry_objects
entries_deep t = each_deep (λ c. entry_object c (entry_at t c)) 3 (λ c. entry_depth c (entry_at t c)) (filter (λ c. not (same_entry (entry_at t c) (entry_at standard c))) (range_with_len 0 128))

readtable_depth : (n : Name) (t : readtable.Table) → object_depth (readtable_object n t) ≤ 5
readtable_depth n t = let entries = list_depth 3 (entry_objects t) (entries_deep t) in omega arith

tables_depth : (s : WorldState) → object_depth (readtables_object s) ≤ 6
tables_depth s =
    let ns = filter (λ n. not (bytes_eq n standard_name)) (readtable_names s) in
    list_depth 5 (map (λ n. readtable_object n (snapshot_readtable s n)) ns) (each_deep (λ n. readtable_object n (snapshot_readtable s n)) 5 (λ n. readtable_depth n (snapshot_readtable s n)) ns)

third_of_four : (s : WorldState) → object_depth (tables_object s) ≤ 104
third_of_four s = let deep = tables_depth s in omega arith

third_of_three : (s : WorldState) → object_depth (tables_object_1 s) ≤ 104
third_of_three s = let deep = tables_depth s in omega arith

pub third_depth : (version : ℕ) (s : WorldState) (x : Object) → tables_object_in version s ≡ Some x → object_depth x ≤ 104
third_depth version s x is =
    elim (third_by version s x is) [
      | inl second ↦ subst (λ y. object_depth y ≤ 104) (sym second.1) (third_of_four s)
      | inr first ↦ subst (λ y. object_depth y ≤ 104) (sym first.2) (third_of_three s)
    ]
