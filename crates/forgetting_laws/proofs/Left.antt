-- What the packages have once the symbols went that are not needed.
--     packages_left     the packages
--     own_left          the names at home in one
--     imports_left      and those that it imports
use Rattle.std.proofs.Common.{◌≡◌, Bool, true, false, T, not, ◌||◌, cond, Option, None, Some, List, [], ◌∷◌, map, filter, refl, sym, ap, subst, ◌∙◌}
use Rattle.std.specs.Prelude.{◌&&◌, bytes_eq, option_map, option_and_then}
use Rattle.std.specs.Option.{option_map_or}
use Rattle.std.specs.Ordering.{eq_by_cmp, is_lt}
use Rattle.std.specs.FinMap as finite
use Rattle.std.specs.FinMap.{find, is_sorted, entries_sorted, get-entries, get-from_entries, get-retain_keys}
use Rattle.std.specs.FinMap.Entries.{below_all, same_entries, is_sorted-where_key, find-where_key}
use Rattle.package_table.specs.Table.{Name, name_cmp, Present, Package, Table}
use Rattle.package_table.specs.Lookup.{is_symbol}
use Rattle.package_table.specs.Readers.{package_names, own_names, own_among, imports, imported_among}
use Rattle.package_table.proofs.Names.{name_total, name_exact, tied_same}
use Rattle.plist_state.specs.Properties.{Symbol}
use Rattle.plist_state.specs.State.{WorldState}
use Rattle.world_text.proofs.Ascii.{entries_pass}
use Rattle.world_text.proofs.RowsWritten.{filter_images}
use Rattle.forgotten_names.specs.WorldsWithoutNames.{without_unneeded_symbols, is_kept, kept_package, kept_packages}
use Rattle.forgotten_names.specs.NeededSymbols.{is_needed}
use Rattle.forgetting_laws.proofs.Passing.{same, passing_both, passing_alike}

-- ---- one package

module _ (keep : Name → Name → Bool) where
  abbrev row : Name × Package → Name × Package
  row e = (e.0, kept_package keep e.0 e.1)

  found_among : (q : Name) (es : List (Name × Package)) → find name_cmp q (map row es) ≡ option_map (kept_package keep q) (find name_cmp q es)
  found_among q [] = refl
  found_among q (e ∷ es) =
      elim (eq_by_cmp name_cmp q e.0) as (λ b. eq_by_cmp name_cmp q e.0 ≡ b
      → cond b (Some (kept_package keep e.0 e.1)) (find name_cmp q (map row es)) ≡ option_map (kept_package keep q) (cond b (Some e.1) (find name_cmp q es))) [
        | true ↦ λ tied. ap (λ (p : Name). Some (kept_package keep p e.1)) (sym (tied_same q e.0 tied))
        | false ↦ λ _. found_among q es
      ] refl

  pub package_left : (t : Table) (q : Name) → finite.get (kept_packages keep t) q ≡ option_map (kept_package keep q) (finite.get t q)
  unfolding kept_packages
  package_left t q =
      get-from_entries name_total (map row (finite.entries t)) q
      ∙ found_among q (finite.entries t)
      ∙ ap (option_map (kept_package keep q)) (sym (get-entries t q))

  -- ---- the packages

  below_row : (p : Name) (es : List (Name × Package)) → below_all name_cmp p (map row es) ≡ below_all name_cmp p es
  below_row p [] = refl
  below_row p (e ∷ es) = ap (λ b. is_lt (name_cmp p e.0) && b) (below_row p es)

  sorted_row : (es : List (Name × Package)) → is_sorted name_cmp (map row es) ≡ is_sorted name_cmp es
  sorted_row [] = refl
  sorted_row (e ∷ es) = λ i. below_row e.0 es i && sorted_row es i

  entries_left : (t : Table) → finite.entries (kept_packages keep t) ≡ map row (finite.entries t)
  entries_left t =
      same_entries name_cmp name_total name_exact (finite.entries (kept_packages keep t)) (map row (finite.entries t))
      (entries_sorted (kept_packages keep t)) (subst T (sym (sorted_row (finite.entries t))) (entries_sorted t))
      (λ q.
      sym (get-entries (kept_packages keep t) q)
      ∙ package_left t q
      ∙ ap (option_map (kept_package keep q)) (get-entries t q)
      ∙ sym (found_among q (finite.entries t)))

  names_of : (es : List (Name × Package)) → map (λ (e : Name × Package). e.0) (map row es) ≡ map (λ (e : Name × Package). e.0) es
  names_of [] = refl
  names_of (e ∷ es) = ap (λ ns. e.0 ∷ ns) (names_of es)

  pub packages_left : (t : Table) → package_names (kept_packages keep t) ≡ package_names t
  packages_left t = ap (map (λ (e : Name × Package). e.0)) (entries_left t) ∙ names_of (finite.entries t)

-- the names that are kept in one
retained : (m : finite.FinMap name_cmp Present) (f : Name → Bool) → finite.entries (finite.retain_keys m f) ≡ filter (λ (x : Name × Present). f x.0) (finite.entries m)
retained m f =
    same_entries name_cmp name_total name_exact (finite.entries (finite.retain_keys m f)) (filter (λ (x : Name × Present). f x.0) (finite.entries m))
    (entries_sorted (finite.retain_keys m f)) (is_sorted-where_key name_cmp f (finite.entries m) (entries_sorted m))
    (λ q.
    sym (get-entries (finite.retain_keys m f) q)
    ∙ get-retain_keys m f q (λ n tied. ap f (sym (name_exact q n tied)))
    ∙ ap (λ o. cond (f q) o None) (get-entries m q)
    ∙ sym (find-where_key name_cmp f q (λ n tied. ap f (sym (name_exact q n tied))) (finite.entries m)))

-- what is kept of the own names is what is needed, and all others are kept
own_case : (own needed : Bool) → same ((not own || needed) && own) (own && needed) ≡ true
own_case true true = refl
own_case true false = refl
own_case false true = refl
own_case false false = refl

other_case : (own needed : Bool) → same ((not own || needed) && not own) (not own) ≡ true
other_case true true = refl
other_case true false = refl
other_case false true = refl
other_case false false = refl

module _ (held : List Symbol) (s : WorldState) (p : Name) where
  abbrev left : Table
  left = (without_unneeded_symbols held s).packages

  abbrev is_own : Name × Present → Bool
  is_own x = bytes_eq x.1.home p

  abbrev is_needed_own : Name → Bool
  is_needed_own n = is_needed held s (p, n)

  abbrev is_left : Name × Present → Bool
  is_left x = is_kept held s p x.0

  -- whether a name is at home in the package, by what is there
  own_is : (k : Package) (n : Name) (e : Present) → finite.get s.packages p ≡ Some k → finite.get k.symbols n ≡ Some e → is_symbol s.packages p n ≡ bytes_eq e.home p
  own_is k n e there here =
      ap (λ o. option_map_or (λ (e : Present). bytes_eq e.home p) o false)
      (ap (option_and_then (λ (k : Package). finite.get k.symbols n)) there ∙ here)

  pub own_left : own_names left p ≡ filter is_needed_own (own_names s.packages p)
  own_left = ap (λ o. own_among p (option_map_or (λ (k : Package). finite.entries k.symbols) o [])) (package_left (is_kept held s) s.packages p) ∙ by_package (finite.get s.packages p) refl
    where
      by_package : (o : Option Package) → finite.get s.packages p ≡ o
          → own_among p (option_map_or (λ (k : Package). finite.entries k.symbols) (option_map (kept_package (is_kept held s) p) o) []) ≡ filter is_needed_own (own_among p (option_map_or (λ (k : Package). finite.entries k.symbols) o []))
      by_package None there = refl
      by_package (Some k) there =
          let es = finite.entries k.symbols in
          let alike = entries_pass k.symbols (λ (x : Name × Present). same (is_left x && is_own x) (is_own x && is_needed_own x.0)) (λ n e here.
          ap (λ b. same ((not b || is_needed_own n) && bytes_eq e.home p) (bytes_eq e.home p && is_needed_own n)) (own_is k n e there here) ∙ own_case (bytes_eq e.home p) (is_needed_own n)) in
          ap (own_among p) (retained k.symbols (is_kept held s p))
          ∙ ap (map (λ (x : Name × Present). x.0))
          (passing_both is_own is_left es
          ∙ passing_alike (λ (x : Name × Present). is_left x && is_own x) (λ (x : Name × Present). is_own x && is_needed_own x.0) es alike
          ∙ sym (passing_both (λ (x : Name × Present). is_needed_own x.0) is_own es))
          ∙ filter_images is_needed_own (λ (x : Name × Present). x.0) (filter is_own es)

  pub imports_left : imports left p ≡ imports s.packages p
  imports_left = ap (λ o. imported_among p (option_map_or (λ (k : Package). finite.entries k.symbols) o [])) (package_left (is_kept held s) s.packages p) ∙ by_package (finite.get s.packages p) refl
    where
      by_package : (o : Option Package) → finite.get s.packages p ≡ o
          → imported_among p (option_map_or (λ (k : Package). finite.entries k.symbols) (option_map (kept_package (is_kept held s) p) o) []) ≡ imported_among p (option_map_or (λ (k : Package). finite.entries k.symbols) o [])
      by_package None there = refl
      by_package (Some k) there =
          let es = finite.entries k.symbols in
          let alike = entries_pass k.symbols (λ (x : Name × Present). same (is_left x && not (is_own x)) (not (is_own x))) (λ n e here.
          ap (λ b. same ((not b || is_needed_own n) && not (bytes_eq e.home p)) (not (bytes_eq e.home p))) (own_is k n e there here) ∙ other_case (bytes_eq e.home p) (is_needed_own n)) in
          ap (imported_among p) (retained k.symbols (is_kept held s p))
          ∙ ap (map (λ (x : Name × Present). (x.0, x.1.home)))
          (passing_both (λ (x : Name × Present). not (is_own x)) is_left es
          ∙ passing_alike (λ (x : Name × Present). is_left x && not (is_own x)) (λ (x : Name × Present). not (is_own x)) es alike)
