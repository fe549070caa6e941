-- What the lists of packages hold of which each keeps some of its names.
--     each_present      the names of a package, and what is there
--     packages_kept, used_kept      the packages, and what each uses
--     own_kept, external_kept, imports_kept      the names
use Rattle.std.proofs.Common.{◌≡◌, Bool, true, T, not, cond, Option, None, Some, List, [], ◌∷◌, All, map, filter, refl, sym, ap, subst, ◌∙◌}
use Rattle.std.specs.Prelude.{◌&&◌, bytes_eq, option_map, option_and_then}
use Rattle.std.specs.Option.{option_map_or}
use Rattle.std.specs.Ordering.{is_lt}
use Rattle.std.specs.FinMap as finite
use Rattle.std.specs.FinMap.{is_sorted, entries_sorted, get-entries, get-retain_keys}
use Rattle.std.specs.FinMap.Entries.{below_all, same_entries, is_sorted-where_key, find-where_key}
use Rattle.std.proofs.lemmas.Bool.{not-true}
use Rattle.std.proofs.lemmas.List.Elements.{All-nil, All-weaker}
use Rattle.package_table.specs.Table.{Name, name_cmp, Present, Package, Table, entry_at, IsPresent, IsExternal}
use Rattle.package_table.specs.Readers.{package_names, used_names, own_names, external_names, imports, present_symbols}
use Rattle.package_table.proofs.Frames.{unequal_names}
use Rattle.package_table.proofs.Names.{name_total, name_exact}
use Rattle.world_text.proofs.Ascii.{from_truth}
use Rattle.world_text.proofs.RowsWritten.{filter_images}
use Rattle.forgotten_names.specs.WorldsWithoutNames.{kept_package, kept_packages}
use Rattle.forgotten_names.proofs.Filtered.{filter_swap, filter_weaker}
use Rattle.forgotten_names.proofs.KeptPackages.{found_kept, package_kept}
use Rattle.forgotten_names.proofs.UnmarkedSymbols.{Found, all_found}

pub each_present : (t : Table) (p : Name) → All (λ (s : Name × Present). entry_at t p s.0 ≡ Some s.1) (present_symbols t p)
each_present t p =
    elim (finite.get t p) as (λ o. All (λ (s : Name × Present). option_and_then (λ (k : Package). finite.get k.symbols s.0) o ≡ Some s.1) (option_map_or (λ (k : Package). finite.entries k.symbols) o [])) [
      | None ↦ All-nil (λ (s : Name × Present). ◌≡◌ {A = Option Present} None (Some s.1))
      | Some k ↦
          let es = finite.entries k.symbols in
          All-weaker (Found es) (λ (s : Name × Present). finite.get k.symbols s.0 ≡ Some s.1) (λ s found. get-entries k.symbols s.0 ∙ found) es
          (all_found es (from_truth (is_sorted name_cmp es) (entries_sorted k.symbols)))
    ]

module _ (keep : Name → Name → Bool) (t : Table) where
  abbrev kept : Table
  kept = kept_packages keep t

  -- ---- the packages

  abbrev row : Name × Package → Name × Package
  row e = (e.0, kept_package keep e.0 e.1)

  below_kept : (p : Name) (es : List (Name × Package)) → below_all name_cmp p (map row es) ≡ below_all name_cmp p es
  below_kept p [] = refl
  below_kept p (e ∷ es) = ap (λ b. is_lt (name_cmp p e.0) && b) (below_kept p es)

  sorted_kept : (es : List (Name × Package)) → is_sorted name_cmp (map row es) ≡ is_sorted name_cmp es
  sorted_kept [] = refl
  sorted_kept (e ∷ es) = λ i. below_kept e.0 es i && sorted_kept es i

  entries_kept : finite.entries kept ≡ map row (finite.entries t)
  entries_kept =
      same_entries name_cmp name_total name_exact (finite.entries kept) (map row (finite.entries t))
      (entries_sorted kept) (subst T (sym (sorted_kept (finite.entries t))) (entries_sorted t))
      (λ q.
      sym (get-entries kept q)
      ∙ package_kept keep t q
      ∙ ap (option_map (kept_package keep q)) (get-entries t q)
      ∙ sym (found_kept keep q (finite.entries t)))

  names_of : (es : List (Name × Package)) → map (λ (e : Name × Package). e.0) (map row es) ≡ map (λ (e : Name × Package). e.0) es
  names_of [] = refl
  names_of (e ∷ es) = ap (λ ns. e.0 ∷ ns) (names_of es)

  pub packages_kept : package_names kept ≡ package_names t
  packages_kept = ap (map (λ (e : Name × Package). e.0)) entries_kept ∙ names_of (finite.entries t)

  pub used_kept : (p : Name) → used_names kept p ≡ used_names t p
  used_kept p =
      ap (λ o. option_map_or (λ (k : Package). finite.keys k.uses) o []) (package_kept keep t p)
      ∙ elim (finite.get t p) as (λ o. option_map_or (λ (k : Package). finite.keys k.uses) (option_map (kept_package keep p) o) [] ≡ option_map_or (λ (k : Package). finite.keys k.uses) o []) [
        | None ↦ refl
        | Some k ↦ refl
      ]

  -- ---- the names of one

  retained : (m : finite.FinMap name_cmp Present) (f : Name → Bool) → finite.entries (finite.retain_keys m f) ≡ filter (λ (s : Name × Present). f s.0) (finite.entries m)
  retained m f =
      same_entries name_cmp name_total name_exact (finite.entries (finite.retain_keys m f)) (filter (λ (s : Name × Present). f s.0) (finite.entries m))
      (entries_sorted (finite.retain_keys m f)) (is_sorted-where_key name_cmp f (finite.entries m) (entries_sorted m))
      (λ q.
      sym (get-entries (finite.retain_keys m f) q)
      ∙ get-retain_keys m f q (λ n tied. ap f (sym (name_exact q n tied)))
      ∙ ap (λ o. cond (f q) o None) (get-entries m q)
      ∙ sym (find-where_key name_cmp f q (λ n tied. ap f (sym (name_exact q n tied))) (finite.entries m)))

  module _ (p : Name) where
    present_kept : present_symbols kept p ≡ filter (λ (s : Name × Present). keep p s.0) (present_symbols t p)
    present_kept =
        ap (λ o. option_map_or (λ (k : Package). finite.entries k.symbols) o []) (package_kept keep t p)
        ∙ elim (finite.get t p) as (λ o. option_map_or (λ (k : Package). finite.entries k.symbols) (option_map (kept_package keep p) o) []
        ≡ filter (λ (s : Name × Present). keep p s.0) (option_map_or (λ (k : Package). finite.entries k.symbols) o [])) [
          | None ↦ refl
          | Some k ↦ retained k.symbols (keep p)
        ]

    pub own_kept : own_names kept p ≡ filter (keep p) (own_names t p)
    own_kept =
        ap (λ es. map (λ (s : Name × Present). s.0) (filter (λ (s : Name × Present). bytes_eq s.1.home p) es)) present_kept
        ∙ ap (map (λ (s : Name × Present). s.0)) (filter_swap (λ (s : Name × Present). bytes_eq s.1.home p) (λ (s : Name × Present). keep p s.0) (present_symbols t p))
        ∙ filter_images (keep p) (λ (s : Name × Present). s.0) (filter (λ (s : Name × Present). bytes_eq s.1.home p) (present_symbols t p))

    pub external_kept : ((n : Name) → IsExternal t p n → keep p n ≡ true) → external_names kept p ≡ external_names t p
    external_kept shown =
        ap (λ es. map (λ (s : Name × Present). s.0) (filter (λ (s : Name × Present). s.1.external) es)) present_kept
        ∙ ap (map (λ (s : Name × Present). s.0)) (filter_weaker (λ (s : Name × Present). s.1.external) (λ (s : Name × Present). keep p s.0) (present_symbols t p)
        (All-weaker (λ (s : Name × Present). entry_at t p s.0 ≡ Some s.1) (λ (s : Name × Present). s.1.external ≡ true → keep p s.0 ≡ true)
        (λ s here is. shown s.0 (ap (option_map (λ (e : Present). e.external)) here ∙ ap (λ b. Some b) is)) (present_symbols t p) (each_present t p)))

    pub imports_kept : ((n h : Name) → IsPresent t p n h → (h ≡ p → ⊥) → keep p n ≡ true) → imports kept p ≡ imports t p
    imports_kept imported =
        ap (λ es. map (λ (s : Name × Present). (s.0, s.1.home)) (filter (λ (s : Name × Present). not (bytes_eq s.1.home p)) es)) present_kept
        ∙ ap (map (λ (s : Name × Present). (s.0, s.1.home))) (filter_weaker (λ (s : Name × Present). not (bytes_eq s.1.home p)) (λ (s : Name × Present). keep p s.0) (present_symbols t p)
        (All-weaker (λ (s : Name × Present). entry_at t p s.0 ≡ Some s.1) (λ (s : Name × Present). not (bytes_eq s.1.home p) ≡ true → keep p s.0 ≡ true)
        (λ s here other. imported s.0 s.1.home (ap (option_map (λ (e : Present). e.home)) here) (unequal_names s.1.home p (not-true (bytes_eq s.1.home p) other)))
        (present_symbols t p) (each_present t p)))
