-- The names that a snapshot lists of a package are those of its own symbols that are not there from the first.
--     own_are, own_among      each own name is that of such a symbol, and each such symbol is among them
--     made_are      the same of each that is listed
--     own_all      all own symbols are there, where those that are listed are
use Rattle.std.proofs.Common.{◌≡◌, Bool, true, false, not, [], map, filter, None, Some, is_some, All, refl, sym, ap, subst, ◌∙◌}
use Rattle.std.specs.Prelude.{option_map, option_and_then, bytes_eq}
use Rattle.std.specs.Option.{option_map_or}
use Rattle.std.specs.List.{list_any}
use Rattle.std.specs.FinMap as finite
use Rattle.std.specs.FinMap.{get-entries, entries_sorted, is_sorted}
use Rattle.std.proofs.lemmas.Bool.{false≢true}
use Rattle.std.proofs.lemmas.List.Elements.{All-filter, All-weaker}
use Rattle.package_table.specs.Table.{Name, name_cmp, Present, Package, Table, entry_at, IsPackage, IsPresent, HasFirst, initial}
use Rattle.package_table.specs.Lookup.{is_present}
use Rattle.package_table.specs.Readers.{own_names}
use Rattle.package_table.specs.Growth.{Grows}
use Rattle.package_table.proofs.Frames.{equal_itself, equal_names}
use Rattle.package_table.proofs.Keeping.{present_once}
use Rattle.world_text.specs.Snapshot.{made_names}
use Rattle.snapshot_text.specs.Part.{IsPartOf}
use Rattle.snapshot_text.specs.Phases.{HasOwn}
use Rattle.world_text.proofs.Ascii.{from_truth}
use Rattle.world_text.proofs.PackageEntries.{eq, names_passing}
use Rattle.world_text.proofs.SamePackages.{any_passing}
use Rattle.snapshot_text.proofs.PartFinds.{present_entry, present_more}
use Rattle.snapshot_text.proofs.PackageLists.{all_any, any_all}
use Rattle.snapshot_text.proofs.PartSame.{first_part}

-- ---- the names of a package's own symbols

abbrev at_home : Name → Present → Bool
at_home p e = bytes_eq e.home p

own_listed : (s : Table) (p n : Name) → list_any (eq n) (own_names s p) ≡ option_map_or (at_home p) (entry_at s p n) false
own_listed s p n =
    elim (finite.get s p) as (λ o. list_any (eq n) (map (λ s. s.0) (filter (λ s. bytes_eq s.1.home p) (option_map_or (λ (k : Package). finite.entries k.symbols) o []))) ≡ option_map_or (at_home p) (option_and_then (λ (k : Package). finite.get k.symbols n) o) false) [
      | None ↦ refl
      | Some k ↦
          names_passing n (at_home p) (finite.entries k.symbols) (from_truth (is_sorted name_cmp (finite.entries k.symbols)) (entries_sorted k.symbols))
          ∙ ap (λ o. option_map_or (at_home p) o false) (sym (get-entries k.symbols n))
    ]

own_there : (s : Table) (p n : Name) → list_any (eq n) (own_names s p) ≡ true → IsPresent s p n p
own_there s p n listed =
    elim (entry_at s p n) as (λ o. option_map_or (at_home p) o false ≡ true → option_map (λ (e : Present). e.home) o ≡ Some p) [
      | None ↦ λ e. absurd (false≢true e)
      | Some e ↦ λ home. ap (λ h. Some h) (equal_names e.home p home)
    ] (sym (own_listed s p n) ∙ listed)

there_own : (s : Table) (p n : Name) → IsPresent s p n p → list_any (eq n) (own_names s p) ≡ true
there_own s p n there =
    let e = present_entry s p n p there in
    own_listed s p n ∙ ap (λ o. option_map_or (at_home p) o false) e.1 ∙ ap (λ h. bytes_eq h p) e.2 ∙ equal_itself p

pub own_are : (s : Table) (p : Name) → All (λ n. IsPresent s p n p) (own_names s p)
own_are s p =
    All-weaker (λ n. list_any (eq n) (own_names s p) ≡ true) (λ n. IsPresent s p n p) (λ n any. own_there s p n any) (own_names s p) (all_any (own_names s p))

pub own_among : (s : Table) (p : Name) (P : Name → Type 0) → All P (own_names s p) → (n : Name) → IsPresent s p n p → P n
own_among s p P all n there = any_all P (own_names s p) n (there_own s p n there) all

-- ---- those that a snapshot lists

pub made_are : (s : Table) (p : Name) → All (λ n. IsPresent s p n p) (made_names s p)
made_are s p = All-filter (λ n. not (is_present initial p n)) (λ n. IsPresent s p n p) (own_names s p) (own_are s p)

-- t has the first packages, and u what t has
pub own_all : (t u s : Table) → HasFirst t → Grows t u → IsPartOf u s → (p : Name) → All (λ n. IsPresent u p n p) (made_names s p)
    → IsPackage u p → HasOwn u s p
own_all t u s first grows part p are here = record {
  there = here;
  names = λ n home.
      elim (is_present initial p n) as (λ b. is_present initial p n ≡ b → IsPresent u p n p) [
        | true ↦ λ old. from_first n home old
        | false ↦ λ new. any_all (λ m. IsPresent u p m p) (made_names s p) n (any_passing n (λ m. not (is_present initial p m)) (own_names s p) (ap not new) ∙ there_own s p n home) are
      ] refl;
}
  where
    from_first : (n : Name) → IsPresent s p n p → is_present initial p n ≡ true → IsPresent u p n p
    from_first n home old =
        elim (entry_at initial p n) as (λ o. entry_at initial p n ≡ o → is_some o ≡ true → IsPresent u p n p) [
          | None ↦ λ _ no. absurd (false≢true no)
          | Some e ↦ λ is _.
              let was : IsPresent u p n e.home = grows.homes p n e.home (present_more initial t (first_part t first) p n e.home (ap (option_map (λ (e : Present). e.home)) is)) in
              subst (λ (h : Name). IsPresent u p n h) (present_once s p n e.home p (present_more u s part p n e.home was) home) was
        ] refl old
