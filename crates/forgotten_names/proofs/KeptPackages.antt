-- Packages of which each keeps some of its names.
--     found_kept      in a list of packages
--     package_kept, entry_kept, uses_kept, there_kept      what is there
--     entry_stays, entry_was      what is kept is as it was, and what is there was there
--     kept_part      they are a part of the packages
--     all_kept      where all is kept, they are the packages
use Rattle.std.proofs.Common.{◌≡◌, Bool, true, false, cond, Option, None, Some, List, [], ◌∷◌, map, is_some, refl, sym, ap, ◌∙◌}
use Rattle.std.specs.Prelude.{option_map, option_and_then}
use Rattle.std.specs.Ordering.{eq_by_cmp}
use Rattle.std.specs.FinMap as finite
use Rattle.std.specs.FinMap.{find, get-from_entries, same_map}
use Rattle.package_table.specs.Table.{Name, name_cmp, Present, Package, Table, entry_at}
use Rattle.package_table.proofs.Names.{name_total, name_exact, tied_same, none_some}
use Rattle.snapshot_text.specs.Part.{IsPartOf}
use Rattle.forgotten_names.specs.WorldsWithoutNames.{kept_package, kept_packages}

module _ (keep : Name → Name → Bool) where
  pub found_kept : (q : Name) (es : List (Name × Package)) → find name_cmp q (map (λ (e : Name × Package). (e.0, kept_package keep e.0 e.1)) es) ≡ option_map (kept_package keep q) (find name_cmp q es)
  found_kept q [] = refl
  found_kept q (e ∷ es) =
      elim (eq_by_cmp name_cmp q e.0) as (λ b. eq_by_cmp name_cmp q e.0 ≡ b
      → cond b (Some (kept_package keep e.0 e.1)) (find name_cmp q (map (λ (e : Name × Package). (e.0, kept_package keep e.0 e.1)) es)) ≡ option_map (kept_package keep q) (cond b (Some e.1) (find name_cmp q es))) [
        | true ↦ λ tied. ap (λ (p : Name). Some (kept_package keep p e.1)) (sym (tied_same q e.0 tied))
        | false ↦ λ _. found_kept q es
      ] refl

  symbol_kept : (p n : Name) (k : Package) → finite.get (kept_package keep p k).symbols n ≡ cond (keep p n) (finite.get k.symbols n) None
  symbol_kept p n k = finite.get-retain_keys k.symbols (keep p) n (λ m tied. ap (keep p) (sym (name_exact n m tied)))

  -- a package that keeps all its names
  pub whole_package : (p : Name) (k : Package) → ((n : Name) (e : Present) → finite.get k.symbols n ≡ Some e → keep p n ≡ true) → kept_package keep p k ≡ k
  whole_package p k all = λ i. record k { symbols = same i }
    where
      same : (kept_package keep p k).symbols ≡ k.symbols
      same = same_map name_total name_exact (kept_package keep p k).symbols k.symbols (λ n.
          symbol_kept p n k
          ∙ elim (finite.get k.symbols n) as (λ o. finite.get k.symbols n ≡ o → cond (keep p n) o None ≡ o) [
            | None ↦ λ _. elim (keep p n) as (λ b. ◌≡◌ {A = Option Present} (cond b None None) None) [ true ↦ refl | false ↦ refl ]
            | Some e ↦ λ is. ap (λ b. cond b (Some e) None) (all n e is)
          ] refl)

  module _ (t : Table) where
    abbrev kept : Table
    kept = kept_packages keep t

    pub package_kept : (q : Name) → finite.get kept q ≡ option_map (kept_package keep q) (finite.get t q)
    unfolding kept_packages
    package_kept q =
        get-from_entries name_total (map (λ (e : Name × Package). (e.0, kept_package keep e.0 e.1)) (finite.entries t)) q
        ∙ found_kept q (finite.entries t)
        ∙ ap (option_map (kept_package keep q)) (sym (finite.get-entries t q))

    pub entry_kept : (p n : Name) → entry_at kept p n ≡ cond (keep p n) (entry_at t p n) None
    entry_kept p n = ap (option_and_then (λ (k : Package). finite.get k.symbols n)) (package_kept p) ∙ through (finite.get t p)
      where
        through : (o : Option Package) → option_and_then (λ (k : Package). finite.get k.symbols n) (option_map (kept_package keep p) o) ≡ cond (keep p n) (option_and_then (λ (k : Package). finite.get k.symbols n) o) None
        through None = elim (keep p n) as (λ b. ◌≡◌ {A = Option Present} None (cond b None None)) [ true ↦ refl | false ↦ refl ]
        through (Some k) = symbol_kept p n k

    pub uses_kept : (p q : Name) → option_map (λ (k : Package). finite.contains_key k.uses q) (finite.get kept p) ≡ option_map (λ (k : Package). finite.contains_key k.uses q) (finite.get t p)
    uses_kept p q =
        ap (option_map (λ (k : Package). finite.contains_key k.uses q)) (package_kept p)
        ∙ elim (finite.get t p) as (λ o. option_map (λ (k : Package). finite.contains_key k.uses q) (option_map (kept_package keep p) o) ≡ option_map (λ (k : Package). finite.contains_key k.uses q) o) [
          | None ↦ refl
          | Some k ↦ refl
        ]

    pub there_kept : (p : Name) → finite.contains_key kept p ≡ finite.contains_key t p
    there_kept p =
        ap is_some (package_kept p)
        ∙ elim (finite.get t p) as (λ o. is_some (option_map (kept_package keep p) o) ≡ is_some o) [ None ↦ refl | Some k ↦ refl ]

    pub entry_stays : (p n : Name) → keep p n ≡ true → entry_at kept p n ≡ entry_at t p n
    entry_stays p n keeps = entry_kept p n ∙ ap (λ b. cond b (entry_at t p n) None) keeps

    pub entry_was : (p n : Name) (e : Present) → entry_at kept p n ≡ Some e → (entry_at t p n ≡ Some e) × (keep p n ≡ true)
    entry_was p n e is = passed (keep p n) (sym (entry_kept p n) ∙ is)
      where
        passed : (b : Bool) → cond b (entry_at t p n) None ≡ Some e → (entry_at t p n ≡ Some e) × (b ≡ true)
        passed true here = (here, refl)
        passed false none = absurd (none_some e none)

    pub kept_part : IsPartOf kept t
    kept_part = record {
      packages = λ p here. sym (there_kept p) ∙ here;
      symbols = λ p n e here. (e, (entry_was p n e here).0, record { home = refl; external = λ shown. shown });
      uses = λ p q used. sym (uses_kept p q) ∙ used;
    }

    pub all_kept : ((p n : Name) (e : Present) → entry_at t p n ≡ Some e → keep p n ≡ true) → kept ≡ t
    all_kept all = same_map name_total name_exact kept t (λ p.
        package_kept p
        ∙ elim (finite.get t p) as (λ o. finite.get t p ≡ o → option_map (kept_package keep p) o ≡ o) [
          | None ↦ λ _. refl
          | Some k ↦ λ there. ap (λ k. Some k) (whole_package p k (λ n e here. all p n e (ap (option_and_then (λ (k : Package). finite.get k.symbols n)) there ∙ here)))
        ] refl)
