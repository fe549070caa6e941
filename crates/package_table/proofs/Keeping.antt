-- That a change of one package keeps the packages joined.
--     present_once, present_at_home      a symbol that is present by a name, and that is found
--     joined_alike      a table with the same entries, no more uses and no fewer packages
--     joined_with_entry      after an entry: for `intern`, `import` and `export`
--     joined_with_used      after a used package: for `use_package`
--     joined_with_new      after a package: for `make`
use Rattle.std.proofs.Common.{◌≡◌, ◌≢◌, ◌⊎◌, true, None, Some, refl, sym, ap, subst, ◌∙◌, inl, inr}
use Rattle.std.specs.Option.{option_map}
use Rattle.std.specs.FinMap as finite
use Rattle.package_table.specs.Table.{Name, Present, Table, entry_at, IsPackage, IsPresent, IsExternal, Uses, Finds, AreUsesSound, with_entry, with_used, with_new_package}
use Rattle.package_table.proofs.Frames.{place_cases, entry_new, entry_other, uses_with_entry, package_with_entry, entry_with_used, uses_either, package_with_used, entry_with_new, uses_with_new, package_with_new}

-- one home in a place
pub present_once : (t : Table) (p n g h : Name) → IsPresent t p n g → IsPresent t p n h → g ≡ h
present_once t p n g h a b = let both : Some g ≡ Some h = sym a ∙ b in cc

-- a symbol that is found is present at its home
pub present_at_home : (t : Table) (p n h : Name) → AreUsesSound t → Finds t p n h → IsPresent t h n h
present_at_home t p n h joined finds =
    elim finds [
      | inl here ↦ joined.homes p n h here
      | inr (q, used, shown, here) ↦ joined.homes q n h here
    ]

module _ (t u : Table)
    (entries : (q m : Name) → entry_at u q m ≡ entry_at t q m)
    (uses : (q r : Name) → Uses u q r → Uses t q r)
    (packages : (q : Name) → IsPackage t q → IsPackage u q) where
  present_as : (q m h : Name) → IsPresent u q m h → IsPresent t q m h
  present_as q m h there = sym (ap (option_map (λ (e : Present). e.home)) (entries q m)) ∙ there

  external_as : (q m : Name) → IsExternal u q m → IsExternal t q m
  external_as q m there = sym (ap (option_map (λ (e : Present). e.external)) (entries q m)) ∙ there

  found_as : (q m h : Name) → Finds u q m h → Finds t q m h
  found_as q m h found =
      elim found [
        | inl there ↦ inl (present_as q m h there)
        | inr (r, used, external, there) ↦ inr (r, uses q r used, external_as r m external, present_as r m h there)
      ]

  pub joined_alike : AreUsesSound t → AreUsesSound u
  joined_alike joined = record {
    homes = λ p n h there. ap (option_map (λ (e : Present). e.home)) (entries h n) ∙ joined.homes p n h (present_as p n h there);
    used = λ p q used. packages q (joined.used p q (uses p q used));
    one = λ p n g h a b. joined.one p n g h (found_as p n g a) (found_as p n h b);
    apart = λ p used. joined.apart p (uses p p used);
  }

-- after an entry e at the name n of p
module _ (t : Table) (p n : Name) (e : Present) (there : IsPackage t p) where
  abbrev after : Table
  after = with_entry t p n e

  pub new_home : IsPresent after p n e.home
  new_home = ap (option_map (λ (e : Present). e.home)) (entry_new t p n e there)

  pub present_either : (q m h : Name) → IsPresent after q m h → ((q ≡ p) × (m ≡ n) × (h ≡ e.home)) ⊎ IsPresent t q m h
  present_either q m h found =
      elim (place_cases q m p n) [
        | inl (same, alike) ↦ inl (same, alike, present_once after p n h e.home (subst (λ (x : Name). IsPresent after p x h) alike (subst (λ (x : Name). IsPresent after x m h) same found)) new_home)
        | inr differ ↦ inr (sym (ap (option_map (λ (e : Present). e.home)) (entry_other t p n e q m differ)) ∙ found)
      ]

  pub present_kept : ((g : Name) → Finds t p n g → g ≡ e.home) → (q m h : Name) → IsPresent t q m h → IsPresent after q m h
  present_kept finds q m h found =
      elim (place_cases q m p n) [
        | inl (same, alike) ↦
            let h_is : h ≡ e.home = finds h (inl (subst (λ (x : Name). IsPresent t p x h) alike (subst (λ (x : Name). IsPresent t x m h) same found))) in
            subst (λ (x : Name). IsPresent after q m x) (sym h_is) (subst (λ (x : Name). IsPresent after x m e.home) (sym same) (subst (λ (x : Name). IsPresent after p x e.home) (sym alike) new_home))
        | inr differ ↦ ap (option_map (λ (e : Present). e.home)) (entry_other t p n e q m differ) ∙ found
      ]

  pub external_either : (q m : Name) → IsExternal after q m → ((q ≡ p) × (m ≡ n) × (e.external ≡ true)) ⊎ IsExternal t q m
  external_either q m found =
      elim (place_cases q m p n) [
        | inl (same, alike) ↦ inl (
          same,
          alike,
          (let seen : Some e.external ≡ Some true = sym (ap (option_map (λ (e : Present). e.external)) (entry_new t p n e there)) ∙ subst (λ (x : Name). IsExternal after p x) alike (subst (λ (x : Name). IsExternal after x m) same found) in cc),
        )
        | inr differ ↦ inr (sym (ap (option_map (λ (e : Present). e.external)) (entry_other t p n e q m differ)) ∙ found)
      ]

  pub uses_kept : (q r : Name) → Uses after q r → Uses t q r
  uses_kept q r used = sym (uses_with_entry t p n e q r) ∙ used

module _ (t : Table) (p n : Name) (e : Present)
    (there : IsPackage t p)
    (home : (e.home ≡ p) ⊎ IsPresent t e.home n e.home)
    (finds : (g : Name) → Finds t p n g → g ≡ e.home)
    (users : e.external ≡ true → (q g : Name) → Uses t q p → Finds t q n g → g ≡ e.home) where
  -- what sees the new entry
  abbrev Sees : Name → Type 0
  Sees q = (q ≡ p) ⊎ (Uses t q p × (e.external ≡ true))

  found_here : (q g : Name) → Sees q → Finds t q n g → g ≡ e.home
  found_here q g sees found =
      elim sees [
        | inl same ↦ finds g (subst (λ (x : Name). Finds t x n g) same found)
        | inr (used, external) ↦ users external q g used found
      ]

  found_either : (q m g : Name) → Finds (with_entry t p n e) q m g → ((m ≡ n) × (g ≡ e.home) × Sees q) ⊎ Finds t q m g
  found_either q m g found =
      elim found [
        | inl here ↦
            elim (present_either t p n e there q m g here) [
              | inl (same, alike, is) ↦ inl (alike, is, inl same)
              | inr old ↦ inr (inl old)
            ]
        | inr (r, used, external, here) ↦
            elim (present_either t p n e there r m g here) [
              | inl (same, alike, is) ↦
                  elim (external_either t p n e there r m external) [
                    | inl (_, _, shown) ↦ inl (alike, is, inr (subst (λ (x : Name). Uses t q x) same (uses_kept t p n e there q r used), shown))
                    | inr old ↦ inr (inr (r, uses_kept t p n e there q r used, old, still r m g same alike is old))
                  ]
              | inr present ↦
                  elim (external_either t p n e there r m external) [
                    | inl (same, alike, shown) ↦ inl (alike, finds g (inl (subst (λ (x : Name). IsPresent t p x g) alike (subst (λ (x : Name). IsPresent t x m g) same present))), inr (subst (λ (x : Name). Uses t q x) same (uses_kept t p n e there q r used), shown))
                    | inr old ↦ inr (inr (r, uses_kept t p n e there q r used, old, present))
                  ]
            ]
      ]
    where
      -- an entry that was external there was present there, with the same home
      still : (r m g : Name) → (r ≡ p) → (m ≡ n) → (g ≡ e.home) → IsExternal t r m → IsPresent t r m g
      still r m g same alike is old =
          elim (entry_at t r m) as (λ o. entry_at t r m ≡ o → option_map (λ (e : Present). e.external) o ≡ Some true → IsPresent t r m g) [
            | None ↦ λ found shown. absurd (let none : None ≡ Some true = shown in cc)
            | Some old_entry ↦ λ found shown.
                let present : IsPresent t r m old_entry.home = ap (option_map (λ (e : Present). e.home)) found in
                let home_is : old_entry.home ≡ e.home = finds old_entry.home (inl (subst (λ (x : Name). IsPresent t p x old_entry.home) alike (subst (λ (x : Name). IsPresent t x m old_entry.home) same present))) in
                present ∙ ap Some (home_is ∙ sym is)
          ] refl old

  pub joined_with_entry : AreUsesSound t → AreUsesSound (with_entry t p n e)
  joined_with_entry joined = record {
    homes = λ q m h found.
        elim (present_either t p n e there q m h found) [
          | inl (same, alike, is) ↦ subst (λ (x : Name). IsPresent (with_entry t p n e) x m x) (sym is) (subst (λ (x : Name). IsPresent (with_entry t p n e) e.home x e.home) (sym alike) at_home)
          | inr old ↦ present_kept t p n e there finds h m h (joined.homes q m h old)
        ];
    used = λ q r used. package_with_entry t p n e r ∙ joined.used q r (uses_kept t p n e there q r used);
    one = λ q m g h a b.
        elim (found_either q m g a) [
          | inl (alike, is, sees) ↦
              elim (found_either q m h b) [
                | inl (_, also, _) ↦ is ∙ sym also
                | inr old ↦ is ∙ sym (found_here q h sees (subst (λ (x : Name). Finds t q x h) alike old))
              ]
          | inr first ↦
              elim (found_either q m h b) [
                | inl (alike, is, sees) ↦ found_here q g sees (subst (λ (x : Name). Finds t q x g) alike first) ∙ sym is
                | inr old ↦ joined.one q m g h first old
              ]
        ];
    apart = λ q used. joined.apart q (uses_kept t p n e there q q used);
  }
    where
      at_home : IsPresent (with_entry t p n e) e.home n e.home
      at_home =
          elim home [
            | inl same ↦ subst (λ (x : Name). IsPresent (with_entry t p n e) x n e.home) (sym same) (new_home t p n e there)
            | inr present ↦ present_kept t p n e there finds e.home n e.home present
          ]

-- after q among the packages that p uses
module _ (t : Table) (p q : Name)
    (used_there : IsPackage t q)
    (other : q ≢ p)
    (agree : (n g h : Name) → Finds t p n g → IsExternal t q n → IsPresent t q n h → g ≡ h) where
  abbrev then : Table
  then = with_used t p q

  present_then : (r m h : Name) → IsPresent then r m h → IsPresent t r m h
  present_then r m h found = sym (ap (option_map (λ (e : Present). e.home)) (entry_with_used t p q r m)) ∙ found

  external_then : (r m : Name) → IsExternal then r m → IsExternal t r m
  external_then r m found = sym (ap (option_map (λ (e : Present). e.external)) (entry_with_used t p q r m)) ∙ found

  found_then : (r m g : Name) → Finds then r m g → Finds t r m g ⊎ ((r ≡ p) × IsExternal t q m × IsPresent t q m g)
  found_then r m g found =
      elim found [
        | inl here ↦ inl (inl (present_then r m g here))
        | inr (s, used, external, here) ↦
            elim (uses_either t p q r s used) [
              | inl old ↦ inl (inr (s, old, external_then s m external, present_then s m g here))
              | inr (same, is) ↦ inr (same, subst (λ (x : Name). IsExternal t x m) is (external_then s m external), subst (λ (x : Name). IsPresent t x m g) is (present_then s m g here))
            ]
      ]

  pub joined_with_used : AreUsesSound t → AreUsesSound then
  joined_with_used joined = record {
    homes = λ r m h found. ap (option_map (λ (e : Present). e.home)) (entry_with_used t p q h m) ∙ joined.homes r m h (present_then r m h found);
    used = λ r s used.
        package_with_used t p q s
        ∙ elim (uses_either t p q r s used) [
          | inl old ↦ joined.used r s old
          | inr (same, is) ↦ subst (λ (x : Name). IsPackage t x) (sym is) used_there
        ];
    one = λ r m g h a b.
        elim (found_then r m g a) [
          | inl old ↦
              elim (found_then r m h b) [
                | inl also ↦ joined.one r m g h old also
                | inr (same, external, present) ↦ agree m g h (subst (λ (x : Name). Finds t x m g) same old) external present
              ]
          | inr (same, external, present) ↦
              elim (found_then r m h b) [
                | inl also ↦ sym (agree m h g (subst (λ (x : Name). Finds t x m h) same also) external present)
                | inr (_, _, other) ↦ present_once t q m g h present other
              ]
        ];
    apart = λ r used.
        elim (uses_either t p q r r used) [
          | inl old ↦ joined.apart r old
          | inr (same, is) ↦ other (sym is ∙ same)
        ];
  }

pub joined_with_new : (t : Table) (p : Name) → finite.get t p ≡ None → AreUsesSound t → AreUsesSound (with_new_package t p)
joined_with_new t p absent joined =
    joined_alike t (with_new_package t p) (entry_with_new t p absent) (uses_with_new t p absent) (package_with_new t p absent) joined
