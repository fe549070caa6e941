-- What packages find, others find of which they are a part; so a call meets no conflict that those do not have.
--     present_more, external_more, finds_more, found_more      what is there, and what is found, there too
--     only_found      what is found by a name that finds a symbol there
--     none_other, no_user_other, no_shown_other      no other symbol is found
use Rattle.std.proofs.Common.{◌≡◌, Bool, true, false, not, None, Some, IsTrue, bytes_eq, is_some, refl, sym, ap, ◌∙◌, inl, inr}
use Rattle.std.specs.Option.{option_map, option_map_or, option_and_then}
use Rattle.std.specs.FinMap as finite
use Rattle.package_table.specs.Table.{Name, Present, Package, Table, entry_at, IsPackage, IsPresent, IsExternal, Uses, Finds, AreUsesSound, AreSoundPackages}
use Rattle.package_table.specs.Lookup.{home_by_name}
use Rattle.package_table.specs.Changes.{finds_other, user_finds_other, finds_other_than_shown}
use Rattle.package_table.proofs.Names.{same_some, none_some}
use Rattle.package_table.proofs.Frames.{equal_itself}
use Rattle.package_table.proofs.Found.{found_finds}
use Rattle.package_table.proofs.Asked.{users_other, shown_other}
use Rattle.snapshot_text.specs.Part.{IsPartOf}

-- what is at the name of a symbol that is present
pub present_entry : (t : Table) (p n h : Name) → IsPresent t p n h → (e : Present) × (entry_at t p n ≡ Some e) × (e.home ≡ h)
present_entry t p n h there =
    elim (entry_at t p n) as (λ o. entry_at t p n ≡ o → option_map (λ (e : Present). e.home) o ≡ Some h → (e : Present) × (entry_at t p n ≡ Some e) × (e.home ≡ h)) [
      | None ↦ λ _ no. absurd (none_some h no)
      | Some e ↦ λ is home. (e, is, same_some e.home h home)
    ] refl there

pub external_entry : (t : Table) (p n : Name) → IsExternal t p n → (e : Present) × (entry_at t p n ≡ Some e) × (e.external ≡ true)
external_entry t p n shown =
    elim (entry_at t p n) as (λ o. entry_at t p n ≡ o → option_map (λ (e : Present). e.external) o ≡ Some true → (e : Present) × (entry_at t p n ≡ Some e) × (e.external ≡ true)) [
      | None ↦ λ _ no. absurd (none_some true no)
      | Some e ↦ λ is external. (e, is, same_some e.external true external)
    ] refl shown

-- a package where a symbol is present
pub present_package : (t : Table) (p n h : Name) → IsPresent t p n h → IsPackage t p
present_package t p n h there =
    elim (finite.get t p) as (λ o. option_map (λ (e : Present). e.home) (option_and_then (λ (k : Package). finite.get k.symbols n) o) ≡ Some h → IsTrue (is_some o)) [
      | None ↦ λ no. absurd (none_some h no)
      | Some k ↦ λ _. refl
    ] there

by_false : (b : Bool) → (b ≡ true → ⊥) → b ≡ false
by_false true never = absurd (never refl)
by_false false never = refl

module _ (t s : Table) (part : IsPartOf t s) where
  pub present_more : (p n h : Name) → IsPresent t p n h → IsPresent s p n h
  present_more p n h there =
      let e = present_entry t p n h there in
      let f = part.symbols p n e.0 e.1 in
      ap (option_map (λ (e : Present). e.home)) f.1 ∙ ap (λ h. Some h) (sym f.2.home ∙ e.2)

  pub external_more : (p n : Name) → IsExternal t p n → IsExternal s p n
  external_more p n shown =
      let e = external_entry t p n shown in
      let f = part.symbols p n e.0 e.1 in
      ap (option_map (λ (e : Present). e.external)) f.1 ∙ ap (λ b. Some b) (f.2.external e.2)

  pub finds_more : (p n h : Name) → Finds t p n h → Finds s p n h
  finds_more p n h (inl here) = inl (present_more p n h here)
  finds_more p n h (inr used) = inr (used.0, part.uses p used.0 used.1, external_more used.0 n used.2, present_more used.0 n h used.3)

  pub found_more : (p n h : Name) → home_by_name t p n ≡ Some h → Finds s p n h
  found_more p n h is = finds_more p n h (found_finds t n p h is)

  module _ (joined : AreUsesSound s) where
    -- where a symbol is found there, it is the one that is found here, if any is
    pub only_found : (p n g h : Name) → home_by_name t p n ≡ Some g → Finds s p n h → g ≡ h
    only_found p n g h is finds = joined.one p n g h (found_more p n g is) finds

    pub none_other : (p h n : Name) → Finds s p n h → finds_other t p h n ≡ false
    none_other p h n finds =
        elim (home_by_name t p n) as (λ o. home_by_name t p n ≡ o → option_map_or (λ g. not (bytes_eq g h)) o false ≡ false) [
          | None ↦ λ _. refl
          | Some g ↦ λ is. ap not (ap (λ x. bytes_eq x h) (only_found p n g h is finds) ∙ equal_itself h)
        ] refl

    -- what is external there may become so here
    pub no_user_other : AreSoundPackages t → (p h n : Name) → IsExternal s p n → IsPresent s p n h → user_finds_other t p h n ≡ false
    no_user_other sound p h n shown there =
        by_false (user_finds_other t p h n) (λ other.
        let user = (users_other t sound p h n).0 other in
        user.4 (joined.one user.0 n user.1 h (finds_more user.0 n user.1 user.3) (inr (p, part.uses user.0 p user.2, shown, there))))

    -- what is used there may be used here
    pub no_shown_other : AreSoundPackages t → (p q : Name) → Uses s p q → finds_other_than_shown t p q ≡ false
    no_shown_other sound p q used =
        by_false (finds_other_than_shown t p q) (λ other.
        let two = (shown_other t sound p q).0 other in
        let n = two.0 in
        two.6 (joined.one p n two.1 two.2 (finds_more p n two.1 two.3) (inr (q, used, external_more q n two.4, present_more q n two.2 two.5))))
