-- That a change of one package loses nothing, and that it changes the table.
--     Kept      what a call that writes leaves, where it is not refused
--     grows_same, grows_both, finds_grown      growth: none, two in a row, and what is found then
--     grows_with_entry, grows_with_used, grows_with_new      after each change
--     differs_entry, differs_external, differs_used, differs_new      the table is another then
--     entry_again      the entry that is there, put again
use Rattle.std.proofs.Common.{◌≡◌, ◌≢◌, Bool, true, false, None, Some, is_some, refl, sym, ap, subst, ◌∙◌, inl, inr}
use Rattle.std.specs.Option.{option_map, option_and_then, option_map_or}
use Rattle.std.specs.FinMap as finite
use Rattle.std.proofs.lemmas.Bool.{false≢true}
use Rattle.lisp_object.proofs.Tree.{insert_same}
use Rattle.package_table.specs.Table.{Name, name_cmp, Present, Package, Table, entry_at, IsPackage, IsExternal, Finds, AreSoundPackages, with_entry, with_used, with_new_package, empty_package}
use Rattle.package_table.specs.Lookup.{is_external, is_present, is_used}
use Rattle.package_table.specs.Growth.{Grows, TellsOfChange}
use Rattle.package_table.proofs.Names.{name_total, name_exact, none_some}
use Rattle.package_table.proofs.Frames.{place_cases, get_inserted, entry_new, entry_other, uses_with_entry, package_with_entry, entry_with_used, uses_still, uses_new, package_with_used, entry_with_new, uses_beside_new, package_with_new}
use Rattle.package_table.proofs.Keeping.{present_kept}
use Rattle.package_table.proofs.Found.{external_shows, used_shows}

-- sound packages, in which nothing is lost, and another table where the call says so
pub record Kept (t u : Table) (changes : Bool) : Type 0 where
  pub sound : AreSoundPackages u
  pub grows : Grows t u
  pub told : TellsOfChange changes t u

pub grows_same : (t : Table) → Grows t t
grows_same t = record { packages = λ _ e. e; homes = λ _ _ _ e. e; externals = λ _ _ e. e; uses = λ _ _ e. e }

pub grows_both : (t u v : Table) → Grows t u → Grows u v → Grows t v
grows_both t u v a b = record {
  packages = λ p e. b.packages p (a.packages p e);
  homes = λ p n h e. b.homes p n h (a.homes p n h e);
  externals = λ p n e. b.externals p n (a.externals p n e);
  uses = λ p q e. b.uses p q (a.uses p q e);
}

pub finds_grown : (t u : Table) → Grows t u → (p n h : Name) → Finds t p n h → Finds u p n h
finds_grown t u grows p n h (inl here) = inl (grows.homes p n h here)
finds_grown t u grows p n h (inr used) = inr (used.0, grows.uses p used.0 used.1, grows.externals used.0 n used.2, grows.homes used.0 n h used.3)

module _ (t : Table) (p n : Name) (e : Present) (there : IsPackage t p) where
  external_new : e.external ≡ true → IsExternal (with_entry t p n e) p n
  external_new shown = ap (option_map (λ (e : Present). e.external)) (entry_new t p n e there) ∙ ap Some shown

  pub grows_with_entry : ((g : Name) → Finds t p n g → g ≡ e.home) → (IsExternal t p n → e.external ≡ true) → Grows t (with_entry t p n e)
  grows_with_entry finds shown = record {
    packages = λ q here. package_with_entry t p n e q ∙ here;
    homes = present_kept t p n e there finds;
    externals = λ q m here.
        elim (place_cases q m p n) [
          | inl (same, alike) ↦
              let was : IsExternal t p n = subst (λ (x : Name). IsExternal t p x) alike (subst (λ (x : Name). IsExternal t x m) same here) in
              subst (λ (x : Name). IsExternal (with_entry t p n e) x m) (sym same) (subst (λ (x : Name). IsExternal (with_entry t p n e) p x) (sym alike) (external_new (shown was)))
          | inr differ ↦ ap (option_map (λ (e : Present). e.external)) (entry_other t p n e q m differ) ∙ here
        ];
    uses = λ q r used. uses_with_entry t p n e q r ∙ used;
  }

  -- where no symbol was present
  pub differs_entry : is_present t p n ≡ false → with_entry t p n e ≢ t
  differs_entry absent = λ (same : with_entry t p n e ≡ t). false≢true (sym absent ∙ ap (λ (u : Table). is_present u p n) (sym same) ∙ ap is_some (entry_new t p n e there))

  -- where no symbol was external
  pub differs_external : e.external ≡ true → is_external t p n ≡ false → with_entry t p n e ≢ t
  differs_external shown hidden = λ (same : with_entry t p n e ≡ t). false≢true (sym hidden ∙ ap (λ (u : Table). is_external u p n) (sym same) ∙ external_shows (with_entry t p n e) p n (external_new shown))

pub grows_with_used : (t : Table) (p q : Name) → IsPackage t p → Grows t (with_used t p q)
grows_with_used t p q there = record {
  packages = λ r here. package_with_used t p q r ∙ here;
  homes = λ r m h here. ap (option_map (λ (e : Present). e.home)) (entry_with_used t p q r m) ∙ here;
  externals = λ r m here. ap (option_map (λ (e : Present). e.external)) (entry_with_used t p q r m) ∙ here;
  uses = uses_still t p q there;
}

pub differs_used : (t : Table) (p q : Name) → IsPackage t p → is_used t p q ≡ false → with_used t p q ≢ t
differs_used t p q there unused = λ (same : with_used t p q ≡ t). false≢true (sym unused ∙ ap (λ (u : Table). is_used u p q) (sym same) ∙ used_shows (with_used t p q) p q (uses_new t p q there))

pub grows_with_new : (t : Table) (p : Name) → finite.get t p ≡ None → Grows t (with_new_package t p)
grows_with_new t p absent = record {
  packages = package_with_new t p absent;
  homes = λ r m h here. ap (option_map (λ (e : Present). e.home)) (entry_with_new t p absent r m) ∙ here;
  externals = λ r m here. ap (option_map (λ (e : Present). e.external)) (entry_with_new t p absent r m) ∙ here;
  uses = uses_beside_new t p absent;
}

pub differs_new : (t : Table) (p : Name) → finite.get t p ≡ None → with_new_package t p ≢ t
differs_new t p absent = λ (same : with_new_package t p ≡ t). false≢true (ap is_some (sym absent) ∙ ap (λ (u : Table). is_some (finite.get u p)) (sym same) ∙ ap is_some (get_inserted t p empty_package))

pub again : {V : Type 0} (m : finite.FinMap name_cmp V) (k : Name) (v : V) → finite.get m k ≡ Some v → finite.insert m k v ≡ m
again {V = V} = insert_same (λ (x : Name). x) (λ (v : V). v) name_cmp name_total name_exact

pub entry_again : (t : Table) (p n : Name) (e : Present) → entry_at t p n ≡ Some e → with_entry t p n e ≡ t
entry_again t p n e =
    elim (finite.get t p) as (λ o. finite.get t p ≡ o → option_and_then (λ (k : Package). finite.get k.symbols n) o ≡ Some e → option_map_or (λ (k : Package). finite.insert t p (record k { symbols = finite.insert k.symbols n e })) o t ≡ t) [
      | None ↦ λ _ no. absurd (none_some e no)
      | Some k ↦ λ there here. (λ i. finite.insert t p (record k { symbols = again k.symbols n e here i })) ∙ again t p k there
    ] refl
