-- Each change keeps packages a part of others, where the others are so changed already.
--     part_with_new, part_with_entry, part_with_used      after each change
use Rattle.std.proofs.Common.{◌≡◌, None, Some, is_some, sym, ap, subst, ◌∙◌, inl, inr}
use Rattle.std.specs.FinMap as finite
use Rattle.package_table.specs.Table.{Name, Present, Table, entry_at, IsPackage, Uses, with_entry, with_used, with_new_package, empty_package}
use Rattle.package_table.proofs.Names.{same_some}
use Rattle.package_table.proofs.Frames.{name_cases, place_cases, get_kept, entry_new, entry_other, uses_with_entry, package_with_entry, entry_with_used, uses_either, package_with_used, entry_with_new, uses_with_new}
use Rattle.snapshot_text.specs.Part.{IsAsFar, IsPartOf}

module _ (t s : Table) (part : IsPartOf t s) where
  pub part_with_new : (p : Name) → finite.get t p ≡ None → IsPackage s p → IsPartOf (with_new_package t p) s
  part_with_new p absent there = record {
    packages = λ q here.
        elim (name_cases q p) [
          | inl same ↦ subst (λ (x : Name). IsPackage s x) (sym same) there
          | inr differ ↦ part.packages q (sym (ap is_some (get_kept t p empty_package q differ)) ∙ here)
        ];
    symbols = λ q n e here. part.symbols q n e (sym (entry_with_new t p absent q n) ∙ here);
    uses = λ q r used. part.uses q r (uses_with_new t p absent q r used);
  }

  pub part_with_entry : (p n : Name) (e f : Present) → IsPackage t p → entry_at s p n ≡ Some f → IsAsFar e f → IsPartOf (with_entry t p n e) s
  part_with_entry p n e f there is far = record {
    packages = λ q here. part.packages q (sym (package_with_entry t p n e q) ∙ here);
    symbols = λ q m g here.
        elim (place_cases q m p n) [
          | inl (same, alike) ↦
              let now : entry_at (with_entry t p n e) p n ≡ Some g =
              subst (λ (x : Name). entry_at (with_entry t p n e) p x ≡ Some g) alike (subst (λ (x : Name). entry_at (with_entry t p n e) x m ≡ Some g) same here) in
              let e_is : e ≡ g = same_some e g (sym (entry_new t p n e there) ∙ now) in
              (f, (λ i. entry_at s (same i) (alike i)) ∙ is, subst (λ (x : Present). IsAsFar x f) e_is far)
          | inr differ ↦ part.symbols q m g (sym (entry_other t p n e q m differ) ∙ here)
        ];
    uses = λ q r used. part.uses q r (sym (uses_with_entry t p n e q r) ∙ used);
  }

  pub part_with_used : (p q : Name) → Uses s p q → IsPartOf (with_used t p q) s
  part_with_used p q used = record {
    packages = λ r here. part.packages r (sym (package_with_used t p q r) ∙ here);
    symbols = λ r m e here. part.symbols r m e (sym (entry_with_used t p q r m) ∙ here);
    uses = λ a b here.
        elim (uses_either t p q a b here) [
          | inl old ↦ part.uses a b old
          | inr (same, alike) ↦ subst (λ (x : Name). Uses s x b) (sym same) (subst (λ (x : Name). Uses s p x) (sym alike) used)
        ];
  }
