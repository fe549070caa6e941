use Rattle.std.proofs.Common.{◌≡◌, ℕ, List, inl, inr, sym, subst, ◌∙◌}
use Rattle.std.specs.Prelude.{All}
use Rattle.std.specs.Borrow.{Bor}
use Rattle.std.proofs.lemmas.Result.{MatchResult-weaker}
use Rattle.std.proofs.lemmas.List.Elements.{All-map}
use Rattle.package_table.specs.Table.{Name, Table, IsPresent}
use Rattle.package_table.specs.Growth.{Grows}
use Rattle.package_table.specs.Readers.{imports}
use Rattle.package_table.proofs.Frames.{name_cases}
use Rattle.snapshot_lines.specs.QuotedTexts.{unescaped_pair}
use Rattle.snapshot_text.specs.Phases.{IsImport, HasImport, HasSymbols, HasItsPackages}
use Rattle.snapshot_text.proofs.PackageLists.{imports_are, import_among}
use Rattle.snapshot_text.proofs.PartFinds.{present_package}
use Rattle.snapshot_text.proofs.ReadRows.{of_mapped}
use Rattle.snapshot_text.proofs.package_parts.import_each.Goals as goal

-- all symbols are there, where the own ones were and all imports are
all_there : (t u s : Table) (p : Name) → HasItsPackages t s → Grows t u → All (HasImport u p) (imports s p) → HasSymbols u s p
all_there t u s p begun grows all = record {
  names = λ n h got.
      elim (name_cases h p) [
        | inl same ↦
            let own = begun.own p (present_package s p n h got) in
            subst (λ (x : Name). IsPresent u p n x) (sym same) (grows.homes p n p (own.names n (subst (λ (x : Name). IsPresent s p n x) same got)))
        | inr differ ↦ import_among s p (λ r. IsPresent u p r.0 r.1) all n h got differ
      ];
}

pub returns-clause-made : goal.returns-clause-made
returns-clause-made c = λ s p begun row lisp.
    let t : Table = c.args.world.now.0.packages in
    let u : Table = c.import_pairs.new.world.0.packages in
    let xs : List (Bor (List ℕ) × Bor (List ℕ)) = c.args.row.now.imported.items in
    let owner : c.as_slice.result.now ≡ p = c.as_slice.ensures ∙ c.in_ok-owner.ensures ∙ row.name in
    let here : c.as_slice-2.result.now ≡ xs = c.as_slice-2.ensures.value in
    let are : All (λ b. IsImport s p (unescaped_pair b)) xs =
    of_mapped (IsImport s p) unescaped_pair xs (subst (λ (rs : List (Name × Name)). All (IsImport s p) rs) (sym row.imported) (imports_are s p)) in
    MatchResult-weaker c.import_pairs.result
    (c.import_pairs.ensures.made s p begun owner lisp (subst (λ (ys : List (Bor (List ℕ) × Bor (List ℕ))). All (λ b. IsImport s p (unescaped_pair b)) ys) (sym here) are))
    (λ _ is. (
      is.0,
      all_there t u s p begun c.import_pairs.ensures.grows
          (subst (λ (rs : List (Name × Name)). All (HasImport u p) rs) row.imported
          (All-map (HasImport u p) unescaped_pair xs (subst (λ (ys : List (Bor (List ℕ) × Bor (List ℕ))). All (λ b. HasImport u p (unescaped_pair b)) ys) here is.1))),
    ))
    (λ _ is. is)
