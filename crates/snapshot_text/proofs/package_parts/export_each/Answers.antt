use Rattle.std.proofs.Common.{◌≡◌, ◌≢◌, ℕ, List, length, sym, ap, subst, ◌∙◌, inl, inr, arith}
use Rattle.std.specs.Prelude.{All}
use Rattle.std.specs.Borrow.{Bor}
use Rattle.std.proofs.lemmas.List.Elements.{All-map}
use Rattle.package_table.specs.Table.{Name, Table, keyword, IsExternal, IsPresent, AreSoundPackages}
use Rattle.package_table.proofs.Frames.{name_cases}
use Rattle.world_text.specs.Snapshot.{shown_names}
use Rattle.snapshot_lines.specs.QuotedTexts.{unescaped}
use Rattle.snapshot_text.specs.Phases.{HasSymbols, HasExternals}
use Rattle.snapshot_text.proofs.Begins.{symbols_grown}
use Rattle.snapshot_text.proofs.Gave.{refused_same}
use Rattle.snapshot_text.proofs.PackageLists.{externals_are, external_among, shown_are, shown_none}
use Rattle.snapshot_text.proofs.PartFinds.{external_entry}
use Rattle.snapshot_text.proofs.PartSteps.{entry_present}
use Rattle.snapshot_text.proofs.ReadRows.{of_mapped}
use Rattle.snapshot_text.proofs.package_parts.export_each.Goals as goal

-- where a name is shown, the package is not KEYWORD
each_shown : (s : Table) (p : Name) → All (λ n. (p ≢ keyword) × IsExternal s p n) (shown_names s p)
each_shown s p = λ i d within.
    let key : p ≢ keyword = λ same. let none = ap length (shown_none s p same) in omega arith in
    let each : All (IsExternal s p) (shown_names s p) = subst (λ (ns : List Name). All (IsExternal s p) ns) (sym (shown_are s p key)) (externals_are s p) in
    (key, each i d within)

-- all of KEYWORD is external
all_shown : (u s : Table) (p : Name) → AreSoundPackages u → HasSymbols u s p → All (λ n. IsExternal u p n) (shown_names s p) → HasExternals u s p
all_shown u s p sound has all = record {
  names = λ n shown.
      elim (name_cases p keyword) [
        | inl same ↦
            let e = external_entry s p n shown in
            let here = has.names n e.0.home (entry_present s p n e.0 e.1) in
            subst (λ (x : Name). IsExternal u x n) (sym same) (sound.first.shown n e.0.home (subst (λ (x : Name). IsPresent u x n e.0.home) same here))
        | inr differ ↦ external_among s p (λ n. IsExternal u p n) (subst (λ (ns : List Name). All (λ n. IsExternal u p n) ns) (shown_are s p differ) all) n shown
      ];
}

pub returns-in_err-export_names-clause-made : goal.returns-in_err-export_names-clause-made
returns-in_err-export_names-clause-made c = λ s p begun has row lisp.
    let xs : List (Bor (List ℕ)) = c.args.row.now.shown.items in
    let owner : c.as_slice.result.now ≡ p = c.as_slice.ensures ∙ c.in_ok-owner.ensures ∙ row.name in
    let here : c.as_slice-2.result.now ≡ xs = c.as_slice-2.ensures.value in
    let are : All (λ b. (p ≢ keyword) × IsExternal s p (unescaped b.now)) xs =
    of_mapped (λ n. (p ≢ keyword) × IsExternal s p n) (λ (b : Bor (List ℕ)). unescaped b.now) xs
    (subst (λ (ns : List Name). All (λ n. (p ≢ keyword) × IsExternal s p n) ns) (sym row.shown) (each_shown s p)) in
    refused_same _ c.in_err-export_names.field-0.0
    (c.in_err-export_names.ensures.made s p begun has owner lisp (subst (λ (ys : List (Bor (List ℕ))). All (λ b. (p ≢ keyword) × IsExternal s p (unescaped b.now)) ys) (sym here) are))
    c.from_residual-in_err-export_names.result c.from_residual-in_err-export_names.ensures.1

pub returns-clause-made : goal.returns-clause-made
returns-clause-made c = λ s p begun has row lisp.
    let u : Table = c.export_names.new.world.0.packages in
    let xs : List (Bor (List ℕ)) = c.args.row.now.shown.items in
    let owner : c.as_slice.result.now ≡ p = c.as_slice.ensures ∙ c.in_ok-owner.ensures ∙ row.name in
    let here : c.as_slice-2.result.now ≡ xs = c.as_slice-2.ensures.value in
    let are : All (λ b. (p ≢ keyword) × IsExternal s p (unescaped b.now)) xs =
    of_mapped (λ n. (p ≢ keyword) × IsExternal s p n) (λ (b : Bor (List ℕ)). unescaped b.now) xs
    (subst (λ (ns : List Name). All (λ n. (p ≢ keyword) × IsExternal s p n) ns) (sym row.shown) (each_shown s p)) in
    let is = c.in_ok-export_names.ensures.made s p begun has owner lisp (subst (λ (ys : List (Bor (List ℕ))). All (λ b. (p ≢ keyword) × IsExternal s p (unescaped b.now)) ys) (sym here) are) in (
      is.0,
      all_shown u s p c.soundness.ensures.present.packages (symbols_grown _ _ s p has c.in_ok-export_names.ensures.grows)
          (subst (λ (ns : List Name). All (λ n. IsExternal u p n) ns) row.shown
          (All-map (λ n. IsExternal u p n) (λ (b : Bor (List ℕ)). unescaped b.now) xs (subst (λ (ys : List (Bor (List ℕ))). All (λ b. IsExternal u p (unescaped b.now)) ys) here is.1))),
    )
