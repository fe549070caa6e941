use Rattle.std.proofs.Common.{◌≡◌, ℕ, List, sym, subst, ◌∙◌}
use Rattle.std.specs.Prelude.{All}
use Rattle.std.specs.Borrow.{Bor}
use Rattle.std.proofs.lemmas.Result.{MatchResult-weaker}
use Rattle.std.proofs.lemmas.List.Elements.{All-map}
use Rattle.package_table.specs.Table.{Name, Table, Uses}
use Rattle.snapshot_lines.specs.QuotedTexts.{unescaped}
use Rattle.snapshot_text.proofs.PackageLists.{uses_are, use_among}
use Rattle.snapshot_text.proofs.ReadRows.{of_mapped}
use Rattle.snapshot_text.proofs.package_parts.use_each.Goals as goal

pub returns-clause-made : goal.returns-clause-made
returns-clause-made c = λ s p begun row lisp.
    let u : Table = c.use_names.new.world.0.packages in
    let xs : List (Bor (List ℕ)) = c.args.row.now.used.items in
    let owner : c.as_slice.result.now ≡ p = c.as_slice.ensures ∙ c.in_ok-owner.ensures ∙ row.name in
    let here : c.as_slice-2.result.now ≡ xs = c.as_slice-2.ensures.value in
    let are : All (λ b. Uses s p (unescaped b.now)) xs =
    of_mapped (Uses s p) (λ (b : Bor (List ℕ)). unescaped b.now) xs (subst (λ (ns : List Name). All (Uses s p) ns) (sym row.used) (uses_are s p)) in
    MatchResult-weaker c.use_names.result
    (c.use_names.ensures.made s p begun owner lisp (subst (λ (ys : List (Bor (List ℕ))). All (λ b. Uses s p (unescaped b.now)) ys) (sym here) are))
    (λ _ is. (
      is.0,
      record {
        names = use_among s p (λ q. Uses u p q)
            (subst (λ (ns : List Name). All (λ q. Uses u p q) ns) row.used
            (All-map (λ q. Uses u p q) (λ (b : Bor (List ℕ)). unescaped b.now) xs (subst (λ (ys : List (Bor (List ℕ))). All (λ b. Uses u p (unescaped b.now)) ys) here is.1)));
      },
    ))
    (λ _ is. is)
