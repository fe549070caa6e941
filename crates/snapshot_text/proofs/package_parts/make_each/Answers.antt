use Rattle.std.proofs.Common.{◌≡◌, ℕ, List, map, sym, ap, subst, ◌∙◌}
use Rattle.std.specs.Borrow.{Bor}
use Rattle.std.proofs.lemmas.Result.{MatchResult-weaker}
use Rattle.package_table.specs.Table.{Name, Table, IsPackage}
use Rattle.world_text.specs.Snapshot.{made_names}
use Rattle.snapshot_lines.specs.QuotedTexts.{unescaped}
use Rattle.snapshot_text.specs.Phases.{HasOwn}
use Rattle.snapshot_text.proofs.package_parts.make_each.Goals as goal

pub returns-clause-made : goal.returns-clause-made
returns-clause-made c = λ s p sound there lisp part row.
    let u : Table = c.make_own.new.world.0.packages in
    let name : Name = unescaped c.args.row.now.name.now in
    let own : map (λ (b : Bor (List ℕ)). unescaped b.now) c.as_slice.result.now ≡ made_names s name =
    ap (λ (xs : List (Bor (List ℕ))). map (λ (b : Bor (List ℕ)). unescaped b.now) xs) c.as_slice.ensures.value ∙ row.own ∙ ap (λ (x : Name). made_names s x) (sym row.name) in
    MatchResult-weaker c.make_own.result
    (c.make_own.ensures.own s sound (subst (λ (x : Name). IsPackage s x) (sym row.name) there) (λ same. lisp (sym row.name ∙ same)) part own)
    (λ _ is. (is.0, subst (λ (x : Name). HasOwn u s x) row.name is.1))
    (λ _ is. is)
