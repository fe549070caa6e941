use Rattle.std.proofs.Common.{◌≡◌, ℕ, All, List, map, sym, subst, ◌∙◌}
use Rattle.std.specs.Borrow.{Bor}
use Rattle.std.proofs.lemmas.List.Elements.{All-map}
use Rattle.std.proofs.lemmas.Result.{MatchResult-weaker}
use Rattle.package_table.specs.Table.{Name, Table, IsPackage, IsPresent, HasFirst}
use Rattle.package_table.proofs.Growing.{grows_both}
use Rattle.world_text.proofs.Ascii.{package_ascii}
use Rattle.snapshot_lines.specs.QuotedTexts.{unescaped}
use Rattle.snapshot_text.proofs.Gave.{refused_same}
use Rattle.snapshot_text.proofs.OwnNames.{made_are, own_all}
use Rattle.snapshot_text.proofs.ReadRows.{of_mapped}
use Rattle.snapshot_text.proofs.own_parts.make_own.Goals as goal

pub returns-in_err-owner-clause-own : goal.returns-in_err-owner-clause-own
returns-in_err-owner-clause-own c = λ s sound there lisp part names.
    refused_same _ c.in_err-owner.field-0.0 (c.in_err-owner.ensures.read (package_ascii s sound (unescaped c.args.name.now) there)) c.from_residual.result c.from_residual.ensures.1

pub returns-in_err-make_owner-clause-own : goal.returns-in_err-make_owner-clause-own
returns-in_err-make_owner-clause-own c = λ s sound there lisp part names.
    let read : c.as_slice.result.now ≡ unescaped c.args.name.now = c.as_slice.ensures ∙ c.in_ok-owner.ensures.same in
    refused_same _ c.in_err-make_owner.field-0.0 (c.in_err-make_owner.ensures.there s sound (subst (λ (x : Name). IsPackage s x) (sym read) there) part)
    c.from_residual-in_err-make_owner.result c.from_residual-in_err-make_owner.ensures.1

pub returns-clause-own : goal.returns-clause-own
returns-clause-own c = λ s sound there lisp part names.
    let owner : Name = c.as_slice.result.now in
    let t : Table = c.args.world.now.0.packages in
    let v : Table = c.make_owner.new.world.0.packages in
    let u : Table = c.intern_each.new.world.0.packages in
    let read : owner ≡ unescaped c.args.name.now = c.as_slice.ensures ∙ c.in_ok-owner.ensures.same in
    let second : c.as_slice-2.result.now ≡ unescaped c.args.name.now = c.as_slice-2.ensures ∙ c.in_ok-owner.ensures.same in
    let p = unescaped c.args.name.now in
    let made = c.in_ok-make_owner.ensures.there s sound (subst (λ (x : Name). IsPackage s x) (sym read) there) part in
    let here : IsPackage v p = subst (λ (x : Name). IsPackage v x) read made.1 in
    let listed : All (λ n. IsPresent s p n p) (map (λ (b : Bor (List ℕ)). unescaped b.now) c.args.own.now) = subst (λ (ns : List Name). All (λ n. IsPresent s p n p) ns) (sym names) (made_are s p) in
    let written : All (λ (b : Bor (List ℕ)). IsPresent s p (unescaped b.now) p) c.args.own.now = of_mapped (λ n. IsPresent s p n p) (λ (b : Bor (List ℕ)). unescaped b.now) c.args.own.now listed in
    MatchResult-weaker c.intern_each.result
    (c.intern_each.ensures.there s sound made.0 (subst (λ (x : Name). IsPackage v x) (sym second) here) (λ same. lisp (sym second ∙ same))
    (subst (λ (x : Name). All (λ (b : Bor (List ℕ)). IsPresent s x (unescaped b.now) x) c.args.own.now) (sym second) written))
    (λ _ is. (
      is.0,
      own_all t u s (subst HasFirst c.packages.ensures c.soundness.ensures.first) (grows_both t v u c.make_owner.ensures.grows c.intern_each.ensures.grows) is.0 p
          (subst (λ (ns : List Name). All (λ n. IsPresent u p n p) ns) names
          (All-map (λ n. IsPresent u p n p) (λ (b : Bor (List ℕ)). unescaped b.now) c.args.own.now
          (subst (λ (x : Name). All (λ (b : Bor (List ℕ)). IsPresent u x (unescaped b.now) x) c.args.own.now) second is.1)))
          (c.intern_each.ensures.grows.packages p here),
    ))
    (λ _ is. is)
