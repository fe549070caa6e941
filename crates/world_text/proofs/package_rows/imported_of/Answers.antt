use Rattle.std.proofs.Common.{◌≡◌, true, IfOk, sym, subst, ◌∙◌}
use Rattle.package_table.specs.Readers.{imports}
use Rattle.world_text.proofs.Ascii.{are_ascii_imports, imports_ascii}
use Rattle.world_text.proofs.package_rows.imported_of.Goals as goal

pub returns-clause-proper : goal.returns-clause-proper
returns-clause-proper c =
    let are : c.in_ok-rows.rows ≡ imports c.args.packages.now.0 c.args.owner.now =
    subst (λ r. IfOk r (λ rows. rows ≡ imports c.args.packages.now.0 c.args.owner.now)) c.in_ok-rows.ensures c.imports.ensures.list in
    c.imports_of.ensures.proper
    (subst (λ rows. are_ascii_imports rows ≡ true) (sym (c.as_slice.ensures ∙ are)) (imports_ascii c.args.packages.now.0 c.soundness.ensures c.args.owner.now))
