use Rattle.std.proofs.Common.{◌≡◌, ◌∙◌, ◌++◌, ap, subst}
use Rattle.std.proofs.lemmas.Fmt.{contents_after_writes}
use Rattle.store_commands.specs.Report.{version_line}
use Rattle.diagnostics.specs.StreamTexts.{WritesOut}
use Rattle.store_commands.proofs.upgrade.write_version_line.Given as given
use Rattle.store_commands.proofs.upgrade.write_version_line.Goals as goal

-- the line in memory is that of the version
line_is : (g : given.Over) (c : goal.After-write_out g) → c.as_bytes.result.now ≡ version_line c.args.version
line_is g c =
    c.as_bytes.ensures.value
    ∙ c.deref.ensures.0
    ∙ contents_after_writes _ (λ s. s.bytes) (λ _ _ _ t. t) _ _ _ c.in-Ok.ensures.writes
    ∙ ap (λ l. l ++ version_line c.args.version) c.new-line.ensures

pub returns : goal.returns
returns g c =
    subst (λ l. WritesOut c.write_out.result (g.W.Write.contents c.args.output.now) (g.W.Write.contents c.write_out.new.writer) l) (line_is g c) c.write_out.ensures
