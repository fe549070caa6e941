use Rattle.std.proofs.Common.{◌≡◌, true, sym, subst, ◌∙◌}
use Rattle.std.specs.List.{list_all}
use Rattle.std.proofs.lemmas.Result.{MatchResult-weaker}
use Rattle.lisp_object.specs.Ascii.{is_ascii}
use Rattle.package_table.specs.Table.{Name, Table, IsExternal, AreSoundPackages}
use Rattle.world_text.proofs.Ascii.{ascii_all}
use Rattle.snapshot_lines.specs.QuotedTexts.{unescaped}
use Rattle.snapshot_text.proofs.Gave.{refused_same}
use Rattle.snapshot_text.proofs.PartFinds.{external_entry}
use Rattle.snapshot_text.proofs.PartSteps.{entry_present}
use Rattle.snapshot_text.proofs.package_parts.export_one.Goals as goal

external_ascii : (s : Table) (p n : Name) → AreSoundPackages s → IsExternal s p n → list_all is_ascii n ≡ true
external_ascii s p n sound shown =
    let e = external_entry s p n shown in
    ascii_all n (sound.within.symbol_names p n e.0.home (entry_present s p n e.0 e.1)).ascii

pub returns-in_err-name-clause-made : goal.returns-in_err-name-clause-made
returns-in_err-name-clause-made c = λ s p begun has own lisp key shown.
    refused_same _ c.in_err-name.field-0.0 (c.in_err-name.ensures.read (external_ascii s p (unescaped c.args.name.now) begun.sound shown)) c.from_residual.result c.from_residual.ensures.1

pub returns-clause-made : goal.returns-clause-made
returns-clause-made c = λ s p begun has own lisp key shown.
    let n : c.as_slice.result.now ≡ unescaped c.args.name.now = c.as_slice.ensures ∙ c.in_ok-name.ensures.same in
    MatchResult-weaker c.export_symbol.result (c.export_symbol.ensures.made s p begun has own lisp key (subst (λ (x : Name). IsExternal s p x) (sym n) shown))
    (λ _ is. (is.0, subst (λ (x : Name). IsExternal c.export_symbol.new.world.0.packages p x) n is.1))
    (λ _ is. is)
