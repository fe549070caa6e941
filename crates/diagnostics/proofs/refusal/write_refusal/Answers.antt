use Rattle.std.proofs.Common.{◌∙◌, ap, sym, subst}
use Rattle.diagnostics.specs.Refusals.{byte_line, form_of, line_with, place_line}
use Rattle.diagnostics.specs.StreamTexts.{WritesText}
use Rattle.diagnostics.proofs.refusal.write_refusal.Goals as goal

pub returns-in-Some : goal.returns-in-Some
returns-in-Some g c =
    let refusal = c.args.refusal.now in
    subst (λ l. WritesText c.write_lines.result (g.W.Write.contents c.args.faults.now) (g.W.Write.contents c.write_lines.new.faults) l)
    (ap (λ n. place_line refusal.number n c.in-Some.spots) c.form.ensures ∙ sym (ap (line_with refusal.number (form_of refusal) refusal.place) c.in-Some.is)) c.write_lines.ensures

pub returns-in-None : goal.returns-in-None
returns-in-None g c =
    let refusal = c.args.refusal.now in
    subst (λ l. WritesText c.write_bytes.result (g.W.Write.contents c.args.faults.now) (g.W.Write.contents c.write_bytes.new.faults) l)
    (ap (λ n. byte_line refusal.number n refusal.place) c.form-in-None.ensures ∙ sym (ap (line_with refusal.number (form_of refusal) refusal.place) c.in-None.is)) c.write_bytes.ensures
