use Rattle.std.proofs.Common.{◌∙◌, sym}
use Rattle.diagnostics.proofs.Fronts.{failed, of_part, of_whole, succeeded}
use Rattle.diagnostics.proofs.fault.write_out.Goals as goal

pub returns-then-is_err : goal.returns-then-is_err
returns-then-is_err g c = record {
  whole = tt;
  part = of_part (g.W.Write.contents c.args.writer.now) (g.W.Write.contents c.write_text.new.writer) c.args.text.now
      (failed c.write_text.result _ (sym c.is_err.ensures.value ∙ c.if-is_err.true) c.write_text.ensures.part);
}

pub returns-in-Err : goal.returns-in-Err
returns-in-Err g c = record {
  whole = tt;
  part = of_whole (g.W.Write.contents c.args.writer.now) (g.W.Write.contents c.write_text.new.writer) (g.W.Write.contents c.flush.new.self) c.args.text.now
      (succeeded c.write_text.result _ (sym c.is_err.ensures.value ∙ c.if-is_err.false) c.write_text.ensures.whole) c.flush.ensures.bytes;
}
