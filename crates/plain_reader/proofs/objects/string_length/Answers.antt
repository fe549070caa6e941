use Rattle.std.proofs.Common.{sym, ◌∙◌}
use Rattle.plain_reader.proofs.Strings.{letters_more, inside_more, text_here}
use Rattle.plain_reader.proofs.objects.string_length.Goals as goal

pub returns-then-c-eq34 : goal.returns-then-c-eq34
returns-then-c-eq34 c =
    text_here c.args.readtable.now c.args.text.now c.loop-i.i c.loop-i-test.true c.loop-i.invariant.letters c.loop-i.invariant.inside c.if-c-eq34.true

pub loop-i-preserved : goal.loop-i-preserved
loop-i-preserved c = record {
  letters = letters_more c.args.readtable.now c.args.text.now c.loop-i.i c.loop-i-test.true c.loop-i.invariant.letters (sym c.is_letter.ensures ∙ c.if-not-is_letter.false);
  inside = inside_more c.args.readtable.now c.args.text.now c.loop-i.i c.loop-i-test.true c.loop-i.invariant.inside c.if-c-eq34.false;
}
