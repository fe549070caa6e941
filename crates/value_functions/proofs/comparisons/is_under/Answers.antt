use Rattle.std.proofs.Common.{◌≡◌, ◌%◌, arith, sym, ◌∙◌}
use Rattle.value_functions.proofs.Fractions.{under_same, under_apart, left_first, left_second}
use Rattle.value_functions.proofs.comparisons.is_under.Goals.{then-loop-a-test+then-a-b-ne0+else-c-d-ne0, then-loop-a-test+else-a-b-ne0, else-loop-a-test}
use Rattle.value_functions.proofs.comparisons.is_under.Goals as goal

pub loop-a-preserved : goal.loop-a-preserved
loop-a-preserved c =
    let l = c.loop-a in
    record {
      same = sym (under_same l.a l.b l.c l.d c.loop-a-test.true) ∙ l.invariant.same;
      first = omega (arith, c.if-c-d-ne0.true);
      second = omega (arith, c.if-a-b-ne0.true);
    }

pub returns-then-a-b : goal.returns-then-a-b
returns-then-a-b c =
    let l = c.loop-a in under_apart l.a l.b l.c l.d l.invariant.first l.invariant.second c.if-a-b.true ∙ l.invariant.same

pub returns-then-a-b-eq0 : goal.returns-then-a-b-eq0
returns-then-a-b-eq0 c =
    let l = c.loop-a in left_first l.a l.b l.c l.d l.invariant.first c.if-a-b.false c.if-a-b-eq0.true ∙ l.invariant.same

pub returns-else-a-b-eq0 : goal.returns-else-a-b-eq0
returns-else-a-b-eq0 c =
    let l = c.loop-a in
    let whole : l.c % l.d ≡ 0 =
    elim c.loop-a-test.branch [
      | then-loop-a-test+then-a-b-ne0+else-c-d-ne0 w ↦ w.if-c-d-ne0.false
      | then-loop-a-test+else-a-b-ne0 w ↦ absurd (c.if-a-b-eq0.false w.if-a-b-ne0.false)
      | else-loop-a-test w ↦ absurd (w.loop-a-test.false c.if-a-b.false)
    ] in
    left_second l.a l.b l.c l.d c.if-a-b.false c.if-a-b-eq0.false whole ∙ l.invariant.same
