use Rattle.std.proofs.Common.{ℕ, List, subst, rules}
use Rattle.std.specs.Prelude.{All}
use Rattle.std.specs.Borrow.{Bor}
use Rattle.std.proofs.lemmas.List.{take_all}
use Rattle.package_table.specs.Table.{Uses}
use Rattle.snapshot_lines.specs.QuotedTexts.{unescaped}
use Rattle.snapshot_text.proofs.Begins.{begun_grown, one_more}
use Rattle.snapshot_text.proofs.Gave.{refused_same}
use Rattle.snapshot_text.proofs.package_parts.use_names.Goals as goal

pub returns-in_err-use_one-clause-made : goal.returns-in_err-use_one-clause-made
returns-in_err-use_one-clause-made c = λ s p begun own lisp all.
    let before = c.loop-name.invariant.made s p begun own lisp all in
    refused_same _ c.in_err-use_one.field-0.0
    (c.in_err-use_one.ensures.made s p (begun_grown _ _ s begun c.loop-name.invariant.grows before.0) own lisp (all c.loop-name.name-index _ c.loop-name-test.true))
    c.from_residual.result c.from_residual.ensures.1

pub loop-name-preserved : goal.loop-name-preserved
loop-name-preserved c = record {
  made = λ s p begun own lisp all.
      let before = c.loop-name.invariant.made s p begun own lisp all in
      let done = c.in_ok-use_one.ensures.made s p (begun_grown _ _ s begun c.loop-name.invariant.grows before.0) own lisp (all c.loop-name.name-index _ c.loop-name-test.true) in (
        done.0,
        one_more (λ (b : Bor (List ℕ)). Uses c.loop-name.world.0.packages p (unescaped b.now)) (λ (b : Bor (List ℕ)). Uses c.use_one.new.world.0.packages p (unescaped b.now)) c.args.names.now c.loop-name.name-index _ c.loop-name-test.true
            (λ b. c.in_ok-use_one.ensures.grows.uses p (unescaped b.now)) before.1 done.1,
      );
  grows = search rules;
  rest = search rules;
}

pub returns-clause-made : goal.returns-clause-made
returns-clause-made c = λ s p begun own lisp all.
    let after = c.loop-name.invariant.made s p begun own lisp all in
    (after.0, subst (λ (xs : List (Bor (List ℕ))). All (λ (b : Bor (List ℕ)). Uses c.loop-name.world.0.packages p (unescaped b.now)) xs) (take_all c.loop-name.name-index c.args.names.now c.loop-name-test.false) after.1)
