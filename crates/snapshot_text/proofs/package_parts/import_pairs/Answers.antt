use Rattle.std.proofs.Common.{ℕ, List, subst, rules}
use Rattle.std.specs.Prelude.{All}
use Rattle.std.specs.Borrow.{Bor}
use Rattle.std.proofs.lemmas.List.{take_all}
use Rattle.snapshot_lines.specs.QuotedTexts.{unescaped_pair}
use Rattle.snapshot_text.specs.Phases.{HasImport}
use Rattle.snapshot_text.proofs.Begins.{begun_grown, one_more}
use Rattle.snapshot_text.proofs.Gave.{refused_same}
use Rattle.snapshot_text.proofs.package_parts.import_pairs.Goals as goal

pub returns-in_err-import_one-clause-made : goal.returns-in_err-import_one-clause-made
returns-in_err-import_one-clause-made c = λ s p begun own lisp all.
    let before = c.loop-import.invariant.made s p begun own lisp all in
    refused_same _ c.in_err-import_one.field-0.0
    (c.in_err-import_one.ensures.made s p (begun_grown _ _ s begun c.loop-import.invariant.grows before.0) own lisp (all c.loop-import.import-index _ c.loop-import-test.true))
    c.from_residual.result c.from_residual.ensures.1

pub loop-import-preserved : goal.loop-import-preserved
loop-import-preserved c = record {
  made = λ s p begun own lisp all.
      let before = c.loop-import.invariant.made s p begun own lisp all in
      let done = c.in_ok-import_one.ensures.made s p (begun_grown _ _ s begun c.loop-import.invariant.grows before.0) own lisp (all c.loop-import.import-index _ c.loop-import-test.true) in (
        done.0,
        one_more (λ (b : Bor (List ℕ) × Bor (List ℕ)). HasImport c.loop-import.world.0.packages p (unescaped_pair b)) (λ (b : Bor (List ℕ) × Bor (List ℕ)). HasImport c.import_one.new.world.0.packages p (unescaped_pair b)) c.args.imports.now c.loop-import.import-index _ c.loop-import-test.true
            (λ b. c.in_ok-import_one.ensures.grows.homes p (unescaped_pair b).0 (unescaped_pair b).1) before.1 done.1,
      );
  grows = search rules;
  rest = search rules;
}

pub returns-clause-made : goal.returns-clause-made
returns-clause-made c = λ s p begun own lisp all.
    let after = c.loop-import.invariant.made s p begun own lisp all in
    (after.0, subst (λ (xs : List (Bor (List ℕ) × Bor (List ℕ))). All (λ (b : Bor (List ℕ) × Bor (List ℕ)). HasImport c.loop-import.world.0.packages p (unescaped_pair b)) xs) (take_all c.loop-import.import-index c.args.imports.now c.loop-import-test.false) after.1)
