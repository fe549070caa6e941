use Rattle.std.proofs.Common.{◌∙◌, ◌++◌, List, ℕ, inl, inr, length, refl, sym, ap, subst}
use Rattle.batch_bytes.specs.Batch.{batch_bytes}
use Rattle.batch_bytes.specs.Reading.{IsUnfinishedBatch}
use Rattle.law_tests.proofs.batches.is_damaged.Goals as goal

pub returns-in-Neither-clause-crashed : goal.returns-in-Neither-clause-crashed
returns-in-Neither-clause-crashed c = λ entries left behind some fit plain blank unmarked long each is.
    let mark = c.args.mark in
    elim (c.cut_short.ensures mark entries left behind fit plain blank unmarked long each) [
      | inl whole ↦ absurd (c.in-Neither.ensures.1 (length (batch_bytes mark entries)) entries
          (record { some = some; fit = fit; plain = plain; behind = behind; parts = is ∙ ap (λ (l : List ℕ). l ++ behind) whole; size_is = refl }))
      | inr unfinished ↦ absurd (c.in-Neither.ensures.0 (subst (λ (l : List ℕ). IsUnfinishedBatch mark l) (sym is) unfinished))
    ]

pub returns-in-Neither-clause-zeroed : goal.returns-in-Neither-clause-zeroed
returns-in-Neither-clause-zeroed c = λ was long each unfinished.
    absurd (c.in-Neither.ensures.0 (c.zeroed_still.ensures.zeroed c.args.mark was c.args.bytes.now long each unfinished))

pub returns-in-Neither-clause-blank : goal.returns-in-Neither-clause-blank
returns-in-Neither-clause-blank c = λ blank unmarked. absurd (c.in-Neither.ensures.0 (c.zeroed_still.ensures.blank c.args.mark c.args.bytes.now blank unmarked))
