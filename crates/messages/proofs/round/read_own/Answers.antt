use Rattle.std.proofs.Common.{length, refl, sym, subst, ◌∙◌, inr}
use Rattle.std.proofs.lemmas.Bool.{eq-eqb, eqb-true, false≢true}
use Rattle.session_words.specs.declared.mode.Mode.TheVariants as mode
use Rattle.prevalence_store.specs.steps.Setting.{IsTextReadWhole}
use Rattle.messages.proofs.Owned.{own_read, read_parts}
use Rattle.messages.proofs.round.read_own.Goals as goal
use Rattle.messages.proofs.round.read_own.Goals.{then-start-eq0, else-start-eq0}
use Rattle.messages.proofs.round.read_own.Goals.{else-is_whole-via-then-is_whole+then-is_read_as+else-are_symbols_there, else-is_whole-via-then-is_whole+else-is_read_as, else-is_whole-via-else-is_whole}

pub returns-then-are_symbols_there-clause-form : goal.returns-then-are_symbols_there-clause-form
returns-then-are_symbols_there-clause-form g c =
    let f = c.in-Ok-Form in
    let text = c.args.text.now in
    let whole = subst (IsTextReadWhole g.R.Meaning.Meaning.functions c.args.world.now.0 mode.Rescue text) f.field-0-is f.ensures in
    elim c.if-start-eq0.branch [
      | then-start-eq0 s ↦
          own_read g.R.Meaning.Meaning.functions c.args.world.now.0 c.args.own text f.form f.start f.end c.requires.text whole s.if-start-eq0.true
          (eqb-true f.end (length text) (sym s.is_whole-is ∙ c.if-is_whole.true)) (c.is_read_as.ensures.0 c.if-is_read_as.true) (sym c.are_symbols_there.ensures ∙ c.if-are_symbols_there.true)
      | else-start-eq0 s ↦ absurd (s.if-start-eq0.false (eqb-true f.start 0 (sym s.is_whole-is ∙ c.if-is_whole.true)))
    ]

pub returns-else-is_whole-clause-refused : goal.returns-else-is_whole-clause-refused
returns-else-is_whole-clause-refused g c =
    inr (
      refl,
      λ own.
          let f = c.in-Ok-Form in
          let text = c.args.text.now in
          let whole = subst (IsTextReadWhole g.R.Meaning.Meaning.functions c.args.world.now.0 mode.Rescue text) f.field-0-is f.ensures in
          let parts = read_parts g.R.Meaning.Meaning.functions c.args.world.now.0 c.args.own text f.form f.start f.end c.requires.text whole own in
          elim c.else-is_whole.branch [
            | else-is_whole-via-then-is_whole+then-is_read_as+else-are_symbols_there b ↦ false≢true (sym b.if-are_symbols_there.false ∙ b.are_symbols_there.ensures ∙ own.all_there)
            | else-is_whole-via-then-is_whole+else-is_read_as b ↦ false≢true (sym b.if-is_read_as.false ∙ b.is_read_as.ensures.1 parts.2)
            | else-is_whole-via-else-is_whole b ↦
                elim c.if-start-eq0.branch [
                  | then-start-eq0 s ↦ false≢true (sym b.if-is_whole.false ∙ s.is_whole-is ∙ eq-eqb f.end (length text) parts.1)
                  | else-start-eq0 s ↦ s.if-start-eq0.false parts.0
                ]
          ],
    )
