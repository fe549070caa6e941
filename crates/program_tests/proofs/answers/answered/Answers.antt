use Rattle.std.proofs.Common.{arith, inl, inr}
use Rattle.session_words.specs.declared.mode.Mode.TheVariants.{Current}
use Rattle.program_tests.proofs.answers.answered.Goals as goal

pub returns-in-Accepted-clause-wider : goal.returns-in-Accepted-clause-wider
returns-in-Accepted-clause-wider g c = λ w more known among.
    let once = c.in-Accepted.ensures.answer w known in (
      once.given,
      c.forms_stay_accepted.ensures.accepted g.M.Meaning.Meaning.functions more w Current c.args.form.now once.given among once.accepted,
      once.answered,
    )

pub returns-in-Refused-clause-number : goal.returns-in-Refused-clause-number
returns-in-Refused-clause-number g c = λ w known less.
    elim (c.in-Refused.ensures.answer w known) [
      | inl turned ↦ (turned.refused, c.form_numbers.ensures g.M.Meaning.Meaning.functions w Current c.args.form.now c.in-Refused.number turned.refused)
      | inr (inl room) ↦ (let is = room.full in absurd (omega arith))
      | inr (inr (inl fault)) ↦ (let is = fault.device in absurd (omega arith))
      | inr (inr (inr memory)) ↦ (let is = memory.memory in absurd (omega arith))
    ]
