use Rattle.std.proofs.Common.{◌≡◌, ◌∙◌, ap, sym}
use Rattle.prevalence_store.specs.meaning.Acceptance.{Acceptance, rules_in_force}
use Rattle.session_words.specs.declared.mode.Mode.TheVariants.{Current}
use Rattle.law_tests.proofs.answers.answered.Goals as goal

pub returns-in-Accepted : goal.returns-in-Accepted
returns-in-Accepted g c = λ w fewer given known among is.
    let functions = g.M.Meaning.Meaning.functions in
    let once = c.in-Accepted.ensures.answer w known in
    let both = sym once.accepted ∙ c.more_operators_change_nothing.ensures.accepted fewer rules_in_force functions w Current c.args.form.now given among is in
    let same : once.given ≡ given = cc in
    once.answered ∙ ap (λ (a : Acceptance). a.value) same
