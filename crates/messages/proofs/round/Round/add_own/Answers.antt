use Rattle.std.proofs.Common.{subst, sym}
use Rattle.messages.specs.Rounds.{MayBeLogged, round_in}
use Rattle.messages.proofs.Making.{failed_on, done_on, own_made, own_added, own_round}
use Rattle.messages.proofs.Owned.{form_left, form_taken}
use Rattle.messages.proofs.round.Round.add_own.Goals as goal
use Rattle.messages.proofs.round.Round.add_own.Goals.{in-Ok, in-Err}

pub returns-clause-carried : goal.returns-clause-carried
returns-clause-carried g c =
    let functions = g.R.Meaning.Meaning.functions in
    let held = c.args.self.now in
    let w = c.args.world.now.0 in
    elim c.match-add.branch [
      | in-Ok w1 ↦
          let e = w1.in-Ok.field-0 in
          done_on c.match-add.result w1.result-is (own_round functions c.args.own held c.add.new.self w c.add.new.world.0 c.args.form.now c.args.text.now e c.requires.there c.requires.form w1.in-Ok.ensures.value w1.in-Ok.ensures.taken)
      | in-Err w1 ↦ failed_on _ c.match-add.result w1.in-Err.failure w1.result-is
    ]

pub returns-clause-made : goal.returns-clause-made
returns-clause-made g c =
    let functions = g.R.Meaning.Meaning.functions in
    let held = c.args.self.now in
    let w = c.args.world.now.0 in
    elim c.match-add.branch [
      | in-Ok w1 ↦
          let e = w1.in-Ok.field-0 in
          let same = own_round functions c.args.own held c.add.new.self w c.add.new.world.0 c.args.form.now c.args.text.now e c.requires.there c.requires.form w1.in-Ok.ensures.value w1.in-Ok.ensures.taken in
          let added = own_added functions c.args.own w c.add.new.world.0 c.args.form.now c.args.text.now e c.requires.there c.requires.form w1.in-Ok.ensures.value in
          done_on c.match-add.result w1.result-is (λ first made. subst (MayBeLogged functions first) (sym same) (own_made functions first (round_in held w) made c.args.own added.2 added.3))
      | in-Err w1 ↦ failed_on _ c.match-add.result w1.in-Err.failure w1.result-is
    ]

pub returns-clause-refused : goal.returns-clause-refused
returns-clause-refused g c =
    let functions = g.R.Meaning.Meaning.functions in
    let w = c.args.world.now.0 in
    elim c.match-add.branch [
      | in-Ok w1 ↦ form_taken functions w c.args.own c.match-add.result w1.result-is
      | in-Err w1 ↦ form_left functions w c.args.own c.args.form.now c.args.text.now c.requires.there c.requires.form c.match-add.result w1.in-Err.failure w1.result-is w1.in-Err.ensures.cause
    ]
