use Rattle.std.proofs.Common.{◌||◌, ap, subst, ◌∙◌}
use Rattle.std.proofs.lemmas.Result.{IfOk-weaker}
use Rattle.plist_state.specs.Sound.{IsSoundWorldState}
use Rattle.plist_state.specs.State.{WorldState}
use Rattle.prevalence_store.proofs.calls.Executing.{known_world}
use Rattle.sessions.proofs.Pendings.{may_evaluate}
use Rattle.sessions.proofs.Groups.{forms_taken, lax_taken}
use Rattle.sessions.proofs.whole_forms.take_group.Goals as goal

pub together-requires-clause-is_open : goal.together-requires-clause-is_open
together-requires-clause-is_open g c = c.requires.form.is_open

pub together-requires-clause-needs : goal.together-requires-clause-needs
together-requires-clause-needs g c = λ w known.
    let turn = c.args.turn.now in
    let form = c.requires.form in
    let b = c.requires.begins w known in
    let same = c.open_world.ensures.one w known in
    record {
      may = may_evaluate g.R.Meaning.Meaning.functions w turn.wanted.mode turn.first.now.read turn.first.now.own.items form.proper form.sound (form.all_there w known) (form.begins w known)
          (subst (λ (v : WorldState). IsSoundWorldState v) same c.soundness.ensures.present);
      some = c.requires.some;
      room = c.requires.room;
      most = c.requires.most;
      text = b.0;
      begins = b.1.0;
      goes_on = b.1.1;
    }

pub returns-clause-takes : goal.returns-clause-takes
returns-clause-takes g c = λ w known text begins goes_on.
    let wanted = c.args.turn.now.wanted in
    let strict = c.either-strict.result in
    lax_taken g.R.Meaning.Meaning.functions wanted strict (λ asked. c.either-strict.ensures ∙ ap (λ b. b || c.args.listening) asked) g.D.Disk.state c.args.store.now c.together.new.self w text c.together.result
    (forms_taken g.R.Meaning.Meaning.functions (record c.args.turn.now { wanted = record wanted { strict = strict } }) w g.D.Disk.state c.args.store.now c.together.new.self text begins goes_on c.together.result
    (c.together.ensures.made w known) (c.together.ensures.left w known))

pub returns-clause-counts : goal.returns-clause-counts
returns-clause-counts g c =
    let here = known_world c.args.store.now.world c.requires.form.is_open in
    IfOk-weaker c.together.result _ _ (λ made logged. logged.makes.counts) (c.together.ensures.made here.0 here.1)
