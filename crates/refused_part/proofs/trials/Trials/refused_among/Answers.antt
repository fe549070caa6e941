use Rattle.std.proofs.Common.{◌≡◌, true, subst}
use Rattle.lisp_object.specs.Datum.{object_of}
use Rattle.refused_part.specs.Part.{is_refused_at}
use Rattle.refused_part.proofs.Worlds.{may_after}
use Rattle.refused_part.proofs.trials.Trials.refused_among.Goals as goal

pub is_refused_at-requires-clause-form : goal.is_refused_at-requires-clause-form
is_refused_at-requires-clause-form g c =
    may_after c.args.world.now c.loop-i.world c.args.self.now.form.now c.loop-i.invariant c.requires.form

pub returns-then-branch-clause-found : goal.returns-then-branch-clause-found
returns-then-branch-clause-found g c = (
  c.in_ok-item.ensures c.args.self.now.form.now c.requires.there,
  subst (λ w. is_refused_at g.M.Meaning.functions.names w.0 c.args.self.now.number (object_of c.args.self.now.form.now) c.in_ok-item.item.place.items (object_of c.in_ok-item.item.part.now) ≡ true)
      c.loop-i.invariant (c.in_ok-is_refused_at.ensures.tells c.if-branch.true),
)
