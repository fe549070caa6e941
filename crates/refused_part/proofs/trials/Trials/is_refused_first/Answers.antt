use Rattle.std.proofs.Common.{◌≡◌, true, subst}
use Rattle.std.specs.Prelude.{IfOk}
use Rattle.lisp_object.specs.Datum.{object_of}
use Rattle.refused_part.specs.Part.{is_refused_form}
use Rattle.refused_part.specs.PartPlaces.{both, quote_of_none, with_part}
use Rattle.refused_part.proofs.Fillings.{may_none}
use Rattle.refused_part.proofs.Worlds.{also_told, may_after}
use Rattle.refused_part.proofs.trials.Trials.is_refused_first.Goals as goal

pub is_refused_before-requires-2-clause-form : goal.is_refused_before-requires-2-clause-form
is_refused_before-requires-2-clause-form g c =
    may_after c.args.world.now c.is_refused_before.new.world c.args.self.now.form.now c.is_refused_before.ensures.same c.requires.form

pub is_refused_before-requires-2-clause-other : goal.is_refused_before-requires-2-clause-other
is_refused_before-requires-2-clause-other g c =
    may_after c.args.world.now c.is_refused_before.new.world c.in_ok-other-2.other c.is_refused_before.ensures.same
    (may_none c.args.world.now.0.packages c.soundness.ensures.present.packages c.in_ok-other-2.other c.in_ok-other-2.ensures.proper c.in_ok-other-2.ensures.object)

pub returns-clause-tells : goal.returns-clause-tells
returns-clause-tells g c =
    let names = g.M.Meaning.functions.names in
    also_told (λ s. is_refused_form names s c.args.self.now.number (with_part c.args.part.now.place.items (both (object_of c.args.part.now.part.now) quote_of_none) (object_of c.args.self.now.form.now)))
    c.args.world.now c.is_refused_before.new.world c.is_refused_before.ensures.same _
    (subst (λ o. is_refused_form names c.args.world.now.0 c.args.self.now.number (with_part c.args.part.now.place.items (both (object_of c.args.part.now.part.now) o) (object_of c.args.self.now.form.now)) ≡ true) c.in_ok-other.ensures.object
    (c.in_ok-is_refused_before.ensures.tells c.if-not-branch.false))
    c.is_refused_before-2.result
    (subst (λ o. IfOk c.is_refused_before-2.result (λ refused. refused ≡ true → is_refused_form names c.is_refused_before.new.world.0 c.args.self.now.number (with_part c.args.part.now.place.items (both (object_of c.args.part.now.part.now) o) (object_of c.args.self.now.form.now)) ≡ true))
    c.in_ok-other-2.ensures.object c.is_refused_before-2.ensures.tells)
