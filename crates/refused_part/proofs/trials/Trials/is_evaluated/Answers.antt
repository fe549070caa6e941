use Rattle.lisp_object.specs.Datum.{object_of}
use Rattle.lisp_object.specs.declared.refusal.TheConstants.{ARGUMENT_COUNT}
use Rattle.refused_part.specs.Part.{is_refused_form}
use Rattle.refused_part.specs.PartPlaces.{quote_of_none, with_part}
use Rattle.refused_part.proofs.Worlds.{also_told, may_after}
use Rattle.refused_part.proofs.trials.Trials.is_evaluated.Goals as goal

pub has_number_of_quote-requires-clause-form : goal.has_number_of_quote-requires-clause-form
has_number_of_quote-requires-clause-form g c =
    may_after c.args.world.now c.has_number_of_no_form.new.world c.args.self.now.form.now c.has_number_of_no_form.ensures.same c.requires.form

pub returns-clause-tells : goal.returns-clause-tells
returns-clause-tells g c =
    also_told (λ s. is_refused_form g.M.Meaning.functions.names s ARGUMENT_COUNT (with_part c.args.part.now.place.items quote_of_none (object_of c.args.self.now.form.now)))
    c.args.world.now c.has_number_of_no_form.new.world c.has_number_of_no_form.ensures.same
    _ (c.in_ok-has_number_of_no_form.ensures.tells c.if-not-branch.false) c.has_number_of_quote.result c.has_number_of_quote.ensures.tells
