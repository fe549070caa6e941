use Rattle.std.proofs.Common.{sym, subst}
use Rattle.lisp_object.specs.Datum.{object_of}
use Rattle.lisp_object.specs.Object.{AllAtoms}
use Rattle.form_eval.specs.Laws.{FitsTable}
use Rattle.refused_part.proofs.Parts.{atoms_again}
use Rattle.refused_part.proofs.trials.Trials.is_refused_with.Goals as goal

pub is_refused_form-requires-clause-fits : goal.is_refused_form-requires-clause-fits
is_refused_form-requires-clause-fits g c =
    subst (AllAtoms (FitsTable c.args.world.now.0.packages)) (sym c.in_ok-form.ensures.object)
    (atoms_again (FitsTable c.args.world.now.0.packages) c.as_slice.result.now (object_of c.args.other.now) (object_of c.args.self.now.form.now)
    c.requires.other.1 c.requires.form.1)
