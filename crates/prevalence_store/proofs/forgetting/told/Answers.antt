use Rattle.std.proofs.Common.{◌<◌, ◌^◌, arith, sym, ap, subst, ◌∙◌}
use Rattle.std.specs.Prelude.{pos}
use Rattle.std.specs.Int.{w128}
use Rattle.std.proofs.lemmas.Int.{to_z_pos}
use Rattle.lisp_object.specs.declared.datum.Datum
use Rattle.lisp_object.specs.Datum.{object_of}
use Rattle.lisp_object.proofs.Objects.{object_of-Integer}
use Rattle.lisp_object.proofs.Properness.{is_proper-Integer}
use Rattle.plist_state.specs.Sound.{IsValue}
use Rattle.prevalence_store.proofs.forgetting.told.Goals as goal

pub returns-clause-value : goal.returns-clause-value
returns-clause-value c =
    let fits : c.args.count < 2 ^ 127 = omega arith in
    ap (λ n. object_of (Datum.Integer n)) (to_z_pos w128 c.args.count fits) ∙ object_of-Integer (pos c.args.count)

pub returns-clause-argument : goal.returns-clause-argument
returns-clause-argument c = λ packages.
    let fits : c.args.count < 2 ^ 127 = omega arith in
    record {
      proper = is_proper-Integer _;
      value = subst (IsValue packages) (sym (returns-clause-value c)) (record { object = record { sfits = fits }; depth = omega arith; symbols = tt });
    }
