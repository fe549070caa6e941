use Rattle.std.proofs.Common.{◌≡◌, ◌≢◌, pos, true, ◌-ℤ◌, int_div, FitsSigned, Ok, rules, arith, sym, ap, ◌∙◌}
use Rattle.std.specs.Int.{w128}
use Rattle.std.proofs.lemmas.Int.{to_z-of_z}
use Rattle.lisp_object.specs.declared.datum.Datum
use Rattle.lisp_object.specs.Datum.{object_of}
use Rattle.lisp_object.proofs.Objects.{object_of-Integer}
use Rattle.value_functions.specs.Arithmetic.{is_cut_up}
use Rattle.value_functions.proofs.Floors.{floor_below}
use Rattle.value_functions.proofs.divisions.floor.Goals as goal

pub returns-in-Some-checked_sub-clause-value : goal.returns-in-Some-checked_sub-clause-value
returns-in-Some-checked_sub-clause-value c =
    let n = c.args.n in
    let d = c.args.d in
    let below = c.in-Some-checked_sub.below in
    let some : d ≢ pos 0 = search rules in
    let quotient_fits : FitsSigned w128 (int_div n d) = search (rules, to_z-of_z) in
    let cut : is_cut_up n d ≡ true = grind (arith, to_z-of_z) in
    let is : int_div n d -ℤ pos 1 ≡ below = grind (arith, to_z-of_z) in
    let fitting : FitsSigned w128 below = search rules in
    floor_below n d below some quotient_fits cut is fitting
    ∙ ap Ok (sym (object_of-Integer below))
    ∙ ap (λ x. Ok (object_of (Datum.Integer x))) (sym (to_z-of_z w128 below fitting))
