-- A quotient that was rounded down, where it has at most 128 bits.
use Rattle.std.proofs.Common.{◌≡◌, ◌≢◌, ℤ, pos, negsuc, ◌-ℤ◌, ◌^◌, true, false, int_div, int_eq, FitsSigned, Ok, refl, ap, ◌∙◌, arith}
use Rattle.std.specs.Int.{w128}
use Rattle.std.proofs.lemmas.Bool.{lt-ltb}
use Rattle.std.proofs.lemmas.Bool.Decides.{Decides-int_eq}
use Rattle.lisp_object.specs.Object.{integer}
use Rattle.lisp_operators.specs.Properties.{is_in_range}
use Rattle.value_functions.specs.declared.functions.Division.TheVariants.{Floor}
use Rattle.value_functions.specs.FunctionAnswers.{if_in_range}
use Rattle.value_functions.specs.Arithmetic.{is_cut_up, division_value}

fits_range : (n : ℤ) → FitsSigned w128 n → is_in_range n ≡ true
fits_range (pos n) fits = lt-ltb n (2 ^ 127) fits.sfits
fits_range (negsuc n) fits = lt-ltb n (2 ^ 127) fits.sfits

not_zero : (d : ℤ) → d ≢ pos 0 → int_eq d (pos 0) ≡ false
not_zero d some = grind (arith, Decides-int_eq d (pos 0))

pub floor_below : (n d below : ℤ) → d ≢ pos 0 → FitsSigned w128 (int_div n d) → is_cut_up n d ≡ true → int_div n d -ℤ pos 1 ≡ below → FitsSigned w128 below
    → division_value Floor n d ≡ Ok (integer below)
floor_below n d below some fits cut is fitting =
    rw (not_zero d some) (rw (fits_range (int_div n d) fits) (rw cut (ap if_in_range is ∙ within)))
  where
    within : if_in_range below ≡ Ok (integer below)
    within = rw (fits_range below fitting) refl
