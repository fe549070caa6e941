-- Where the attempt begins that decides a text, attempt by attempt.
use Rattle.std.proofs.Common.{◌≡◌, ℕ, zero, suc, ◌+◌, ◌<◌, List, length, Ok, Err, refl, ap, ◌∙◌, arith}
use Rattle.lisp_object.specs.Object.{Object}
use Rattle.lisp_reading.specs.declared.attempt.Found.{Found}
use Rattle.lisp_reading.specs.declared.attempt.Found.TheVariants.{Nothing as nothing, One as one, LoneDot as lone_dot, TheEnd as the_end}
use Rattle.lisp_reading.specs.Plans.{Read}
use Rattle.lisp_reading.specs.Setting.{Setting}
use Rattle.lisp_reading.specs.Reading.{attempt, ReadingResult, form, outcome, reads_in, reads}
use Rattle.lisp_reading.specs.Deciding.{deciding, decided_in, decided_at, decided_from}
use Rattle.lisp_reading.proofs.Offsets.{Parts, parts}
use Rattle.lisp_reading.proofs.Forms.{first, nothing_takes}

-- ---- the number of turns does not matter

deciding_same : (setting : Setting) (more again : ℕ → List ℕ → ℕ) (start : ℕ) (whole : List ℕ) (r : Read Found) → first setting whole ≡ r → Parts 0 whole r
    → ((at : ℕ) (cs : List ℕ) → length cs < length whole → more at cs ≡ again at cs) → deciding start more r ≡ deciding start again r
deciding_same setting more again start whole (Ok (nothing token, at, cs)) found p same = same (start + at) cs (nothing_takes setting whole cs token at found p)
deciding_same setting more again start whole (Ok (one token x, at, cs)) found p same = refl
deciding_same setting more again start whole (Ok (lone_dot, at, cs)) found p same = refl
deciding_same setting more again start whole (Ok (the_end, at, cs)) found p same = refl
deciding_same setting more again start whole (Err f) found p same = refl

decided_same : (setting : Setting) (n m start : ℕ) (whole : List ℕ) → length whole < n → length whole < m → decided_in setting n start whole ≡ decided_in setting m start whole
unfolding decided_in
decided_same setting zero m start whole p q = absurd (omega arith)
decided_same setting (suc n) zero start whole p q = absurd (omega arith)
decided_same setting (suc n) (suc m) start whole p q =
    deciding_same setting (λ next cs. decided_in setting n next cs) (λ next cs. decided_in setting m next cs) start whole (first setting whole) refl
    (parts setting.table setting.limits (attempt setting setting.limits.nesting) 0 whole)
    (λ at cs lt. decided_same setting n m at cs (omega arith) (omega arith))

pub decided_is : (setting : Setting) (start : ℕ) (whole : List ℕ)
    → decided_at setting start whole ≡ deciding start (λ next cs. decided_at setting next cs) (first setting whole)
unfolding decided_in
decided_is setting start whole =
    let n : length whole + 1 ≡ suc (length whole) = omega arith in
    ap (λ n. decided_in setting n start whole) n
    ∙ deciding_same setting (λ next cs. decided_in setting (length whole) next cs) (λ next cs. decided_at setting next cs) start whole (first setting whole) refl
    (parts setting.table setting.limits (attempt setting setting.limits.nesting) 0 whole)
    (λ at cs lt. decided_same setting (length whole) (length cs + 1) at cs (omega arith) (omega arith))

-- ---- of a form it is its start

turn_form : (setting : Setting) (more : ℕ → List ℕ → ReadingResult) (from : ℕ → List ℕ → ℕ) (begun : ℕ) (r : Read Found) (x : Object) (start «end» next : ℕ)
    → ((at : ℕ) (cs : List ℕ) → more at cs ≡ form x start «end» next → from at cs ≡ start)
    → outcome setting.table begun more r ≡ form x start «end» next → deciding begun from r ≡ start
turn_form setting more from begun (Ok (nothing token, at, cs)) x start «end» next all e = all (begun + at) cs e
turn_form setting more from begun (Ok (one token y, at, cs)) x start «end» next all e = cc
turn_form setting more from begun (Ok (lone_dot, at, cs)) x start «end» next all e = cc
turn_form setting more from begun (Ok (the_end, at, cs)) x start «end» next all e = cc
turn_form setting more from begun (Err f) x start «end» next all e = cc

in_form : (setting : Setting) (n begun : ℕ) (whole : List ℕ) (x : Object) (start «end» next : ℕ) → reads_in setting n begun whole ≡ form x start «end» next
    → decided_in setting n begun whole ≡ start
unfolding reads_in decided_in
in_form setting zero begun whole x start «end» next e = cc
in_form setting (suc n) begun whole x start «end» next e =
    turn_form setting (λ next cs. reads_in setting n next cs) (λ next cs. decided_in setting n next cs) begun (first setting whole) x start «end» next
    (λ at cs more. in_form setting n at cs x start «end» next more) e

pub form_decides : (setting : Setting) (text : List ℕ) (x : Object) (start «end» next : ℕ) → reads setting text ≡ form x start «end» next → decided_from setting text ≡ start
unfolding reads decided_from
form_decides setting text x start «end» next e = in_form setting (length text + 1) 0 text x start «end» next e
