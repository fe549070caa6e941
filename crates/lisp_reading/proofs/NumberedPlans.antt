-- Plans each refusal of which is of reading: what they give, their parts and their turns.
use Rattle.std.proofs.Common.{ℕ, zero, suc, ◌+◌, ◌≤◌, Bool, true, false, List, [], ◌∷◌, ◌++◌, Option, Some, None, Result, Ok, Err, arith}
use Rattle.std.specs.Prelude.{nat_le, nat_lt, ◌==◌}
use Rattle.std.specs.Result.{IfErr}
use Rattle.lisp_object.specs.declared.refusal.TheConstants.{END_OF_FILE, INVALID_CHARACTER, NUMERIC_ARGUMENT, FORM_TOO_LONG, OUT_OF_PROFILE}
use Rattle.readtable_core.specs.Characters.{is_digit}
use Rattle.readtable_core.specs.Tables.{Table, entry_at}
use Rattle.token_scan.specs.declared.mark.Mark.{Mark}
use Rattle.token_scan.specs.declared.refusal.ScanRefusal.{ScanRefusal}
use Rattle.token_scan.specs.declared.refusal.ScanRefusal.TheVariants.{EndOfFile, InvalidCharacter, InvalidTrait, TokenTooLong}
use Rattle.token_scan.specs.Tokens.{ScanFault}
use Rattle.token_meaning.specs.Meanings.{number}
use Rattle.token_meaning.specs.Results.{scan_refusal_number}
use Rattle.lisp_reading.specs.declared.limits.Limits.{Limits}
use Rattle.lisp_reading.specs.declared.way.Keep.{Keep}
use Rattle.lisp_reading.specs.Plans.{Plan, gives, refuses, takes, scans, then_plan, character, next_byte, loop_in, loop, Fault, Read, within, stands_below, limited_token, token_at_front, run}
use Rattle.lisp_reading.specs.Gathering.{is_escape, text_turn, kept_characters, line_turn, block_next, block_goes, block_turn, next_digit, number_turn}

abbrev pub IsOfReading : ℕ → Type 0
IsOfReading code = (END_OF_FILE ≤ code) × (code ≤ OUT_OF_PROFILE)

-- each refusal in the plan is of reading
unfoldable pub Numbered : {A : Type 0} → Plan A → Type 0
Numbered (gives x) = Unit {0}
Numbered (refuses code back) = IsOfReading code
Numbered (takes other test on) = Numbered other × ((c : ℕ) → Numbered (on c))
Numbered (scans escaped limit on) = (marks : List Mark) → Numbered (on marks)

-- ---- what numbered plans give

abbrev pub NumberedResult : {A : Type 0} → Result A Fault → Type 0
NumberedResult r = IfErr r (λ e. IsOfReading e.number)

within_numbered : {A : Type 0} (full : Bool) (at : ℕ) (r : Read A) → NumberedResult r → NumberedResult (within full at r)
within_numbered true at r h = (omega arith, omega arith)
within_numbered false at r h = h

byte_numbered : {A : Type 0} (b full : Bool) (at : ℕ) (r s : Read A) → NumberedResult r → NumberedResult s
    → NumberedResult (elim b [ true ↦ within full at r | false ↦ s ])
byte_numbered true full at r s h g = within_numbered full at r h
byte_numbered false full at r s h g = g

scan_numbered : (refusal : ScanRefusal) → IsOfReading (scan_refusal_number refusal)
scan_numbered EndOfFile = (omega arith, omega arith)
scan_numbered InvalidCharacter = (omega arith, omega arith)
scan_numbered InvalidTrait = (omega arith, omega arith)
scan_numbered TokenTooLong = (omega arith, omega arith)

cut_numbered : {A : Type 0} (b : Bool) (x : A) (limit : ℕ) → NumberedResult (elim b [ true ↦ Ok x | false ↦ Err (record { number = FORM_TOO_LONG; at = limit }) ])
cut_numbered true x limit = tt
cut_numbered false x limit = (omega arith, omega arith)

fault_numbered : (A : Type 0) (b : Bool) (limit at : ℕ) (refusal : ScanRefusal)
    → NumberedResult {A = A} (elim b [ true ↦ Err (record { number = scan_refusal_number refusal; at = at }) | false ↦ Err (record { number = FORM_TOO_LONG; at = limit }) ])
fault_numbered A true limit at refusal = scan_numbered refusal
fault_numbered A false limit at refusal = (omega arith, omega arith)

limited_numbered : {A : Type 0} (limit : ℕ) (r : Result A ScanFault) (end_of : A → ℕ) → NumberedResult (limited_token limit r end_of)
limited_numbered limit (Ok p) end_of = cut_numbered (nat_le (end_of p) limit) p limit
limited_numbered limit (Err e) end_of = fault_numbered _ (stands_below limit e.refusal e.at) limit e.at e.refusal

goes_on_numbered : {A : Type 0} (table : Table) (limits : Limits) (on : List Mark → Plan A) (r : Read (List Mark))
    → ((marks : List Mark) (next : ℕ) (ds : List ℕ) → NumberedResult (run table limits (on marks) next ds)) → NumberedResult r
    → NumberedResult (elim r [ Ok p ↦ run table limits (on p.0) p.1 p.2 | Err e ↦ Err e ])
goes_on_numbered table limits on (Ok (marks, next, ds)) all h = all marks next ds
goes_on_numbered table limits on (Err e) all h = h

pub run_numbered : {A : Type 0} (table : Table) (limits : Limits) (plan : Plan A) (at : ℕ) (cs : List ℕ) → Numbered plan → NumberedResult (run table limits plan at cs)
unfolding run Numbered
run_numbered table limits (gives x) at cs h = tt
run_numbered table limits (refuses code back) at cs h = h
run_numbered table limits (takes other test on) at [] h = run_numbered table limits other at [] h.0
run_numbered table limits (takes other test on) at (c ∷ cs) h =
    byte_numbered (test c) (nat_le limits.text at) at (run table limits (on c) (at + 1) cs) (run table limits other at (c ∷ cs))
    (run_numbered table limits (on c) (at + 1) cs (h.1 c)) (run_numbered table limits other at (c ∷ cs) h.0)
run_numbered table limits (scans escaped limit on) at cs h =
    goes_on_numbered table limits on (limited_token limits.text (token_at_front escaped table limit at cs) (λ p. p.1))
    (λ marks next ds. run_numbered table limits (on marks) next ds (h marks)) (limited_numbered limits.text (token_at_front escaped table limit at cs) (λ p. p.1))

-- ---- parts of plans

pub gives_numbered : {A : Type 0} (x : A) → Numbered (gives x)
unfolding Numbered
gives_numbered x = tt

pub refuses_numbered : (A : Type 0) (code back : ℕ) → IsOfReading code → Numbered {A = A} (refuses code back)
unfolding Numbered
refuses_numbered A code back h = h

pub takes_numbered : {A : Type 0} (other : Plan A) (test : ℕ → Bool) (on : ℕ → Plan A) → Numbered other → ((c : ℕ) → Numbered (on c)) → Numbered (takes other test on)
unfolding Numbered
takes_numbered other test on h all = (h, all)

pub scans_numbered : {A : Type 0} (escaped : Bool) (limit : ℕ) (on : List Mark → Plan A) → ((marks : List Mark) → Numbered (on marks)) → Numbered (scans escaped limit on)
unfolding Numbered
scans_numbered escaped limit on all = all

pub then_numbered : {A B : Type 0} (plan : Plan A) (next : A → Plan B) → Numbered plan → ((x : A) → Numbered (next x)) → Numbered (then_plan plan next)
unfolding then_plan Numbered
then_numbered (gives x) next h all = all x
then_numbered (refuses code back) next h all = h
then_numbered (takes other test on) next h all = (then_numbered other next h.0 all, λ c. then_numbered (on c) next (h.1 c) all)
then_numbered (scans escaped limit on) next h all = λ marks. then_numbered (on marks) next (h marks) all

pub if_numbered : {A : Type 0} (b : Bool) (p q : Plan A) → Numbered p → Numbered q → Numbered (elim b [ true ↦ p | false ↦ q ])
if_numbered true p q h g = h
if_numbered false p q h g = g

character_numbered : {A : Type 0} (on : ℕ → Plan A) (c : ℕ) → Numbered (on c) → Numbered (character on c)
character_numbered on c h =
    if_numbered (nat_lt c 128) (on c) (refuses INVALID_CHARACTER 1) h (refuses_numbered _ INVALID_CHARACTER 1 (omega arith, omega arith))

pub next_byte_numbered : {A : Type 0} (on : ℕ → Plan A) → ((c : ℕ) → Numbered (on c)) → Numbered (next_byte on)
next_byte_numbered on all =
    takes_numbered (refuses END_OF_FILE 0) (λ c. true) (λ c. character on c) (refuses_numbered _ END_OF_FILE 0 (omega arith, omega arith))
    (λ c. character_numbered on c (all c))

-- ---- turns

-- A turn is numbered where what goes on after it is.
abbrev NumberedTurn : {S A : Type 0} → ((S → Plan A) → S → Plan A) → Type 0
NumberedTurn {S = S} {A = A} turn = (more : S → Plan A) → ((s : S) → Numbered (more s)) → (s : S) → Numbered (turn more s)

loop_in_numbered : {S A : Type 0} (turn : (S → Plan A) → S → Plan A) → NumberedTurn turn → (n : ℕ) (s : S) → Numbered (loop_in turn n s)
unfolding loop_in
loop_in_numbered turn all zero s = refuses_numbered _ FORM_TOO_LONG 0 (omega arith, omega arith)
loop_in_numbered turn all (suc n) s = all (λ t. loop_in turn n t) (λ t. loop_in_numbered turn all n t) s

pub loop_numbered : {S A : Type 0} (limits : Limits) (turn : (S → Plan A) → S → Plan A) → NumberedTurn turn → (s : S) → Numbered (loop limits turn s)
loop_numbered limits turn all s = loop_in_numbered turn all (limits.text + 1) s

pub text_numbered : (table : Table) (terminator : ℕ) → NumberedTurn (text_turn table terminator)
text_numbered table terminator more all cs =
    next_byte_numbered _ (λ c. if_numbered (c == terminator) (gives cs) _ (gives_numbered cs)
    (if_numbered (is_escape (entry_at table c).syntax) (next_byte (λ d. more (cs ++ d ∷ []))) (more (cs ++ c ∷ []))
    (next_byte_numbered (λ d. more (cs ++ d ∷ [])) (λ d. all (cs ++ d ∷ []))) (all (cs ++ c ∷ []))))

pub line_numbered : (keep : Keep) → NumberedTurn (line_turn keep)
line_numbered keep more all cs =
    let on : ℕ → Plan (List ℕ) = λ c. elim (c == 10) [ true ↦ gives cs | false ↦ more (kept_characters keep cs c) ] in
    takes_numbered (gives cs) (λ c. true) (character on) (gives_numbered cs)
    (λ c. character_numbered on c (if_numbered (c == 10) (gives cs) (more (kept_characters keep cs c)) (gives_numbered cs) (all (kept_characters keep cs c))))

goes_numbered : (more : ℕ × ℕ → Plan (Unit {0})) (next : Option (ℕ × ℕ)) → ((levels : ℕ × ℕ) → Numbered (more levels)) → Numbered (block_goes more next)
goes_numbered more None all = gives_numbered tt
goes_numbered more (Some levels) all = all levels

pub block_numbered : NumberedTurn block_turn
block_numbered more all levels =
    next_byte_numbered (λ c. block_goes more (block_next levels c)) (λ c. goes_numbered more (block_next levels c) all)

pub number_numbered : NumberedTurn number_turn
number_numbered more all argument =
    let on : ℕ → Plan (Option ℕ) = λ c. elim (nat_le (next_digit argument c) 999999) [ true ↦ more (Some (next_digit argument c)) | false ↦ refuses NUMERIC_ARGUMENT 1 ] in
    takes_numbered (gives argument) is_digit on (gives_numbered argument)
    (λ c. if_numbered (nat_le (next_digit argument c) 999999) (more (Some (next_digit argument c))) (refuses NUMERIC_ARGUMENT 1)
    (all (Some (next_digit argument c))) (refuses_numbered _ NUMERIC_ARGUMENT 1 (omega arith, omega arith)))
