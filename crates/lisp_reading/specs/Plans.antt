-- What reading does from an offset on: a plan, which says of each next byte whether it is taken and what is done then. A plan
-- knows no text and no offset. What it gives on a text is said once, by `run`.
use Rattle.std.specs.Prelude.{ℕ, ◌≡◌, ◌≤◌, zero, suc, ◌+◌, ◌-◌, nat_le, nat_lt, Bool, true, false, List, [], ◌∷◌, Result, Ok, Err}
use Rattle.lisp_object.specs.declared.refusal.TheConstants.{END_OF_FILE, INVALID_CHARACTER, FORM_TOO_LONG}
use Rattle.readtable_core.specs.Tables.{Table}
use Rattle.lisp_reading.specs.declared.limits.Limits.{Limits}
use Rattle.token_scan.specs.declared.mark.Mark.{Mark}
use Rattle.token_scan.specs.declared.refusal.ScanRefusal.{ScanRefusal}
use Rattle.token_scan.specs.declared.refusal.ScanRefusal.TheVariants.{EndOfFile}
use Rattle.token_scan.specs.Tokens.{ScanFault, ScannedBytes, token_in, escaped_token_in}
use Rattle.token_meaning.specs.Results.{scan_refusal_number}

-- What is to be done with a text before something is given: a recursion over the bytes that are still to come.
pub data Plan (A : Type 0) : Type 0 where
  gives : A → Plan A
  -- the number of the refusal, and how many bytes its offset lies before the present one
  refuses : ℕ → ℕ → Plan A
  -- A byte that passes the test is taken, and the last plan goes on with it. Before any other byte, and at the end of the
  -- input, the first plan goes on.
  takes : Plan A → (ℕ → Bool) → (ℕ → Plan A) → Plan A
  -- A token of at most so many characters, perhaps empty, is taken, and the plan goes on with its marks. The test says whether
  -- its first character is taken as an escaped one.
  scans : Bool → ℕ → (List Mark → Plan A) → Plan A

-- one plan, and then another, which knows what the first gave
unfoldable pub then_plan : {A B : Type 0} → Plan A → (A → Plan B) → Plan B
then_plan (gives x) next = next x
then_plan (refuses number back) next = refuses number back
then_plan (takes other test on) next = takes (then_plan other next) test (λ c. then_plan (on c) next)
then_plan (scans escaped limit on) next = scans escaped limit (λ marks. then_plan (on marks) next)

-- ---- plans of one byte

-- this byte, which has to be a character
abbrev pub character : {A : Type 0} → (ℕ → Plan A) → ℕ → Plan A
character on c = elim (nat_lt c 128) [ true ↦ on c | false ↦ refuses INVALID_CHARACTER 1 ]

-- any character, which has to stand there
abbrev pub next_byte : {A : Type 0} → (ℕ → Plan A) → Plan A
next_byte on = takes (refuses END_OF_FILE 0) (λ c. true) (λ c. character on c)

-- ---- turns

-- Turns, from a state on: each knows what goes on after it. The number bounds them.
unfoldable pub loop_in : {S A : Type 0} → ((S → Plan A) → S → Plan A) → ℕ → S → Plan A
loop_in turn zero state = refuses FORM_TOO_LONG 0
loop_in turn (suc n) state = turn (λ s. loop_in turn n s) state

-- No byte is taken beyond the limit of the text, so where each turn takes a byte or is the last one, this is always enough.
abbrev pub loop : {S A : Type 0} → Limits → ((S → Plan A) → S → Plan A) → S → Plan A
loop limits turn state = loop_in turn (limits.text + 1) state

-- ---- what a plan gives on a text

-- the number of a refusal, and its offset
pub record Fault : Type 0 where
  pub number : ℕ
  pub at : ℕ

-- a value, the offset after it and the rest of the text; or the first fault
abbrev pub Read : Type 0 → Type 0
Read A = Result (A × ℕ × List ℕ) Fault

-- the text is refused with this number, at this offset
abbrev pub fault : {A : Type 0} → ℕ → ℕ → Read A
fault number at = Err (record { number = number; at = at })

-- the byte at this offset may be taken
abbrev pub within : {A : Type 0} → Bool → ℕ → Read A → Read A
within full at r = elim full [ true ↦ fault FORM_TOO_LONG at | false ↦ r ]

-- a fault of a token stands where it is a byte below the limit, or the end of the input up to the limit
abbrev pub stands_below : ℕ → ScanRefusal → ℕ → Bool
stands_below limit EndOfFile at = nat_le at limit
stands_below limit _ at = nat_lt at limit

-- a token under the limit of the text
abbrev pub limited_token : {A : Type 0} → ℕ → Result A ScanFault → (A → ℕ) → Result A Fault
limited_token limit (Ok p) end_of = elim (nat_le (end_of p) limit) [ true ↦ Ok p | false ↦ Err (record { number = FORM_TOO_LONG; at = limit }) ]
limited_token limit (Err e) end_of =
    elim (stands_below limit e.refusal e.at) [
      | true ↦ Err (record { number = scan_refusal_number e.refusal; at = e.at })
      | false ↦ Err (record { number = FORM_TOO_LONG; at = limit })
    ]

-- a token; if it says so, one whose first character is taken as an escaped one
abbrev pub token_at_front : Bool → Table → ℕ → ℕ → List ℕ → ScannedBytes
token_at_front false table limit at text = token_in table limit at text
token_at_front true table limit at text = escaped_token_in table limit at text

-- Offsets count the bytes from the object's start.
unfoldable pub run : {A : Type 0} → Table → Limits → Plan A → ℕ → List ℕ → Read A
run table limits (gives x) at text = Ok (x, at, text)
run table limits (refuses number back) at text = fault number (at - back)
run table limits (takes other test on) at [] = run table limits other at []
run table limits (takes other test on) at (c ∷ cs) =
    elim (test c) [
      | true ↦ within (nat_le limits.text at) at (run table limits (on c) (at + 1) cs)
      | false ↦ run table limits other at (c ∷ cs)
    ]
run table limits (scans escaped limit on) at text =
    elim (limited_token limits.text (token_at_front escaped table limit at text) (λ p. p.1)) [
      | Ok p ↦ run table limits (on p.0) p.1 p.2
      | Err e ↦ Err e
    ]

-- up to the limit of the text, two plans give the same
abbrev pub GiveSame : {A : Type 0} → Table → Limits → Plan A → Plan A → Type 0
GiveSame table limits p q = (at : ℕ) (cs : List ℕ) → at ≤ limits.text → run table limits p at cs ≡ run table limits q at cs
