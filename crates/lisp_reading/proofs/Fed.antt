-- What one byte is inside a text, a line, a block or a number.
use Rattle.std.proofs.Common.{◌≡◌, ℕ, ◌+◌, ◌-◌, ◌<◌, ◌≤◌, Bool, true, false, List, [], ◌∷◌, ◌++◌, Option, Some, None, nat_le, Ok, refl, ap, ◌∙◌, arith}
use Rattle.std.specs.Prelude.{◌==◌}
use Rattle.std.proofs.lemmas.Bool.{le-leb, lt-leb, lt-ltb, le-ltb}
use Rattle.lisp_object.specs.declared.refusal.TheConstants.{INVALID_CHARACTER, FORM_TOO_LONG, NUMERIC_ARGUMENT}
use Rattle.readtable_core.specs.Characters.{is_digit}
use Rattle.readtable_core.specs.Tables.{Table, entry_at}
use Rattle.lisp_reading.specs.declared.limits.Limits.{Limits}
use Rattle.lisp_reading.specs.declared.way.Keep.{Keep}
use Rattle.lisp_reading.specs.declared.way.Keep.TheVariants.{Kept, Dropped}
use Rattle.lisp_reading.specs.Plans.{Plan, gives, refuses, takes, character, next_byte, loop, Read, fault, within, run}
use Rattle.lisp_reading.specs.Gathering.{text_turn, is_escape, kept_characters, line_turn, block_next, block_goes, block_turn, next_digit, number_turn}
use Rattle.lisp_reading.proofs.Turns.{loop_is, text_guarded, line_guarded, block_guarded, number_guarded}

-- ---- a byte that has to be a character

module _ {A : Type 0} (table : Table) (limits : Limits) (other : Plan A) (on : ℕ → Plan A) (at c : ℕ) (cs : List ℕ) where
  any_taken : at < limits.text → c < 128 → run table limits (takes other (λ c. true) (character on)) at (c ∷ cs) ≡ run table limits (on c) (at + 1) cs
  unfolding run
  any_taken lt ascii =
      let first : Bool → Read A = λ b. within b at (run table limits (character on c) (at + 1) cs) in
      let second : Bool → Plan A = λ b. elim b [ true ↦ on c | false ↦ refuses INVALID_CHARACTER 1 ] in
      ap first (lt-leb limits.text at lt) ∙ ap (λ b. run table limits (second b) (at + 1) cs) (lt-ltb c 128 ascii)

  any_over : limits.text ≤ at → run table limits (takes other (λ c. true) (character on)) at (c ∷ cs) ≡ fault FORM_TOO_LONG at
  unfolding run
  any_over g =
      let first : Bool → Read A = λ b. within b at (run table limits (character on c) (at + 1) cs) in
      ap first (le-leb limits.text at g)

  any_invalid : at < limits.text → 128 ≤ c → run table limits (takes other (λ c. true) (character on)) at (c ∷ cs) ≡ fault INVALID_CHARACTER at
  unfolding run
  any_invalid lt over =
      let first : Bool → Read A = λ b. within b at (run table limits (character on c) (at + 1) cs) in
      let second : Bool → Plan A = λ b. elim b [ true ↦ on c | false ↦ refuses INVALID_CHARACTER 1 ] in
      let back : at + 1 - 1 ≡ at = omega arith in
      ap first (lt-leb limits.text at lt) ∙ ap (λ b. run table limits (second b) (at + 1) cs) (le-ltb c 128 over)
      ∙ ap (λ (n : ℕ). fault INVALID_CHARACTER n) back

pub byte_taken : {A : Type 0} (table : Table) (limits : Limits) (on : ℕ → Plan A) (at c : ℕ) (cs : List ℕ) → at < limits.text → c < 128
    → run table limits (next_byte on) at (c ∷ cs) ≡ run table limits (on c) (at + 1) cs
byte_taken table limits on at c cs lt ascii = any_taken table limits _ on at c cs lt ascii

pub byte_over : {A : Type 0} (table : Table) (limits : Limits) (on : ℕ → Plan A) (at c : ℕ) (cs : List ℕ) → limits.text ≤ at
    → run table limits (next_byte on) at (c ∷ cs) ≡ fault FORM_TOO_LONG at
byte_over table limits on at c cs g = any_over table limits _ on at c cs g

pub byte_invalid : {A : Type 0} (table : Table) (limits : Limits) (on : ℕ → Plan A) (at c : ℕ) (cs : List ℕ) → at < limits.text → 128 ≤ c
    → run table limits (next_byte on) at (c ∷ cs) ≡ fault INVALID_CHARACTER at
byte_invalid table limits on at c cs lt over = any_invalid table limits _ on at c cs lt over

-- ---- a text

abbrev text_on : Table → ℕ → (List ℕ → Plan (List ℕ)) → List ℕ → ℕ → Bool → Bool → Plan (List ℕ)
text_on table terminator more cs c ends escape = elim ends [
  | true ↦ gives cs
  | false ↦ elim escape [ true ↦ next_byte (λ d. more (cs ++ d ∷ [])) | false ↦ more (cs ++ c ∷ []) ]
]

abbrev text_at : Table → Limits → ℕ → List ℕ → ℕ → Plan (List ℕ)
text_at table limits terminator cs d =
    text_on table terminator (loop limits (text_turn table terminator)) cs d (d == terminator) (is_escape (entry_at table d).syntax)

module _ (table : Table) (limits : Limits) (terminator : ℕ) (cs : List ℕ) (at c : ℕ) (ds : List ℕ) where
  text_is : at ≤ limits.text → run table limits (loop limits (text_turn table terminator) cs) at (c ∷ ds)
      ≡ run table limits (next_byte (text_at table limits terminator cs)) at (c ∷ ds)
  text_is h = loop_is table limits (text_turn table terminator) (text_guarded table limits terminator) cs at (c ∷ ds) h

  text_byte : (ends escape : Bool) → at < limits.text → c < 128
      → (c == terminator) ≡ ends → is_escape (entry_at table c).syntax ≡ escape
      → run table limits (loop limits (text_turn table terminator) cs) at (c ∷ ds)
      ≡ run table limits (text_on table terminator (loop limits (text_turn table terminator)) cs c ends escape) (at + 1) ds
  text_byte ends escape lt ascii e f =
      text_is (omega arith) ∙ byte_taken table limits (text_at table limits terminator cs) at c ds lt ascii
      ∙ (λ i. run table limits (text_on table terminator (loop limits (text_turn table terminator)) cs c (e i) (f i)) (at + 1) ds)

  -- it ends the text, or is one more character of it, or an escape
  pub text_ends : at < limits.text → c < 128 → (c == terminator) ≡ true
      → run table limits (loop limits (text_turn table terminator) cs) at (c ∷ ds) ≡ Ok (cs, at + 1, ds)
  unfolding run
  text_ends lt ascii e = text_byte true _ lt ascii e refl

  pub text_takes : at < limits.text → c < 128 → (c == terminator) ≡ false → is_escape (entry_at table c).syntax ≡ false
      → run table limits (loop limits (text_turn table terminator) cs) at (c ∷ ds)
      ≡ run table limits (loop limits (text_turn table terminator) (cs ++ c ∷ [])) (at + 1) ds
  text_takes lt ascii e f = text_byte false false lt ascii e f

  pub text_escapes : at < limits.text → c < 128 → (c == terminator) ≡ false → is_escape (entry_at table c).syntax ≡ true
      → run table limits (loop limits (text_turn table terminator) cs) at (c ∷ ds)
      ≡ run table limits (next_byte (λ d. loop limits (text_turn table terminator) (cs ++ d ∷ []))) (at + 1) ds
  text_escapes lt ascii e f = text_byte false true lt ascii e f

  pub text_over : at ≤ limits.text → limits.text ≤ at → run table limits (loop limits (text_turn table terminator) cs) at (c ∷ ds) ≡ fault FORM_TOO_LONG at
  text_over h g = text_is h ∙ byte_over table limits (text_at table limits terminator cs) at c ds g

  pub text_invalid : at < limits.text → 128 ≤ c → run table limits (loop limits (text_turn table terminator) cs) at (c ∷ ds) ≡ fault INVALID_CHARACTER at
  text_invalid lt over = text_is (omega arith) ∙ byte_invalid table limits (text_at table limits terminator cs) at c ds lt over

-- ---- a line

abbrev line_on : Limits → Keep → List ℕ → ℕ → Bool → Plan (List ℕ)
line_on limits keep cs c ends = elim ends [ true ↦ gives cs | false ↦ loop limits (line_turn keep) (kept_characters keep cs c) ]

module _ (table : Table) (limits : Limits) where
  line_is : (keep : Keep) (cs : List ℕ) (at c : ℕ) (ds : List ℕ) → at ≤ limits.text → run table limits (loop limits (line_turn keep) cs) at (c ∷ ds)
      ≡ run table limits (takes (gives cs) (λ c. true) (character (λ d. line_on limits keep cs d (d == 10)))) at (c ∷ ds)
  line_is keep cs at c ds h = loop_is table limits (line_turn keep) (line_guarded table limits keep) cs at (c ∷ ds) h

  line_byte : (keep : Keep) (cs : List ℕ) (at c : ℕ) (ds : List ℕ) (ends : Bool) → at < limits.text → c < 128 → (c == 10) ≡ ends
      → run table limits (loop limits (line_turn keep) cs) at (c ∷ ds) ≡ run table limits (line_on limits keep cs c ends) (at + 1) ds
  line_byte keep cs at c ds ends lt ascii e =
      line_is keep cs at c ds (omega arith) ∙ any_taken table limits (gives cs) (λ d. line_on limits keep cs d (d == 10)) at c ds lt ascii
      ∙ ap (λ b. run table limits (line_on limits keep cs c b) (at + 1) ds) e

  pub line_ends : (keep : Keep) (cs : List ℕ) (at c : ℕ) (ds : List ℕ) → at < limits.text → c < 128 → (c == 10) ≡ true
      → run table limits (loop limits (line_turn keep) cs) at (c ∷ ds) ≡ Ok (cs, at + 1, ds)
  unfolding run
  line_ends keep cs at c ds lt ascii e = line_byte keep cs at c ds true lt ascii e

  pub line_keeps : (cs : List ℕ) (at c : ℕ) (ds : List ℕ) → at < limits.text → c < 128 → (c == 10) ≡ false
      → run table limits (loop limits (line_turn Kept) cs) at (c ∷ ds) ≡ run table limits (loop limits (line_turn Kept) (cs ++ c ∷ [])) (at + 1) ds
  line_keeps cs at c ds lt ascii e = line_byte Kept cs at c ds false lt ascii e

  pub line_drops : (cs : List ℕ) (at c : ℕ) (ds : List ℕ) → at < limits.text → c < 128 → (c == 10) ≡ false
      → run table limits (loop limits (line_turn Dropped) cs) at (c ∷ ds) ≡ run table limits (loop limits (line_turn Dropped) cs) (at + 1) ds
  line_drops cs at c ds lt ascii e = line_byte Dropped cs at c ds false lt ascii e

  pub line_over : (keep : Keep) (cs : List ℕ) (at c : ℕ) (ds : List ℕ) → at ≤ limits.text → limits.text ≤ at
      → run table limits (loop limits (line_turn keep) cs) at (c ∷ ds) ≡ fault FORM_TOO_LONG at
  line_over keep cs at c ds h g = line_is keep cs at c ds h ∙ any_over table limits (gives cs) (λ d. line_on limits keep cs d (d == 10)) at c ds g

  pub line_invalid : (keep : Keep) (cs : List ℕ) (at c : ℕ) (ds : List ℕ) → at < limits.text → 128 ≤ c
      → run table limits (loop limits (line_turn keep) cs) at (c ∷ ds) ≡ fault INVALID_CHARACTER at
  line_invalid keep cs at c ds lt over =
      line_is keep cs at c ds (omega arith) ∙ any_invalid table limits (gives cs) (λ d. line_on limits keep cs d (d == 10)) at c ds lt over

-- ---- a block

module _ (table : Table) (limits : Limits) (levels : ℕ × ℕ) (at c : ℕ) (ds : List ℕ) where
  block_is : at ≤ limits.text → run table limits (loop limits block_turn levels) at (c ∷ ds)
      ≡ run table limits (next_byte (λ d. block_goes (loop limits block_turn) (block_next levels d))) at (c ∷ ds)
  block_is h = loop_is table limits block_turn (block_guarded table limits) levels at (c ∷ ds) h

  block_byte : (next : Option (ℕ × ℕ)) → at < limits.text → c < 128 → block_next levels c ≡ next
      → run table limits (loop limits block_turn levels) at (c ∷ ds) ≡ run table limits (block_goes (loop limits block_turn) next) (at + 1) ds
  block_byte next lt ascii e =
      block_is (omega arith) ∙ byte_taken table limits (λ d. block_goes (loop limits block_turn) (block_next levels d)) at c ds lt ascii
      ∙ ap (λ n. run table limits (block_goes (loop limits block_turn) n) (at + 1) ds) e

  pub block_ends : at < limits.text → c < 128 → block_next levels c ≡ None
      → run table limits (loop limits block_turn levels) at (c ∷ ds) ≡ Ok (tt, at + 1, ds)
  unfolding run
  block_ends lt ascii e = block_byte None lt ascii e

  pub block_more : (next : ℕ × ℕ) → at < limits.text → c < 128 → block_next levels c ≡ Some next
      → run table limits (loop limits block_turn levels) at (c ∷ ds) ≡ run table limits (loop limits block_turn next) (at + 1) ds
  block_more next lt ascii e = block_byte (Some next) lt ascii e

  pub block_over : at ≤ limits.text → limits.text ≤ at → run table limits (loop limits block_turn levels) at (c ∷ ds) ≡ fault FORM_TOO_LONG at
  block_over h g = block_is h ∙ byte_over table limits (λ d. block_goes (loop limits block_turn) (block_next levels d)) at c ds g

  pub block_invalid : at < limits.text → 128 ≤ c → run table limits (loop limits block_turn levels) at (c ∷ ds) ≡ fault INVALID_CHARACTER at
  block_invalid lt over = block_is (omega arith) ∙ byte_invalid table limits (λ d. block_goes (loop limits block_turn) (block_next levels d)) at c ds lt over

-- ---- a number

abbrev number_on : Limits → Option ℕ → ℕ → Bool → Plan (Option ℕ)
number_on limits number c small = elim small [ true ↦ loop limits number_turn (Some (next_digit number c)) | false ↦ refuses NUMERIC_ARGUMENT 1 ]

module _ (table : Table) (limits : Limits) (number : Option ℕ) (at c : ℕ) (ds : List ℕ) where
  number_is : at ≤ limits.text → run table limits (loop limits number_turn number) at (c ∷ ds)
      ≡ run table limits (takes (gives number) is_digit (λ d. number_on limits number d (nat_le (next_digit number d) 999999))) at (c ∷ ds)
  number_is h = loop_is table limits number_turn (number_guarded table limits) number at (c ∷ ds) h

  number_by : (digit full small : Bool) → at ≤ limits.text → is_digit c ≡ digit → nat_le limits.text at ≡ full → nat_le (next_digit number c) 999999 ≡ small
      → run table limits (loop limits number_turn number) at (c ∷ ds)
      ≡ elim digit [ true ↦ within full at (run table limits (number_on limits number c small) (at + 1) ds) | false ↦ Ok (number, at, c ∷ ds) ]
  unfolding run
  number_by digit full small h d f e =
      let first : Bool → Bool → Bool → Read (Option ℕ) = λ digit full small.
      elim digit [ true ↦ within full at (run table limits (number_on limits number c small) (at + 1) ds) | false ↦ Ok (number, at, c ∷ ds) ] in
      number_is h ∙ (λ i. first (d i) (f i) (e i))

  pub number_ends : at ≤ limits.text → is_digit c ≡ false → run table limits (loop limits number_turn number) at (c ∷ ds) ≡ Ok (number, at, c ∷ ds)
  number_ends h d = number_by false _ _ h d refl refl

  pub number_over : at ≤ limits.text → limits.text ≤ at → is_digit c ≡ true → run table limits (loop limits number_turn number) at (c ∷ ds) ≡ fault FORM_TOO_LONG at
  number_over h g d = number_by true true _ h d (le-leb limits.text at g) refl

  pub number_more : at < limits.text → is_digit c ≡ true → nat_le (next_digit number c) 999999 ≡ true
      → run table limits (loop limits number_turn number) at (c ∷ ds) ≡ run table limits (loop limits number_turn (Some (next_digit number c))) (at + 1) ds
  number_more lt d e = number_by true false true (omega arith) d (lt-leb limits.text at lt) e

  pub number_passes : at < limits.text → is_digit c ≡ true → nat_le (next_digit number c) 999999 ≡ false
      → run table limits (loop limits number_turn number) at (c ∷ ds) ≡ fault NUMERIC_ARGUMENT at
  unfolding run
  number_passes lt d e =
      let back : at + 1 - 1 ≡ at = omega arith in
      number_by true false false (omega arith) d (lt-leb limits.text at lt) e ∙ ap (λ (n : ℕ). fault NUMERIC_ARGUMENT n) back
