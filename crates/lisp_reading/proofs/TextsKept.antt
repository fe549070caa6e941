-- What holds of plans that gather no object: a text, a line, a block, a number.
use Rattle.std.proofs.Common.{ℕ, ◌+◌, Bool, true, false, List, [], ◌∷◌, ◌++◌, Option, Some, None, arith}
use Rattle.std.specs.Prelude.{nat_le, ◌==◌}
use Rattle.readtable_core.specs.Tables.{entry_at}
use Rattle.lisp_reading.specs.declared.way.Keep.{Keep}
use Rattle.lisp_reading.specs.Gathering.{text_turn, is_escape, kept_characters, line_turn, block_next, block_goes, block_turn, number_turn, next_digit}
use Rattle.lisp_reading.specs.Plans.{Plan, gives, refuses, next_byte}
use Rattle.lisp_reading.specs.Setting.{Setting}
use Rattle.lisp_reading.specs.Reading.{text_to, line_after, block_after, number_after}
use Rattle.lisp_reading.proofs.Keeping.{Keeps, keeps_either, keeps_loop, keeps_character, keeps_next}

-- nothing is said of it
abbrev pub Any : {A : Type 0} → Bool → A → Type 0
Any taken x = Unit {0}

pub text_keeps : (setting : Setting) (terminator : ℕ) (taken : Bool) (cs : List ℕ) → Keeps (Any {A = List ℕ}) taken (text_to setting terminator cs)
text_keeps setting terminator taken cs =
    keeps_either (Any {A = List ℕ}) (λ x h. tt) taken (text_to setting terminator cs)
    (keeps_loop (Any {A = List ℕ}) (λ s. Unit {0}) (text_turn setting.table terminator)
    (λ more all s i. keeps_next (Any {A = List ℕ}) false (λ c.
    elim (c == terminator) [
      | true ↦ gives s
      | false ↦ elim (is_escape (entry_at setting.table c).syntax) [
        | true ↦ next_byte (λ d. more (s ++ d ∷ []))
        | false ↦ more (s ++ c ∷ [])
      ]
    ]) (λ c small.
    elim (c == terminator) as (λ b. Keeps (Any {A = List ℕ}) true (elim b [
      | true ↦ gives s
      | false ↦ elim (is_escape (entry_at setting.table c).syntax) [
        | true ↦ next_byte (λ d. more (s ++ d ∷ []))
        | false ↦ more (s ++ c ∷ [])
      ]
    ])) [
      | true ↦ tt
      | false ↦ elim (is_escape (entry_at setting.table c).syntax) as (λ b. Keeps (Any {A = List ℕ}) true (elim b [
        | true ↦ next_byte (λ d. more (s ++ d ∷ []))
        | false ↦ more (s ++ c ∷ [])
      ])) [
        | true ↦ keeps_next (Any {A = List ℕ}) true (λ d. more (s ++ d ∷ [])) (λ d few. keeps_either (Any {A = List ℕ}) (λ x h. tt) true (more (s ++ d ∷ [])) (all (s ++ d ∷ []) tt))
        | false ↦ keeps_either (Any {A = List ℕ}) (λ x h. tt) true (more (s ++ c ∷ [])) (all (s ++ c ∷ []) tt)
      ]
    ]))
    (setting.limits.text + 1) cs tt)

pub line_keeps : (setting : Setting) (keep : Keep) (taken : Bool) (cs : List ℕ) → Keeps (Any {A = List ℕ}) taken (line_after setting keep cs)
line_keeps setting keep taken cs =
    keeps_either (Any {A = List ℕ}) (λ x h. tt) taken (line_after setting keep cs)
    (keeps_loop (Any {A = List ℕ}) (λ s. Unit {0}) (line_turn keep)
    (λ more all s i. (
      tt,
      λ c. keeps_character (Any {A = List ℕ}) (λ c. elim (c == 10) [ true ↦ gives s | false ↦ more (kept_characters keep s c) ]) c (λ small.
          elim (c == 10) as (λ b. Keeps (Any {A = List ℕ}) true (elim b [ true ↦ gives s | false ↦ more (kept_characters keep s c) ])) [
            | true ↦ tt
            | false ↦ keeps_either (Any {A = List ℕ}) (λ x h. tt) true (more (kept_characters keep s c)) (all (kept_characters keep s c) tt)
          ]),
    ))
    (setting.limits.text + 1) cs tt)

block_goes_keeps : (more : ℕ × ℕ → Plan (Unit {0})) (o : Option (ℕ × ℕ)) → ((s : ℕ × ℕ) → Keeps (Any {A = Unit {0}}) false (more s)) → Keeps (Any {A = Unit {0}}) true (block_goes more o)
block_goes_keeps more None all = tt
block_goes_keeps more (Some levels) all = keeps_either (Any {A = Unit {0}}) (λ x h. tt) true (more levels) (all levels)

pub block_keeps : (setting : Setting) (taken : Bool) (levels : ℕ × ℕ) → Keeps (Any {A = Unit {0}}) taken (block_after setting levels)
block_keeps setting taken levels =
    keeps_either (Any {A = Unit {0}}) (λ x h. tt) taken (block_after setting levels)
    (keeps_loop (Any {A = Unit {0}}) (λ s. Unit {0}) block_turn
    (λ more all s i. keeps_next (Any {A = Unit {0}}) false (λ c. block_goes more (block_next s c)) (λ c small. block_goes_keeps more (block_next s c) (λ t. all t tt)))
    (setting.limits.text + 1) levels tt)

pub number_keeps : (setting : Setting) (taken : Bool) (number : Option ℕ) → Keeps (Any {A = Option ℕ}) taken (number_after setting number)
number_keeps setting taken number =
    keeps_either (Any {A = Option ℕ}) (λ x h. tt) taken (number_after setting number)
    (keeps_loop (Any {A = Option ℕ}) (λ s. Unit {0}) number_turn
    (λ more all s i. (
      tt,
      λ c.
          elim (nat_le (next_digit s c) 999999) as (λ b. Keeps (Any {A = Option ℕ}) true (elim b [ true ↦ more (Some (next_digit s c)) | false ↦ refuses 15 1 ])) [
            | true ↦ keeps_either (Any {A = Option ℕ}) (λ x h. tt) true (more (Some (next_digit s c))) (all (Some (next_digit s c)) tt)
            | false ↦ omega arith
          ],
    ))
    (setting.limits.text + 1) number tt)
