-- What holds of each of the 128 characters, by computing it of each.
use Rattle.std.proofs.Common.{◌≡◌, ℕ, ◌<◌, ◌≤◌, inl, inr, arith, Bool, true, false, not, ◌&&◌, ◌||◌, refl}
use Rattle.std.specs.Prelude.{◌==◌}
use Rattle.std.proofs.lemmas.Bool.{agree_below, agree_below_at, cases_lt, ne_eqb, both_ways, not-true}
use Rattle.std.proofs.lemmas.Grind.{common_steps}
use Rattle.readtable_core.specs.declared.characters.Syntax.{Syntax}
use Rattle.readtable_core.specs.declared.characters.Syntax.TheVariants.{Constituent}
use Rattle.readtable_core.specs.Characters.{standard_syntax, has_invalid_trait, upper_case}
use Rattle.token_scan.specs.Spelling.{is_plain_syntax, ends_tokens}
use Rattle.token_meaning.specs.Numerals.{is_digit_in}
use Rattle.token_meaning.specs.Numbers.{is_point, is_slash}
use Rattle.token_meaning.proofs.NumberFronts.{begins_number}
use Rattle.canon_printer.specs.Names.{begins_plain, goes_on_plain, is_escaped_in_bars}

abbrev pub is_constituent : Syntax → Bool
is_constituent Constituent = true
is_constituent _ = false

pub constituent_plain : (s : Syntax) → is_constituent s ≡ true → is_plain_syntax s ≡ true
constituent_plain Constituent e = refl
constituent_plain _ e = absurd cc

-- it is itself outside bars
abbrev pub is_bare : ℕ → Bool
is_bare c = is_constituent (standard_syntax c) && not (has_invalid_trait c)

-- and keeps its case
abbrev pub is_kept : ℕ → Bool
is_kept c = is_bare c && upper_case c == c

abbrev pub in_number : ℕ → Bool
in_number c = is_digit_in 10 c || (c == 45 || is_slash c)

implied : (a b : Bool) → (not a || b) ≡ true → a ≡ true → b ≡ true
implied true b e f = e
implied false b e f = absurd cc

always : ℕ → Bool
always c = true

abbrev pub implies : (ℕ → Bool) → (ℕ → Bool) → ℕ → Bool
implies p q c = not (p c) || q c

pub by_table : (p q : ℕ → Bool) → agree_below (implies p q) (λ c. true) 128 ≡ true → (c : ℕ) → c < 128 → p c ≡ true → q c ≡ true
by_table p q table c below e = implied (p c) (q c) (agree_below_at (implies p q) (λ c. true) 128 c table below) e

pub plain_kept : (c : ℕ) → c < 128 → goes_on_plain c ≡ true → (is_kept c && not (c == 58)) ≡ true
plain_kept = by_table goes_on_plain (λ c. is_kept c && not (c == 58)) refl

pub digit_kept : (c : ℕ) → c < 128 → in_number c ≡ true → is_kept c ≡ true
digit_kept = by_table in_number is_kept refl

pub no_number_begins : (c : ℕ) → c < 128 → begins_plain c ≡ true → not (begins_number c) ≡ true
no_number_begins = by_table begins_plain (λ c. not (begins_number c)) refl

pub kept_in_bars : (c : ℕ) → c < 128 → not (is_escaped_in_bars c) ≡ true → (is_plain_syntax (standard_syntax c) || ends_tokens (standard_syntax c)) ≡ true
kept_in_bars = by_table (λ c. not (is_escaped_in_bars c)) (λ c. is_plain_syntax (standard_syntax c) || ends_tokens (standard_syntax c)) refl

-- a digit, a minus sign and a slash are below 128, and no point
digit_below : (c : ℕ) → 128 ≤ c → is_digit_in 10 c ≡ false
digit_below c h = grind (arith, common_steps)

pub in_number_below : (c : ℕ) → in_number c ≡ true → c < 128
in_number_below c e =
    elim (cases_lt c 128) [
      | inl below ↦ below
      | inr past ↦
          let no_minus : (c == 45) ≡ false = ne_eqb c 45 (λ f. omega arith) in
          let no_slash : is_slash c ≡ false = ne_eqb c 47 (λ f. omega arith) in
          absurd (both_ways (in_number c) (rw (digit_below c past, no_minus, no_slash) refl) e)
    ]

pub number_no_point : (c : ℕ) → in_number c ≡ true → is_point c ≡ false
number_no_point c e = not-true _ (by_table in_number (λ d. not (is_point d)) refl c (in_number_below c e) e)
