-- Texts after their lengths, and messages after their first word.
use Rattle.std.proofs.Common.{◌≡◌, ℕ, ◌+◌, ◌-◌, ◌<◌, ◌≤◌, ◌^◌, List, [], ◌∷◌, ◌++◌, length, get_or, take, drop, refl, sym, ap, ◌∙◌, append_assoc, arith, length-append}
use Rattle.std.specs.Prelude.{replicate, Result, Ok, Err}
use Rattle.std.specs.Fmt.{decimal}
use Rattle.std.proofs.lemmas.List.{length-replicate, drop_at, drop_more, take-append-drop, length-take-le}
use Rattle.std.proofs.lemmas.Fmt.{decimal_injective}
use Rattle.std.specs.Borrow.{Bor}
use Rattle.message_frames.specs.declared.words.NotWhole.{NotWhole}
use Rattle.message_frames.specs.Frames.{sized_text}
use Rattle.message_frames.specs.Numbers.{number_word}
use Rattle.message_frames.specs.Reading.{IsMessage, found_text, message_bytes}
use Rattle.message_frames.specs.Words.{Begins, BeginsNone, IsPartOfWord, Reads}
use Rattle.message_frames.proofs.Digits.{decimal_has_digits, digits_end}
use Rattle.message_frames.proofs.Parts.{IsMade, both_begin, fault_in_tail}

-- a number ends in one place
pub numbers_end : (end most : ℕ) → end < 48 → most < 2 ^ 64 → (m n : ℕ) (a b : List ℕ) → m ≤ most → n ≤ most
    → number_word end m ++ a ≡ number_word end n ++ b → (m ≡ n) × (a ≡ b)
numbers_end end most low small m n a b within least e =
    let left : number_word end m ++ a ≡ decimal m ++ end ∷ a = append_assoc (decimal m) (end ∷ []) a in
    let right : number_word end n ++ b ≡ decimal n ++ end ∷ b = append_assoc (decimal n) (end ∷ []) b in
    let parts = digits_end (decimal m) (decimal n) a b end end (decimal_has_digits m (omega arith)) (decimal_has_digits n (omega arith))
    (λ digit. omega (arith, digit.0)) (λ digit. omega (arith, digit.0)) (sym left ∙ e ∙ right) in
    (decimal_injective m n (omega arith) (omega arith) parts.0, parts.2)

-- ---- so many bytes, and a newline

abbrev pub line : List ℕ → List ℕ
line text = text ++ 10 ∷ []

pub line_begins : (bytes : List ℕ) (count : ℕ) → count < length bytes → get_or bytes count 0 ≡ 10 → Begins line (λ text. length text ≡ count) (take count bytes) (drop (count + 1) bytes) bytes
line_begins bytes count within is = record {
  wanted = length-take-le count bytes (omega arith);
  parts = sym (take-append-drop count bytes) ∙ ap (λ z. take count bytes ++ z) (drop_more bytes count 0 within ∙ ap (λ z. z ∷ drop (count + 1) bytes) is)
      ∙ sym (append_assoc (take count bytes) (10 ∷ []) (drop (count + 1) bytes));
}

pub line_begins_none : (bytes : List ℕ) (count : ℕ) → count < length bytes → (get_or bytes count 0 ≡ 10 → ⊥) → BeginsNone line (λ text. length text ≡ count) bytes
line_begins_none bytes count within other text more rest long e =
    let left : drop count (bytes ++ more) ≡ get_or bytes count 0 ∷ (drop (count + 1) bytes ++ more) =
    ap (λ z. drop count (z ++ more)) (sym (take-append-drop count bytes))
    ∙ ap (drop count) (append_assoc (take count bytes) (drop count bytes) more)
    ∙ drop_at (take count bytes) (drop count bytes ++ more) count (length-take-le count bytes (omega arith))
    ∙ ap (λ z. z ++ more) (drop_more bytes count 0 within) in
    let right : drop count (line text ++ rest) ≡ 10 ∷ rest =
    ap (drop count) (append_assoc text (10 ∷ []) rest) ∙ drop_at text (10 ∷ rest) count long in
    let both : get_or bytes count 0 ∷ (drop (count + 1) bytes ++ more) ≡ 10 ∷ rest = sym left ∙ ap (drop count) e ∙ right in
    other (ap (λ z. get_or z 0 0) both)

pub line_is_part : (bytes : List ℕ) (count : ℕ) → length bytes ≤ count → IsPartOfWord line (λ text. length text ≡ count) bytes
line_is_part bytes count short =
    let rest = replicate (count - length bytes) 0 in
    record {
      x = bytes ++ rest;
      more = rest ++ 10 ∷ [];
      wanted = omega (arith, length-append bytes rest, length-replicate {A = ℕ} (count - length bytes) 0);
      parts = append_assoc bytes rest (10 ∷ []);
      some = omega (arith, length-append rest (10 ∷ []));
    }

-- ---- a text after its length

pub sized_is_made : (limit : ℕ) → limit < 2 ^ 64
    → IsMade (number_word 10) (λ n. n ≤ limit) line (λ n text. length text ≡ n) sized_text (λ text. length text ≤ limit)
sized_is_made limit small = record {
  first = length;
  second = λ text. text;
  parts = λ text. sym (append_assoc (decimal (length text)) (10 ∷ []) (line text));
  first_wanted = λ text within. within;
  second_wanted = λ text within. refl;
  made = λ n text. text;
  made_parts = λ n text least long. sym (append_assoc (decimal (length text)) (10 ∷ []) (line text)) ∙ ap (λ m. number_word 10 m ++ line text) long;
  made_wanted = λ n text least long. omega (arith, least, long);
  any = λ n. replicate n 0;
  any_wanted = λ n least. length-replicate n 0;
  ends = λ m n a b within least e. numbers_end 10 limit (omega arith) small m n a b within least e;
}

pub sized_goes_on : (limit : ℕ) → limit < 2 ^ 64 → (n : ℕ) (rest bytes : List ℕ) → Begins (number_word 10) (λ m. m ≤ limit) n rest bytes
    → (result : Result (Bor (List ℕ) × Bor (List ℕ)) NotWhole) → Reads line (λ text. length text ≡ n) rest (found_text result) → Reads sized_text (λ text. length text ≤ limit) bytes (found_text result)
unfolding sized_is_made
sized_goes_on limit small n rest bytes first (Ok found) second = both_begin (number_word 10) _ line _ sized_text _ (sized_is_made limit small) n found.0.now rest found.1.now bytes first second
sized_goes_on limit small n rest bytes first (Err fault) second = fault_in_tail (number_word 10) _ line _ sized_text _ (sized_is_made limit small) fault n rest bytes first second

-- ---- a message after its first word

pub message_is_made : (limit : ℕ)
    → IsMade (number_word 32) (λ n. n ≤ 2 ^ 64 - 1) sized_text (λ n text. length text ≤ limit) message_bytes (IsMessage limit)
message_is_made limit = record {
  first = λ message. message.0;
  second = λ message. message.1;
  parts = λ message. refl;
  first_wanted = λ message wanted. omega (arith, wanted.0);
  second_wanted = λ message wanted. wanted.1;
  made = λ n text. (n, text);
  made_parts = λ n text least long. refl;
  made_wanted = λ n text least long. (omega (arith, least), long);
  any = λ n. [];
  any_wanted = λ n least. omega arith;
  ends = λ m n a b within least e. numbers_end 32 (2 ^ 64 - 1) (omega arith) (omega arith) m n a b within least e;
}
