-- The bytes of a client's name.
--     name_ascii, name_short      they are below 128, and 100 at most
use Rattle.std.proofs.Common.{◌≡◌, ℕ, ◌<◌, ◌≤◌, ◌==◌, nat_le, Bool, true, false, ◌&&◌, ◌||◌, List, [], ◌∷◌, length, refl, sym, ◌∙◌, inl, inr, arith}
use Rattle.std.specs.Prelude.{All}
use Rattle.std.specs.List.{list_all}
use Rattle.std.proofs.lemmas.Bool.{and_parts, cases_lt, false≢true, leb-true, lt-leb, ne_eqb}
use Rattle.std.proofs.lemmas.List.Elements.{All-cons, All-nil}
use Rattle.client_table.specs.Names.{is_client_name, is_name_byte}
use Rattle.world_text.proofs.Spelling.{IsAscii}

no_test : (a b c : Bool) → ((a && false) || (b && false) || (c && false) || false || false || false) ≡ false
no_test false false false = refl
no_test false false true = refl
no_test false true false = refl
no_test false true true = refl
no_test true false false = refl
no_test true false true = refl
no_test true true false = refl
no_test true true true = refl

under : (c n : ℕ) → 128 ≤ c → n < 128 → nat_le c n ≡ false
under c n over less = lt-leb c n (omega (arith, over, less))

apart : (c n : ℕ) → 128 ≤ c → n < 128 → (c == n) ≡ false
apart c n over less = ne_eqb c n (λ same. absurd (omega (arith, over, less, same)))

over_none : (c : ℕ) → 128 ≤ c → is_name_byte c ≡ false
over_none c over =
    let digit : nat_le c 57 ≡ false = under c 57 over (omega arith) in
    let capital : nat_le c 90 ≡ false = under c 90 over (omega arith) in
    let letter : nat_le c 122 ≡ false = under c 122 over (omega arith) in
    let hyphen : (c == 45) ≡ false = apart c 45 over (omega arith) in
    let dot : (c == 46) ≡ false = apart c 46 over (omega arith) in
    let underscore : (c == 95) ≡ false = apart c 95 over (omega arith) in
    (λ i. (nat_le 48 c && digit i) || (nat_le 65 c && capital i) || (nat_le 97 c && letter i) || hyphen i || dot i || underscore i)
    ∙ no_test (nat_le 48 c) (nat_le 65 c) (nat_le 97 c)

byte_ascii : (c : ℕ) → is_name_byte c ≡ true → c < 128
byte_ascii c is = elim (cases_lt c 128) [
  | inl less ↦ less
  | inr over ↦ absurd (false≢true (sym (over_none c over) ∙ is))
]

bytes_ascii : (cs : List ℕ) → list_all is_name_byte cs ≡ true → All (λ (c : ℕ). c < 128) cs
bytes_ascii [] all = All-nil (λ (c : ℕ). c < 128)
bytes_ascii (c ∷ cs) all =
    let parts = and_parts (is_name_byte c) (list_all is_name_byte cs) all in
    All-cons (λ (c : ℕ). c < 128) c cs (byte_ascii c parts.0) (bytes_ascii cs parts.1)

pub name_ascii : (name : List ℕ) → is_client_name name ≡ true → IsAscii name
name_ascii name named = bytes_ascii name (and_parts (nat_le 1 (length name) && nat_le (length name) 100) (list_all is_name_byte name) named).1

pub name_short : (name : List ℕ) → is_client_name name ≡ true → length name ≤ 100
name_short name named =
    let sizes = and_parts (nat_le 1 (length name) && nat_le (length name) 100) (list_all is_name_byte name) named in
    leb-true (length name) 100 (and_parts (nat_le 1 (length name)) (nat_le (length name) 100) sizes.0).1
