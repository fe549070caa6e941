-- Bits that come in are added to the register first, and then it takes its steps.
use Rattle.std.proofs.Common.{◌≡◌, ◌≢◌, ℕ, zero, suc, ◌+◌, ◌*◌, ◌/◌, ◌%◌, ◌^◌, ◌<◌, ◌≤◌, List, [], ◌∷◌, ◌++◌, length, bit_xor, refl, sym, ap, ap₂, subst, ◌∙◌, arith, pow-suc, pow_mono, lt_of_lt_of_le}
use Rattle.std.specs.List.{AllByRecursion}
use Rattle.std.specs.Int.Bits.{xor_self, xor_zero_r, xor_assoc}
use Rattle.std.proofs.lemmas.List.Concat.{flat_map-append}
use Rattle.std.proofs.lemmas.Nat.{xor_block, xor_lt}
use Rattle.crc32c.specs.Burst.{IsBurst}
use Rattle.crc32c.specs.Register.{register_after_bit, after_bits, bits, text_bits, all_ones, sum_after, crc32c}
use Rattle.crc32c.proofs.Steps.{same_of_none, xor_common, xor_swap, xor_twice, shifted-xor, shifted_even, shifted_lt, steps, steps_same}

-- ---- the number of some bits

unfoldable pub value : List ℕ → ℕ
value [] = 0
value (bit ∷ more) = bit_xor bit (value more * 2)

abbrev pub AreBits : List ℕ → Type 0
AreBits list = AllByRecursion (λ bit. bit < 2) list

-- a bit before others is the lowest
lower : (bit : ℕ) → bit ≡ 0 * 2 ^ 1 + bit
lower bit = omega arith

upper : (v : ℕ) → v * 2 ≡ v * 2 ^ 1 + 0
upper v = omega arith

first_bit : (bit v : ℕ) → bit < 2 → bit_xor bit (v * 2) ≡ v * 2 + bit
first_bit bit v is_bit =
    ap₂ bit_xor (lower bit) (upper v)
    ∙ xor_block 1 0 v bit 0 is_bit (omega arith)
    ∙ ap (λ (x : ℕ). v * 2 + x) (xor_zero_r bit)

pub value_lt : (list : List ℕ) → AreBits list → value list < 2 ^ length list
unfolding value
value_lt [] are = omega arith
value_lt (bit ∷ more) are = omega (arith, first_bit bit (value more) are.0, value_lt more are.1, pow-suc 2 (length more), are.0)

pub value_same : (some others : List ℕ) → length some ≡ length others → AreBits some → AreBits others → value some ≡ value others → some ≡ others
unfolding value
value_same [] [] as_long are those same = refl
value_same [] (bit ∷ more) as_long are those same = absurd (omega (arith, as_long))
value_same (bit ∷ more) [] as_long are those same = absurd (omega (arith, as_long))
value_same (bit ∷ more) (other ∷ rest) as_long are those same =
    let first = first_bit bit (value more) are.0 in
    let second = first_bit other (value rest) those.0 in
    let bit_same : bit ≡ other = omega (arith, first, second, same, are.0, those.0) in
    let more_same : value more ≡ value rest = omega (arith, first, second, same, are.0, those.0) in
    ap₂ (λ (x : ℕ) (l : List ℕ). x ∷ l) bit_same (value_same more rest (omega (arith, as_long)) are.1 those.1 more_same)

-- ---- bits that come in

pub gathered : (r : ℕ) (list : List ℕ) → after_bits r list ≡ steps (length list) (bit_xor r (value list))
unfolding value after_bits steps
gathered r [] = sym (xor_zero_r r)
gathered r (bit ∷ more) =
    gathered (register_after_bit (bit_xor r bit)) more
    ∙ ap (steps (length more)) (sym (
    ap register_after_bit (sym (xor_assoc r bit (value more * 2)))
    ∙ shifted-xor (bit_xor r bit) (value more * 2)
    ∙ ap (bit_xor (register_after_bit (bit_xor r bit))) (shifted_even (value more))))

pub after_bits-append : (r : ℕ) (some more : List ℕ) → after_bits r (some ++ more) ≡ after_bits (after_bits r some) more
unfolding after_bits
after_bits-append r [] more = refl
after_bits-append r (bit ∷ some) more = after_bits-append (register_after_bit (bit_xor r bit)) some more

-- ---- the bits of numbers and of texts

pub length-bits : (count n : ℕ) → length (bits count n) ≡ count
unfolding bits
length-bits zero n = refl
length-bits (suc count) n = ap suc (length-bits count (n / 2))

are-bits : (count n : ℕ) → AreBits (bits count n)
unfolding bits
are-bits zero n = tt
are-bits (suc count) n = (omega arith, are-bits count (n / 2))

pub value-bits : (count n : ℕ) → n < 2 ^ count → value (bits count n) ≡ n
unfolding value bits
value-bits zero n fits = omega (arith, fits)
value-bits (suc count) n fits =
    ap (λ (x : ℕ). bit_xor (n % 2) (x * 2)) (value-bits count (n / 2) (omega (arith, fits, pow-suc 2 count)))
    ∙ first_bit (n % 2) (n / 2) (omega arith)
    ∙ (omega arith)

joined_bits : (some more : List ℕ) → AreBits some → AreBits more → AreBits (some ++ more)
joined_bits [] more are those = those
joined_bits (bit ∷ some) more are those = (are.0, joined_bits some more are.1 those)

text_are_bits : (text : List ℕ) → AreBits (text_bits text)
text_are_bits [] = tt
text_are_bits (byte ∷ text) = joined_bits (bits 8 byte) (text_bits text) (are-bits 8 byte) (text_are_bits text)

first_bits : (some more : List ℕ) → AreBits (some ++ more) → AreBits some
first_bits [] more are = tt
first_bits (bit ∷ some) more are = (are.0, first_bits some more are.1)

last_bits : (some more : List ℕ) → AreBits (some ++ more) → AreBits more
last_bits [] more are = are
last_bits (bit ∷ some) more are = last_bits some more are.1

-- the bits in the middle of a text
middle_bits : (text front middle behind : List ℕ) → text_bits text ≡ front ++ middle ++ behind → AreBits middle
middle_bits text front middle behind parts =
    last_bits front middle (first_bits (front ++ middle) behind (subst AreBits parts (text_are_bits text)))

-- ---- the register stays below 2 ^ 32

pub after_bits_lt : (r : ℕ) (list : List ℕ) → r < 2 ^ 32 → AreBits list → after_bits r list < 2 ^ 32
unfolding after_bits
after_bits_lt r [] fits are = fits
after_bits_lt r (bit ∷ more) fits are =
    after_bits_lt (register_after_bit (bit_xor r bit)) more (shifted_lt (bit_xor r bit) (xor_lt 32 r bit fits (omega (arith, are.0)))) are.1

pub sum_fits : (text : List ℕ) → crc32c text < 2 ^ 32
sum_fits text =
    xor_lt 32 (after_bits (bit_xor 0 all_ones) (text_bits text)) all_ones
    (after_bits_lt (bit_xor 0 all_ones) (text_bits text) (omega arith) (text_are_bits text)) (omega arith)

-- ---- texts that differ

xor_last : (r s v : ℕ) → bit_xor (bit_xor r v) (bit_xor s v) ≡ bit_xor r s
xor_last r s v = xor_swap r v s v ∙ ap (bit_xor (bit_xor r s)) (xor_self v) ∙ xor_zero_r (bit_xor r s)

value_fits : (list : List ℕ) → AreBits list → length list ≤ 32 → value list < 2 ^ 32
value_fits list are within = lt_of_lt_of_le (value_lt list are) (pow_mono within)

-- bits in three parts
in_three : (r : ℕ) (front middle behind all : List ℕ) → all ≡ front ++ middle ++ behind → after_bits r all ≡ after_bits (after_bits (after_bits r front) middle) behind
in_three r front middle behind all parts =
    ap (after_bits r) parts
    ∙ after_bits-append r (front ++ middle) behind
    ∙ ap (λ (x : ℕ). after_bits x behind) (after_bits-append r front middle)

-- the same bits after two registers that differ
same_before : (r s : ℕ) (list : List ℕ) → r < 2 ^ 32 → s < 2 ^ 32 → after_bits r list ≡ after_bits s list → r ≡ s
same_before r s list r_fits s_fits same =
    let v = value list in
    let shifted_same : bit_xor r v ≡ bit_xor s v = steps_same (length list) (bit_xor r v) (bit_xor s v)
    (subst (λ (x : ℕ). x < 2 ^ 32) (sym (xor_last r s v)) (xor_lt 32 r s r_fits s_fits))
    (sym (gathered r list) ∙ same ∙ gathered s list) in
    sym (xor_twice r v) ∙ ap (λ (x : ℕ). bit_xor x v) shifted_same ∙ xor_twice s v

-- at most 32 bits after the same register
same_bits : (r : ℕ) (some others : List ℕ) → length some ≡ length others → length others ≤ 32 → AreBits some → AreBits others → after_bits r some ≡ after_bits r others → some ≡ others
same_bits r some others as_long within are those same =
    let v = value some in
    let w = value others in
    let v_fits : v < 2 ^ 32 = value_fits some are (omega (arith, as_long, within)) in
    let w_fits : w < 2 ^ 32 = value_fits others those within in
    let ran : steps (length others) (bit_xor r v) ≡ steps (length others) (bit_xor r w) =
    ap (λ (n : ℕ). steps n (bit_xor r v)) (sym as_long) ∙ sym (gathered r some) ∙ same ∙ gathered r others in
    let alike : bit_xor r v ≡ bit_xor r w = steps_same (length others) (bit_xor r v) (bit_xor r w)
    (subst (λ (x : ℕ). x < 2 ^ 32) (sym (xor_common r v w)) (xor_lt 32 v w v_fits w_fits)) ran in
    value_same some others as_long are those
    (same_of_none v w (sym (xor_common r v w) ∙ ap (λ (x : ℕ). bit_xor x (bit_xor r w)) alike ∙ xor_self (bit_xor r w)))

pub burst_changes_sum : (text other : List ℕ) → IsBurst 32 text other → crc32c other ≢ crc32c text
burst_changes_sum text other burst same =
    let r0 = bit_xor 0 all_ones in
    let r = after_bits r0 burst.front in
    let was_bits = middle_bits text burst.front burst.was burst.behind burst.of_text in
    let is_bits = middle_bits other burst.front burst.is burst.behind burst.of_other in
    let front_bits = first_bits burst.front (burst.was) (first_bits (burst.front ++ burst.was) burst.behind (subst AreBits burst.of_text (text_are_bits text))) in
    let r_fits : r < 2 ^ 32 = after_bits_lt r0 burst.front (omega arith) front_bits in
    let registers : after_bits r0 (text_bits other) ≡ after_bits r0 (text_bits text) =
    sym (xor_twice (after_bits r0 (text_bits other)) all_ones) ∙ ap (λ (x : ℕ). bit_xor x all_ones) same ∙ xor_twice (after_bits r0 (text_bits text)) all_ones in
    let parted : after_bits (after_bits r burst.is) burst.behind ≡ after_bits (after_bits r burst.was) burst.behind =
    sym (in_three r0 burst.front burst.is burst.behind (text_bits other) burst.of_other) ∙ registers ∙ in_three r0 burst.front burst.was burst.behind (text_bits text) burst.of_text in
    burst.differ (same_bits r burst.is burst.was burst.as_long burst.within is_bits was_bits
    (same_before (after_bits r burst.is) (after_bits r burst.was) burst.behind (after_bits_lt r burst.is r_fits is_bits) (after_bits_lt r burst.was r_fits was_bits) parted))

-- ---- a text that comes in pieces

pub text_bits-append : (some more : List ℕ) → text_bits (some ++ more) ≡ text_bits some ++ text_bits more
text_bits-append some more = flat_map-append (bits 8) some more

pub pieces : (before more : List ℕ) → sum_after (crc32c before) more ≡ crc32c (before ++ more)
pieces before more =
    let r0 = bit_xor 0 all_ones in
    ap (λ (r : ℕ). bit_xor (after_bits r (text_bits more)) all_ones) (xor_twice (after_bits r0 (text_bits before)) all_ones)
    ∙ ap (λ (r : ℕ). bit_xor r all_ones) (sym (ap (after_bits r0) (text_bits-append before more) ∙ after_bits-append r0 (text_bits before) (text_bits more)))
