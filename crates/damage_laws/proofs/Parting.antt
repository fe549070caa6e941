-- Where the byte stands in which two files differ.
use Rattle.std.proofs.Common.{◌≡◌, ◌≢◌, ◌⊎◌, inl, inr, ℕ, ◌+◌, ◌<◌, List, [], ◌∷◌, ◌++◌, length, refl, sym, ◌∙◌, ap, arith, append_assoc}
use Rattle.std.proofs.lemmas.List.Concat.{flat_map-append}
use Rattle.crc32c.specs.Register.{bits, text_bits, crc32c}
use Rattle.crc32c.proofs.Bits.{burst_changes_sum, length-bits, value, value-bits}
use Rattle.batch_bytes.proofs.Records.{same_pieces}
use Rattle.damage_laws.specs.Damage.{DifferInOneByte}

abbrev first_of : List ℕ → ℕ
first_of [] = 0
first_of (x ∷ xs) = x

abbrev rest_of : List ℕ → List ℕ
rest_of [] = []
rest_of (x ∷ xs) = xs

-- ---- one byte that became another one

pub record IsOtherByte (was is : ℕ) : Type 0 where
  pub was_byte : was < 256
  pub is_byte : is < 256
  pub differ : is ≢ was

pub byte_here : (x y : ℕ) (xs ys : List ℕ) → IsOtherByte x y → xs ≡ ys → DifferInOneByte (x ∷ xs) (y ∷ ys)
byte_here x y xs ys other same = record {
  front = [];
  was = x;
  is = y;
  behind = xs;
  of_file = refl;
  of_other = ap (λ (l : List ℕ). y ∷ l) (sym same);
  was_byte = other.was_byte;
  is_byte = other.is_byte;
  differ = other.differ;
}

pub byte_later : (x y : ℕ) (xs ys : List ℕ) → x ≡ y → DifferInOneByte xs ys → DifferInOneByte (x ∷ xs) (y ∷ ys)
byte_later x y xs ys same d = record {
  front = x ∷ d.front;
  was = d.was;
  is = d.is;
  behind = d.behind;
  of_file = ap (λ (l : List ℕ). x ∷ l) d.of_file;
  of_other = ap (λ (n : ℕ). n ∷ ys) (sym same) ∙ ap (λ (l : List ℕ). x ∷ l) d.of_other;
  was_byte = d.was_byte;
  is_byte = d.is_byte;
  differ = d.differ;
}

-- it is the same byte, so many bytes later
pub record IsPast {file other left right : List ℕ} (count : ℕ) (d : DifferInOneByte file other) (later : DifferInOneByte left right) : Type 0 where
  pub at : length d.front ≡ count + length later.front
  pub was_is : d.was ≡ later.was

-- it stands in what is left and right of so many bytes that are the same
abbrev pub DiffersPast : {file other : List ℕ} → ℕ → DifferInOneByte file other → List ℕ → List ℕ → Type 0
DiffersPast count d left right = (later : DifferInOneByte left right) × IsPast count d later

-- it is the first one, or stands behind it
pub first_or_later : (x y : ℕ) (xs ys : List ℕ) (d : DifferInOneByte (x ∷ xs) (y ∷ ys)) → (IsOtherByte x y × (xs ≡ ys)) ⊎ ((x ≡ y) × DiffersPast 1 d xs ys)
first_or_later x y xs ys d = go d.front refl d.of_file d.of_other
  where
    go : (front : List ℕ) → d.front ≡ front → x ∷ xs ≡ front ++ d.was ∷ d.behind → y ∷ ys ≡ front ++ d.is ∷ d.behind → (IsOtherByte x y × (xs ≡ ys)) ⊎ ((x ≡ y) × DiffersPast 1 d xs ys)
    go [] is_front file other =
        let was : x ≡ d.was = ap first_of file in
        let is : y ≡ d.is = ap first_of other in
        inl (
          record {
            was_byte = omega (arith, was, d.was_byte);
            is_byte = omega (arith, is, d.is_byte);
            differ = λ same. d.differ (sym is ∙ same ∙ was);
          },
          ap rest_of file ∙ sym (ap rest_of other),
        )
    go (f ∷ front) is_front file other =
        inr (
          ap first_of file ∙ sym (ap first_of other),
          (
            record {
              front = front;
              was = d.was;
              is = d.is;
              behind = d.behind;
              of_file = ap rest_of file;
              of_other = ap rest_of other;
              was_byte = d.was_byte;
              is_byte = d.is_byte;
              differ = d.differ;
            },
            record { at = omega (arith, ap length is_front); was_is = refl },
          ),
        )

-- ---- of two parts it stands in one

pub parted : (xs ys left right : List ℕ) → length xs ≡ length ys → (d : DifferInOneByte (xs ++ left) (ys ++ right)) → (DifferInOneByte xs ys × (left ≡ right)) ⊎ ((xs ≡ ys) × DiffersPast (length xs) d left right)
parted [] [] left right long d = inr (refl, (d, record { at = omega arith; was_is = refl }))
parted [] (y ∷ ys) left right long d = absurd (omega (arith, long))
parted (x ∷ xs) [] left right long d = absurd (omega (arith, long))
parted (x ∷ xs) (y ∷ ys) left right long d = elim (first_or_later x y (xs ++ left) (ys ++ right) d) [
  | inl here ↦
      let rest = same_pieces xs ys left right (omega (arith, long)) here.1 in
      inl (byte_here x y xs ys here.0 rest.0, rest.1)
  | inr later ↦ elim (parted xs ys left right (omega (arith, long)) later.1.0) [
    | inl before ↦ inl (byte_later x y xs ys later.0 before.0, before.1)
    | inr behind ↦
        let past = behind.1.1 in
        inr (
          ap (λ (n : ℕ). n ∷ xs) later.0 ∙ ap (λ (l : List ℕ). y ∷ l) behind.0,
          (behind.1.0, record { at = omega (arith, later.1.1.at, past.at); was_is = later.1.1.was_is ∙ past.was_is }),
        )
  ]
]

-- the same files, written otherwise
abbrev pub moved : (file file2 other other2 : List ℕ) → file ≡ file2 → other ≡ other2 → DifferInOneByte file other → DifferInOneByte file2 other2
moved file file2 other other2 same same2 d = record {
  front = d.front;
  was = d.was;
  is = d.is;
  behind = d.behind;
  of_file = sym same ∙ d.of_file;
  of_other = sym same2 ∙ d.of_other;
  was_byte = d.was_byte;
  is_byte = d.is_byte;
  differ = d.differ;
}

-- a file differs from itself in no byte
pub not_itself : (file other : List ℕ) → file ≡ other → DifferInOneByte file other → ⊥
not_itself file other same d =
    d.differ (ap first_of (same_pieces d.front d.front (d.is ∷ d.behind) (d.was ∷ d.behind) refl (sym d.of_other ∙ sym same ∙ d.of_file)).1)

-- ---- its sum

bits_parted : (front : List ℕ) (byte : ℕ) (behind : List ℕ) → text_bits (front ++ byte ∷ behind) ≡ text_bits front ++ bits 8 byte ++ text_bits behind
bits_parted front byte behind =
    flat_map-append (bits 8) front (byte ∷ behind) ∙ sym (append_assoc (text_bits front) (bits 8 byte) (text_bits behind))

pub sum_changes : (text other : List ℕ) → DifferInOneByte text other → crc32c other ≢ crc32c text
sum_changes text other d =
    burst_changes_sum text other (record {
      front = text_bits d.front;
      was = bits 8 d.was;
      is = bits 8 d.is;
      behind = text_bits d.behind;
      of_text = ap text_bits d.of_file ∙ bits_parted d.front d.was d.behind;
      of_other = ap text_bits d.of_other ∙ bits_parted d.front d.is d.behind;
      as_long = length-bits 8 d.is ∙ sym (length-bits 8 d.was);
      within = omega (arith, length-bits 8 d.was);
      differ = λ same. d.differ (sym (value-bits 8 d.is (omega (arith, d.is_byte))) ∙ ap value same ∙ value-bits 8 d.was (omega (arith, d.was_byte)));
    })
