-- A write that was made in pieces is torn as one in whole.
use Rattle.std.proofs.Common.{◌≡◌, inl, inr, ⊎_elim, Bool, true, false, ℕ, zero, suc, ◌+◌, ◌≤◌, List, [], ◌∷◌, ◌++◌, length, take, drop, refl, sym, ap, subst, ◌∙◌, arith, append-nil, append_assoc, length-append, length-take, length-drop}
use Rattle.std.proofs.lemmas.List.{drop-drop, drop_all, drop_at, take_all, take_at, take-append-drop}
use Rattle.std.proofs.lemmas.Bool.{cases_lt}
use Rattle.disk_trait.specs.Disk.{Image, AreBytes, HoldsBytes, OnHalf, Partly, Torn, file_of, written}
use Rattle.disk_trait.specs.declared.half.Half.{Half}
use Rattle.disk_trait.specs.declared.half.Half.TheVariants.{A, B}
use Rattle.deferred_disk.specs.MixedWrites.{both_in_place, none_in_place}
use Rattle.deferred_disk.specs.State.{PartOfWrite, with_file}

-- ---- bytes in lists

-- they are bytes, where a write may tear: then a part of it that is undone is bytes too
abbrev pub BytesIfTorn : (mixes : Bool) → List ℕ → Type 0
BytesIfTorn false file = AreBytes file
BytesIfTorn true file = Unit {0}

bytes_taken : (n : ℕ) (bytes : List ℕ) → AreBytes bytes → AreBytes (take n bytes)
bytes_taken zero bytes are = tt
bytes_taken (suc n) [] are = tt
bytes_taken (suc n) (b ∷ bs) are = (are.0, bytes_taken n bs are.1)

bytes_dropped : (n : ℕ) (bytes : List ℕ) → AreBytes bytes → AreBytes (drop n bytes)
bytes_dropped zero bytes are = are
bytes_dropped (suc n) [] are = tt
bytes_dropped (suc n) (b ∷ bs) are = bytes_dropped n bs are.1

bytes_joined : (xs ys : List ℕ) → AreBytes xs → AreBytes ys → AreBytes (xs ++ ys)
bytes_joined [] ys first second = second
bytes_joined (x ∷ xs) ys first second = (first.0, bytes_joined xs ys first.1 second)

bytes_torn : (at n : ℕ) (old new : List ℕ) → Torn at n old new → AreBytes old → AreBytes new
bytes_torn at n old new torn are =
    subst AreBytes (sym torn.parts)
    (bytes_joined (take at old ++ torn.middle) (drop (at + n) old) (bytes_joined (take at old) torn.middle (bytes_taken at old are) torn.bytes) (bytes_dropped (at + n) old are))

-- ---- a file with a middle of its own

module _ (at n : ℕ) (old middle mid : List ℕ) (parts : mid ≡ take at old ++ middle ++ drop (at + n) old) (size : at + n ≤ length old → length middle ≡ n) (most : length old ≤ at + n → length (take at old) + length middle ≤ at + n) where
  -- where the old file ends before the middle does, the new one ends with it
  ends : length old ≤ at + n → mid ≡ take at old ++ middle
  ends past = parts ∙ ap (λ (l : List ℕ). take at old ++ middle ++ l) (drop_all (at + n) old past) ∙ append-nil (take at old ++ middle)

  fits : length old ≤ at + n → length mid ≤ at + n
  fits past = omega (arith, ap (λ (l : List ℕ). length l) (ends past), length-append (take at old) middle, most past)

  place : at + n ≤ length old → length (take at old ++ middle) ≡ at + n
  place within = omega (arith, length-append (take at old) middle, length-take at old, size within, within)

  pub front_of : take (at + n) mid ≡ take at old ++ middle
  front_of =
      elim (cases_lt (length old) (at + n)) [
        | inl past ↦ take_all (at + n) mid (fits (omega (arith, past))) ∙ ends (omega (arith, past))
        | inr within ↦ ap (take (at + n)) parts ∙ take_at (take at old ++ middle) (drop (at + n) old) (at + n) (place within)
      ]

  pub behind_of : (m : ℕ) → drop (at + n + m) mid ≡ drop (at + n + m) old
  behind_of m =
      elim (cases_lt (length old) (at + n)) [
        | inl past ↦ drop_all (at + n + m) mid (omega (arith, fits (omega (arith, past)))) ∙ sym (drop_all (at + n + m) old (omega (arith, past)))
        | inr within ↦
            sym (drop-drop m (at + n) mid)
            ∙ ap (drop m) (ap (drop (at + n)) parts ∙ drop_at (take at old ++ middle) (drop (at + n) old) (at + n) (place within))
            ∙ drop-drop m (at + n) old
      ]

-- ---- two pieces, the second one behind the first

pub torn_both : (at n m : ℕ) (old mid new : List ℕ) → Torn at n old mid → Torn (at + n) m mid new → Torn at (n + m) old new
torn_both at n m old mid new first second =
    let size : at + n ≤ length old → length first.middle ≡ n = λ within. omega (arith, within, whole, first.no_shorter, first.no_longer, length-take at old, length-drop (at + n) old) in
    let most : length old ≤ at + n → length (take at old) + length first.middle ≤ at + n = λ past. omega (arith, past, whole, first.no_longer) in
    let sum : at + n + m ≡ at + (n + m) = omega arith in
    record {
      middle = first.middle ++ second.middle;
      bytes = bytes_joined first.middle second.middle first.bytes second.bytes;
      parts = second.parts
          ∙ ap (λ (l : List ℕ). l ++ second.middle ++ drop (at + n + m) mid) (front_of at n old first.middle mid first.parts size most)
          ∙ ap (λ (l : List ℕ). take at old ++ first.middle ++ second.middle ++ l) (behind_of at n old first.middle mid first.parts size most m)
          ∙ ap (λ (l : List ℕ). l ++ drop (at + n + m) old) (append_assoc (take at old) first.middle second.middle)
          ∙ ap (λ (k : ℕ). take at old ++ (first.middle ++ second.middle) ++ drop k old) sum;
      no_shorter = omega (arith, first.no_shorter, second.no_shorter);
      no_longer = omega (arith, first.no_longer, second.no_longer);
    }
  where
    whole : length mid ≡ length (take at old) + length first.middle + length (drop (at + n) old)
    whole =
        ap (λ (l : List ℕ). length l) first.parts ∙ length-append (take at old ++ first.middle) (drop (at + n) old)
        ∙ ap (λ (k : ℕ). k + length (drop (at + n) old)) (length-append (take at old) first.middle)

-- nothing of it is done
pub torn_none : (at n : ℕ) (file : List ℕ) → AreBytes file → Torn at n file file
torn_none at n file are = record {
  middle = take n (drop at file);
  bytes = bytes_taken n (drop at file) (bytes_dropped at file are);
  parts = sym (append_assoc (take at file) (take n (drop at file)) (drop (at + n) file)
      ∙ ap (λ (l : List ℕ). take at file ++ (take n (drop at file) ++ l)) (sym (drop-drop n at file))
      ∙ ap (λ (l : List ℕ). take at file ++ l) (take-append-drop n (drop at file)) ∙ take-append-drop at file);
  no_shorter = omega arith;
  no_longer = omega arith;
}

pub written_both : (at : ℕ) (first second file : List ℕ) → written (at + length first) second (written at first file) ≡ written at (first ++ second) file
written_both at first second file =
    let n = length first in
    let mid = written at first file in
    let size : at + n ≤ length file → length first ≡ n = λ within. refl in
    let most : length file ≤ at + n → length (take at file) + length first ≤ at + n = λ past. omega (arith, length-take at file) in
    let sum : at + n + length second ≡ at + length (first ++ second) = omega (arith, length-append first second) in
    ap (λ (l : List ℕ). l ++ second ++ drop (at + n + length second) mid) (front_of at n file first mid refl size most)
    ∙ ap (λ (l : List ℕ). take at file ++ first ++ second ++ l) (behind_of at n file first mid refl size most (length second))
    ∙ ap (λ (l : List ℕ). l ++ drop (at + n + length second) file) (append_assoc (take at file) first second)
    ∙ ap (λ (k : ℕ). take at file ++ (first ++ second) ++ drop k file) sum

pub written_none : (at : ℕ) (file : List ℕ) → written at [] file ≡ file
written_none at file = ap (λ (l : List ℕ). l ++ drop (at + 0) file) (append-nil (take at file)) ∙ (let e : at + 0 ≡ at = omega arith in ap (λ (k : ℕ). take at file ++ drop k file) e) ∙ take-append-drop at file

-- ---- a write that tears or mixes

part_none : (mixes : Bool) (at : ℕ) (bytes file : List ℕ) → BytesIfTorn mixes file → PartOfWrite mixes at bytes file file
part_none false at bytes file are = torn_none at (length bytes) file are
part_none true at bytes file are = none_in_place at bytes file

part_both : (mixes : Bool) (at : ℕ) (first second old mid new : List ℕ) → PartOfWrite mixes at first old mid → PartOfWrite mixes (at + length first) second mid new
    → PartOfWrite mixes at (first ++ second) old new
part_both false at first second old mid new one two =
    subst (λ (n : ℕ). Torn at n old new) (sym (length-append first second)) (torn_both at (length first) (length second) old mid new one two)
part_both true at first second old mid new one two = both_in_place at first second old mid new one two

part_bytes : (mixes : Bool) (at : ℕ) (bytes old new : List ℕ) → PartOfWrite mixes at bytes old new → BytesIfTorn mixes old → BytesIfTorn mixes new
part_bytes false at bytes old new torn are = bytes_torn at (length bytes) old new torn are
part_bytes true at bytes old new mixed are = tt

-- ---- on a half of two files

-- both hold bytes, where a write may tear
abbrev pub HoldsIfTorn : (mixes : Bool) → Image → Type 0
HoldsIfTorn mixes image = BytesIfTorn mixes image.a × BytesIfTorn mixes image.b

pub holds_if_torn : (mixes : Bool) (image : Image) → HoldsBytes image → HoldsIfTorn mixes image
holds_if_torn false image holds = holds
holds_if_torn true image holds = (tt, tt)

pub half_bytes : (mixes : Bool) (half : Half) (at : ℕ) (bytes : List ℕ) (old new : Image) → OnHalf half (PartOfWrite mixes at bytes) old new → HoldsIfTorn mixes old → HoldsIfTorn mixes new
half_bytes mixes A at bytes old new taken holds = (part_bytes mixes at bytes old.a new.a taken.changed holds.0, subst (BytesIfTorn mixes) (sym taken.other) holds.1)
half_bytes mixes B at bytes old new taken holds = (subst (BytesIfTorn mixes) (sym taken.other) holds.0, part_bytes mixes at bytes old.b new.b taken.changed holds.1)

pub half_none : (mixes : Bool) (half : Half) (at : ℕ) (bytes : List ℕ) (image : Image) → HoldsIfTorn mixes image → OnHalf half (PartOfWrite mixes at bytes) image image
half_none mixes A at bytes image holds = record { changed = part_none mixes at bytes image.a holds.0; other = refl }
half_none mixes B at bytes image holds = record { changed = part_none mixes at bytes image.b holds.1; other = refl }

pub half_both : (mixes : Bool) (half : Half) (at : ℕ) (first second : List ℕ) (old mid new : Image) → OnHalf half (PartOfWrite mixes at first) old mid
    → OnHalf half (PartOfWrite mixes (at + length first) second) mid new → OnHalf half (PartOfWrite mixes at (first ++ second)) old new
half_both mixes half at first second old mid new one two = record {
  changed = part_both mixes at first second (file_of half old) (file_of half mid) (file_of half new) one.changed two.changed;
  other = two.other ∙ one.other;
}

-- undone or in part, it is in part
pub half_partly : (mixes : Bool) (half : Half) (at : ℕ) (bytes : List ℕ) (old new : Image) → HoldsIfTorn mixes old → Partly (OnHalf half (PartOfWrite mixes at bytes)) old new
    → OnHalf half (PartOfWrite mixes at bytes) old new
half_partly mixes half at bytes old new holds partly =
    ⊎_elim (λ same. subst (λ (i : Image). OnHalf half (PartOfWrite mixes at bytes) old i) (sym same) (half_none mixes half at bytes old holds)) (λ part. part) partly

-- ---- a file put in place

pub put_same : (half : Half) (image : Image) → with_file half (file_of half image) image ≡ image
put_same A image = refl
put_same B image = refl

pub put_twice : (half : Half) (first second : List ℕ) (image : Image) → with_file half second (with_file half first image) ≡ with_file half second image
put_twice A first second image = refl
put_twice B first second image = refl
