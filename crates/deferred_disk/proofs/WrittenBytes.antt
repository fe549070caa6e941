-- What is kept of a file, where the file is written.
use Rattle.std.proofs.Common.{◌≡◌, ◌∙◌, inl, inr, ℕ, ◌+◌, ◌-◌, ◌<◌, ◌≤◌, min, max, List, [], ◌∷◌, ◌++◌, length, take, drop, get_or, sym, ap, subst, arith, length-append, length-take, length-drop, append-nil, append_assoc, take_at, drop_of_length-le}
use Rattle.std.proofs.lemmas.Bool.{cases_lt}
use Rattle.std.proofs.lemmas.List.{ext_get_or, get_or-append_right, get_or-drop, get_or-take, get_or_append_left, take_all, drop-drop}
use Rattle.disk_trait.specs.Disk.{written}
use Rattle.deferred_disk.specs.KeptFiles.{StandFrom, IsKeptOf}
use Rattle.deferred_disk.specs.declared.kept.KeptBytes.{KeptBytes}

-- ---- the bytes of a file that is written: its own before the write and behind it, and those of the write
module _ (at : ℕ) (bytes file : List ℕ) (within : at ≤ length file) where
  front : length (take at file) ≡ at
  front = omega (arith, length-take at file, within)

  front_and_bytes : length (take at file ++ bytes) ≡ at + length bytes
  front_and_bytes = omega (arith, length-append (take at file) bytes, front)

  pub written_size : length (written at bytes file) ≡ max (length file) (at + length bytes)
  written_size = omega (
    arith,
    length-append (take at file ++ bytes) (drop (at + length bytes) file),
    front_and_bytes,
    length-drop (at + length bytes) file,
    within,
  )

  pub before_bytes : (i : ℕ) → i < at → get_or (written at bytes file) i 0 ≡ get_or file i 0
  before_bytes i lt =
      get_or_append_left (take at file ++ bytes) (drop (at + length bytes) file) 0 i (omega (arith, front_and_bytes, lt))
      ∙ get_or_append_left (take at file) bytes 0 i (omega (arith, front, lt))
      ∙ get_or-take at file i 0 lt

  pub at_bytes : (i : ℕ) → at ≤ i → i < at + length bytes → get_or (written at bytes file) i 0 ≡ get_or bytes (i - at) 0
  at_bytes i from lt =
      get_or_append_left (take at file ++ bytes) (drop (at + length bytes) file) 0 i (omega (arith, front_and_bytes, lt))
      ∙ get_or-append_right (take at file) bytes at i 0 front from

  pub behind_bytes : (i : ℕ) → at + length bytes ≤ i → get_or (written at bytes file) i 0 ≡ get_or file i 0
  behind_bytes i from =
      get_or-append_right (take at file ++ bytes) (drop (at + length bytes) file) (at + length bytes) i 0 front_and_bytes from
      ∙ get_or-drop (at + length bytes) file (i - (at + length bytes)) 0
      ∙ ap (λ (n : ℕ). get_or file n 0) (omega (arith, from))

-- ---- what stays of what is kept

-- the write ends before it
pub stand_behind : (at from : ℕ) (bytes kept file : List ℕ) → at ≤ length file → at + length bytes ≤ from → StandFrom from kept file → StandFrom from kept (written at bytes file)
stand_behind at from bytes kept file within before stand i lt = (
  omega (arith, written_size at bytes file within, (stand i lt).0),
  (stand i lt).1 ∙ sym (behind_bytes at bytes file within (from + i) (omega (arith, before))),
)

-- the write is within it
pub stand_within : (at from : ℕ) (bytes kept file : List ℕ) → at ≤ length file → from ≤ at → (at - from) + length bytes ≤ length kept → StandFrom from kept file
    → StandFrom from (written (at - from) bytes kept) (written at bytes file)
stand_within at from bytes kept file within le fits stand i lt = (
  omega (arith, written_size at bytes file within, (stand i less).0),
  elim (cases_lt i (at - from)) [
    | inl first ↦
        before_bytes (at - from) bytes kept inside i first ∙ (stand i less).1
        ∙ sym (before_bytes at bytes file within (from + i) (omega (arith, first)))
    | inr past ↦ elim (cases_lt i ((at - from) + length bytes)) [
      | inl under ↦
          at_bytes (at - from) bytes kept inside i past under
          ∙ ap (λ (n : ℕ). get_or bytes n 0) (omega (arith, past, le))
          ∙ sym (at_bytes at bytes file within (from + i) (omega (arith, past)) (omega (arith, under, le)))
      | inr over ↦
          behind_bytes (at - from) bytes kept inside i over ∙ (stand i less).1
          ∙ sym (behind_bytes at bytes file within (from + i) (omega (arith, over, le)))
    ]
  ],
)
  where
    inside : at - from ≤ length kept
    inside = omega (arith, fits)

    less : i < length kept
    less = omega (arith, lt, written_size (at - from) bytes kept inside, fits)

-- it is what was written at the end
pub stand_at_end : (at skipped : ℕ) (bytes file : List ℕ) → at ≤ length file → StandFrom (at + skipped) (drop skipped bytes) (written at bytes file)
stand_at_end at skipped bytes file within i lt = (
  omega (arith, written_size at bytes file within, lt, length-drop skipped bytes),
  get_or-drop skipped bytes i 0
      ∙ ap (λ (n : ℕ). get_or bytes n 0) (omega arith)
      ∙ sym (at_bytes at bytes file within (at + skipped + i) (omega arith) (omega (arith, lt, length-drop skipped bytes))),
)

-- ---- what is read of it
pub read_of_kept : (from at count room : ℕ) (kept file : List ℕ) → StandFrom from kept file → from ≤ at → (at - from) + count ≤ length kept → count ≡ min room (length file - at)
    → take count (drop (at - from) kept) ≡ take room (drop at file)
read_of_kept from at count room kept file stand le fits least =
    ext_get_or {A = ℕ} 0 (take count (drop (at - from) kept)) (take room (drop at file)) sizes (λ i lt.
    get_or-take count (drop (at - from) kept) i 0 (under i lt)
    ∙ get_or-drop (at - from) kept i 0
    ∙ (stand ((at - from) + i) (omega (arith, under i lt, fits))).1
    ∙ ap (λ (n : ℕ). get_or file n 0) (omega (arith, le))
    ∙ sym (get_or-drop at file i 0)
    ∙ sym (get_or-take room (drop at file) i 0 (omega (arith, under i lt, least))))
  where
    under : (i : ℕ) → i < length (take count (drop (at - from) kept)) → i < count
    under i lt = omega (arith, lt, length-take count (drop (at - from) kept))

    sizes : length (take count (drop (at - from) kept)) ≡ length (take room (drop at file))
    sizes = omega (arith, length-take count (drop (at - from) kept), length-drop (at - from) kept, fits, length-take room (drop at file), length-drop at file, least)

-- the same, as it is copied into a buffer
pub copied : (from at count room : ℕ) (kept file buffer copy shown : List ℕ) → StandFrom from kept file → from ≤ at → (at - from) + count ≤ length kept → count ≡ min room (length file - at)
    → shown ≡ kept → copy ≡ take (((at - from) + count) - (at - from)) (drop (at - from) shown) → take count (copy ++ drop count buffer) ≡ take room (drop at file)
copied from at count room kept file buffer copy shown stand le fits least same is = take_at copy (drop count buffer) count size ∙ part ∙ read_of_kept from at count room kept file stand le fits least
  where
    part : copy ≡ take count (drop (at - from) kept)
    part = is ∙ ap (λ (n : ℕ). take n (drop (at - from) shown)) (omega arith) ∙ ap (λ (l : List ℕ). take count (drop (at - from) l)) same

    size : length copy ≡ count
    size = omega (arith, ap (λ (l : List ℕ). length l) part, length-take count (drop (at - from) kept), length-drop (at - from) kept, fits)

-- a write within it, as it is copied there
pub patched : (from at len : ℕ) (bytes kept file shown copy : List ℕ) → at ≤ length file → from ≤ at → (at - from) + length bytes ≤ length kept → len ≡ length kept → shown ≡ kept → copy ≡ bytes
    → StandFrom from kept file
    → StandFrom from (take len (take (at - from) shown ++ (copy ++ drop (((at - from) + length bytes) - (at - from)) (drop (at - from) shown))
    ++ drop (length (take (at - from) shown ++ (copy ++ drop (((at - from) + length bytes) - (at - from)) (drop (at - from) shown)))) kept)) (written at bytes file)
patched from at len bytes kept file shown copy within le fits whole same is stand =
    subst (λ (l : List ℕ). StandFrom from l (written at bytes file)) (sym (ap (λ (l : List ℕ). take len (l ++ drop (length l) kept)) parts ∙ all)) (stand_within at from bytes kept file within le fits stand)
  where
    place : ℕ
    place = at - from

    now : List ℕ
    now = written (at - from) bytes kept

    behind : List ℕ → List ℕ
    behind l = drop ((place + length bytes) - place) (drop place l)

    parts : take place shown ++ (copy ++ behind shown) ≡ now
    parts =
        ap (λ (l : List ℕ). take place l ++ (copy ++ behind l)) same
        ∙ ap (λ (l : List ℕ). take place kept ++ (l ++ behind kept)) is
        ∙ ap (λ (l : List ℕ). take place kept ++ (bytes ++ l)) (drop-drop ((place + length bytes) - place) place kept ∙ ap (λ (n : ℕ). drop n kept) (omega arith))
        ∙ sym (append_assoc (take place kept) bytes (drop (place + length bytes) kept))

    size : length now ≡ length kept
    size = omega (arith, written_size (at - from) bytes kept (omega (arith, fits)), fits)

    all : take len (now ++ drop (length now) kept) ≡ now
    all =
        ap (λ (l : List ℕ). take len (now ++ l)) (drop_of_length-le kept (omega (arith, size)))
        ∙ ap (λ (l : List ℕ). take len l) (append-nil now)
        ∙ take_all len now (omega (arith, size, whole))

-- ---- all that is kept
pub kept_after : (at : ℕ) (bytes file : List ℕ) (new : KeptBytes) (first : ℕ) → at ≤ length file → new.len ≡ max (length file) (at + length bytes) → new.first ≡ first
    → take 1 (written at bytes file) ≡ take (length (written at bytes file)) (first ∷ []) → StandFrom new.from new.bytes.items (written at bytes file) → IsKeptOf new (written at bytes file)
kept_after at bytes file new first within len begin is stand = record {
  len = len ∙ sym (written_size at bytes file within);
  first = is ∙ ap (λ (n : ℕ). take (length (written at bytes file)) (n ∷ [])) (sym begin);
  bytes = stand;
}
