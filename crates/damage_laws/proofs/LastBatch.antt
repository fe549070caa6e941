-- With one sync no byte that has changed hides more than the last batch.
use Rattle.std.proofs.Common.{◌≡◌, inl, inr, ℕ, zero, suc, ◌-◌, ◌<◌, ◌≤◌, List, [], ◌∷◌, ◌++◌, length, length-append, get_or, take, drop, refl, sym, ◌∙◌, ap, arith, append_assoc}
use Rattle.std.proofs.lemmas.List.{append_cancel_left, drop-drop, length-take, take-append-drop}
use Rattle.std.specs.List.{AllByRecursion, flat_map}
use Rattle.batch_bytes.specs.Batch.{LogRecord, IsLogRecord, IsPlain, batch_bytes, plain_mark}
use Rattle.batch_bytes.specs.Reading.{HasNoMark, IsUnfinishedBatch}
use Rattle.batch_bytes.proofs.Whole.{batch_first, unfinished_no_batch}
use Rattle.batched_half.proofs.Places.{batch_size}
use Rattle.batched_half.specs.Version3.{batch_entries, mark_of_one_sync}
use Rattle.damage_laws.specs.Damage.{DifferInOneByte, LacksLastBatch}
use Rattle.damage_laws.proofs.NearRecords.{batches_altered, parts_of_all, some_go_on}
use Rattle.damage_laws.proofs.Parting.{moved, parted}

-- ---- two files of one length

same_length : (file other : List ℕ) → DifferInOneByte file other → length file ≡ length other
same_length file other d =
    ap length d.of_file ∙ length-append d.front (d.was ∷ d.behind) ∙ sym (length-append d.front (d.is ∷ d.behind)) ∙ sym (ap length d.of_other)

unmarked_drop : (n : ℕ) (bytes : List ℕ) → HasNoMark bytes → HasNoMark (drop n bytes)
unmarked_drop zero bytes none = none
unmarked_drop (suc n) [] none = tt
unmarked_drop (suc n) (b ∷ bytes) none = unmarked_drop n bytes none.1

first_unmarked : (bytes : List ℕ) → HasNoMark bytes → get_or bytes 0 0 ≡ plain_mark → ⊥
first_unmarked [] none is = absurd (omega (arith, is))
first_unmarked (b ∷ bytes) none is = none.0 is

-- no mark stands behind the first byte
no_mark_at : (n : ℕ) (bytes : List ℕ) → 1 ≤ n → HasNoMark (drop 1 bytes) → get_or (drop n bytes) 0 0 ≡ plain_mark → ⊥
no_mark_at n bytes some none is =
    first_unmarked (drop (n - 1) (drop 1 bytes)) (unmarked_drop (n - 1) (drop 1 bytes) none)
    (ap (λ (l : List ℕ). get_or l 0 0) (drop-drop (n - 1) 1 bytes ∙ ap (λ (m : ℕ). drop m bytes) (omega (arith, some))) ∙ is)

-- ---- where a batch and the mark of another one stood, nothing unfinished stands

some_bytes : (batch : List LogRecord) → 0 < length batch → 1 ≤ length (batch_bytes mark_of_one_sync batch)
some_bytes [] some = absurd (omega (arith, some))
some_bytes (e ∷ es) some = omega (arith, batch_size mark_of_one_sync (e ∷ es))

two_left : (batch : List LogRecord) (rest beyond : List ℕ) → 0 < length batch → AllByRecursion IsLogRecord batch → AllByRecursion IsPlain batch → get_or rest 0 0 ≡ mark_of_one_sync
    → IsUnfinishedBatch mark_of_one_sync beyond → DifferInOneByte (batch_bytes mark_of_one_sync batch ++ rest) beyond → ⊥
two_left batch rest beyond some fit plain begins unfinished d =
    elim (parted bytes (take count beyond) rest (drop count beyond) (omega (arith, length-take count beyond, long)) (moved (bytes ++ rest) (bytes ++ rest) beyond (take count beyond ++ drop count beyond) refl (sym (take-append-drop count beyond)) d)) [
      | inl within ↦ no_mark_at count beyond (some_bytes batch some) unfinished.unmarked (ap (λ (l : List ℕ). get_or l 0 0) (sym within.1) ∙ begins)
      | inr past ↦ unfinished_no_batch mark_of_one_sync batch beyond (drop count beyond) (λ is. absurd (omega (arith, is))) some fit plain unfinished
          (sym (take-append-drop count beyond) ∙ ap (λ (l : List ℕ). l ++ drop count beyond) (sym past.0))
    ]
  where
    bytes : List ℕ
    bytes = batch_bytes mark_of_one_sync batch

    count : ℕ
    count = length bytes

    long : length (batch_bytes mark_of_one_sync batch) ≤ length beyond
    long = omega (arith, same_length (batch_bytes mark_of_one_sync batch ++ rest) beyond d, length-append (batch_bytes mark_of_one_sync batch) rest)

-- ---- all batches of a half

pub only_last : (xs ys : List (List LogRecord)) (behind beyond : List ℕ) (more : List LogRecord)
    → AllByRecursion (λ (batch : List LogRecord). 0 < length batch) xs → AllByRecursion (λ (batch : List LogRecord). 0 < length batch) ys
    → AllByRecursion IsLogRecord (batch_entries xs) → AllByRecursion IsLogRecord (batch_entries ys) → AllByRecursion IsPlain (batch_entries xs)
    → IsUnfinishedBatch mark_of_one_sync beyond
    → DifferInOneByte (flat_map (batch_bytes mark_of_one_sync) xs ++ behind) (flat_map (batch_bytes mark_of_one_sync) ys ++ beyond)
    → batch_entries xs ≡ batch_entries ys ++ more → 0 < length more → LacksLastBatch xs (batch_entries ys)
only_last [] ys behind beyond more some some2 fit fit2 plain unfinished d is left =
    absurd (omega (arith, left, ap length is, length-append (batch_entries ys) more))
only_last (x ∷ []) [] behind beyond more some some2 fit fit2 plain unfinished d is left =
    record { earlier = []; last = x; parts = refl; left_is = refl }
only_last (x ∷ (x2 ∷ xs)) [] behind beyond more some some2 fit fit2 plain unfinished d is left =
    let rest : List ℕ = flat_map (batch_bytes mark_of_one_sync) (x2 ∷ xs) ++ behind in
    absurd (two_left x rest beyond some.0 (parts_of_all IsLogRecord x (batch_entries (x2 ∷ xs)) fit).0 (parts_of_all IsPlain x (batch_entries (x2 ∷ xs)) plain).0
    (ap (λ (l : List ℕ). get_or l 0 0) (append_assoc (batch_bytes mark_of_one_sync x2) (flat_map (batch_bytes mark_of_one_sync) xs) behind)
    ∙ batch_first mark_of_one_sync x2 (flat_map (batch_bytes mark_of_one_sync) xs ++ behind) some.1.0)
    unfinished
    (moved (flat_map (batch_bytes mark_of_one_sync) (x ∷ (x2 ∷ xs)) ++ behind) (batch_bytes mark_of_one_sync x ++ rest) beyond beyond
    (append_assoc (batch_bytes mark_of_one_sync x) (flat_map (batch_bytes mark_of_one_sync) (x2 ∷ xs)) behind) refl d))
only_last (x ∷ xs) (y ∷ ys) behind beyond more some some2 fit fit2 plain unfinished d is left =
    let fits = parts_of_all IsLogRecord x (batch_entries xs) fit in
    let fits2 = parts_of_all IsLogRecord y (batch_entries ys) fit2 in
    let one = batches_altered mark_of_one_sync x y (flat_map (batch_bytes mark_of_one_sync) xs ++ behind) (flat_map (batch_bytes mark_of_one_sync) ys ++ beyond) fits.0 fits2.0 (some_go_on x y some.0 some2.0)
    (moved (flat_map (batch_bytes mark_of_one_sync) (x ∷ xs) ++ behind) (batch_bytes mark_of_one_sync x ++ (flat_map (batch_bytes mark_of_one_sync) xs ++ behind)) (flat_map (batch_bytes mark_of_one_sync) (y ∷ ys) ++ beyond) (batch_bytes mark_of_one_sync y ++ (flat_map (batch_bytes mark_of_one_sync) ys ++ beyond))
    (append_assoc (batch_bytes mark_of_one_sync x) (flat_map (batch_bytes mark_of_one_sync) xs) behind) (append_assoc (batch_bytes mark_of_one_sync y) (flat_map (batch_bytes mark_of_one_sync) ys) beyond) d) in
    let last = only_last xs ys behind beyond more some.1 some2.1 fits.1 fits2.1 (parts_of_all IsPlain x (batch_entries xs) plain).1 unfinished one.1.0
    (append_cancel_left x (batch_entries xs) (batch_entries ys ++ more) (is ∙ append_assoc y (batch_entries ys) more ∙ ap (λ (l : List LogRecord). l ++ (batch_entries ys ++ more)) (sym one.0))) left in
    record {
      earlier = x ∷ last.earlier;
      last = last.last;
      parts = ap (λ (l : List (List LogRecord)). x ∷ l) last.parts;
      left_is = ap (λ (l : List LogRecord). l ++ batch_entries ys) (sym one.0) ∙ ap (λ (l : List LogRecord). x ++ l) last.left_is;
    }
