-- Records in bytes that are the same, or the same but for one byte: they are the same records.
use Rattle.std.proofs.Common.{◌≡◌, ◌⊎◌, inl, inr, ℕ, ◌+◌, ◌<◌, ◌≤◌, List, [], ◌∷◌, ◌++◌, length, length-append, get_or, take, drop, refl, sym, ◌∙◌, ap, arith, append_assoc}
use Rattle.std.proofs.lemmas.List.{append_cancel_left, length-map}
use Rattle.std.specs.List.{AllByRecursion, flat_map}
use Rattle.crc32c.specs.Register.{crc32c}
use Rattle.crc32c.proofs.Bits.{sum_fits}
use Rattle.batch_bytes.specs.Digits.{digits}
use Rattle.batch_bytes.specs.Batch.{LogRecord, IsLogRecord, stored_byte, stored_bytes, head_digits, record_head, record_bytes, goes_on, next_mark, batch_bytes}
use Rattle.batch_bytes.proofs.Numbers.{same_number}
use Rattle.batch_bytes.proofs.Records.{length-head, same_heads, same_pieces, same_text}
use Rattle.batch_bytes.proofs.Whole.{batch_first, goes_either, one_record}
use Rattle.batched_half.proofs.Places.{batch_size}
use Rattle.batched_half.specs.PlaceReading.{records_size}
use Rattle.batched_half.specs.Version3.{BeginsWithNoMark, batch_entries, mark_of_two_syncs}
use Rattle.damage_laws.specs.Damage.{BeginWith, DifferInOneByte, IsMarkAt}
use Rattle.damage_laws.proofs.Parting.{DiffersPast, first_or_later, moved, not_itself, parted, sum_changes}

-- the same bytes, or the same but for one
abbrev pub AreNear : List ℕ → List ℕ → Type 0
AreNear bytes other = (bytes ≡ other) ⊎ DifferInOneByte bytes other

pub near_moved : (bytes bytes2 other other2 : List ℕ) → bytes ≡ bytes2 → other ≡ other2 → AreNear bytes other → AreNear bytes2 other2
near_moved bytes bytes2 other other2 same same2 (inl is) = inl (sym same ∙ is ∙ same2)
near_moved bytes bytes2 other other2 same same2 (inr d) = inr (moved bytes bytes2 other other2 same same2 d)

-- ---- the head of a record

length-front : (on kind size : ℕ) → length (head_digits on kind size) ≡ 5
unfolding digits
length-front on kind size = refl

length-before_own : (on kind size sum : ℕ) → length (head_digits on kind size ++ digits 6 sum) ≡ 11
unfolding digits
length-before_own on kind size sum = refl

size_digits : (on kind size : ℕ) → take 4 (drop 1 (head_digits on kind size)) ≡ digits 4 size
unfolding digits
size_digits on kind size = refl

sum_digits : (text other : List ℕ) → digits 6 (crc32c text) ≡ digits 6 (crc32c other) → crc32c text ≡ crc32c other
sum_digits text other same =
    same_number 6 (crc32c text) (crc32c other) (omega (arith, sum_fits text)) (omega (arith, sum_fits other)) same

-- Two heads with the same mark whose own sums are right: it is the sum of the text in which they differ.
pub heads_differ : (own on kind size sum on2 kind2 size2 sum2 : ℕ) → DifferInOneByte (record_head own on kind size sum) (record_head own on2 kind2 size2 sum2)
    → (head_digits on kind size ≡ head_digits on2 kind2 size2) × DifferInOneByte (digits 6 sum) (digits 6 sum2)
heads_differ own on kind size sum on2 kind2 size2 sum2 d = elim (first_or_later own own (front ++ digits 6 sum ++ own_sum) (front2 ++ digits 6 sum2 ++ own_sum2) d) [
  | inl here ↦ absurd (here.0.differ refl)
  | inr later ↦ elim (parted (front ++ digits 6 sum) (front2 ++ digits 6 sum2) own_sum own_sum2 (length-before_own on kind size sum ∙ sym (length-before_own on2 kind2 size2 sum2)) later.1.0) [
    | inl before ↦ elim (parted front front2 (digits 6 sum) (digits 6 sum2) (length-front on kind size ∙ sym (length-front on2 kind2 size2)) before.0) [
      | inl first ↦ absurd (sum_changes front front2 first.0 (sym (sum_digits front front2 before.1)))
      | inr second ↦ (second.0, second.1.0)
    ]
    | inr own_differs ↦
        let fronts = same_pieces front front2 (digits 6 sum) (digits 6 sum2) (length-front on kind size ∙ sym (length-front on2 kind2 size2)) own_differs.0 in
        absurd (not_itself own_sum own_sum2 (ap (λ (l : List ℕ). digits 6 (crc32c l)) fronts.0) own_differs.1.0)
  ]
]
  where
    front : List ℕ
    front = head_digits on kind size

    front2 : List ℕ
    front2 = head_digits on2 kind2 size2

    own_sum : List ℕ
    own_sum = digits 6 (crc32c front)

    own_sum2 : List ℕ
    own_sum2 = digits 6 (crc32c front2)

-- ---- one record

pub record NearRecords (on on2 : ℕ) (entry other : LogRecord) (behind beyond : List ℕ) : Type 0 where
  pub on_is : on ≡ on2
  pub entry_is : entry ≡ other
  pub near : AreNear behind beyond

record_is : (a b : LogRecord) → a.kind ≡ b.kind → a.text ≡ b.text → a ≡ b
record_is a b kinds texts = λ i. record { kind = kinds i; text = texts i }

text_sum : LogRecord → ℕ
text_sum entry = crc32c (stored_bytes entry.text)

-- the same record, and the byte stands behind it
pub record AlteredPast {file other : List ℕ} (own on on2 : ℕ) (entry beside : LogRecord) (d : DifferInOneByte file other) (behind beyond : List ℕ) : Type 0 where
  pub on_is : on ≡ on2
  pub entry_is : entry ≡ beside
  pub past : DiffersPast (length (record_bytes own on entry)) d behind beyond

one_altered : (own on on2 : ℕ) (entry other : LogRecord) (behind beyond : List ℕ) → on ≤ 1 → on2 ≤ 1 → IsLogRecord entry → IsLogRecord other
    → (d : DifferInOneByte (record_bytes own on entry ++ behind) (record_bytes own on2 other ++ beyond)) → AlteredPast own on on2 entry other d behind beyond
unfolding text_sum
one_altered own on on2 entry other behind beyond either either2 fits fits2 d =
    elim (parted head head2 (text ++ behind) (text2 ++ beyond) heads_long (moved (record_bytes own on entry ++ behind) (head ++ (text ++ behind)) (record_bytes own on2 other ++ beyond) (head2 ++ (text2 ++ beyond))
    (append_assoc head text behind) (append_assoc head2 text2 beyond) d)) [
      | inl in_head ↦
          let apart = heads_differ own on entry.kind (length entry.text) (text_sum entry) on2 other.kind (length other.text) (text_sum other) in_head.0 in
          let sizes : length entry.text ≡ length other.text = same_number 4 (length entry.text) (length other.text) (omega (arith, fits.within)) (omega (arith, fits2.within))
          (sym (size_digits on entry.kind (length entry.text)) ∙ ap (λ (l : List ℕ). take 4 (drop 1 l)) apart.0 ∙ size_digits on2 other.kind (length other.text)) in
          let texts = same_pieces text text2 behind beyond (texts_long sizes) in_head.1 in
          absurd (not_itself (digits 6 (text_sum entry)) (digits 6 (text_sum other)) (ap (λ (l : List ℕ). digits 6 (crc32c l)) texts.0) apart.1)
      | inr behind_head ↦
          let heads = same_heads own on entry.kind (length entry.text) (text_sum entry) on2 other.kind (length other.text) (text_sum other)
          either fits.known fits.within (sum_fits text) either2 fits2.known fits2.within (sum_fits text2) behind_head.0 in
          elim (parted text text2 behind beyond (texts_long heads.size_is) behind_head.1.0) [
            | inl in_text ↦ absurd (sum_changes text text2 in_text.0 (sym heads.sum_is))
            | inr past ↦ record {
              on_is = heads.on_is;
              entry_is = record_is entry other heads.kind_is (same_text entry.text other.text past.0);
              past = (
                past.1.0,
                record {
                  at = omega (arith, behind_head.1.1.at, past.1.1.at, length-append head text);
                  was_is = behind_head.1.1.was_is ∙ past.1.1.was_is;
                },
              );
            }
          ]
    ]
  where
    text : List ℕ
    text = stored_bytes entry.text

    text2 : List ℕ
    text2 = stored_bytes other.text

    head : List ℕ
    head = record_head own on entry.kind (length entry.text) (text_sum entry)

    head2 : List ℕ
    head2 = record_head own on2 other.kind (length other.text) (text_sum other)

    heads_long : length head ≡ length head2
    heads_long = length-head own on entry.kind (length entry.text) (text_sum entry) ∙ sym (length-head own on2 other.kind (length other.text) (text_sum other))

    texts_long : length entry.text ≡ length other.text → length text ≡ length text2
    texts_long same = length-map entry.text stored_byte ∙ same ∙ sym (length-map other.text stored_byte)

pub one_near : (own on on2 : ℕ) (entry other : LogRecord) (behind beyond : List ℕ) → on ≤ 1 → on2 ≤ 1 → IsLogRecord entry → IsLogRecord other
    → AreNear (record_bytes own on entry ++ behind) (record_bytes own on2 other ++ beyond) → NearRecords on on2 entry other behind beyond
one_near own on on2 entry other behind beyond either either2 fits fits2 (inl same) =
    let one = one_record own on on2 entry other behind beyond either either2 fits fits2 same in
    record { on_is = one.on_is; entry_is = one.entry_is; near = inl one.behind_is }
one_near own on on2 entry other behind beyond either either2 fits fits2 (inr d) =
    let one = one_altered own on on2 entry other behind beyond either either2 fits fits2 d in
    record { on_is = one.on_is; entry_is = one.entry_is; near = inr one.past.0 }

-- ---- a batch

batches_near : (own : ℕ) (entries others : List LogRecord) (behind beyond : List ℕ) → AllByRecursion IsLogRecord entries → AllByRecursion IsLogRecord others
    → goes_on entries ≡ goes_on others → AreNear (batch_bytes own entries ++ behind) (batch_bytes own others ++ beyond) → (entries ≡ others) × AreNear behind beyond
unfolding batch_bytes
batches_near own [] [] behind beyond fit fit2 on near = (refl, near)
batches_near own [] (f ∷ fs) behind beyond fit fit2 on near = absurd (omega (arith, on))
batches_near own (e ∷ es) [] behind beyond fit fit2 on near = absurd (omega (arith, on))
batches_near own (e ∷ es) (f ∷ fs) behind beyond fit fit2 on near =
    let one = one_near own (goes_on es) (goes_on fs) e f (batch_bytes next_mark es ++ behind) (batch_bytes next_mark fs ++ beyond)
    (goes_either es) (goes_either fs) fit.0 fit2.0
    (near_moved (batch_bytes own (e ∷ es) ++ behind) (record_bytes own (goes_on es) e ++ (batch_bytes next_mark es ++ behind)) (batch_bytes own (f ∷ fs) ++ beyond) (record_bytes own (goes_on fs) f ++ (batch_bytes next_mark fs ++ beyond))
    (append_assoc (record_bytes own (goes_on es) e) (batch_bytes next_mark es) behind) (append_assoc (record_bytes own (goes_on fs) f) (batch_bytes next_mark fs) beyond) near) in
    let rest = batches_near next_mark es fs behind beyond fit.1 fit2.1 one.on_is one.near in
    (ap (λ (x : LogRecord). x ∷ es) one.entry_is ∙ ap (λ (l : List LogRecord). f ∷ l) rest.0, rest.1)

-- the same batch, and the byte stands behind it
pub batches_altered : (own : ℕ) (entries others : List LogRecord) (behind beyond : List ℕ) → AllByRecursion IsLogRecord entries → AllByRecursion IsLogRecord others
    → goes_on entries ≡ goes_on others → (d : DifferInOneByte (batch_bytes own entries ++ behind) (batch_bytes own others ++ beyond))
    → (entries ≡ others) × DiffersPast (length (batch_bytes own entries)) d behind beyond
unfolding batch_bytes
batches_altered own [] [] behind beyond fit fit2 on d = (refl, (d, record { at = omega arith; was_is = refl }))
batches_altered own [] (f ∷ fs) behind beyond fit fit2 on d = absurd (omega (arith, on))
batches_altered own (e ∷ es) [] behind beyond fit fit2 on d = absurd (omega (arith, on))
batches_altered own (e ∷ es) (f ∷ fs) behind beyond fit fit2 on d =
    let one = one_altered own (goes_on es) (goes_on fs) e f (batch_bytes next_mark es ++ behind) (batch_bytes next_mark fs ++ beyond)
    (goes_either es) (goes_either fs) fit.0 fit2.0
    (moved (batch_bytes own (e ∷ es) ++ behind) (record_bytes own (goes_on es) e ++ (batch_bytes next_mark es ++ behind)) (batch_bytes own (f ∷ fs) ++ beyond) (record_bytes own (goes_on fs) f ++ (batch_bytes next_mark fs ++ beyond))
    (append_assoc (record_bytes own (goes_on es) e) (batch_bytes next_mark es) behind) (append_assoc (record_bytes own (goes_on fs) f) (batch_bytes next_mark fs) beyond) d) in
    let rest = batches_altered next_mark es fs behind beyond fit.1 fit2.1 one.on_is one.past.0 in (
      ap (λ (x : LogRecord). x ∷ es) one.entry_is ∙ ap (λ (l : List LogRecord). f ∷ l) rest.0,
      (
        rest.1.0,
        record {
          at = omega (arith, one.past.1.at, rest.1.1.at, length-append (record_bytes own (goes_on es) e) (batch_bytes next_mark es));
          was_is = one.past.1.was_is ∙ rest.1.1.was_is;
        },
      ),
    )

-- ---- all batches of a half

pub parts_of_all : (P : LogRecord → Type 0) (xs ys : List LogRecord) → AllByRecursion P (xs ++ ys) → AllByRecursion P xs × AllByRecursion P ys
parts_of_all P [] ys all = (tt, all)
parts_of_all P (x ∷ xs) ys all = let more = parts_of_all P xs ys all.1 in ((all.0, more.0), more.1)

pub some_go_on : (entries others : List LogRecord) → 0 < length entries → 0 < length others → goes_on entries ≡ goes_on others
some_go_on [] others some some2 = absurd (omega (arith, some))
some_go_on (e ∷ es) [] some some2 = absurd (omega (arith, some2))
some_go_on (e ∷ es) (f ∷ fs) some some2 = refl

behind_same : (x y : List LogRecord) (entries others : List LogRecord) → x ≡ y → BeginWith entries others → BeginWith (x ++ entries) (y ++ others)
behind_same x y entries others same begins =
    (begins.0, ap (λ (l : List LogRecord). l ++ entries) same ∙ ap (λ (l : List LogRecord). y ++ l) begins.1 ∙ sym (append_assoc y others begins.0))

pub all_near : (mark : ℕ) (xs ys : List (List LogRecord)) (behind beyond : List ℕ)
    → AllByRecursion (λ (batch : List LogRecord). 0 < length batch) xs → AllByRecursion (λ (batch : List LogRecord). 0 < length batch) ys
    → AllByRecursion IsLogRecord (batch_entries xs) → AllByRecursion IsLogRecord (batch_entries ys)
    → AreNear (flat_map (batch_bytes mark) xs ++ behind) (flat_map (batch_bytes mark) ys ++ beyond)
    → BeginWith (batch_entries xs) (batch_entries ys) ⊎ BeginWith (batch_entries ys) (batch_entries xs)
all_near mark [] ys behind beyond some some2 fit fit2 near = inr (batch_entries ys, refl)
all_near mark (x ∷ xs) [] behind beyond some some2 fit fit2 near = inl (batch_entries (x ∷ xs), refl)
all_near mark (x ∷ xs) (y ∷ ys) behind beyond some some2 fit fit2 near =
    let fits = parts_of_all IsLogRecord x (batch_entries xs) fit in
    let fits2 = parts_of_all IsLogRecord y (batch_entries ys) fit2 in
    let one = batches_near mark x y (flat_map (batch_bytes mark) xs ++ behind) (flat_map (batch_bytes mark) ys ++ beyond) fits.0 fits2.0 (some_go_on x y some.0 some2.0)
    (near_moved (flat_map (batch_bytes mark) (x ∷ xs) ++ behind) (batch_bytes mark x ++ (flat_map (batch_bytes mark) xs ++ behind)) (flat_map (batch_bytes mark) (y ∷ ys) ++ beyond) (batch_bytes mark y ++ (flat_map (batch_bytes mark) ys ++ beyond))
    (append_assoc (batch_bytes mark x) (flat_map (batch_bytes mark) xs) behind) (append_assoc (batch_bytes mark y) (flat_map (batch_bytes mark) ys) beyond) near) in
    elim (all_near mark xs ys behind beyond some.1 some2.1 fits.1 fits2.1 one.1) [
      | inl longer ↦ inl (behind_same x y (batch_entries xs) (batch_entries ys) one.0 longer)
      | inr shorter ↦ inr (behind_same y x (batch_entries ys) (batch_entries xs) (sym one.0) shorter)
    ]

-- ---- which byte hides records

-- where the one begins with a mark, and the other with none, it is the first byte
mark_first : (mark : ℕ) (file other : List ℕ) (d : DifferInOneByte file other) → get_or file 0 0 ≡ mark → (get_or other 0 0 ≡ mark → ⊥) → IsMarkAt mark 0 d
mark_first mark file other d begins ends = go d.front refl d.of_file d.of_other
  where
    go : (front : List ℕ) → d.front ≡ front → file ≡ front ++ d.was ∷ d.behind → other ≡ front ++ d.is ∷ d.behind → IsMarkAt mark 0 d
    go [] is_front file_is other_is = record { was_mark = sym (ap (λ (l : List ℕ). get_or l 0 0) file_is) ∙ begins; place = ap length is_front }
    go (f ∷ front) is_front file_is other_is =
        absurd (ends (ap (λ (l : List ℕ). get_or l 0 0) other_is ∙ sym (ap (λ (l : List ℕ). get_or l 0 0) file_is) ∙ begins))

-- with two syncs: the mark of the batch that begins where the records end that are left
pub hidden : (xs ys : List (List LogRecord)) (behind beyond : List ℕ) (more : List LogRecord)
    → AllByRecursion (λ (batch : List LogRecord). 0 < length batch) xs → AllByRecursion (λ (batch : List LogRecord). 0 < length batch) ys
    → AllByRecursion IsLogRecord (batch_entries xs) → AllByRecursion IsLogRecord (batch_entries ys) → BeginsWithNoMark beyond
    → (d : DifferInOneByte (flat_map (batch_bytes mark_of_two_syncs) xs ++ behind) (flat_map (batch_bytes mark_of_two_syncs) ys ++ beyond))
    → batch_entries xs ≡ batch_entries ys ++ more → 0 < length more → IsMarkAt mark_of_two_syncs (records_size (batch_entries ys)) d
hidden [] ys behind beyond more some some2 fit fit2 gate d is left =
    absurd (omega (arith, left, ap length is, length-append (batch_entries ys) more))
hidden (x ∷ xs) [] behind beyond more some some2 fit fit2 gate d is left =
    mark_first mark_of_two_syncs (flat_map (batch_bytes mark_of_two_syncs) (x ∷ xs) ++ behind) beyond d
    (ap (λ (l : List ℕ). get_or l 0 0) (append_assoc (batch_bytes mark_of_two_syncs x) (flat_map (batch_bytes mark_of_two_syncs) xs) behind)
    ∙ batch_first mark_of_two_syncs x (flat_map (batch_bytes mark_of_two_syncs) xs ++ behind) some.0)
    (λ same. gate.closed (sym (ap (λ (l : List ℕ). get_or l 0 0) gate.parts) ∙ same))
hidden (x ∷ xs) (y ∷ ys) behind beyond more some some2 fit fit2 gate d is left =
    let fits = parts_of_all IsLogRecord x (batch_entries xs) fit in
    let fits2 = parts_of_all IsLogRecord y (batch_entries ys) fit2 in
    let one = batches_altered mark_of_two_syncs x y (flat_map (batch_bytes mark_of_two_syncs) xs ++ behind) (flat_map (batch_bytes mark_of_two_syncs) ys ++ beyond) fits.0 fits2.0 (some_go_on x y some.0 some2.0)
    (moved (flat_map (batch_bytes mark_of_two_syncs) (x ∷ xs) ++ behind) (batch_bytes mark_of_two_syncs x ++ (flat_map (batch_bytes mark_of_two_syncs) xs ++ behind)) (flat_map (batch_bytes mark_of_two_syncs) (y ∷ ys) ++ beyond) (batch_bytes mark_of_two_syncs y ++ (flat_map (batch_bytes mark_of_two_syncs) ys ++ beyond))
    (append_assoc (batch_bytes mark_of_two_syncs x) (flat_map (batch_bytes mark_of_two_syncs) xs) behind) (append_assoc (batch_bytes mark_of_two_syncs y) (flat_map (batch_bytes mark_of_two_syncs) ys) beyond) d) in
    let rest = hidden xs ys behind beyond more some.1 some2.1 fits.1 fits2.1 gate one.1.0
    (append_cancel_left x (batch_entries xs) (batch_entries ys ++ more) (is ∙ append_assoc y (batch_entries ys) more ∙ ap (λ (l : List LogRecord). l ++ (batch_entries ys ++ more)) (sym one.0))) left in
    record {
      was_mark = one.1.1.was_is ∙ rest.was_mark;
      place = one.1.1.at ∙ ap (λ (n : ℕ). length (batch_bytes mark_of_two_syncs x) + n) rest.place ∙ ap (λ (n : ℕ). n + records_size (batch_entries ys)) (batch_size mark_of_two_syncs x ∙ ap records_size one.0) ∙ sym (sizes_joined y (batch_entries ys));
    }
  where
    sizes_joined : (entries others : List LogRecord) → records_size (entries ++ others) ≡ records_size entries + records_size others
    sizes_joined [] others = omega arith
    sizes_joined (e ∷ es) others = omega (arith, sizes_joined es others)
