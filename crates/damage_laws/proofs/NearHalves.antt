-- Two halves that differ in one byte agree.
use Rattle.std.proofs.Common.{◌≡◌, ◌⊎◌, inl, inr, ℕ, ◌+◌, ◌<◌, List, ◌∷◌, ◌++◌, length, get_or, take, drop, refl, sym, ◌∙◌, ap, subst, arith, append_assoc, length-append}
use Rattle.std.specs.List.{AllByRecursion, flat_map}
use Rattle.std.specs.Int.{from_be_bytes, to_be_bytes, w32, w64}
use Rattle.std.proofs.lemmas.Nat.{from_be_bytes-to_be_bytes_4, from_be_bytes-to_be_bytes_8}
use Rattle.crc32c.specs.Register.{crc32c}
use Rattle.crc32c.proofs.Bits.{sum_fits}
use Rattle.batch_bytes.specs.Batch.{LogRecord, IsLogRecord, IsPlain, batch_bytes}
use Rattle.batch_bytes.specs.Reading.{IsUnfinishedBatch}
use Rattle.batch_bytes.proofs.Records.{same_pieces}
use Rattle.batched_half.specs.Contents.{Contents}
use Rattle.batched_half.proofs.OneVersion3.{batches_same}
use Rattle.batched_half.specs.PlaceReading.{records_size}
use Rattle.batched_half.specs.Version3.{BeginsWithNoMark, HoldsBatches, IsBehind, IsManner, Manner, batch_entries, batches_front, half_head, head_fields, mark_of_one_sync, mark_of_two_syncs}
use Rattle.damage_laws.specs.Damage.{AgreeAsFarAsBothGo, BeginWith, DifferInOneByte, IsMarkAt, LacksLastBatch}
use Rattle.damage_laws.proofs.LastBatch.{only_last}
use Rattle.damage_laws.proofs.Parting.{DiffersPast, first_or_later, moved, not_itself, parted, sum_changes}
use Rattle.damage_laws.proofs.NearRecords.{AreNear, all_near, hidden}

length-fields : (k : Contents) (manner : Manner) → IsManner manner → length (head_fields k manner) ≡ 31
length-fields k manner is = omega (arith, is.identity)

-- what stands behind the fields: whether the half is followed, the sum of the snapshot, and that of the fields
abbrev sums : Contents → Manner → List ℕ
sums k manner = to_be_bytes w32 (crc32c k.snapshot) ++ to_be_bytes w32 (crc32c (head_fields k manner))

length-head : (k : Contents) (manner : Manner) (followed : ℕ) → IsManner manner → length (half_head k manner followed) ≡ 41
length-head k manner followed is = omega (arith, length-append (head_fields k manner) (followed ∷ sums k manner), length-fields k manner is)

same_sum : (text other : List ℕ) → to_be_bytes w32 (crc32c text) ≡ to_be_bytes w32 (crc32c other) → crc32c text ≡ crc32c other
same_sum text other same =
    sym (from_be_bytes-to_be_bytes_4 (crc32c text) (sum_fits text)) ∙ ap (from_be_bytes w32) same ∙ from_be_bytes-to_be_bytes_4 (crc32c other) (sum_fits other)

parts_of : (c : Contents) (manner : Manner) (followed : ℕ) (batches : List (List LogRecord)) (behind : List ℕ)
    → batches_front c manner followed batches ++ behind ≡ half_head c manner followed ++ (c.snapshot ++ (flat_map (batch_bytes manner.mark) batches ++ behind))
parts_of c manner followed batches behind =
    append_assoc (half_head c manner followed ++ c.snapshot) (flat_map (batch_bytes manner.mark) batches) behind
    ∙ append_assoc (half_head c manner followed) c.snapshot (flat_map (batch_bytes manner.mark) batches ++ behind)

module _ (k j : Contents) (file other : List ℕ) (h : HoldsBatches k file) (g : HoldsBatches j other) where
  abbrev fields : List ℕ
  fields = head_fields k h.manner

  abbrev fields2 : List ℕ
  fields2 = head_fields j g.manner

  abbrev body : List ℕ
  body = k.snapshot ++ (flat_map (batch_bytes h.manner.mark) h.batches ++ h.behind)

  abbrev body2 : List ℕ
  body2 = j.snapshot ++ (flat_map (batch_bytes g.manner.mark) g.batches ++ g.behind)

  fields_long : length fields ≡ length fields2
  fields_long = length-fields k h.manner h.manner_is ∙ sym (length-fields j g.manner g.manner_is)

  same_generation : fields ≡ fields2 → k.generation ≡ j.generation
  same_generation same =
      sym (from_be_bytes-to_be_bytes_8 k.generation h.generation) ∙ ap (λ (l : List ℕ). from_be_bytes w64 (take 8 (drop 2 l))) same ∙ from_be_bytes-to_be_bytes_8 j.generation g.generation

  same_length : fields ≡ fields2 → length k.snapshot ≡ length j.snapshot
  same_length same =
      sym (from_be_bytes-to_be_bytes_4 (length k.snapshot) h.snapshot) ∙ ap (λ (l : List ℕ). from_be_bytes w32 (take 4 (drop 10 l))) same ∙ from_be_bytes-to_be_bytes_4 (length j.snapshot) g.snapshot

  same_mark : fields ≡ fields2 → h.manner.mark ≡ g.manner.mark
  same_mark same = ap (λ (l : List ℕ). get_or l 14 0) same

  -- with the same fields, and the same snapshot, their records agree
  records_agree : fields ≡ fields2 → k.snapshot ≡ j.snapshot → AreNear (flat_map (batch_bytes h.manner.mark) h.batches ++ h.behind) (flat_map (batch_bytes g.manner.mark) g.batches ++ g.behind) → AgreeAsFarAsBothGo k j
  records_agree same snapshots near = record {
    generation = same_generation same;
    snapshot = snapshots;
    entries = entries_agree (all_near h.manner.mark h.batches g.batches h.behind g.behind h.some g.some
        (subst (AllByRecursion IsLogRecord) h.entries h.fit) (subst (AllByRecursion IsLogRecord) g.entries g.fit)
        (subst (λ (mark : ℕ). AreNear (flat_map (batch_bytes h.manner.mark) h.batches ++ h.behind) (flat_map (batch_bytes mark) g.batches ++ g.behind)) (sym (same_mark same)) near));
  }
    where
      entries_agree : BeginWith (batch_entries h.batches) (batch_entries g.batches) ⊎ BeginWith (batch_entries g.batches) (batch_entries h.batches) → BeginWith k.entries j.entries ⊎ BeginWith j.entries k.entries
      entries_agree (inl longer) = inl (longer.0, h.entries ∙ longer.1 ∙ ap (λ (l : List LogRecord). l ++ longer.0) (sym g.entries))
      entries_agree (inr shorter) = inr (shorter.0, g.entries ∙ shorter.1 ∙ ap (λ (l : List LogRecord). l ++ shorter.0) (sym h.entries))

  -- the byte stands behind the head
  behind_head : fields ≡ fields2 → to_be_bytes w32 (crc32c k.snapshot) ≡ to_be_bytes w32 (crc32c j.snapshot) → DifferInOneByte body body2 → AgreeAsFarAsBothGo k j
  behind_head same own_sums d = elim (parted k.snapshot j.snapshot (flat_map (batch_bytes h.manner.mark) h.batches ++ h.behind) (flat_map (batch_bytes g.manner.mark) g.batches ++ g.behind) (same_length same) d) [
    | inl in_snapshot ↦ absurd (sum_changes k.snapshot j.snapshot in_snapshot.0 (sym (same_sum k.snapshot j.snapshot own_sums)))
    | inr past ↦ records_agree same past.0 (inr past.1.0)
  ]

  -- nothing behind the head differs
  same_bodies : fields ≡ fields2 → body ≡ body2 → AgreeAsFarAsBothGo k j
  same_bodies same bodies =
      let parts = same_pieces k.snapshot j.snapshot (flat_map (batch_bytes h.manner.mark) h.batches ++ h.behind) (flat_map (batch_bytes g.manner.mark) g.batches ++ g.behind) (same_length same) bodies in
      records_agree same parts.0 (inl parts.1)

  -- the byte is one of the sums: then one of them is wrong
  no_sum : fields ≡ fields2 → body ≡ body2 → DifferInOneByte (sums k h.manner) (sums j g.manner) → ⊥
  no_sum same bodies d = elim (parted (to_be_bytes w32 (crc32c k.snapshot)) (to_be_bytes w32 (crc32c j.snapshot)) (to_be_bytes w32 (crc32c fields)) (to_be_bytes w32 (crc32c fields2)) refl d) [
    | inl of_snapshot ↦
        let snapshots = same_pieces k.snapshot j.snapshot (flat_map (batch_bytes h.manner.mark) h.batches ++ h.behind) (flat_map (batch_bytes g.manner.mark) g.batches ++ g.behind) (same_length same) bodies in
        not_itself (to_be_bytes w32 (crc32c k.snapshot)) (to_be_bytes w32 (crc32c j.snapshot)) (ap (λ (l : List ℕ). to_be_bytes w32 (crc32c l)) snapshots.0) of_snapshot.0
    | inr of_fields ↦ not_itself (to_be_bytes w32 (crc32c fields)) (to_be_bytes w32 (crc32c fields2)) (ap (λ (l : List ℕ). to_be_bytes w32 (crc32c l)) same) of_fields.1.0
  ]

  -- the byte stands in the head: it is the one that says whether the half is followed
  followed_alone : DifferInOneByte (half_head k h.manner h.followed) (half_head j g.manner g.followed) → body ≡ body2 → (fields ≡ fields2) × (sums k h.manner ≡ sums j g.manner)
  followed_alone d bodies = elim (first_or_later 165 165 (fields ++ (h.followed ∷ sums k h.manner)) (fields2 ++ (g.followed ∷ sums j g.manner)) d) [
    | inl gate ↦ absurd (gate.0.differ refl)
    | inr later ↦ elim (parted fields fields2 (h.followed ∷ sums k h.manner) (g.followed ∷ sums j g.manner) fields_long later.1.0) [
      | inl of_fields ↦
          let own = same_pieces (h.followed ∷ to_be_bytes w32 (crc32c k.snapshot)) (g.followed ∷ to_be_bytes w32 (crc32c j.snapshot)) (to_be_bytes w32 (crc32c fields)) (to_be_bytes w32 (crc32c fields2)) refl of_fields.1 in
          absurd (sum_changes fields fields2 of_fields.0 (sym (same_sum fields fields2 own.1)))
      | inr past ↦ elim (first_or_later h.followed g.followed (sums k h.manner) (sums j g.manner) past.1.0) [
        | inl is_followed ↦ (past.0, is_followed.1)
        | inr of_sums ↦ absurd (no_sum past.0 bodies of_sums.1.0)
      ]
    ]
  ]

  -- what the heads say where they are the same, and nothing else is
  same_fields : half_head k h.manner h.followed ≡ half_head j g.manner g.followed → (fields ≡ fields2) × (to_be_bytes w32 (crc32c k.snapshot) ≡ to_be_bytes w32 (crc32c j.snapshot))
  same_fields heads =
      let parts = same_pieces fields fields2 (h.followed ∷ sums k h.manner) (g.followed ∷ sums j g.manner) fields_long (ap (drop 1) heads) in
      let own = same_pieces (h.followed ∷ to_be_bytes w32 (crc32c k.snapshot)) (g.followed ∷ to_be_bytes w32 (crc32c j.snapshot)) (to_be_bytes w32 (crc32c fields)) (to_be_bytes w32 (crc32c fields2)) refl parts.1 in
      (parts.0, ap (drop 1) own.0)

  heads_long : length (half_head k h.manner h.followed) ≡ length (half_head j g.manner g.followed)
  heads_long = length-head k h.manner h.followed h.manner_is ∙ sym (length-head j g.manner g.followed g.manner_is)

  -- the byte, of the head and what is behind it
  abbrev of_parts : DifferInOneByte file other → DifferInOneByte (half_head k h.manner h.followed ++ body) (half_head j g.manner g.followed ++ body2)
  of_parts d =
      moved file (half_head k h.manner h.followed ++ body) other (half_head j g.manner g.followed ++ body2)
      (h.parts ∙ parts_of k h.manner h.followed h.batches h.behind) (g.parts ∙ parts_of j g.manner g.followed g.batches g.behind) d

  pub halves_agree : DifferInOneByte file other → AgreeAsFarAsBothGo k j
  halves_agree d = elim (parted (half_head k h.manner h.followed) (half_head j g.manner g.followed) body body2 heads_long (of_parts d)) [
    | inl head ↦ same_bodies (followed_alone head.0 head.1).0 head.1
    | inr past ↦ let same = same_fields past.0 in behind_head same.0 same.1 past.1.0
  ]

  -- ---- which byte hides records

  -- the half of this file, followed as the other one is
  followed_as_other : fields ≡ fields2 → sums k h.manner ≡ sums j g.manner → body ≡ body2 → HoldsBatches k other
  followed_as_other same own_sums bodies = record {
    manner = h.manner;
    followed = g.followed;
    batches = h.batches;
    behind = h.behind;
    parts =
        g.parts ∙ parts_of j g.manner g.followed g.batches g.behind
        ∙ ap (λ (l : List ℕ). (165 ∷ (l ++ (g.followed ∷ sums j g.manner))) ++ body2) (sym same)
        ∙ ap (λ (l : List ℕ). (165 ∷ (fields ++ (g.followed ∷ l))) ++ body2) (sym own_sums)
        ∙ ap (λ (l : List ℕ). half_head k h.manner g.followed ++ l) (sym bodies)
        ∙ sym (parts_of k h.manner g.followed h.batches h.behind);
    manner_is = h.manner_is;
    some = h.some;
    entries = h.entries;
    may_stand = h.may_stand;
    version = h.version;
    from_one = h.from_one;
    generation = h.generation;
    snapshot = h.snapshot;
    fit = h.fit;
    plain = h.plain;
  }

  none_hidden : (more : List LogRecord) → k.entries ≡ j.entries ++ more → 0 < length more → k ≡ j → ⊥
  none_hidden more is left same = absurd (omega (arith, left, ap (λ (c : Contents). length c.entries) same, ap length is, length-append j.entries more))

  abbrev batch_parts : List ℕ
  batch_parts = flat_map (batch_bytes h.manner.mark) h.batches ++ h.behind

  abbrev batch_parts2 : List ℕ
  batch_parts2 = flat_map (batch_bytes g.manner.mark) g.batches ++ g.behind

  -- where records are missing, the byte stands behind the snapshot
  past_snapshot : (d : DifferInOneByte file other) (more : List LogRecord) → k.entries ≡ j.entries ++ more → 0 < length more → (fields ≡ fields2) × DiffersPast (41 + length k.snapshot) d batch_parts batch_parts2
  past_snapshot d more is left = elim (parted (half_head k h.manner h.followed) (half_head j g.manner g.followed) body body2 heads_long (of_parts d)) [
    | inl head ↦
        let same = followed_alone head.0 head.1 in
        absurd (none_hidden more is left (batches_same k j other (followed_as_other same.0 same.1 head.1) g))
    | inr past ↦
        let same = same_fields past.0 in
        elim (parted k.snapshot j.snapshot batch_parts batch_parts2 (same_length same.0) past.1.0) [
          | inl in_snapshot ↦ absurd (sum_changes k.snapshot j.snapshot in_snapshot.0 (sym (same_sum k.snapshot j.snapshot same.1)))
          | inr rest ↦ (
            same.0,
            (
              rest.1.0,
              record {
                at = omega (arith, past.1.1.at, rest.1.1.at, length-head k h.manner h.followed h.manner_is);
                was_is = past.1.1.was_is ∙ rest.1.1.was_is;
              },
            ),
          )
        ]
  ]

  no_mark_behind : g.manner.mark ≡ mark_of_two_syncs → IsBehind g.manner.mark g.behind → BeginsWithNoMark g.behind
  no_mark_behind two (inl closed) = closed.1
  no_mark_behind two (inr one) = absurd (omega (arith, two, one.0))

  unfinished_behind : g.manner.mark ≡ mark_of_one_sync → IsBehind g.manner.mark g.behind → IsUnfinishedBatch mark_of_one_sync g.behind
  unfinished_behind one (inl two) = absurd (omega (arith, one, two.0))
  unfinished_behind one (inr unfinished) = unfinished.1

  -- batches with the mark of a manner
  abbrev with_mark : (mark : ℕ) → h.manner.mark ≡ mark → g.manner.mark ≡ mark → DifferInOneByte batch_parts batch_parts2
      → DifferInOneByte (flat_map (batch_bytes mark) h.batches ++ h.behind) (flat_map (batch_bytes mark) g.batches ++ g.behind)
  with_mark mark is is2 d =
      moved batch_parts (flat_map (batch_bytes mark) h.batches ++ h.behind) batch_parts2 (flat_map (batch_bytes mark) g.batches ++ g.behind)
      (ap (λ (m : ℕ). flat_map (batch_bytes m) h.batches ++ h.behind) is) (ap (λ (m : ℕ). flat_map (batch_bytes m) g.batches ++ g.behind) is2) d

  abbrev missing : (more : List LogRecord) → k.entries ≡ j.entries ++ more → batch_entries h.batches ≡ batch_entries g.batches ++ more
  missing more is = sym h.entries ∙ is ∙ ap (λ (l : List LogRecord). l ++ more) g.entries

  pub mark_hides : (d : DifferInOneByte file other) → h.manner.mark ≡ mark_of_two_syncs → (more : List LogRecord) → k.entries ≡ j.entries ++ more → 0 < length more
      → IsMarkAt mark_of_two_syncs (41 + length k.snapshot + records_size j.entries) d
  mark_hides d two more is left =
      let past = past_snapshot d more is left in
      let two2 : g.manner.mark ≡ mark_of_two_syncs = sym (same_mark past.0) ∙ two in
      let found = hidden h.batches g.batches h.behind g.behind more h.some g.some
      (subst (AllByRecursion IsLogRecord) h.entries h.fit) (subst (AllByRecursion IsLogRecord) g.entries g.fit) (no_mark_behind two2 g.may_stand)
      (with_mark mark_of_two_syncs two two2 past.1.0) (missing more is) left in
      record {
        was_mark = past.1.1.was_is ∙ found.was_mark;
        place = omega (arith, past.1.1.at, found.place, ap records_size g.entries);
      }

  pub last_hides : DifferInOneByte file other → h.manner.mark ≡ mark_of_one_sync → (more : List LogRecord) → k.entries ≡ j.entries ++ more → 0 < length more
      → LacksLastBatch h.batches j.entries
  last_hides d one more is left =
      let past = past_snapshot d more is left in
      let one2 : g.manner.mark ≡ mark_of_one_sync = sym (same_mark past.0) ∙ one in
      subst (LacksLastBatch h.batches) (sym g.entries)
      (only_last h.batches g.batches h.behind g.behind more h.some g.some
      (subst (AllByRecursion IsLogRecord) h.entries h.fit) (subst (AllByRecursion IsLogRecord) g.entries g.fit) (subst (AllByRecursion IsPlain) h.entries (h.plain one))
      (unfinished_behind one2 g.may_stand) (with_mark mark_of_one_sync one one2 past.1.0) (missing more is) left)
