-- What a write leaves on a disk that mixes: a crash that may leave a file may also leave it with zeros behind it, up to the length of what a read
-- gives, since those zeros are bytes that were not written yet. So what a write is done on reaches to where it begins, whatever a crash leaves.
use Rattle.std.proofs.Common.{◌≡◌, ◌⊎◌, ◌∙◌, inl, inr, ⊎_elim, Bool, true, false, ℕ, ◌+◌, ◌-◌, ◌<◌, ◌≤◌, min, max, List, [], ◌∷◌, ◌++◌, length, take, drop, get_or, replicate, refl, sym, ap, subst, arith, append-nil, append_assoc, length-append, length-take, length-drop}
use Rattle.std.proofs.lemmas.Bool.{cases_lt}
use Rattle.std.proofs.lemmas.List.{ext_get_or, get_or-append_right, get_or-drop, get_or-replicate, get_or-take, get_or_append_left, get_or_past, length-replicate, take_all, drop-drop, take-append-drop}
use Rattle.disk_trait.specs.Disk.{AreBytes, Changes, TornCut, Elapses, HoldsBytes, Image, Mixed, OnHalf, Partly, State, Torn, file_of, other_of, written}
use Rattle.disk_trait.specs.Mixes.{mixed_torn, whole_mixed}
use Rattle.disk_trait.specs.declared.half.Half.{Half}
use Rattle.disk_trait.specs.declared.half.Half.TheVariants.{A, B}
use Rattle.disk_trait.specs.Orders.{OrderValue, writes, cuts, syncs}
use Rattle.deferred_disk.specs.DiskRequests.{CallsValue, all_of, with_order}
use Rattle.deferred_disk.specs.MixedWrites.{none_in_place}
use Rattle.deferred_disk.specs.Sound.{left_bytes, on_half, whole}
use Rattle.deferred_disk.specs.State.{AllWriteBytes, MixedInPlace, OrderBinds, OrdersMayLeave, PartOfOrder, image_after, reads_by, state_after_orders}

-- the file with zeros behind it, up to this length at most
pub record GrownTo (most : ℕ) (old new : List ℕ) : Type 0 where
  pub each : (i : ℕ) → get_or new i 0 ≡ get_or old i 0
  pub no_shorter : length old ≤ length new
  pub no_longer : length new ≤ max (length old) most

-- ---- a file with zeros behind it

abbrev pub with_zeros : List ℕ → ℕ → List ℕ
with_zeros file len = file ++ replicate (len - length file) 0

zeros_each : (file : List ℕ) (len i : ℕ) → get_or (with_zeros file len) i 0 ≡ get_or file i 0
zeros_each file len i = elim (cases_lt i (length file)) [
  | inl within ↦ get_or_append_left file (replicate (len - length file) 0) 0 i within
  | inr past ↦
      get_or-append_right file (replicate (len - length file) 0) (length file) i 0 refl past
      ∙ zero_each (len - length file) (i - length file) ∙ sym (get_or_past file i 0 past)
]
  where
    zero_each : (n i : ℕ) → get_or {A = ℕ} (replicate n 0) i 0 ≡ 0
    zero_each n i = elim (cases_lt i n) [
      | inl within ↦ get_or-replicate {A = ℕ} n i 0 0 within
      | inr past ↦ get_or_past {X = ℕ} (replicate n 0) i 0 (omega (arith, past, length-replicate {A = ℕ} n 0))
    ]

zeros_length : (file : List ℕ) (len : ℕ) → length file ≤ len → length (with_zeros file len) ≡ len
zeros_length file len le = omega (arith, length-append file (replicate (len - length file) 0), length-replicate {A = ℕ} (len - length file) 0, le)

-- ---- one step backwards: of a file that a step led to, with zeros behind it, the file that it led from with zeros behind it

written_length : (at : ℕ) (bytes reads : List ℕ) → length (written at bytes reads) ≤ max (length reads) (at + length bytes)
written_length at bytes reads =
    omega (
      arith,
      length-append (take at reads ++ bytes) (drop (at + length bytes) reads),
      length-append (take at reads) bytes,
      length-take at reads,
      length-drop (at + length bytes) reads,
    )

-- a write, of a disk that reads so
module _ (at : ℕ) (bytes reads old new grown : List ℕ) (mixed : MixedInPlace at bytes old new) (more : GrownTo (length (written at bytes reads)) new grown) where
  abbrev len : ℕ
  len = min (max (length old) (length reads)) (length grown)

  le : length old ≤ len
  le = omega (arith, mixed.no_shorter, more.no_shorter)

  abbrev pub before_write : List ℕ
  before_write = with_zeros old len

  pub before_write_grown : GrownTo (length reads) old before_write
  before_write_grown = record { each = zeros_each old len; no_shorter = omega (arith, zeros_length old len le, le); no_longer = omega (arith, zeros_length old len le) }

  pub before_write_mixed : MixedInPlace at bytes before_write grown
  before_write_mixed = record {
    each = λ i. ⊎_elim (λ same. inl (more.each i ∙ same ∙ sym (zeros_each old len i))) (λ is. inr (is.0, is.1, is.2, more.each i ∙ is.3)) (mixed.each i);
    no_shorter = omega (arith, zeros_length old len le);
    no_longer = omega (arith, zeros_length old len le, more.no_longer, mixed.no_longer, written_length at bytes reads);
  }

  -- it reaches to where the write begins, or to the end of what is left
  pub before_write_reaches : at ≤ length reads → min at (length grown) ≤ length before_write
  before_write_reaches within = omega (arith, zeros_length old len le, within)

same_length : (old new : List ℕ) → length old ≡ length new → ((i : ℕ) → get_or new i 0 ≡ get_or old i 0) → new ≡ old
same_length old new same each = ext_get_or {A = ℕ} 0 new old (sym same) (λ i within. each i)

-- a cut that was not done
before_none : (most : ℕ) (reads old new grown : List ℕ) → new ≡ old → GrownTo (length (take most reads)) new grown → GrownTo (length reads) old grown
before_none most reads old new grown same more = record {
  each = λ i. more.each i ∙ ap (λ (l : List ℕ). get_or l i 0) same;
  no_shorter = omega (arith, more.no_shorter, ap (λ (l : List ℕ). length l) same);
  no_longer = omega (arith, more.no_longer, ap (λ (l : List ℕ). length l) same, length-take most reads);
}

-- a cut in part
before_cut : (most : ℕ) (reads old new grown : List ℕ) → TornCut most old new → GrownTo (length (take most reads)) new grown
    → (d : List ℕ) × GrownTo (length reads) old d × ((grown ≡ d) ⊎ TornCut most d grown)
before_cut most reads old new grown cut more = elim (cases_lt (length new) (length grown)) [
  | inl longer ↦
      let size : length new ≡ length (take most old) + length cut.middle = ap (λ (l : List ℕ). length l) cut.parts ∙ length-append (take most old) cut.middle in
      let short : length old ≤ most = omega (arith, longer, more.no_longer, size, length-take most old, length-take most reads) in
      let front : take most old ≡ old = take_all most old short in
      let none : cut.middle ≡ [] = no_items cut.middle (omega (arith, size, ap (λ (l : List ℕ). length l) front, cut.no_longer)) in
      let same : new ≡ old = cut.parts ∙ ap (λ (l : List ℕ). l ++ cut.middle) front ∙ ap (λ (l : List ℕ). old ++ l) none ∙ append-nil old in
      (grown, before_none most reads old new grown same more, inl refl)
  | inr no_longer ↦
      let same : grown ≡ new = same_length new grown (omega (arith, no_longer, more.no_shorter)) more.each in (
        old,
        record { each = λ i. refl; no_shorter = omega arith; no_longer = omega arith },
        inr (subst (TornCut most old) (sym same) cut),
      )
]
  where
    no_items : (l : List ℕ) → length l ≡ 0 → l ≡ []
    no_items [] is = refl
    no_items (x ∷ xs) is = absurd (omega (arith, is))

-- a cut that was done, in part, or not
before_any_cut : (most : ℕ) (reads old new grown : List ℕ) → (new ≡ old) ⊎ TornCut most old new → GrownTo (length (take most reads)) new grown
    → (d : List ℕ) × GrownTo (length reads) old d × ((grown ≡ d) ⊎ TornCut most d grown)
before_any_cut most reads old new grown (inl same) more = (grown, before_none most reads old new grown same more, inl refl)
before_any_cut most reads old new grown (inr cut) more = before_cut most reads old new grown cut more

-- ---- both files

record GrownImage (reads old new : Image) : Type 0 where
  pub a : GrownTo (length reads.a) old.a new.a
  pub b : GrownTo (length reads.b) old.b new.b

abbrev image_of : List ℕ → List ℕ → Image
image_of x y = record { a = x; b = y }

was : (most : ℕ) (old new grown : List ℕ) → new ≡ old → GrownTo most new grown → GrownTo most old grown
was most old new grown same more = subst (λ (l : List ℕ). GrownTo most l grown) same more

-- a write that is undone is one in part
part_of_write : (half : Half) (at : ℕ) (bytes : List ℕ) (old new : Image) → Partly (OnHalf half (MixedInPlace at bytes)) old new → OnHalf half (MixedInPlace at bytes) old new
part_of_write half at bytes old new (inl same) =
    subst (λ (i : Image). OnHalf half (MixedInPlace at bytes) old i) (sym same) (record { changed = none_in_place at bytes (file_of half old); other = refl })
part_of_write half at bytes old new (inr part) = part

part_of_cut : (half : Half) (most : ℕ) (old new : Image) → Partly (OnHalf half (TornCut most)) old new
    → ((file_of half new ≡ file_of half old) ⊎ TornCut most (file_of half old) (file_of half new)) × (other_of half new ≡ other_of half old)
part_of_cut half most old new (inl same) = (inl (ap (file_of half) same), ap (other_of half) same)
part_of_cut half most old new (inr part) = (inr part.changed, part.other)

-- the order led to an image that has grown: what it led from
before_order : (order : OrderValue) (reads old new grown : Image) → Partly (PartOfOrder true order) old new → OrderBinds order reads new → GrownImage (image_after order reads) new grown
    → (d : Image) × GrownImage reads old d × Partly (PartOfOrder true order) d grown × OrderBinds order reads grown
before_order (writes A at bytes) reads old new grown partly binds more =
    let part = part_of_write A at bytes old new partly in
    let mixed : MixedInPlace at bytes old.a new.a = part.changed in (
      image_of (before_write at bytes reads.a old.a new.a grown.a mixed more.a) grown.b,
      record { a = before_write_grown at bytes reads.a old.a new.a grown.a mixed more.a; b = was (length reads.b) old.b new.b grown.b part.other more.b },
      inr (record { changed = before_write_mixed at bytes reads.a old.a new.a grown.a mixed more.a; other = refl }),
      tt,
    )
before_order (writes B at bytes) reads old new grown partly binds more =
    let part = part_of_write B at bytes old new partly in
    let mixed : MixedInPlace at bytes old.b new.b = part.changed in (
      image_of grown.a (before_write at bytes reads.b old.b new.b grown.b mixed more.b),
      record { a = was (length reads.a) old.a new.a grown.a part.other more.a; b = before_write_grown at bytes reads.b old.b new.b grown.b mixed more.b },
      inr (record { changed = before_write_mixed at bytes reads.b old.b new.b grown.b mixed more.b; other = refl }),
      tt,
    )
before_order (cuts A n) reads old new grown partly binds more =
    let part = part_of_cut A n old new partly in
    let cut = before_any_cut n reads.a old.a new.a grown.a part.0 more.a in (
      image_of cut.0 grown.b,
      record { a = cut.1; b = was (length reads.b) old.b new.b grown.b part.1 more.b },
      ⊎_elim (λ same. inl (ap (λ (l : List ℕ). image_of l grown.b) same)) (λ is. inr (record { changed = is; other = refl })) cut.2,
      tt,
    )
before_order (cuts B n) reads old new grown partly binds more =
    let part = part_of_cut B n old new partly in
    let cut = before_any_cut n reads.b old.b new.b grown.b part.0 more.b in (
      image_of grown.a cut.0,
      record { a = was (length reads.a) old.a new.a grown.a part.1 more.a; b = cut.1 },
      ⊎_elim (λ same. inl (ap (λ (l : List ℕ). image_of grown.a l) same)) (λ is. inr (record { changed = is; other = refl })) cut.2,
      tt,
    )
before_order (syncs half) reads old new grown partly binds more =
    let same : new ≡ old = ⊎_elim (λ is. is) (λ part. absurd part) partly in (
      grown,
      record { a = was (length reads.a) old.a new.a grown.a (ap (λ (i : Image). i.a) same) more.a; b = was (length reads.b) old.b new.b grown.b (ap (λ (i : Image). i.b) same) more.b },
      inl refl,
      synced half binds,
    )
  where
    -- what was synced is as long as what a read gives, and so no zeros are behind it
    full : (file left grown : List ℕ) → left ≡ file → GrownTo (length file) left grown → grown ≡ file
    full file left grown is more = same_length left grown (omega (arith, ap (λ (l : List ℕ). length l) is, more.no_shorter, more.no_longer)) more.each ∙ is

    synced : (half : Half) → OrderBinds (syncs half) reads new → OrderBinds (syncs half) reads grown
    synced A is = full reads.a new.a grown.a is more.a
    synced B is = full reads.b new.b grown.b is more.b

-- what a crash may leave, it may leave with zeros behind it
grown_left : (start : Image) (orders : List OrderValue) (c grown : Image) → OrdersMayLeave true start orders c → GrownImage (reads_by start orders) c grown → OrdersMayLeave true start orders grown
grown_left start [] c grown left more =
    let a = same_length c.a grown.a (omega (arith, ap (λ (i : Image). length i.a) left, more.a.no_shorter, more.a.no_longer)) more.a.each in
    let b = same_length c.b grown.b (omega (arith, ap (λ (i : Image). length i.b) left, more.b.no_shorter, more.b.no_longer)) more.b.each in
    ap (λ (l : List ℕ). image_of l grown.b) a ∙ ap (image_of c.a) b ∙ left
grown_left start (order ∷ earlier) c grown left more =
    let before = before_order order (reads_by start earlier) left.0.0 c grown left.0.2 left.1 more in
    ((before.0, grown_left start earlier left.0.0 before.0 left.0.1 before.1, before.2), before.3)

-- ---- a write

-- each byte in its place is a mixture, where the old file reaches to where the write begins
in_place_mixed : (at : ℕ) (bytes old new : List ℕ) → min at (length new) ≤ length old → MixedInPlace at bytes old new → Mixed at bytes old new
in_place_mixed at bytes old new reaches mixed = record {
  middle = take (length bytes) (drop at new);
  each = λ i within. ⊎_elim
      (λ same. inr (inside i within ∙ same))
      (λ is. (let one : is.0 ≡ i = omega (arith, is.1) in inl (inside i within ∙ is.3 ∙ ap (λ (n : ℕ). get_or bytes n 0) one)))
      (mixed.each (at + i));
  parts = parts;
  no_shorter = mixed.no_shorter;
  no_longer = mixed.no_longer;
}
  where
    inside : (i : ℕ) → i < length (take (length bytes) (drop at new)) → get_or (take (length bytes) (drop at new)) i 0 ≡ get_or new (at + i) 0
    inside i within = get_or-take (length bytes) (drop at new) i 0 (omega (arith, within, length-take (length bytes) (drop at new))) ∙ get_or-drop at new i 0

    front : take at new ≡ take at old
    front =
        same_length (take at old) (take at new) (omega (arith, length-take at old, length-take at new, mixed.no_shorter, reaches)) (λ i.
        elim (cases_lt i at) [
          | inl before ↦ get_or-take at new i 0 before ∙ ⊎_elim (λ same. same) (λ is. absurd (omega (arith, is.1, before))) (mixed.each i) ∙ sym (get_or-take at old i 0 before)
          | inr past ↦
              get_or_past (take at new) i 0 (omega (arith, past, length-take at new))
              ∙ sym (get_or_past (take at old) i 0 (omega (arith, past, length-take at old)))
        ])

    behind : drop (at + length bytes) new ≡ drop (at + length bytes) old
    behind =
        same_length (drop (at + length bytes) old) (drop (at + length bytes) new)
        (omega (arith, length-drop (at + length bytes) old, length-drop (at + length bytes) new, mixed.no_shorter, mixed.no_longer)) (λ i.
        get_or-drop (at + length bytes) new i 0
        ∙ ⊎_elim (λ same. same) (λ is. absurd (omega (arith, is.1, is.2))) (mixed.each (at + length bytes + i))
        ∙ sym (get_or-drop (at + length bytes) old i 0))

    parts : new ≡ take at old ++ take (length bytes) (drop at new) ++ drop (at + length bytes) old
    parts =
        sym (take-append-drop at new)
        ∙ ap (λ (l : List ℕ). take at new ++ l) (sym (take-append-drop (length bytes) (drop at new)))
        ∙ sym (append_assoc (take at new) (take (length bytes) (drop at new)) (drop (length bytes) (drop at new)))
        ∙ ap (λ (l : List ℕ). take at new ++ take (length bytes) (drop at new) ++ l) (drop-drop (length bytes) at new ∙ behind)
        ∙ ap (λ (l : List ℕ). l ++ take (length bytes) (drop at new) ++ drop (at + length bytes) old) front

-- what a crash may leave after a write: a file that it might have left before, and of which the write leaves a mixture
module _ (start : Image) (orders : List OrderValue) (half : Half) (at : ℕ) (bytes : List ℕ) (within : at ≤ length (file_of half (reads_by start orders))) where
  mixed_before : (half : Half) → at ≤ length (file_of half (reads_by start orders)) → (c : Image) → OrdersMayLeave true start (writes half at bytes ∷ orders) c
      → (d : Image) × OrdersMayLeave true start orders d × OnHalf half (Mixed at bytes) d c
  mixed_before A within c left =
      let was = left.0.0 in
      let reads = (reads_by start orders).a in
      let part = part_of_write A at bytes was c left.0.2 in
      let more : GrownTo (length (written at bytes reads)) c.a c.a = record { each = λ i. refl; no_shorter = omega arith; no_longer = omega arith } in
      let d : Image = image_of (before_write at bytes reads was.a c.a c.a part.changed more) was.b in (
        d,
        grown_left start orders was d left.0.1 (record {
          a = before_write_grown at bytes reads was.a c.a c.a part.changed more;
          b = record { each = λ i. refl; no_shorter = omega arith; no_longer = omega arith };
        }),
        record {
          changed = in_place_mixed at bytes d.a c.a (before_write_reaches at bytes reads was.a c.a c.a part.changed more within) (before_write_mixed at bytes reads was.a c.a c.a part.changed more);
          other = part.other;
        },
      )
  mixed_before B within c left =
      let was = left.0.0 in
      let reads = (reads_by start orders).b in
      let part = part_of_write B at bytes was c left.0.2 in
      let more : GrownTo (length (written at bytes reads)) c.b c.b = record { each = λ i. refl; no_shorter = omega arith; no_longer = omega arith } in
      let d : Image = image_of was.a (before_write at bytes reads was.b c.b c.b part.changed more) in (
        d,
        grown_left start orders was d left.0.1 (record {
          a = record { each = λ i. refl; no_shorter = omega arith; no_longer = omega arith };
          b = before_write_grown at bytes reads was.b c.b c.b part.changed more;
        }),
        record {
          changed = in_place_mixed at bytes d.b c.b (before_write_reaches at bytes reads was.b c.b c.b part.changed more within) (before_write_mixed at bytes reads was.b c.b c.b part.changed more);
          other = part.other;
        },
      )

  pub write_mixed : (c : Image) → OrdersMayLeave true start (writes half at bytes ∷ orders) c → (d : Image) × OrdersMayLeave true start orders d × Partly (OnHalf half (Mixed at bytes)) d c
  write_mixed c left = let before = mixed_before half within c left in (before.0, before.1, inr before.2)

  file_bytes : (half : Half) (image : Image) → HoldsBytes image → AreBytes (file_of half image)
  file_bytes A image holds = holds.0
  file_bytes B image holds = holds.1

  -- torn at least, on each disk
  pub write_torn : (mixes : Bool) → AreBytes bytes → AllWriteBytes orders → HoldsBytes start → (c : Image) → OrdersMayLeave mixes start (writes half at bytes ∷ orders) c
      → (d : Image) × OrdersMayLeave mixes start orders d × Partly (OnHalf half (Torn at (length bytes))) d c
  write_torn false are wrote holds c left = left.0
  write_torn true are wrote holds c left =
      let before = mixed_before half within c left in
      let were = file_bytes half before.0 (left_bytes true start orders before.0 wrote holds before.1) in (
        before.0,
        before.1,
        inr (record { changed = mixed_torn at bytes (file_of half before.0) (file_of half c) are were before.2.changed; other = before.2.other }),
      )

-- the call of a disk that has noted a write
module _ (mixes also : Bool) (calls later : CallsValue) (f g : ℕ) (half : Half) (at : ℕ) (bytes : List ℕ) (same : also ≡ mixes) (noted : later ≡ with_order calls (writes half at bytes))
    (within : at ≤ length (file_of half (reads_by calls.start (all_of calls)))) where
  abbrev reads : Image
  reads = reads_by calls.start (all_of calls)

  -- what is told of the state after it, whatever it says of its writes
  of_state : (P : State → Type 0) → P (state_after_orders mixes (with_order calls (writes half at bytes)) g) → P (state_after_orders also later g)
  of_state P is = subst (λ (m : Bool). P (state_after_orders m later g)) (sym same) (subst (λ (l : CallsValue). P (state_after_orders mixes l g)) (sym noted) is)

  elapsed : Elapses (state_after_orders mixes calls f) (state_after_orders mixes (with_order calls (writes half at bytes)) g)
  elapsed = record {
    later = omega arith;
    nothing_else = λ t c le left. ⊎_elim (λ before. inl before) (λ now. inr now.1) left;
    keeps = λ t c le left. inl left;
    performed = refl;
    mixes = refl;
  }

  pub noted_tears : AreBytes bytes → AllWriteBytes (all_of calls) → HoldsBytes calls.start
      → Changes (OnHalf half (Torn at (length bytes))) (state_after_orders mixes calls f) (state_after_orders also later g)
  noted_tears are wrote holds = of_state (λ s. Changes (OnHalf half (Torn at (length bytes))) (state_after_orders mixes calls f) s) (record {
    reads = whole false (writes half at bytes) reads are within;
    crash = write_torn calls.start (all_of calls) half at bytes within mixes are wrote holds;
    time = elapsed;
  })

  pub noted_mixes : mixes ≡ true → Changes (OnHalf half (Mixed at bytes)) (state_after_orders mixes calls f) (state_after_orders also later g)
  noted_mixes mixing = of_state (λ s. Changes (OnHalf half (Mixed at bytes)) (state_after_orders mixes calls f) s) (record {
    reads = inr (on_half half (Mixed at bytes) (written at bytes (file_of half reads)) reads (whole_mixed at bytes (file_of half reads)));
    crash = subst (λ (m : Bool). (c : Image) → OrdersMayLeave m calls.start (writes half at bytes ∷ all_of calls) c
        → (d : Image) × OrdersMayLeave m calls.start (all_of calls) d × Partly (OnHalf half (Mixed at bytes)) d c) (sym mixing) (write_mixed calls.start (all_of calls) half at bytes within);
    time = elapsed;
  })

  pub noted_done : OnHalf half (λ file next. next ≡ written at bytes file) (state_after_orders mixes calls f).reads (state_after_orders also later g).reads
  noted_done = of_state (λ s. OnHalf half (λ file next. next ≡ written at bytes file) (state_after_orders mixes calls f).reads s.reads)
      (on_half half (λ file next. next ≡ written at bytes file) (written at bytes (file_of half reads)) reads refl)
