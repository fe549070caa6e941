-- How a disk that is told from its orders stands between two of them.
use Rattle.std.proofs.Common.{inl, inr, ⊎_elim, ◌≡◌, Bool, true, false, ℕ, zero, suc, ◌+◌, ◌≤◌, List, [], ◌∷◌, ◌++◌, take, drop, length, refl, sym, ◌∙◌, ap, subst, arith, append-nil, length-append, length-take, length-drop}
use Rattle.disk_trait.specs.Disk.{Image, AreBytes, HoldsBytes, Torn, TornCut, OnHalf, Partly, IsSoundDisk, file_of, other_of, written}
use Rattle.disk_trait.specs.declared.half.Half.{Half}
use Rattle.disk_trait.specs.declared.half.Half.TheVariants.{A, B}
use Rattle.disk_trait.specs.Orders.{OrderValue, writes, cuts, syncs}
use Rattle.deferred_disk.specs.DiskRequests.{CallsValue, all_of}
use Rattle.deferred_disk.specs.MixedWrites.{bytes_in_place, whole_in_place}
use Rattle.deferred_disk.specs.State.{AllAreWithin, AllWriteBytes, OrderBinds, OrderIsWithin, OrdersLeftSince, OrdersMayLeave, PartOfOrder, PartOfWrite, OrderWritesBytes, state_after_orders, image_after, reads_by, with_file}

-- ---- bytes in lists

bytes_taken : (n : ℕ) (bytes : List ℕ) → AreBytes bytes → AreBytes (take n bytes)
bytes_taken zero bytes are = tt
bytes_taken (suc n) [] are = tt
bytes_taken (suc n) (b ∷ bs) are = (are.0, bytes_taken n bs are.1)

bytes_dropped : (n : ℕ) (bytes : List ℕ) → AreBytes bytes → AreBytes (drop n bytes)
bytes_dropped zero bytes are = are
bytes_dropped (suc n) [] are = tt
bytes_dropped (suc n) (b ∷ bs) are = bytes_dropped n bs are.1

bytes_joined : (xs ys : List ℕ) → AreBytes xs → AreBytes ys → AreBytes (xs ++ ys)
bytes_joined [] ys first second = second
bytes_joined (x ∷ xs) ys first second = (first.0, bytes_joined xs ys first.1 second)

bytes_torn : (at n : ℕ) (old new : List ℕ) → Torn at n old new → AreBytes old → AreBytes new
bytes_torn at n old new torn are =
    subst AreBytes (sym torn.parts)
    (bytes_joined (take at old ++ torn.middle) (drop (at + n) old) (bytes_joined (take at old) torn.middle (bytes_taken at old are) torn.bytes) (bytes_dropped (at + n) old are))

bytes_cut : (n : ℕ) (old new : List ℕ) → TornCut n old new → AreBytes old → AreBytes new
bytes_cut n old new cut are = subst AreBytes (sym cut.parts) (bytes_joined (take n old) cut.middle (bytes_taken n old are) cut.bytes)

-- ---- a file of an image

pub same_file : (half : Half) (file : List ℕ) (image : Image) → file_of half (with_file half file image) ≡ file
same_file A file image = refl
same_file B file image = refl

pub same_other : (half : Half) (file : List ℕ) (image : Image) → other_of half (with_file half file image) ≡ other_of half image
same_other A file image = refl
same_other B file image = refl

-- a step on a half's file, where the file is put in place
pub on_half : (half : Half) (step : List ℕ → List ℕ → Type 0) (file : List ℕ) (image : Image) → step (file_of half image) file → OnHalf half step image (with_file half file image)
on_half A step file image taken = record { changed = taken; other = refl }
on_half B step file image taken = record { changed = taken; other = refl }

half_bytes : (half : Half) (step : List ℕ → List ℕ → Type 0) (old new : Image) → ((before after : List ℕ) → step before after → AreBytes before → AreBytes after) → OnHalf half step old new → HoldsBytes old → HoldsBytes new
half_bytes A step old new keeps taken holds = (keeps old.a new.a taken.changed holds.0, subst AreBytes (sym taken.other) holds.1)
half_bytes B step old new keeps taken holds = (subst AreBytes (sym taken.other) holds.0, keeps old.b new.b taken.changed holds.1)

-- ---- one order, done in whole

pub whole_write : (at : ℕ) (bytes old : List ℕ) → AreBytes bytes → Torn at (length bytes) old (written at bytes old)
whole_write at bytes old are = record {
  middle = bytes;
  bytes = are;
  parts = refl;
  no_shorter = omega (arith, size, length-take at old, length-drop (at + length bytes) old);
  no_longer = omega (arith, size, length-take at old, length-drop (at + length bytes) old);
}
  where
    size : length (written at bytes old) ≡ length (take at old) + length bytes + length (drop (at + length bytes) old)
    size = length-append (take at old ++ bytes) (drop (at + length bytes) old) ∙ ap (λ n. n + length (drop (at + length bytes) old)) (length-append (take at old) bytes)

whole_cut : (len : ℕ) (file : List ℕ) → TornCut len file (take len file)
whole_cut len file = record { middle = []; bytes = tt; parts = sym (append-nil (take len file)); no_longer = omega (arith, length-take len file) }

whole_part : (mixes : Bool) (at : ℕ) (bytes old : List ℕ) → AreBytes bytes → at ≤ length old → PartOfWrite mixes at bytes old (written at bytes old)
whole_part false at bytes old are within = whole_write at bytes old are
whole_part true at bytes old are within = whole_in_place at bytes old within

-- done in whole, it is one of the parts
pub whole : (mixes : Bool) (order : OrderValue) (image : Image) → OrderWritesBytes order → OrderIsWithin order image → Partly (PartOfOrder mixes order) image (image_after order image)
whole mixes (writes half at bytes) image are within =
    inr (on_half half (PartOfWrite mixes at bytes) (written at bytes (file_of half image)) image (whole_part mixes at bytes (file_of half image) are within))
whole mixes (cuts half len) image are within = inr (on_half half (TornCut len) (take len (file_of half image)) image (whole_cut len (file_of half image)))
whole mixes (syncs half) image are within = inl refl

bound : (order : OrderValue) (image : Image) → OrderBinds order image (image_after order image)
bound (writes half at bytes) image = tt
bound (cuts half len) image = tt
bound (syncs half) image = refl

-- what a crash leaves of a write is bytes
pub bytes_left : (mixes : Bool) (at : ℕ) (bytes old new : List ℕ) → AreBytes bytes → PartOfWrite mixes at bytes old new → AreBytes old → AreBytes new
bytes_left false at bytes old new wrote torn are = bytes_torn at (length bytes) old new torn are
bytes_left true at bytes old new wrote mixed are = bytes_in_place at bytes old new wrote mixed are

part_bytes : (mixes : Bool) (order : OrderValue) (old new : Image) → OrderWritesBytes order → PartOfOrder mixes order old new → HoldsBytes old → HoldsBytes new
part_bytes mixes (writes half at bytes) old new wrote part holds =
    half_bytes half (PartOfWrite mixes at bytes) old new (λ before after. bytes_left mixes at bytes before after wrote) part holds
part_bytes mixes (cuts half len) old new wrote part holds = half_bytes half (TornCut len) old new (bytes_cut len) part holds
part_bytes mixes (syncs half) old new wrote part holds = absurd part

-- ---- all orders

module _ (mixes : Bool) where
  stays : (start : Image) (orders : List OrderValue) → AllWriteBytes orders → AllAreWithin start orders → OrdersMayLeave mixes start orders (reads_by start orders)
  stays start [] wrote within = refl
  stays start (order ∷ earlier) wrote within =
      let before = reads_by start earlier in
      ((before, stays start earlier wrote.1 within.1, whole mixes order before wrote.0 within.0), bound order before)

  pub left_bytes : (start : Image) (orders : List OrderValue) (c : Image) → AllWriteBytes orders → HoldsBytes start → OrdersMayLeave mixes start orders c → HoldsBytes c
  left_bytes start [] c wrote holds left = subst HoldsBytes (sym left) holds
  left_bytes start (order ∷ earlier) c wrote holds left =
      let d = left.0.0 in
      let before = left_bytes start earlier d wrote.1 holds left.0.1 in
      ⊎_elim (λ same. subst HoldsBytes (sym same) before) (λ part. part_bytes mixes order d c wrote.0 part before) left.0.2

  since_bytes : (start : Image) (orders : List OrderValue) (t : ℕ) (c : Image) → AllWriteBytes orders → HoldsBytes start → OrdersLeftSince mixes start orders t c → HoldsBytes c
  since_bytes start [] t c wrote holds left = left_bytes start [] c wrote holds left.1
  since_bytes start (order ∷ earlier) t c wrote holds left =
      ⊎_elim (λ before. since_bytes start earlier t c wrote.1 holds before) (λ now. left_bytes start (order ∷ earlier) c wrote holds now.1) left

  -- nothing was left since a moment that is still to come
  no_later : (start : Image) (orders : List OrderValue) (t : ℕ) (c : Image) → OrdersLeftSince mixes start orders t c → t ≤ length orders
  no_later start [] t c left = left.0
  no_later start (order ∷ earlier) t c left =
      ⊎_elim (λ before. let le : t ≤ length earlier = no_later start earlier t c before in omega (arith, le)) (λ now. now.0) left

  -- what may be left now may have been left since any moment until now
  pub left_now : (start : Image) (orders : List OrderValue) (t : ℕ) (c : Image) → t ≤ length orders → OrdersMayLeave mixes start orders c → OrdersLeftSince mixes start orders t c
  left_now start [] t c le left = (le, left)
  left_now start (order ∷ earlier) t c le left = inr (le, left)

  only_now : (start : Image) (orders : List OrderValue) (c : Image) → OrdersLeftSince mixes start orders (length orders) c → OrdersMayLeave mixes start orders c
  only_now start [] c left = left.1
  only_now start (order ∷ earlier) c left =
      ⊎_elim (λ before. let le : length (order ∷ earlier) ≤ length earlier = no_later start earlier (length (order ∷ earlier)) c before in absurd (omega (arith, le))) (λ now. now.1) left

  pub sound_ordered : (calls : CallsValue) (failures : ℕ) → HoldsBytes calls.start → AllWriteBytes (all_of calls) → AllAreWithin calls.start (all_of calls)
      → IsSoundDisk (state_after_orders mixes calls failures)
  sound_ordered calls failures holds wrote within = record {
    reads_stay = stays calls.start (all_of calls) wrote within;
    counts_now = λ t c le left. left_now calls.start (all_of calls) t c le left;
    only_now = λ c left. only_now calls.start (all_of calls) c left;
    bytes = λ t c left. since_bytes calls.start (all_of calls) t c wrote holds left;
  }
