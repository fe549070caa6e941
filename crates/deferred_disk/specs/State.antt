-- What a disk holds whose calls are orders: it is told from the bytes that the files began with and the orders, the newest first.
use Rattle.std.specs.Prelude.{◌≡◌, ◌⊎◌, ℕ, ◌+◌, ◌<◌, ◌≤◌, max, Bool, true, false, List, [], ◌∷◌, length, take, get_or}
use Rattle.std.specs.Coded.{×_prop, Unit-prop, le_prop}
use Rattle.disk_trait.specs.Disk.{Image, State, AreBytes, HoldsBytes, TornCut, OnHalf, Partly, Torn, file_of, written}
use Rattle.disk_trait.specs.declared.half.Half.{Half}
use Rattle.disk_trait.specs.declared.half.Half.TheVariants.{A, B}
use Rattle.disk_trait.specs.Orders.{OrderValue, writes, cuts, syncs}
use Rattle.deferred_disk.specs.DiskRequests.{CallsValue, all_of}

-- ---- one order

-- an image with another file in one half
abbrev pub with_file : Half → List ℕ → Image → Image
with_file A file image = record { a = file; b = image.b }
with_file B file image = record { a = image.a; b = file }

-- what a read gives after it
abbrev pub image_after : OrderValue → Image → Image
image_after (writes half at bytes) image = with_file half (written at bytes (file_of half image)) image
image_after (cuts half len) image = with_file half (take len (file_of half image)) image
image_after (syncs half) image = image

-- A write of these bytes that a crash cuts short, on a disk that mixes: each byte in its range is the new one or the old one, every other one
-- is the old one, and past the old end the old one is 0. So a byte stands where the write puts it, also where the old file ends before that.
pub record MixedInPlace (at : ℕ) (bytes old new : List ℕ) : Type 0 where
  pub each : (i : ℕ) → (get_or new i 0 ≡ get_or old i 0) ⊎ ((j : ℕ) × (i ≡ at + j) × (j < length bytes) × (get_or new i 0 ≡ get_or bytes j 0))
  pub no_shorter : length old ≤ length new
  pub no_longer : length new ≤ max (length old) (at + length bytes)

-- what a crash may leave of a write, by whether the disk mixes
abbrev pub PartOfWrite : (mixes : Bool) → ℕ → List ℕ → List ℕ → List ℕ → Type 0
PartOfWrite false at bytes = Torn at (length bytes)
PartOfWrite true at bytes = MixedInPlace at bytes

-- what a crash may make of an image on which it is pending, beside leaving it undone: a part of it, or all
abbrev pub PartOfOrder : (mixes : Bool) → OrderValue → Image → Image → Type 0
PartOfOrder mixes (writes half at bytes) = OnHalf half (PartOfWrite mixes at bytes)
PartOfOrder mixes (cuts half len) = OnHalf half (TornCut len)
PartOfOrder mixes (syncs half) = λ _ _. ⊥

-- after a sync a crash leaves of the half what a read gives
abbrev pub OrderBinds : OrderValue → Image → Image → Type 0
OrderBinds (syncs half) reads left = file_of half left ≡ file_of half reads
OrderBinds _ reads left = Unit {0}

-- what it writes is bytes
abbrev pub OrderWritesBytes : OrderValue → Type 0
OrderWritesBytes (writes half at bytes) = AreBytes bytes
OrderWritesBytes _ = Unit {0}

-- it writes from within the file on, or from its end on
abbrev pub OrderIsWithin : OrderValue → Image → Type 0
OrderIsWithin (writes half at bytes) reads = at ≤ length (file_of half reads)
OrderIsWithin _ reads = Unit {0}

-- ---- orders in turn, of which the newest is the first here

-- what a read gives after these orders
abbrev pub reads_by : Image → List OrderValue → Image
reads_by start [] = start
reads_by start (order ∷ earlier) = image_after order (reads_by start earlier)

-- what a crash after them may leave
abbrev pub OrdersMayLeave : (mixes : Bool) → Image → List OrderValue → Image → Type 0
OrdersMayLeave mixes start [] c = c ≡ start
OrdersMayLeave mixes start (order ∷ earlier) c =
    ((d : Image) × OrdersMayLeave mixes start earlier d × Partly (PartOfOrder mixes order) d c) × OrderBinds order (reads_by start earlier) c

-- what a crash might have left at some moment from t on: a moment is the number of orders before it
abbrev pub OrdersLeftSince : (mixes : Bool) → Image → List OrderValue → ℕ → Image → Type 0
OrdersLeftSince mixes start [] t c = (t ≤ 0) × OrdersMayLeave mixes start [] c
OrdersLeftSince mixes start (order ∷ earlier) t c =
    OrdersLeftSince mixes start earlier t c ⊎ ((t ≤ length (order ∷ earlier)) × OrdersMayLeave mixes start (order ∷ earlier) c)

-- what each of them writes is bytes
abbrev pub AllWriteBytes : List OrderValue → Type 0
AllWriteBytes [] = Unit {0}
AllWriteBytes (order ∷ earlier) = OrderWritesBytes order × AllWriteBytes earlier

-- each of them writes from within the file on that it is done on
abbrev pub AllAreWithin : Image → List OrderValue → Type 0
AllAreWithin start [] = Unit {0}
AllAreWithin start (order ∷ earlier) = OrderIsWithin order (reads_by start earlier) × AllAreWithin start earlier

-- ---- what holds once

pub bytes-prop : (bytes : List ℕ) → IsProp (AreBytes bytes)
bytes-prop [] = Unit-prop
bytes-prop (b ∷ bs) = ×_prop le_prop (bytes-prop bs)

pub holds-prop : (image : Image) → IsProp (HoldsBytes image)
holds-prop image = ×_prop (bytes-prop image.a) (bytes-prop image.b)

writes-prop : (order : OrderValue) → IsProp (OrderWritesBytes order)
writes-prop (writes half at bytes) = bytes-prop bytes
writes-prop (cuts half len) = Unit-prop
writes-prop (syncs half) = Unit-prop

pub all_write-prop : (orders : List OrderValue) → IsProp (AllWriteBytes orders)
all_write-prop [] = Unit-prop
all_write-prop (order ∷ earlier) = ×_prop (writes-prop order) (all_write-prop earlier)

within-prop : (order : OrderValue) (reads : Image) → IsProp (OrderIsWithin order reads)
within-prop (writes half at bytes) reads = le_prop
within-prop (cuts half len) reads = Unit-prop
within-prop (syncs half) reads = Unit-prop

pub all_within-prop : (start : Image) (orders : List OrderValue) → IsProp (AllAreWithin start orders)
all_within-prop start [] = Unit-prop
all_within-prop start (order ∷ earlier) = ×_prop (within-prop order (reads_by start earlier)) (all_within-prop start earlier)

-- ---- the state

-- The files began with these bytes and nothing pending, and all of these orders were done, whether that was reported yet or not. Writes of the disk
-- mix, or they do not.
abbrev pub state_after_orders : (mixes : Bool) → CallsValue → ℕ → State
state_after_orders mixes calls failures = record {
  honest = true;
  mixes = mixes;
  reads = reads_by calls.start (all_of calls);
  may_leave = OrdersMayLeave mixes calls.start (all_of calls);
  moment = length (all_of calls);
  left_since = OrdersLeftSince mixes calls.start (all_of calls);
  failures = failures;
  performed = record { start = calls.start; done = calls.done };
}
