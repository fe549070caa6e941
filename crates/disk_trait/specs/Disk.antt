-- What a disk of two files is: what a read gives, what a crash may leave, and what each call does to both.
use Rattle.std.specs.Prelude.{◌≡◌, ◌⊎◌, ℕ, ◌+◌, ◌<◌, ◌≤◌, max, Bool, true, false, List, [], ◌++◌, length, take, drop, get_or, Result, MatchResult, IsTrue}
use Rattle.std.specs.List.{AllByRecursion}
use Rattle.disk_trait.specs.Orders.{OrderValue}
use Rattle.disk_trait.specs.declared.disk.DeviceFault.{DeviceFault}
use Rattle.disk_trait.specs.declared.half.Half.{Half}
use Rattle.disk_trait.specs.declared.half.Half.TheVariants.{A, B}

-- the bytes of the two files
pub record Image : Type 0 where
  pub a : List ℕ
  pub b : List ℕ

-- the file of a half
abbrev pub file_of : Half → Image → List ℕ
file_of A image = image.a
file_of B image = image.b

-- the file of the other half
abbrev pub other_of : Half → Image → List ℕ
other_of A image = image.b
other_of B image = image.a

-- what is known to be done of a disk whose calls are done later: the bytes that its files began with, and the orders that were
-- reported done since, the newest first
pub record Performed : Type 0 where
  pub start : Image
  pub done : List OrderValue

-- a disk that does its calls at once has no orders
abbrev pub at_once : Performed
at_once = record { start = record { a = []; b = [] }; done = [] }

-- What a disk is at a moment, and what a crash leaves of it.
pub record State : Type 1 where
  -- the disk keeps the rules below; nothing is claimed of one that isn't
  pub honest : Bool
  -- of a write that a crash cuts short each byte is the old one or the new one; else it may be any
  pub mixes : Bool
  -- what a read gives
  pub reads : Image
  -- the images that a crash now may leave
  pub may_leave : Image → Type 0
  -- a clock, which falls in no call of the disk
  pub moment : ℕ
  -- the images that a crash at some moment from that one on might have left
  pub left_since : ℕ → Image → Type 0
  -- how often a call has failed
  pub failures : ℕ
  -- what was reported done; a call adds orders to it, and changes none of it
  pub performed : Performed

-- the disk keeps these rules
abbrev pub IsHonest : State → Type 0
IsHonest s = IsTrue s.honest

-- its writes mix
abbrev pub IsMixing : State → Type 0
IsMixing s = IsTrue s.mixes

-- a crash leaves what a read gives, and nothing else
abbrev pub IsDurable : State → Type 0
IsDurable s = (c : Image) → s.may_leave c → c ≡ s.reads

-- each is a number from 0 to 255
abbrev pub AreBytes : List ℕ → Type 0
AreBytes bytes = AllByRecursion (λ byte. byte < 256) bytes

-- both files hold bytes
abbrev pub HoldsBytes : Image → Type 0
HoldsBytes image = AreBytes image.a × AreBytes image.b

-- two empty files, nothing of them pending, and no failure yet
pub record IsFresh (s : State) : Type 0 where
  pub honest : IsHonest s
  pub a : s.reads.a ≡ []
  pub b : s.reads.b ≡ []
  pub durable : IsDurable s
  pub failures : s.failures ≡ 0

-- ---- what a call does to a file

-- the file with these bytes in place of its own from there on; it grows where they pass its end
abbrev pub written : ℕ → List ℕ → List ℕ → List ℕ
written at bytes old = take at old ++ bytes ++ drop (at + length bytes) old

-- a write of n bytes that a crash cuts short: any bytes in the range, past the old end any number of them, the rest as before
pub record Torn (at n : ℕ) (old new : List ℕ) : Type 0 where
  pub middle : List ℕ
  pub bytes : AreBytes middle
  pub parts : new ≡ take at old ++ middle ++ drop (at + n) old
  pub no_shorter : length old ≤ length new
  pub no_longer : length new ≤ max (length old) (at + n)

-- A write of these bytes that a crash cuts short, on a disk that mixes: each byte in the range is the new one or the old one, which is
-- 0 past the old end; past the old end any number of them, the rest as before.
pub record Mixed (at : ℕ) (bytes old new : List ℕ) : Type 0 where
  pub middle : List ℕ
  pub each : (i : ℕ) → i < length middle → (get_or middle i 0 ≡ get_or bytes i 0) ⊎ (get_or middle i 0 ≡ get_or old (at + i) 0)
  pub parts : new ≡ take at old ++ middle ++ drop (at + length bytes) old
  pub no_shorter : length old ≤ length new
  pub no_longer : length new ≤ max (length old) (at + length bytes)

-- a cut to n bytes that a crash cuts short: the old length, the new one or one between, and any bytes between
pub record TornCut (n : ℕ) (old new : List ℕ) : Type 0 where
  pub middle : List ℕ
  pub bytes : AreBytes middle
  pub parts : new ≡ take n old ++ middle
  pub no_longer : length new ≤ length old

-- the step is taken on this half's file, and the other half's stays
pub record OnHalf (half : Half) (step : List ℕ → List ℕ → Type 0) (old new : Image) : Type 0 where
  pub changed : step (file_of half old) (file_of half new)
  pub other : other_of half new ≡ other_of half old

-- nothing is done yet, or the step is
abbrev pub Partly : (Image → Image → Type 0) → Image → Image → Type 0
Partly step old new = (new ≡ old) ⊎ step old new

-- ---- what the calls promise

-- a count of failures rises by one where the device failed, and else stays
abbrev pub Rises : Bool → ℕ → ℕ → Type 0
Rises true old new = new ≡ old + 1
Rises false old new = new ≡ old

-- Of every disk, between two of its states: its honesty stays, and what it says of its writes, and the count of failures rises exactly with
-- a fault of the device.
pub record Told (is_fault : Bool) (old new : State) : Type 0 where
  pub honest : new.honest ≡ old.honest
  pub mixes : new.mixes ≡ old.mixes
  pub failures : Rises is_fault old.failures new.failures

-- Of a call that answers beside its disk, with some errors that are a fault of the device and some that are none: the honesty stays, and what
-- the disk says of its writes, and the count of failures rises exactly with such a fault.
pub record Tells {T E : Type 0} (is_fault : E → Bool) (old new : State) (result : Result T E) : Type 0 where
  pub honest : new.honest ≡ old.honest
  pub mixes : new.mixes ≡ old.mixes
  pub failures : MatchResult result (λ _. new.failures ≡ old.failures) (λ e. Rises (is_fault e) old.failures new.failures)

-- a call of the disk itself, which has no other error
abbrev pub is_fault_of_device : DeviceFault → Bool
is_fault_of_device fault = true

-- a call of the disk itself: its honesty stays, and what it says of its writes, and the count rises exactly where the call failed
abbrev pub Counts : {T : Type 0} → State → State → Result T DeviceFault → Type 0
Counts old new result = Tells is_fault_of_device old new result

-- Time goes on: a crash since t might have left what it might have left before, or what it may leave now.
pub record Elapses (old new : State) : Type 0 where
  pub later : old.moment ≤ new.moment
  pub nothing_else : (t : ℕ) (c : Image) → t ≤ old.moment → new.left_since t c → old.left_since t c ⊎ new.may_leave c
  pub keeps : (t : ℕ) (c : Image) → t ≤ old.moment → old.left_since t c → new.left_since t c
  pub performed : new.performed ≡ old.performed
  pub mixes : new.mixes ≡ old.mixes

-- a call that writes nothing
pub record Looks (old new : State) : Type 0 where
  pub reads : new.reads ≡ old.reads
  pub crash : (c : Image) → new.may_leave c → old.may_leave c
  pub time : Elapses old new

-- a call that takes this step or fails in it; until a sync a crash may leave it undone, or any part of it done
pub record Changes (step : Image → Image → Type 0) (old new : State) : Type 0 where
  pub reads : Partly step old.reads new.reads
  pub crash : (c : Image) → new.may_leave c → (d : Image) × old.may_leave d × Partly step d c
  pub time : Elapses old new

-- A crash may leave no less than this: all that it might have left before, with the step undone or taken, in whole or in part.
abbrev pub Allows : (Image → Image → Type 0) → State → State → Type 0
Allows step old new = (d c : Image) → old.may_leave d → Partly step d c → new.may_leave c

-- Between calls: what a read gives may be left; the moments since t have this one among them; since this one there is no other;
-- and all that a crash might have left since any moment, so what it may leave now and what a read gives too, is bytes.
pub record IsSoundDisk (s : State) : Type 0 where
  pub reads_stay : s.may_leave s.reads
  pub counts_now : (t : ℕ) (c : Image) → t ≤ s.moment → s.may_leave c → s.left_since t c
  pub only_now : (c : Image) → s.left_since s.moment c → s.may_leave c
  pub bytes : (t : ℕ) (c : Image) → s.left_since t c → HoldsBytes c

-- a crash at any moment since the old state, inside a call too, leaves an image with P
pub record Throughout (old new : State) (P : Image → Type 0) : Type 0 where
  pub later : old.moment ≤ new.moment
  pub each : (c : Image) → new.left_since old.moment c → P c
  -- for a run that began earlier
  pub before : (t : ℕ) (c : Image) → t ≤ old.moment → new.left_since t c → old.left_since t c ⊎ P c
  -- it was told on the same word of what was done before: what it made is among the orders that are handed out after it
  pub performed : new.performed ≡ old.performed
  pub mixes : new.mixes ≡ old.mixes

-- the state, but for what was reported: a report changes no more than that
abbrev pub but_for_reports : State → State
but_for_reports s = record s { performed = at_once }
