-- What a disk in memory holds, told from its start and the calls that it took: each file apart, one call after the other.
use Rattle.std.specs.Prelude.{◌≡◌, ◌⊎◌, ℕ, ◌≤◌, Bool, true, ◌&&◌, List, [], ◌∷◌, length, take, nat_lt}
use Rattle.std.specs.List.{list_all}
use Rattle.disk_trait.specs.Disk.{Image, State, Elapses, at_once, file_of, other_of, written, Torn, Mixed, TornCut, OnHalf, Partly}
use Rattle.disk_trait.specs.declared.call.DiskCall.{DiskCall}
use Rattle.disk_trait.specs.declared.call.What.{What}
use Rattle.disk_trait.specs.declared.call.What.TheVariants.{Looked, Wrote, WroteMixing, Shortened, Synced}
use Rattle.disk_trait.specs.declared.half.Half.{Half}
use Rattle.disk_trait.specs.declared.half.Half.TheVariants.{A, B}

-- one file: what a read gives, and what a crash may leave
pub record FileState : Type 1 where
  pub reads : List ℕ
  pub may_leave : List ℕ → Type 0

-- a file that has these bytes, of which no write is pending: a crash leaves just them
abbrev pub settled_file : List ℕ → FileState
settled_file file = record { reads = file; may_leave = λ c. c ≡ file }

-- what a read gives after the call
abbrev pub reads_after : What → List ℕ → List ℕ
reads_after Looked file = file
reads_after (Wrote at bytes) file = written at bytes.items file
reads_after (WroteMixing at bytes) file = written at bytes.items file
reads_after (Shortened len) file = take len file
reads_after Synced file = file

-- what a crash may make of a file on which the call is pending, beside leaving it undone
abbrev pub PartOf : What → List ℕ → List ℕ → Type 0
PartOf Looked old new = ⊥
PartOf (Wrote at bytes) old new = Torn at (length bytes.items) old new ⊎ (new ≡ written at bytes.items old)
PartOf (WroteMixing at bytes) old new = Mixed at bytes.items old new
PartOf (Shortened len) old new = TornCut len old new
PartOf Synced old new = ⊥

-- after a sync a crash leaves what a read gives
abbrev pub Binds : What → List ℕ → List ℕ → Type 0
Binds Synced file left = left ≡ file
Binds _ file left = Unit {0}

-- a crash may leave this of a half on which one call more was made
abbrev pub MayFollow : What → FileState → List ℕ → Type 0
MayFollow what before c = (d : List ℕ) × before.may_leave d × ((c ≡ d) ⊎ PartOf what d c)

-- a file after a call, by what the call does
abbrev pub after_what : What → FileState → FileState
after_what what before = record {
  reads = reads_after what before.reads;
  may_leave = λ c. MayFollow what before c × Binds what before.reads c;
}

-- the first of the two where the halves are the same, else the second
abbrev pub where_same : Half → Half → FileState → FileState → FileState
where_same A A same other = same
where_same A B same other = other
where_same B A same other = other
where_same B B same other = same

-- a call of the other half changes nothing
abbrev pub after_call : Half → DiskCall → FileState → FileState
after_call half call before = where_same half call.half (after_what call.what before) before

-- the calls in turn, the oldest first
abbrev pub after_calls : Half → List DiskCall → FileState → FileState
after_calls half [] before = before
after_calls half (call ∷ calls) before = after_calls half calls (after_call half call before)

-- what a crash after these calls may leave
abbrev pub MayLeave : Image → List DiskCall → Image → Type 0
MayLeave start calls c = (after_calls A calls (settled_file start.a)).may_leave c.a × (after_calls B calls (settled_file start.b)).may_leave c.b

-- each of these numbers is a byte
abbrev pub are_bytes : List ℕ → Bool
are_bytes bytes = list_all (λ byte. nat_lt byte 256) bytes

-- what a call writes is bytes
abbrev pub writes_bytes : What → Bool
writes_bytes Looked = true
writes_bytes (Wrote at bytes) = are_bytes bytes.items
writes_bytes (WroteMixing at bytes) = are_bytes bytes.items
writes_bytes (Shortened len) = true
writes_bytes Synced = true

-- the files began with bytes, and the calls wrote bytes
abbrev pub began_with_bytes : Image → Bool
began_with_bytes start = are_bytes start.a && are_bytes start.b

-- what each of these calls wrote is bytes
abbrev pub wrote_bytes : List DiskCall → Bool
wrote_bytes calls = list_all (λ call. writes_bytes call.what) calls

-- what a crash might have left at some moment from t on: a moment is the number of calls before it
pub record LeftSince (start : Image) (calls : List DiskCall) (t : ℕ) (c : Image) : Type 0 where
  pub moment : ℕ
  pub not_before : t ≤ moment
  pub not_after : moment ≤ length calls
  pub left : MayLeave start (take moment calls) c

-- a disk, told from the bytes that its files began with, its calls since, and how often it failed
abbrev pub state_after_calls : Bool → Image → List DiskCall → ℕ → State
state_after_calls mixes start calls failures = record {
  honest = true;
  mixes = mixes;
  reads = record {
    a = (after_calls A calls (settled_file start.a)).reads;
    b = (after_calls B calls (settled_file start.b)).reads;
  };
  may_leave = MayLeave start calls;
  moment = length calls;
  left_since = LeftSince start calls;
  failures = failures;
  performed = at_once;
}

-- the new disk has taken one call more
pub record FollowsOneCall (half : Half) (what : What) (old new : State) : Type 0 where
  pub changed : file_of half new.reads ≡ reads_after what (file_of half old.reads)
  pub other : other_of half new.reads ≡ other_of half old.reads
  pub crash : (c : Image) → new.may_leave c → (d : Image) × old.may_leave d × Partly (OnHalf half (PartOf what)) d c
  pub binds : (c : Image) → new.may_leave c → Binds what (file_of half old.reads) (file_of half c)
  pub allows : (d c : Image) → old.may_leave d → Partly (OnHalf half (PartOf what)) d c → Binds what (file_of half old.reads) (file_of half c) → new.may_leave c
  pub time : Elapses old new
