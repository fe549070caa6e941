-- What a crash of each kind leaves of a file in memory, told from its calls.
use Rattle.std.specs.Prelude.{ℕ, suc, ◌-◌, ◌*◌, ◌%◌, ◌<◌, List, [], ◌∷◌, ◌++◌, length, take, drop, get_or, nat_lt, if◌then◌else◌, replicate}
use Rattle.disk_trait.specs.Disk.{written}
use Rattle.disk_trait.specs.Replay.{settled_file, reads_after, after_calls}
use Rattle.disk_trait.specs.declared.call.DiskCall.{DiskCall}
use Rattle.disk_trait.specs.declared.call.What.{What}
use Rattle.disk_trait.specs.declared.call.What.TheVariants.{Looked, Wrote, WroteMixing, Shortened, Synced}
use Rattle.disk_trait.specs.declared.crash.Crash.{Crash}
use Rattle.disk_trait.specs.declared.crash.Crash.TheVariants.{Kept, Lost, Filled, Scattered}
use Rattle.disk_trait.specs.declared.half.Half.{Half}
use Rattle.disk_trait.specs.declared.half.Half.TheVariants.{A, B}

-- The bytes of a write from this place in it on, so many in 256 of them new, here and there; the others are as in the file where the
-- write begins, and 0 past its end.
unfoldable pub scattered_bytes : ℕ → ℕ → List ℕ → List ℕ → List ℕ
scattered_bytes share place [] old = []
scattered_bytes share place (byte ∷ bytes) old = (if nat_lt (place % 256 * 37 % 256) share then byte else get_or old place 0) ∷ scattered_bytes share (suc place) bytes old

-- What a crash leaves of a write, of a file that it left as this before.
abbrev pub torn_after : Crash → ℕ → List ℕ → List ℕ → List ℕ
torn_after Kept at bytes left = written at bytes left
torn_after Lost at bytes left = left
torn_after (Filled byte) at bytes left = written at (replicate (length bytes) byte) left
torn_after (Scattered share) at bytes left = written at (scattered_bytes share 0 bytes (drop at left)) left

-- What a crash leaves of a write where writes mix, of a file that it left as this before: no byte may be any.
abbrev pub mixed_after : Crash → ℕ → List ℕ → List ℕ → List ℕ
mixed_after Kept at bytes left = written at bytes left
mixed_after Lost at bytes left = left
mixed_after (Filled byte) at bytes left = written at bytes left
mixed_after (Scattered share) at bytes left = written at (scattered_bytes share 0 bytes (drop at left)) left

-- What a crash leaves of a file with these bytes left that was to be cut to this length: by the same ways. Where single
-- bytes are scattered, no cut is done.
abbrev pub cut_after : Crash → ℕ → List ℕ → List ℕ
cut_after Kept len left = take len left
cut_after Lost len left = left
cut_after (Filled byte) len left = take len left ++ replicate (length left - len) byte
cut_after (Scattered share) len left = left

-- What a crash leaves after the call, where it left this before.
abbrev pub bytes_left_after : Crash → What → List ℕ → List ℕ → List ℕ
bytes_left_after kind Looked file left = left
bytes_left_after kind (Wrote at bytes) file left = torn_after kind at bytes.items left
bytes_left_after kind (WroteMixing at bytes) file left = mixed_after kind at bytes.items left
bytes_left_after kind (Shortened len) file left = cut_after kind len left
bytes_left_after kind Synced file left = file

-- the first of the two where the halves are the same, else the second
abbrev pub on_same : Half → Half → List ℕ → List ℕ → List ℕ
on_same A A same other = same
on_same A B same other = other
on_same B A same other = other
on_same B B same other = same

-- the calls in turn, the oldest first: what a read gives, and what a crash leaves
abbrev pub left_by_calls : Crash → Half → List DiskCall → List ℕ → List ℕ → List ℕ
left_by_calls kind half [] file left = left
left_by_calls kind half (call ∷ calls) file left = left_by_calls kind half calls
    (on_same half call.half (reads_after call.what file) file)
    (on_same half call.half (bytes_left_after kind call.what file left) left)

-- what a crash of this kind leaves of a half, from the calls since it was opened
abbrev pub left_by : Crash → Half → List DiskCall → List ℕ → List ℕ
left_by Kept half calls start = (after_calls half calls (settled_file start)).reads
left_by Lost half calls start = left_by_calls Lost half calls start start
left_by (Filled byte) half calls start = left_by_calls (Filled byte) half calls start start
left_by (Scattered share) half calls start = left_by_calls (Scattered share) half calls start start

-- what it fills with is a byte
abbrev pub FillsBytes : Crash → Type 0
FillsBytes Kept = Unit {0}
FillsBytes Lost = Unit {0}
FillsBytes (Filled byte) = byte < 256
FillsBytes (Scattered share) = Unit {0}
