use Rattle.std.proofs.Common.{◌+◌, ◌-◌, ◌*◌, ◌<◌, ◌≤◌, length, []}
use Rattle.plain_reader.specs.Plain.{Gathers, AllAreThere, IfStill}
use Rattle.plain_reader.proofs.objects.+objects.Given as goal

-- a call of an object's function is below the object, and an object in it below that, as one call fewer may be opened
abbrev pub decreases-put : goal.decreases-put
decreases-put l = 4 * l.room + 2

abbrev pub decreases-put_list : goal.decreases-put_list
decreases-put_list l = 4 * l.room + 1

abbrev pub decreases-list : goal.decreases-list
decreases-list l = 4 * l.room

abbrev pub decreases-put_quoted : goal.decreases-put_quoted
decreases-put_quoted l = 4 * l.room + 1

abbrev pub decreases-item : goal.decreases-item
decreases-item l = 4 * l.room + 3

abbrev pub invariant-list-loop-items : goal.invariant-list-loop-items
invariant-list-loop-items l = record {
  gathers : Gathers l.with (l.room - 1) [] l.fn.text l.items l.rest;
  within : length l.rest ≤ length l.fn.text;
  room : 0 < l.room;
  known : IfStill l.fn.known l.known (AllAreThere l.with l.items);
}

abbrev pub decreases-list-loop-items : goal.decreases-list-loop-items
decreases-list-loop-items l = length l.rest
