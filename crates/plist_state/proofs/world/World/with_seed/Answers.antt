use Rattle.std.proofs.Common.{◌≡◌, List, [], ◌++◌, sym, ap, subst}
use Rattle.package_table.specs.Numbers.{Numbered, table_now}
use Rattle.plist_state.specs.State.{initial}
use Rattle.plist_state.specs.Sound.{IsSoundWorldState}
use Rattle.plist_state.specs.Lists.{AreListsOfSymbols}
use Rattle.plist_state.specs.Views.{NumberedRest, rest_of}
use Rattle.plist_state.specs.Undoing.{rests_at}
use Rattle.plist_state.specs.Journal.{marks_of}
use Rattle.plist_state.specs.MarkedWorlds.{state_in, marked_states, earlier_states}
use Rattle.plist_state.proofs.Listed.{owned_empty}
use Rattle.plist_state.proofs.Marking.{kept_none}
use Rattle.plist_state.proofs.Earlier.{replaced_none}
use Rattle.plist_state.proofs.Sized.{no_sizes}
use Rattle.plist_state.proofs.FirstWorld.{first_sound, first_state}
use Rattle.plist_state.proofs.world.World.with_seed.Goals as goal

pub invariant_of-result : goal.invariant_of-result
invariant_of-result c =
    let ps = c.in_ok-packages.packages in
    let r : NumberedRest = rest_of c.in_ok-first_stored.field-0 in
    record {
      now = record {
        values = c.in_ok-first_stored.ensures.values;
        indexed = c.in_ok-first_stored.ensures.indexed;
        sizes = no_sizes r.properties c.new-2.result.entries c.new-2.ensures.empty;
        owned = subst (λ (q : NumberedRest). AreListsOfSymbols (table_now ps) q.properties) (sym c.in_ok-first_stored.ensures.first) (owned_empty (table_now ps));
        marked = kept_none ps.1.marked (marks_of c.new.result.items) r c.in_ok-first_stored.field-0.properties.items c.in_ok-packages.ensures.marked (ap marks_of c.new.ensures.items);
        sound = subst IsSoundWorldState (sym (first_state (table_now ps) r c.in_ok-packages.ensures.table c.in_ok-first_stored.ensures.first)) first_sound;
      };
      earlier = replaced_none c.new-3.result.items c.new-3.ensures.items;
    }

pub returns : goal.returns
returns c =
    let ps = c.in_ok-packages.packages in
    let r : NumberedRest = rest_of c.in_ok-first_stored.field-0 in
    let state : state_in (table_now ps) r ≡ initial = first_state (table_now ps) r c.in_ok-packages.ensures.table c.in_ok-first_stored.ensures.first in
    let none : marked_states ps.1.marked (rests_at (marks_of c.new.result.items) r) ≡ [] = ap (λ (ss : List Numbered). marked_states ss (rests_at (marks_of c.new.result.items) r)) c.in_ok-packages.ensures.marked in
    λ i. (state i, earlier_states (c.new-3.ensures.items i) ++ none i)
