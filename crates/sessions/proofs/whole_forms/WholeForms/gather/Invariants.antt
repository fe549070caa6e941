use Rattle.std.proofs.Common.{◌≡◌, ℕ, ◌+◌, ◌<◌, ◌≤◌, List, drop, length}
use Rattle.lisp_object.specs.Datum.{object_of}
use Rattle.plist_state.specs.State.{Worlds}
use Rattle.prevalence_store.specs.steps.Batch.{IsWorldMarked, entries_in}
use Rattle.sessions.specs.steps.Gather.{BeginsWhole, AreFormsGathered}
use Rattle.sessions.proofs.whole_forms.WholeForms.gather.Given as goal

-- the forms so far, and what is left of the piece
abbrev pub invariant-forms : goal.invariant-forms
invariant-forms g l =
    let turn = l.self in
    let form = turn.first.now in
    record {
      gathers : (text : List ℕ) → BeginsWhole g.R.Meaning.Meaning.functions l.fn.world.0 turn.wanted.mode text (object_of form.read.datum) form.own.items form.next → drop form.next text ≡ turn.rest.now
          → AreFormsGathered g.R.Meaning.Meaning.functions turn.wanted l.fn.world.0 text l.world.0 (entries_in l.batch) l.gathered × (drop l.gathered.bytes text ≡ l.rest);
      marks : (worlds : Worlds) → IsWorldMarked worlds l.fn.world.1 → IsWorldMarked worlds l.world.1;
      some : 0 < l.gathered.forms;
      forms : l.gathered.forms ≤ l.gathered.bytes;
      first : form.next ≤ l.gathered.bytes;
      bytes : l.gathered.bytes + length l.rest ≡ form.next + length turn.rest.now;
      counted : l.gathered.records ≡ length (entries_in l.batch);
      records : l.gathered.records ≤ turn.limit.forms;
      record_bytes : l.gathered.record_bytes ≤ turn.limit.bytes;
      limit : l.gathered.limit ≡ turn.limit;
    }

abbrev pub decreases-forms : goal.decreases-forms
decreases-forms g l = length l.rest
