use Rattle.std.proofs.Common.{refl}
use Rattle.package_table.specs.Numbers.{table_now}
use Rattle.plist_state.specs.declared.note.Note.TheVariants.{InBase}
use Rattle.plist_state.specs.Views.{NumberedRest, rest_of}
use Rattle.plist_state.specs.Journal.{marks_of}
use Rattle.plist_state.specs.MarkedWorlds.{state_in}
use Rattle.plist_state.proofs.ListRows.{wider_same}
use Rattle.plist_state.proofs.Notes.{continues_noted, fits_now}
use Rattle.plist_state.proofs.Marking.{kept_continued}
use Rattle.plist_state.proofs.Soundness.{sound_base}
use Rattle.plist_state.proofs.world.World.set_read_base.Goals as goal

pub invariant_of-self-2 : goal.invariant_of-self-2
invariant_of-self-2 c =
    let a = c.self.inside in
    let r : NumberedRest = rest_of a.stored in
    let u : NumberedRest = record r { read_base = c.args.base } in
    record {
      now = record {
        values = c.self.invariant.now.values;
        indexed = c.self.invariant.now.indexed;
        sizes = c.self.invariant.now.sizes;
        owned = c.self.invariant.now.owned;
        sound = sound_base (state_in (table_now a.packages) r) c.args.base c.self.invariant.now.sound c.requires.lowest_base c.requires.highest_base;
        marked = kept_continued a.packages.1.marked (marks_of a.marks.items) r a.stored.properties.items c.self.invariant.now.marked (marks_of c.push_note.new.marks.items) u a.stored.properties.items
            (continues_noted (marks_of a.marks.items) _ (marks_of c.push_note.new.marks.items) (InBase r.read_base) r u c.in_ok-reserve_note.ensures.same c.push_note.ensures tt refl)
            (fits_now a.stored.properties.items r refl) (wider_same a.stored.properties.items a.stored.properties.items refl);
      };
      earlier = c.self.invariant.earlier;
    }
