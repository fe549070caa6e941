use Rattle.std.proofs.Common.{◌≡◌, ℕ, IsTrue, rules, refl, sym, ap, subst, ◌∙◌}
use Rattle.std.specs.Global.{Vec}
use Rattle.std.specs.FinMap as finite
use Rattle.plist_state.specs.Sound.{IsSoundWorldState}
use Rattle.plist_state.specs.declared.note.Note.TheVariants.{InReadtable}
use Rattle.package_table.specs.Numbers.{table_now}
use Rattle.plist_state.specs.State.{WorldState}
use Rattle.plist_state.specs.Views.{NumberedRest, rest_of}
use Rattle.plist_state.specs.MarkedWorlds.{state_in}
use Rattle.plist_state.specs.Journal.{marks_of}
use Rattle.plist_state.proofs.ListRows.{wider_same}
use Rattle.plist_state.proofs.Notes.{continues_noted, fits_now}
use Rattle.plist_state.proofs.Marking.{kept_continued}
use Rattle.plist_state.proofs.Soundness.{sound_in_readtable}
use Rattle.plist_state.proofs.world.World.set_current_readtable.Goals as goal

pub invariant_of-self-2 : goal.invariant_of-self-2
invariant_of-self-2 c =
    let a = c.self.inside in
    let r : NumberedRest = rest_of a.stored in
    let u : NumberedRest = record r { current_readtable = c.replace-before.new.dest.items } in
    let s : WorldState = state_in (table_now a.packages) r in
    let there : IsTrue (finite.contains_key s.readtables c.args.name.now) = search rules in
    let named : c.replace-before.new.dest.items ≡ c.args.name.now = ap (λ (v : Vec ℕ). v.items) c.replace-before.ensures.after ∙ c.in_ok-name.ensures.name in
    record {
      now = record {
        values = c.self.invariant.now.values;
        indexed = c.self.invariant.now.indexed;
        sizes = c.self.invariant.now.sizes;
        owned = c.self.invariant.now.owned;
        sound = subst (λ n. IsSoundWorldState (record s { current_readtable = n })) (sym named) (sound_in_readtable s c.args.name.now c.self.invariant.now.sound there);
        marked = kept_continued a.packages.1.marked (marks_of a.marks.items) r a.stored.properties.items c.self.invariant.now.marked (marks_of c.push_note.new.marks.items) u a.stored.properties.items
            (continues_noted (marks_of a.marks.items) _ (marks_of c.push_note.new.marks.items) (InReadtable c.replace-before.result) r u c.in_ok-name.ensures.same c.push_note.ensures tt
            (λ i. record r { current_readtable = (c.replace-before.ensures.value i).items }))
            (fits_now a.stored.properties.items r refl) (wider_same a.stored.properties.items a.stored.properties.items refl);
      };
      earlier = c.self.invariant.earlier;
    }
