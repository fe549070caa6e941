use Rattle.std.proofs.Common.{◌≡◌, [], ◌++◌, sym, ap, subst, ◌∙◌}
use Rattle.package_table.specs.Numbers.{Numbered, Tables, table_now, without_marks}
use Rattle.plist_state.specs.State.{Worlds}
use Rattle.plist_state.specs.Lists.{AreListsOfSymbols}
use Rattle.plist_state.specs.Views.{NumberedRest, rest_of}
use Rattle.plist_state.specs.Sound.{IsSoundWorldState}
use Rattle.plist_state.specs.Sizes.{AreSizes}
use Rattle.plist_state.specs.Undoing.{rests_at}
use Rattle.plist_state.specs.Journal.{marks_of}
use Rattle.plist_state.specs.MarkedWorlds.{state_in, marked_states, earlier_states}
use Rattle.plist_state.proofs.Marking.{kept_none}
use Rattle.plist_state.proofs.Earlier.{replaced_none}
use Rattle.plist_state.proofs.world.World.settle.Goals as goal

pub invariant_of-self : goal.invariant_of-self
invariant_of-self c =
    let a = c.self.inside in
    let r : NumberedRest = rest_of a.stored in
    let u : NumberedRest = rest_of c.tidy.new.stored in
    let rest : u ≡ r = c.tidy.ensures.same in
    let packages : c.settle.new.self ≡ without_marks a.packages = c.settle.ensures in
    let both : ◌≡◌ {A = Numbered × NumberedRest} (table_now c.settle.new.self, u) (table_now a.packages, r) = λ i. (table_now (packages i), rest i) in
    record {
      now = record {
        values = c.tidy.ensures.wider.values c.self.invariant.now.values;
        indexed = c.tidy.ensures.indexed;
        sizes = subst (λ (q : NumberedRest). AreSizes q.properties a.sizes.entries) (sym rest) c.self.invariant.now.sizes;
        owned = subst (λ (p : Numbered × NumberedRest). AreListsOfSymbols p.0 p.1.properties) (sym both) c.self.invariant.now.owned;
        sound = subst (λ (p : Numbered × NumberedRest). IsSoundWorldState (state_in p.0 p.1)) (sym both) c.self.invariant.now.sound;
        marked = kept_none c.settle.new.self.1.marked (marks_of c.let_go.new.marks.items) u c.tidy.new.stored.properties.items
            (ap (λ (ts : Tables). ts.1.marked) packages) (ap marks_of c.let_go.ensures);
      };
      earlier = replaced_none c.clear.new.self.items c.clear.ensures.items;
    }

pub returns : goal.returns
returns c =
    let a = c.self.inside in
    let r : NumberedRest = rest_of a.stored in
    let u : NumberedRest = rest_of c.tidy.new.stored in
    let rest : u ≡ r = c.tidy.ensures.same in
    let packages : c.settle.new.self ≡ without_marks a.packages = c.settle.ensures in
    let now : ◌≡◌ {A = Worlds} (state_in (table_now c.settle.new.self) u, earlier_states c.clear.new.self.items ++ marked_states c.settle.new.self.1.marked (rests_at (marks_of c.let_go.new.marks.items) u)) (state_in (table_now a.packages) r, []) =
    λ i. (state_in (table_now (packages i)) (rest i), earlier_states (c.clear.ensures.items i) ++ marked_states (packages i).1.marked (rests_at (marks_of c.let_go.new.marks.items) (rest i))) in
    now ∙ ap (λ (w : Worlds). (w.0, [])) c.self.view_is
