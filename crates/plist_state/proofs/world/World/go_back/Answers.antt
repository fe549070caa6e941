use Rattle.std.proofs.Common.{◌≡◌, ◌+◌, ◌-◌, ◌++◌, ◌∷◌, [], ℕ, List, Some, length, take, sym, ap, subst, ◌∙◌, arith}
use Rattle.std.proofs.lemmas.List.{length-map}
use Rattle.std.specs.List.{slice_get}
use Rattle.std.specs.Global.{Vec}
use Rattle.package_table.specs.Numbers.{Numbered, table_now}
use Rattle.plist_state.specs.declared.note.Note.{Note}
use Rattle.plist_state.specs.declared.replaced.Replaced.{Replaced}
use Rattle.plist_state.specs.State.{WorldState, Worlds}
use Rattle.plist_state.specs.Views.{NumberedRest, Rows, rest_of}
use Rattle.plist_state.specs.Undoing.{rests_at}
use Rattle.plist_state.specs.Journal.{marks_of}
use Rattle.plist_state.specs.MarkedWorlds.{AreMarksSound, AreReplacedParts, earlier_states, marked_states, state_in}
use Rattle.plist_state.proofs.Notes.{notes_of}
use Rattle.plist_state.proofs.Marking.{states_take, kept_back, state_at, sound_at, owned_at}
use Rattle.plist_state.proofs.Earlier.{count_left, last_kept, replaced_pop, own_mark, put_back, back_within}
use Rattle.plist_state.proofs.world.World.go_back.Goals as goal

-- ---- what was replaced last is put back
pub overflow_sub-self : goal.overflow_sub-self
overflow_sub-self c =
    let a = c.self.inside in
    let es : List Replaced = c.pop.new.self.items in
    let e : Replaced = c.in-Some.before in
    let all : AreReplacedParts (es ++ e ∷ []) a.earlier_marks = subst (λ (fs : List Replaced). AreReplacedParts fs a.earlier_marks) c.in-Some.ensures.items c.self.invariant.earlier in
    omega (arith, count_left es e a.earlier_marks all, c.len.ensures, e.marks.ok.0)

pub invariant_of-self : goal.invariant_of-self
invariant_of-self c =
    let a = c.self.inside in
    let es : List Replaced = c.pop.new.self.items in
    let e : Replaced = c.in-Some.before in
    let n : ℕ = a.earlier_marks in
    let all : AreReplacedParts (es ++ e ∷ []) n = subst (λ (fs : List Replaced). AreReplacedParts fs n) c.in-Some.ensures.items c.self.invariant.earlier in
    let left : n ≡ (n - (c.len.result + 1)) + length e.marks.items + 1 = omega (arith, count_left es e n all, c.len.ensures, e.marks.ok.0) in
    record {
      now = last_kept es e n all;
      earlier = replaced_pop es e n all (n - (c.len.result + 1)) left;
    }

pub returns-then-mark-self : goal.returns-then-mark-self
returns-then-mark-self c =
    let a = c.self.inside in
    let es : List Replaced = c.pop.new.self.items in
    let e : Replaced = c.in-Some.before in
    let n : ℕ = a.earlier_marks in
    let all : AreReplacedParts (es ++ e ∷ []) n = subst (λ (fs : List Replaced). AreReplacedParts fs n) c.in-Some.ensures.items c.self.invariant.earlier in
    let marked : List WorldState = marked_states a.packages.1.marked (rests_at (marks_of a.marks.items) (rest_of a.stored)) in
    let is : earlier_states (es ++ e ∷ []) ++ marked ≡ c.args.self.now.1 =
    ap (λ (fs : List Replaced). earlier_states fs ++ marked) (sym c.in-Some.ensures.items) ∙ ap (λ (w : Worlds). w.1) c.self.view_is in
    put_back es e n all marked c.args.mark c.if-mark-self.true c.args.self.now is

-- ---- a mark of what the world keeps now
pub back_to-requires : goal.back_to-requires
back_to-requires c =
    let a = c.self.inside in
    omega (arith, own_mark a c.self.invariant c.args.self.now c.self.view_is c.args.mark c.requires c.if-mark-self.false, c.self.invariant.now.marked.as_many, length-map a.marks.items notes_of)

pub forget_since-requires : goal.forget_since-requires
forget_since-requires c =
    let a = c.self.inside in
    let seen : length c.as_slice.result.now ≡ length a.marks.items = ap length c.as_slice.ensures.value in
    omega (arith, own_mark a c.self.invariant c.args.self.now c.self.view_is c.args.mark c.requires c.if-mark-self.false, seen)

pub undo_to-requires-clause-mark : goal.undo_to-requires-clause-mark
undo_to-requires-clause-mark c = own_mark c.self.inside c.self.invariant c.args.self.now c.self.view_is c.args.mark c.requires c.if-mark-self.false

pub invariant_of-self-2 : goal.invariant_of-self-2
invariant_of-self-2 c =
    let a = c.self.inside in
    let own : ℕ = c.args.mark - a.earlier_marks in
    let ts : List Numbered = a.packages.1.marked in
    let ms : List (List Note) = marks_of a.marks.items in
    let r : NumberedRest = rest_of a.stored in
    let rows : Rows = a.stored.properties.items in
    let ns : List (List Note) = marks_of c.undo_to.new.marks.items in
    let u : NumberedRest = rest_of c.undo_to.new.stored in
    record {
      now = record {
        values = c.undo_to.ensures.wider.values c.self.invariant.now.values;
        indexed = c.undo_to.ensures.indexed;
        sizes = c.forget_since.ensures r u
            (subst (λ (vs : List (Vec Note)). slice_get (rests_at (marks_of vs) r) own ≡ Some u) (sym c.as_slice.ensures.value) c.undo_to.ensures.now) c.self.invariant.now.sizes;
        owned = owned_at ts ms r rows c.self.invariant.now.marked own (table_now c.back_to.new.self) u c.back_to.ensures.now c.undo_to.ensures.now;
        sound = sound_at ts ms r rows c.self.invariant.now.marked own (table_now c.back_to.new.self) u c.back_to.ensures.now c.undo_to.ensures.now;
        marked = subst (λ us. AreMarksSound us ns u c.undo_to.new.stored.properties.items) (sym c.back_to.ensures.past)
            (kept_back ts ms r rows c.self.invariant.now.marked own ns u c.undo_to.ensures.past c.undo_to.new.stored.properties.items c.undo_to.ensures.journal);
      };
      earlier = c.self.invariant.earlier;
    }

pub returns : goal.returns
returns c =
    let a = c.self.inside in
    let own : ℕ = c.args.mark - a.earlier_marks in
    let ts : List Numbered = a.packages.1.marked in
    let ms : List (List Note) = marks_of a.marks.items in
    let r : NumberedRest = rest_of a.stored in
    let rows : Rows = a.stored.properties.items in
    let ns : List (List Note) = marks_of c.undo_to.new.marks.items in
    let u : NumberedRest = rest_of c.undo_to.new.stored in
    let past : List WorldState = earlier_states a.earlier.items in
    let states : marked_states c.back_to.new.self.1.marked (rests_at ns u) ≡ take own (marked_states ts (rests_at ms r)) =
    ap (λ us. marked_states us (rests_at ns u)) c.back_to.ensures.past ∙ states_take ts ms r rows c.self.invariant.now.marked own ns u c.undo_to.ensures.past in
    let at : c.args.mark ≡ length past + own = omega (arith, c.self.invariant.earlier.count, c.if-mark-self.false) in
    back_within past (marked_states ts (rests_at ms r)) own (state_in (table_now c.back_to.new.self) u, past ++ marked_states c.back_to.new.self.1.marked (rests_at ns u))
    (ap (λ ss. past ++ ss) states)
    (state_at ts ms r rows c.self.invariant.now.marked own (table_now c.back_to.new.self) u c.back_to.ensures.now c.undo_to.ensures.now)
    c.args.mark at c.args.self.now (ap (λ (w : Worlds). w.1) c.self.view_is)
