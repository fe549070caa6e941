use Rattle.std.proofs.Common.{◌≡◌, ◌+◌, ◌++◌, [], ◌∷◌, List, length, sym, ap, subst, ◌∙◌, append_assoc, arith}
use Rattle.std.proofs.lemmas.List.{map_push}
use Rattle.package_table.specs.Numbers.{Numbered, Tables, table_now, with_mark}
use Rattle.plist_state.specs.declared.note.Note.{Note}
use Rattle.plist_state.specs.State.{WorldState, Worlds}
use Rattle.plist_state.specs.Lists.{AreListsOfSymbols}
use Rattle.plist_state.specs.Views.{NumberedRest, Rows, rest_of}
use Rattle.plist_state.specs.Sound.{IsSoundWorldState}
use Rattle.plist_state.specs.Undoing.{rests_at}
use Rattle.plist_state.specs.Journal.{marks_of}
use Rattle.plist_state.specs.MarkedWorlds.{state_in, AreMarksSound, marked_states, earlier_states}
use Rattle.plist_state.proofs.Notes.{notes_of}
use Rattle.plist_state.proofs.Marking.{states_push, kept_push}
use Rattle.plist_state.proofs.Earlier.{marks_in}
use Rattle.plist_state.proofs.world.World.mark.Goals as goal

pub invariant_of-self-2 : goal.invariant_of-self-2
invariant_of-self-2 c =
    let a = c.self.inside in
    let t : Numbered = table_now a.packages in
    let ts : List Numbered = a.packages.1.marked in
    let ms : List (List Note) = marks_of a.marks.items in
    let r : NumberedRest = rest_of a.stored in
    let rows : Rows = a.stored.properties.items in
    let changed : c.mark.new.self ≡ with_mark a.packages = c.in_ok-mark.ensures.ok.1 in
    let items : marks_of c.push_reserved.new.self.items ≡ ms ++ [] ∷ [] =
    ap marks_of (c.push_reserved.ensures.items ∙ ap (λ xs. xs ++ c.clear.new.self ∷ []) c.in_ok-reserve.ensures.items) ∙ map_push notes_of a.marks.items c.clear.new.self ∙ ap (λ n. ms ++ n ∷ []) c.clear.ensures.items in
    record {
      now = record {
        values = c.self.invariant.now.values;
        indexed = c.self.invariant.now.indexed;
        sizes = c.self.invariant.now.sizes;
        owned = subst (λ (us : Tables). AreListsOfSymbols (table_now us) r.properties) (sym changed) c.self.invariant.now.owned;
        sound = subst (λ (us : Tables). IsSoundWorldState (state_in (table_now us) r)) (sym changed) c.self.invariant.now.sound;
        marked = subst (λ (us : Tables). AreMarksSound us.1.marked (marks_of c.push_reserved.new.self.items) r rows) (sym changed)
            (subst (λ ns. AreMarksSound (ts ++ t ∷ []) ns r rows) (sym items) (kept_push ts ms r rows c.self.invariant.now.marked t c.self.invariant.now.owned c.self.invariant.now.sound));
      };
      earlier = c.self.invariant.earlier;
    }

pub returns-clause-ok : goal.returns-clause-ok
returns-clause-ok c =
    let a = c.self.inside in
    let t : Numbered = table_now a.packages in
    let ts : List Numbered = a.packages.1.marked in
    let ms : List (List Note) = marks_of a.marks.items in
    let r : NumberedRest = rest_of a.stored in
    let ss : List WorldState = marked_states ts (rests_at ms r) in
    let changed : c.mark.new.self ≡ with_mark a.packages = c.in_ok-mark.ensures.ok.1 in
    let items : marks_of c.push_reserved.new.self.items ≡ ms ++ [] ∷ [] =
    ap marks_of (c.push_reserved.ensures.items ∙ ap (λ xs. xs ++ c.clear.new.self ∷ []) c.in_ok-reserve.ensures.items) ∙ map_push notes_of a.marks.items c.clear.new.self ∙ ap (λ n. ms ++ n ∷ []) c.clear.ensures.items in
    let states : marked_states (ts ++ t ∷ []) (rests_at (ms ++ [] ∷ []) r) ≡ ss ++ state_in t r ∷ [] = states_push ts ms r a.stored.properties.items c.self.invariant.now.marked t in
    let past : List WorldState = earlier_states a.earlier.items in
    let now : ◌≡◌ {A = Worlds} (state_in (table_now c.mark.new.self) r, past ++ marked_states c.mark.new.self.1.marked (rests_at (marks_of c.push_reserved.new.self.items) r)) (state_in t r, past ++ marked_states (ts ++ t ∷ []) (rests_at (ms ++ [] ∷ []) r)) =
    λ i. (state_in (table_now (changed i)) r, past ++ marked_states (changed i).1.marked (rests_at (items i) r)) in
    let then : ◌≡◌ {A = Worlds} (state_in t r, past ++ marked_states (ts ++ t ∷ []) (rests_at (ms ++ [] ∷ []) r)) (state_in t r, (past ++ ss) ++ state_in t r ∷ []) =
    λ i. (state_in t r, (ap (λ us. past ++ us) states ∙ sym (append_assoc past ss (state_in t r ∷ []))) i) in
    let all : length c.args.self.now.1 ≡ a.earlier_marks + length a.marks.items =
    ap (λ (w : Worlds). length w.1) (sym c.self.view_is) ∙ marks_in a c.self.invariant in (
      omega (arith, all, c.len.ensures, a.marks.ok.0),
      now ∙ then ∙ ap (λ (w : Worlds). (w.0, w.1 ++ w.0 ∷ [])) c.self.view_is,
    )
