-- What was replaced: what a world kept before another was put in its place.
--     states_in, marks_in      how many states are marked in it, and in a world
--     earlier_push      one more was replaced
--     replaced_none, replaced_push, replaced_pop      none, one more, and all but the last
--     earlier_sound, world_sound      its states are sound, and those of a world
--     parts, parts_same, placed      another world is put in place
--     own_mark, put_back, back_within, nearer, arrived      the way back to a mark
use Rattle.std.proofs.Common.{◌≡◌, ◌<◌, ◌≤◌, ◌^◌, ℕ, zero, suc, ◌+◌, ◌-◌, Some, List, [], ◌∷◌, ◌++◌, length, take, drop, All, refl, sym, ap, subst, ◌∙◌, append_assoc, append-nil, length-append, arith}
use Rattle.std.specs.List.{slice_get}
use Rattle.std.proofs.lemmas.List.{length-map}
use Rattle.std.proofs.lemmas.List.Elements.{All-nil, All-cons, All-append, All-push, All-head, All-tail}
use Rattle.plist_state.specs.declared.replaced.Replaced.{Replaced}
use Rattle.plist_state.specs.declared.world.World.TheInside.{Inside}
use Rattle.plist_state.specs.State.{WorldState, Worlds}
use Rattle.plist_state.specs.Views.{rest_of}
use Rattle.plist_state.specs.Undoing.{rests_at}
use Rattle.plist_state.specs.Journal.{marks_of}
use Rattle.plist_state.specs.Sound.{IsSoundWorldState, IsSoundWorld}
use Rattle.plist_state.specs.MarkedWorlds.{marked_states, worlds_in, worlds_of, earlier_states, HasKeptWorld, CanBePutBack, AreReplacedParts, IsWayBack}
use Rattle.package_table.proofs.Names.{same_some}
use Rattle.plist_state.proofs.Marking.{states_many}
use Rattle.plist_state.proofs.Notes.{notes_of}

-- as many states are marked in it as it has marks
pub states_in : (e : Replaced) → CanBePutBack e → length (worlds_in e).1 ≡ length e.marks.items
states_in e kept =
    states_many e.packages.1.marked (marks_of e.marks.items) (rest_of e.stored) e.stored.properties.items kept.marked
    ∙ length-map e.marks.items notes_of

-- how many states are marked in a world
pub marks_in : (a : Inside) → HasKeptWorld a → length (worlds_of a).1 ≡ a.earlier_marks + length a.marks.items
marks_in a kept =
    let now : List WorldState = marked_states a.packages.1.marked (rests_at (marks_of a.marks.items) (rest_of a.stored)) in
    let own : length now ≡ length a.marks.items =
    states_many a.packages.1.marked (marks_of a.marks.items) (rest_of a.stored) a.stored.properties.items kept.now.marked ∙ length-map a.marks.items notes_of in
    omega (arith, own, kept.earlier.count, length-append (earlier_states a.earlier.items) now)

pub earlier_push : (es : List Replaced) (e : Replaced) → earlier_states (es ++ e ∷ []) ≡ earlier_states es ++ ((worlds_in e).1 ++ (worlds_in e).0 ∷ [])
earlier_push [] e = refl
earlier_push (f ∷ es) e =
    ap (λ ss. (worlds_in f).1 ++ (worlds_in f).0 ∷ ss) (earlier_push es e)
    ∙ sym (append_assoc (worlds_in f).1 ((worlds_in f).0 ∷ earlier_states es) ((worlds_in e).1 ++ (worlds_in e).0 ∷ []))

-- so many states more
one_more : (es : List Replaced) (e : Replaced) → CanBePutBack e → length (earlier_states (es ++ e ∷ [])) ≡ length (earlier_states es) + length e.marks.items + 1
one_more es e kept =
    let all : length (earlier_states (es ++ e ∷ [])) ≡ length (earlier_states es) + length ((worlds_in e).1 ++ (worlds_in e).0 ∷ []) =
    ap length (earlier_push es e) ∙ length-append (earlier_states es) ((worlds_in e).1 ++ (worlds_in e).0 ∷ []) in
    let own : length ((worlds_in e).1 ++ (worlds_in e).0 ∷ []) ≡ length (worlds_in e).1 + 1 = length-append (worlds_in e).1 ((worlds_in e).0 ∷ []) in
    omega (arith, all, own, states_in e kept)

pub replaced_none : (es : List Replaced) → es ≡ [] → AreReplacedParts es 0
replaced_none es none = subst (λ fs. AreReplacedParts fs 0) (sym none) (record { each = All-nil CanBePutBack; count = refl; below = omega arith })

pub replaced_push : (es : List Replaced) (n : ℕ) (e : Replaced) (m : ℕ) → AreReplacedParts es n → CanBePutBack e → m ≡ n + length e.marks.items + 1 → m < 2 ^ 62 → AreReplacedParts (es ++ e ∷ []) m
replaced_push es n e m all kept is below = record {
  each = All-push CanBePutBack es e all.each kept;
  count = omega (arith, is, all.count, one_more es e kept);
  below = below;
}

-- the last one was put back
module _ (es : List Replaced) (e : Replaced) (n : ℕ) (all : AreReplacedParts (es ++ e ∷ []) n) where
  pub last_kept : CanBePutBack e
  last_kept = last es all.each
    where
      last : (fs : List Replaced) → All CanBePutBack (fs ++ e ∷ []) → CanBePutBack e
      last [] each = All-head CanBePutBack e [] each
      last (f ∷ fs) each = last fs (All-tail CanBePutBack f (fs ++ e ∷ []) each)

  pub count_left : n ≡ length (earlier_states es) + length e.marks.items + 1
  count_left = all.count ∙ one_more es e last_kept

  pub replaced_pop : (m : ℕ) → n ≡ m + length e.marks.items + 1 → AreReplacedParts es m
  replaced_pop m is = record {
    each = first es all.each;
    count = omega (arith, is, count_left);
    below = omega (arith, is, all.below);
  }
    where
      first : (fs : List Replaced) → All CanBePutBack (fs ++ e ∷ []) → All CanBePutBack fs
      first [] each = All-nil CanBePutBack
      first (f ∷ fs) each = All-cons CanBePutBack f fs (All-head CanBePutBack f (fs ++ e ∷ []) each) (first fs (All-tail CanBePutBack f (fs ++ e ∷ []) each))

pub earlier_sound : (es : List Replaced) → All CanBePutBack es → All IsSoundWorldState (earlier_states es)
earlier_sound [] each = All-nil IsSoundWorldState
earlier_sound (e ∷ es) each =
    let kept : CanBePutBack e = All-head CanBePutBack e es each in
    All-append IsSoundWorldState (worlds_in e).1 ((worlds_in e).0 ∷ earlier_states es) kept.marked.sound
    (All-cons IsSoundWorldState (worlds_in e).0 (earlier_states es) kept.sound (earlier_sound es (All-tail CanBePutBack e es each)))

-- those of a world are sound
pub world_sound : (a : Inside) → HasKeptWorld a → IsSoundWorld (worlds_of a)
world_sound a kept = record {
  present = kept.now.sound;
  marked = All-append IsSoundWorldState (earlier_states a.earlier.items) (marked_states a.packages.1.marked (rests_at (marks_of a.marks.items) (rest_of a.stored)))
      (earlier_sound a.earlier.items kept.earlier.each) kept.now.marked.sound;
}

-- ---- another world is put in place
-- what a world keeps, where nothing was replaced in it
abbrev pub parts : Inside → Replaced
parts a = record { packages = a.packages; stored = a.stored; marks = a.marks; sizes = a.sizes }

-- no state is marked in it
pub parts_same : (a : Inside) (w : Worlds) → worlds_of a ≡ w → w.1 ≡ [] → worlds_in (parts a) ≡ w
parts_same a w seen none =
    let past : List WorldState = earlier_states a.earlier.items in
    let nothing : past ≡ [] = no_front past (worlds_in (parts a)).1 (ap (λ (v : Worlds). v.1) seen ∙ none) in
    (λ i. ((worlds_in (parts a)).0, sym nothing i ++ (worlds_in (parts a)).1)) ∙ seen
  where
    no_front : {X : Type 0} (xs ys : List X) → xs ++ ys ≡ [] → xs ≡ []
    no_front [] ys is = refl
    no_front (x ∷ xs) ys is = absurd (cc)

-- one mark more
pub placed : (a : Inside) (w : Worlds) → worlds_of a ≡ w → earlier_states (a.earlier.items ++ parts a ∷ []) ++ [] ≡ w.1 ++ w.0 ∷ []
placed a w seen =
    let past : List WorldState = earlier_states a.earlier.items in
    let v : Worlds = worlds_in (parts a) in
    append-nil (earlier_states (a.earlier.items ++ parts a ∷ [])) ∙ earlier_push a.earlier.items (parts a) ∙ sym (append_assoc past v.1 (v.0 ∷ []))
    ∙ ap (λ (v : Worlds). v.1 ++ v.0 ∷ []) seen

-- ---- the way back to a mark
-- a mark of what the world keeps now
pub own_mark : (a : Inside) → HasKeptWorld a → (w : Worlds) → worlds_of a ≡ w → (mark : ℕ) → mark < length w.1 → a.earlier_marks ≤ mark → mark - a.earlier_marks < length a.marks.items
own_mark a kept w seen mark there own =
    let all : length w.1 ≡ a.earlier_marks + length a.marks.items = ap (λ (v : Worlds). length v.1) (sym seen) ∙ marks_in a kept in
    omega (arith, all, there, own)

cut_at : {X : Type 0} (xs : List X) (k : ℕ) (x : X) → slice_get xs k ≡ Some x → (xs ≡ take k xs ++ x ∷ drop (suc k) xs) × (length (take k xs) ≡ k)
cut_at [] k x is = absurd (cc)
cut_at (y ∷ xs) zero x is = (ap (λ z. z ∷ xs) (same_some y x is), refl)
cut_at (y ∷ xs) (suc k) x is = let rest = cut_at xs k x is in (ap (λ zs. y ∷ zs) rest.0, ap suc rest.1)

-- what was replaced last is put back
pub put_back : (es : List Replaced) (e : Replaced) (n : ℕ) → AreReplacedParts (es ++ e ∷ []) n → (marked : List WorldState) (mark : ℕ) → mark < n → (w : Worlds)
    → earlier_states (es ++ e ∷ []) ++ marked ≡ w.1 → IsWayBack mark w ((worlds_in e).0, earlier_states es ++ (worlds_in e).1)
put_back es e n all marked mark earlier w is =
    let past : List WorldState = earlier_states es in
    let own : List WorldState = (worlds_in e).1 in
    let s : WorldState = (worlds_in e).0 in
    let states : earlier_states (es ++ e ∷ []) ++ marked ≡ (past ++ own) ++ s ∷ marked =
    ap (λ ss. ss ++ marked) (earlier_push es e) ∙ append_assoc past (own ++ s ∷ []) marked ∙ ap (λ ss. past ++ ss) (append_assoc own (s ∷ []) marked) ∙ sym (append_assoc past own (s ∷ marked)) in (
      marked,
      sym is ∙ states,
      omega (arith, earlier, count_left es e n all, states_in e (last_kept es e n all), length-append past own),
    )

-- a mark of what the world keeps now
pub back_within : (past marked : List WorldState) (k : ℕ) (new : Worlds) → new.1 ≡ past ++ take k marked → slice_get marked k ≡ Some new.0 → (mark : ℕ) → mark ≡ length past + k
    → (w : Worlds) → past ++ marked ≡ w.1 → IsWayBack mark w new
back_within past marked k new states now mark at w is =
    let cut = cut_at marked k new.0 now in
    let all : past ++ marked ≡ new.1 ++ new.0 ∷ drop (suc k) marked =
    ap (λ ss. past ++ ss) cut.0 ∙ sym (append_assoc past (take k marked) (new.0 ∷ drop (suc k) marked)) ∙ ap (λ ss. ss ++ new.0 ∷ drop (suc k) marked) (sym states) in (
      drop (suc k) marked,
      sym is ∙ all,
      omega (arith, at, cut.1, ap length states, length-append past (take k marked)),
    )

-- one step more
pub nearer : (mark : ℕ) (w v u : Worlds) → IsWayBack mark w v → IsWayBack mark v u → IsWayBack mark w u
nearer mark w v u first then = (
  then.0 ++ v.0 ∷ first.0,
  first.1 ∙ ap (λ ss. ss ++ v.0 ∷ first.0) then.1 ∙ append_assoc u.1 (u.0 ∷ then.0) (v.0 ∷ first.0),
  then.2,
)

cut_before : {X : Type 0} (xs : List X) (x : X) (ys : List X) (y : X) (zs : List X) → xs ++ x ∷ [] ≡ ys ++ y ∷ zs → length ys < length xs → (later : List X) × (xs ≡ ys ++ y ∷ later)
cut_before [] x ys y zs is shorter = absurd (omega (arith, shorter))
cut_before (a ∷ xs) x [] y zs is shorter =
    let head : a ≡ y = cc in
    (xs, ap (λ b. b ∷ xs) head)
cut_before {X} (a ∷ xs) x (b ∷ ys) y zs is shorter =
    let head : a ≡ b = cc in
    let tail : xs ++ x ∷ [] ≡ ys ++ y ∷ zs = cc in
    let rest : (later : List X) × (xs ≡ ys ++ y ∷ later) = cut_before xs x ys y zs tail (omega (arith, shorter)) in
    (rest.0, λ i. head i ∷ rest.1 i)

-- at the mark itself
pub arrived : (mark : ℕ) (before w : Worlds) → IsWayBack mark (before.0, before.1 ++ before.0 ∷ []) w → length w.1 ≡ mark → mark < length before.1
    → (later : List WorldState) × (before.1 ≡ w.1 ++ w.0 ∷ later)
arrived mark before w way count there = cut_before before.1 before.0 w.1 w.0 way.0 way.1 (omega (arith, count, there))
