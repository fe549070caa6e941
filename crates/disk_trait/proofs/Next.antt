-- One call more, in the record of a disk in memory.
use Rattle.std.proofs.Common.{◌≡◌, ◌⊎◌, inl, inr, ⊎_elim, ℕ, Bool, ◌+◌, ◌<◌, ◌≤◌, List, [], ◌∷◌, ◌++◌, length, refl, sym, ap, subst, arith, length-append}
use Rattle.std.proofs.lemmas.List.{take_all, take-append-le}
use Rattle.std.proofs.lemmas.Bool.{cases_lt}
use Rattle.disk_trait.specs.Disk.{Image, other_of, OnHalf, Partly, Elapses}
use Rattle.disk_trait.specs.Replay.{FileState, PartOf, settled_file, after_what, where_same, after_call, after_calls, MayLeave, LeftSince, state_after_calls, FollowsOneCall}
use Rattle.disk_trait.specs.declared.call.DiskCall.{DiskCall}
use Rattle.disk_trait.specs.declared.call.What.{What}
use Rattle.disk_trait.specs.declared.half.Half.{Half}
use Rattle.disk_trait.specs.declared.half.Half.TheVariants.{A, B}

abbrev pub one : Half → What → List DiskCall
one half what = record { half = half; what = what } ∷ []

after_calls-push : (half : Half) (calls : List DiskCall) (call : DiskCall) (p : FileState) → after_calls half (calls ++ call ∷ []) p ≡ after_call half call (after_calls half calls p)
after_calls-push half [] call p = refl
after_calls-push half (first ∷ calls) call p = after_calls-push half calls call (after_call half first p)

pub reads-push : (half on : Half) (what : What) (calls : List DiskCall) (p : FileState) → (after_calls half (calls ++ one on what) p).reads ≡ (where_same half on (after_what what (after_calls half calls p)) (after_calls half calls p)).reads
reads-push half on what calls p = ap (λ (q : FileState). q.reads) (after_calls-push half calls (record { half = on; what = what }) p)

left-push : (half on : Half) (what : What) (calls : List DiskCall) (p : FileState) (c : List ℕ) → (after_calls half (calls ++ one on what) p).may_leave c → (where_same half on (after_what what (after_calls half calls p)) (after_calls half calls p)).may_leave c
left-push half on what calls p c left = subst (λ (q : FileState). q.may_leave c) (after_calls-push half calls (record { half = on; what = what }) p) left

left-pull : (half on : Half) (what : What) (calls : List DiskCall) (p : FileState) (c : List ℕ) → (where_same half on (after_what what (after_calls half calls p)) (after_calls half calls p)).may_leave c → (after_calls half (calls ++ one on what) p).may_leave c
left-pull half on what calls p c left = subst (λ (q : FileState). q.may_leave c) (sym (after_calls-push half calls (record { half = on; what = what }) p)) left

elapses_push : (mixes : Bool) (start : Image) (calls : List DiskCall) (call : DiskCall) (failures later_failures : ℕ) → Elapses (state_after_calls mixes start calls failures) (state_after_calls mixes start (calls ++ call ∷ []) later_failures)
elapses_push mixes start calls call failures later_failures = record {
  later = omega (arith, length-append calls (call ∷ []));
  nothing_else = λ t c le left. earlier t c left (cases_lt left.moment (length calls + 1));
  keeps = λ t c le left. record {
    moment = left.moment;
    not_before = left.not_before;
    not_after = omega (arith, left.not_after, length-append calls (call ∷ []));
    left = subst (λ (l : List DiskCall). MayLeave start l c) (sym (take-append-le left.moment calls (call ∷ []) left.not_after)) left.left;
  };
  performed = refl;
  mixes = refl;
}
  where
    earlier : (t : ℕ) (c : Image) (left : LeftSince start (calls ++ call ∷ []) t c) → (left.moment < length calls + 1) ⊎ (length calls + 1 ≤ left.moment) → LeftSince start calls t c ⊎ MayLeave start (calls ++ call ∷ []) c
    earlier t c left (inl below) =
        let within : left.moment ≤ length calls = omega (arith, below) in
        inl (record {
          moment = left.moment;
          not_before = left.not_before;
          not_after = within;
          left = subst (λ (l : List DiskCall). MayLeave start l c) (take-append-le left.moment calls (call ∷ []) within) left.left;
        })
    earlier t c left (inr last) =
        let whole : length (calls ++ call ∷ []) ≤ left.moment = omega (arith, last, length-append calls (call ∷ [])) in
        inr (subst (λ (l : List DiskCall). MayLeave start l c) (take_all left.moment (calls ++ call ∷ []) whole) left.left)

-- the other half stays, where a step on this one is undone or taken
beside : {step : List ℕ → List ℕ → Type 0} (half : Half) (d c : Image) → Partly (OnHalf half step) d c → other_of half c ≡ other_of half d
beside half d c (inl same) = ap (other_of half) same
beside half d c (inr step) = step.other

next : (mixes : Bool) (start : Image) (calls : List DiskCall) (half : Half) (what : What) (failures later_failures : ℕ) → FollowsOneCall half what (state_after_calls mixes start calls failures) (state_after_calls mixes start (calls ++ one half what) later_failures)
next mixes start calls A what failures later_failures = record {
  changed = reads-push A A what calls (settled_file start.a);
  other = reads-push B A what calls (settled_file start.b);
  crash = λ c left. from c (left-push A A what calls (settled_file start.a) c.a left.0) (left-push B A what calls (settled_file start.b) c.b left.1);
  binds = λ c left. (left-push A A what calls (settled_file start.a) c.a left.0).1;
  allows = λ d c left step binds. (
    left-pull A A what calls (settled_file start.a) c.a ((d.a, left.0, ⊎_elim (λ same. inl (ap (λ (i : Image). i.a) same)) (λ part. inr part.changed) step), binds),
    left-pull B A what calls (settled_file start.b) c.b (subst (λ (l : List ℕ). (after_calls B calls (settled_file start.b)).may_leave l) (sym (beside A d c step)) left.1),
  );
  time = elapses_push mixes start calls (record { half = A; what = what }) failures later_failures;
}
  where
    from : (c : Image) → (after_what what (after_calls A calls (settled_file start.a))).may_leave c.a → (after_calls B calls (settled_file start.b)).may_leave c.b → (d : Image) × MayLeave start calls d × Partly (OnHalf A (PartOf what)) d c
    from c left other =
        let d : Image = record { a = left.0.0; b = c.b } in
        (d, (left.0.1, other), ⊎_elim (λ same. inl (ap (λ (x : List ℕ). let i : Image = record { a = x; b = c.b } in i) same)) (λ part. inr (record { changed = part; other = refl })) left.0.2)
next mixes start calls B what failures later_failures = record {
  changed = reads-push B B what calls (settled_file start.b);
  other = reads-push A B what calls (settled_file start.a);
  crash = λ c left. from c (left-push A B what calls (settled_file start.a) c.a left.0) (left-push B B what calls (settled_file start.b) c.b left.1);
  binds = λ c left. (left-push B B what calls (settled_file start.b) c.b left.1).1;
  allows = λ d c left step binds. (
    left-pull A B what calls (settled_file start.a) c.a (subst (λ (l : List ℕ). (after_calls A calls (settled_file start.a)).may_leave l) (sym (beside B d c step)) left.0),
    left-pull B B what calls (settled_file start.b) c.b ((d.b, left.1, ⊎_elim (λ same. inl (ap (λ (i : Image). i.b) same)) (λ part. inr part.changed) step), binds),
  );
  time = elapses_push mixes start calls (record { half = B; what = what }) failures later_failures;
}
  where
    from : (c : Image) → (after_calls A calls (settled_file start.a)).may_leave c.a → (after_what what (after_calls B calls (settled_file start.b))).may_leave c.b → (d : Image) × MayLeave start calls d × Partly (OnHalf B (PartOf what)) d c
    from c other left =
        let d : Image = record { a = c.a; b = left.0.0 } in
        (d, (other, left.0.1), ⊎_elim (λ same. inl (ap (λ (x : List ℕ). let i : Image = record { a = c.a; b = x } in i) same)) (λ part. inr (record { changed = part; other = refl })) left.0.2)

-- the same, of a list that is known to be longer by the call
pub next_is : (mixes : Bool) (start : Image) (calls later : List DiskCall) (half : Half) (what : What) (failures later_failures : ℕ) → later ≡ calls ++ one half what → FollowsOneCall half what (state_after_calls mixes start calls failures) (state_after_calls mixes start later later_failures)
next_is mixes start calls later half what failures later_failures is = subst (λ (l : List DiskCall). FollowsOneCall half what (state_after_calls mixes start calls failures) (state_after_calls mixes start l later_failures)) (sym is) (next mixes start calls half what failures later_failures)
