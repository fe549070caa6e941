-- Many forms that are logged together: they are counted, and no snapshot comes after any of them.
use Rattle.std.proofs.Common.{◌≡◌, ℕ, zero, suc, ◌+◌, ◌*◌, ◌-◌, ◌<◌, ◌≤◌, List, [], ◌∷◌, length, Some, Result, Ok, Err, refl, sym, ap, subst, ◌∙◌, inl, inr, arith}
use Rattle.gate_log.specs.Layout.{LogRecord, batch_size}
use Rattle.gate_log.proofs.Sizes.{count_within}
use Rattle.plist_state.specs.State.{WorldState}
use Rattle.sessions.specs.Pace.{Fill, HasHalfGrown, IsDue, IsDueByCount, Pace, PacesForms, fill_with_record}
use Rattle.prevalence_store.specs.meaning.Acceptance.{Acceptance, accepts, after, mode_of}
use Rattle.sessions.specs.steps.Schedule.{CountsAll, IsBeforeDue, IsBeforeGrown}
use Rattle.prevalence_store.proofs.meaning.Replaying.{stepped}
use Rattle.user_macros.specs.Functions.{Functions}

-- ---- how they are counted

-- fewer than were left until the next snapshot
pub fewer_counted : (count : ℕ) (pace later : Pace) → count < pace.left → later.every ≡ pace.every → later.ratio ≡ pace.ratio → later.left + count ≡ pace.left → CountsAll count pace later
fewer_counted zero pace later fewer every ratio left = let still : later.left ≡ pace.left = omega (arith, left) in λ i. record { every = every i; left = still i; ratio = ratio i }
fewer_counted (suc count) pace later fewer every ratio left =
    let counted : Pace = record { every = pace.every; left = pace.left - 1; ratio = pace.ratio } in (
      counted,
      record { every = refl; ratio = refl; fewer = λ more. omega (arith, more); again = λ last. absurd (omega (arith, last, fewer)) },
      λ due. absurd (omega (arith, due.0, fewer)),
      fewer_counted count counted later (omega (arith, fewer)) every ratio (omega (arith, left, fewer)),
    )

-- in a session without snapshots
pub never_counted : (count : ℕ) (pace later : Pace) → pace.left ≤ 1 → pace.every ≡ 0 → later.every ≡ pace.every → later.ratio ≡ pace.ratio → (count ≡ 0 → later.left ≡ pace.left) → (0 < count → later.left ≡ 0) → CountsAll count pace later
never_counted zero pace later few never every ratio still left = let same : later.left ≡ pace.left = still refl in λ i. record { every = every i; left = same i; ratio = ratio i }
never_counted (suc count) pace later few never every ratio still left =
    let counted : Pace = record { every = pace.every; left = 0; ratio = pace.ratio } in
    let none : later.left ≡ 0 = left (omega arith) in (
      counted,
      record { every = refl; ratio = refl; fewer = λ more. absurd (omega (arith, more, few)); again = λ last. sym never },
      λ due. absurd (omega (arith, due.1, never)),
      never_counted count counted later (omega arith) never every ratio (λ _. none) (λ _. none),
    )

-- a record takes some bytes
some_room : (version : ℕ) (e : LogRecord) (es : List LogRecord) → 0 < batch_size version (e ∷ es)
some_room version e es = omega (arith, count_within version (e ∷ es))

-- records that take no more bytes than there are before a half has grown enough leave it too small
pub before_grown : (ratio room : ℕ) (fill now : Fill) (es : List LogRecord) → IsBeforeGrown ratio fill room → batch_size fill.version es ≤ room → now.size ≡ fill.size + batch_size fill.version es
    → now.first_size ≡ fill.first_size → 0 < length es → HasHalfGrown ratio now.size now.first_size → ⊥
before_grown ratio room fill now [] before within size first some grown = absurd (omega (arith, some))
before_grown ratio room fill now (e ∷ es) before within size first some grown =
    before (omega (arith, within, some_room fill.version e es)) (grown.0, omega (arith, grown.1, size, within), subst (λ n. ratio * n ≤ fill.size + room) first (omega (arith, grown.2, size, within)))

pub fewer_before_due : (pace : Pace) (few many : ℕ) → few ≤ many → IsBeforeDue pace many → IsBeforeDue pace few
fewer_before_due pace few many fewer (inl less) = inl (omega (arith, less, fewer))
fewer_before_due pace few many fewer (inr (inl none)) = inr (inl (omega (arith, none, fewer)))
fewer_before_due pace few many fewer (inr (inr never)) = inr (inr never)

pub fewer_left : (count : ℕ) (pace : Pace) → IsBeforeDue pace count → 1 < pace.left → count < pace.left
fewer_left count pace (inl fewer) more = fewer
fewer_left count pace (inr (inl none)) more = omega (arith, none, more)
fewer_left count pace (inr (inr never)) more = absurd (omega (arith, never.0, more))

pub rest_counted : (count : ℕ) (pace later : Pace) → IsBeforeDue pace count → pace.left ≤ 1 → later.every ≡ pace.every → later.ratio ≡ pace.ratio → (count ≡ 0 → later.left ≡ pace.left) → (0 < count → later.left ≡ pace.every)
    → CountsAll count pace later
rest_counted zero pace later before few every ratio still left = let same : later.left ≡ pace.left = still refl in λ i. record { every = every i; left = same i; ratio = ratio i }
rest_counted (suc count) pace later (inl fewer) few every ratio still left = absurd (omega (arith, fewer, few))
rest_counted (suc count) pace later (inr (inl none)) few every ratio still left = absurd (omega (arith, none))
rest_counted (suc count) pace later (inr (inr never)) few every ratio still left =
    never_counted (suc count) pace later few never.1 every ratio (λ none. absurd (omega (arith, none))) (λ some. left some ∙ never.1)

pub counted_all : (count : ℕ) (pace : Pace) → IsBeforeDue pace count → (later : Pace) × CountsAll count pace later
counted_all count pace (inl fewer) =
    let later : Pace = record { every = pace.every; left = pace.left - count; ratio = pace.ratio } in
    (later, fewer_counted count pace later fewer refl refl (omega (arith, fewer)))
counted_all count pace (inr (inl none)) = (pace, subst (λ n. CountsAll n pace pace) (sym none) refl)
counted_all count pace (inr (inr never)) = by_count count where
  by_count : (n : ℕ) → (later : Pace) × CountsAll n pace later
  by_count zero = (pace, refl)
  by_count (suc n) =
      let later : Pace = record { every = pace.every; left = 0; ratio = pace.ratio } in
      (later, never_counted (suc n) pace later never.0 never.1 refl refl (λ none. absurd (omega (arith, none))) (λ some. refl))

-- ---- what follows them

module _ (functions : Functions) (limit : ℕ) where
  -- the world after the first of them, and that after the others
  first_of : (w v : WorldState) (es : List LogRecord) (r : Result Acceptance ℕ) → stepped functions es r ≡ Some v → (given : Acceptance) × (r ≡ Ok given) × (after functions given.world es ≡ Some v)
  first_of w v es (Ok given) is = (given, refl, is)
  first_of w v es (Err number) is = absurd (cc)

  -- no snapshot is due after one of them, if the half has not grown enough with all of them
  none_due : (pace : Pace) (fill now : Fill) → (IsDueByCount pace → ⊥) → (HasHalfGrown pace.ratio now.size now.first_size → ⊥) → now.first_size ≡ fill.first_size → fill.size ≤ now.size → IsDue pace fill → ⊥
  none_due pace fill now few small first less (inl due) = few due
  none_due pace fill now few small first less (inr grown) =
      small (grown.0, omega (arith, grown.1, less), subst (λ n. pace.ratio * n ≤ now.size) (sym first) (omega (arith, grown.2, less)))

  pub all_paced : (w v : WorldState) (es : List LogRecord) (pace later : Pace) (fill now : Fill) → after functions w es ≡ Some v → CountsAll (length es) pace later
      → (0 < length es → HasHalfGrown pace.ratio now.size now.first_size → ⊥) → (0 < length es → fill.size + batch_size fill.version es ≤ limit)
      → now.mixes ≡ fill.mixes → now.version ≡ fill.version → now.generation ≡ fill.generation → now.record_count ≡ fill.record_count + length es → now.size ≡ fill.size + batch_size fill.version es
      → now.first_size ≡ fill.first_size
      → PacesForms functions limit w es pace later fill now
  all_paced w v [] pace later fill now there counts small fits mixes version generation records size start =
      let many : now.record_count ≡ fill.record_count = omega (arith, records) in
      let bytes : now.size ≡ fill.size = omega (arith, size) in
      (counts, λ i. record { mixes = mixes i; version = version i; generation = generation i; record_count = many i; size = bytes i; first_size = start i })
  all_paced w v (e ∷ es) pace later fill now there (counted, one, not_due, others) small fits mixes version generation records size start =
      let is = first_of w v es (accepts functions w (mode_of e.kind) e.text) there in
      let given = is.0 in
      let grown_not = small (omega arith) in
      let room = fits (omega arith) in (
        given.world,
        counted,
        fill_with_record e fill,
        record {
          given_is = ap (stepped functions []) is.1;
          logged = fill_with_record e fill;
          logs = record { room = fill; made = inl refl; fits = omega (arith, room); now_is = refl };
          counts = one;
          followed = inl (none_due pace (fill_with_record e fill) now not_due grown_not start (omega (arith, size)), refl);
        },
        all_paced given.world v es counted later (fill_with_record e fill) now is.2 others (λ some. subst (λ r. HasHalfGrown r now.size now.first_size → ⊥) (sym one.ratio) grown_not) (λ some. omega (arith, room))
            mixes version generation (omega (arith, records)) (omega (arith, size)) start,
      )
