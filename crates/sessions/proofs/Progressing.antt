-- How the turns of a session join.
use Rattle.std.proofs.Common.{◌≡◌, ℕ, zero, suc, Bool, ◌+◌, ◌⊎◌, List, [], ◌∷◌, ◌++◌, length, Option, None, Some, IsTrue, refl, sym, ap, subst, ◌∙◌, inl, inr, append_assoc, append-nil, arith, length-append}
use Rattle.std.specs.Option.{option_map, option_and_then}
use Rattle.disk_trait.specs.Disk.{State, IsHonest, IsSoundDisk}
use Rattle.disk_trait.specs.Half.{opposite_of}
use Rattle.disk_trait.specs.declared.half.Half.{Half}
use Rattle.gate_log.specs.Layout.{LogRecord, batch_size, half_base, next_version, with_records}
use Rattle.gate_log.proofs.Sizes.{batch_more, next_version_twice}
use Rattle.session_words.specs.declared.mode.Mode.{Mode}
use Rattle.sessions.specs.declared.ending.Ending.{Ending}
use Rattle.sessions.specs.declared.ending.Ending.TheVariants.{End, Reader, Store}
use Rattle.prevalence_store.specs.meaning.Acceptance.{after, read_in}
use Rattle.prevalence_store.specs.calls.Execute.{SurvivesAs}
use Rattle.prevalence_store.specs.calls.Store.{LeavesAlone, StoreView, Describes}
use Rattle.sessions.specs.FormAnswers.{Progress, after_forms, first_progress, last_line, one_form, one_form_more, progress_onward}
use Rattle.sessions.specs.Serve.{Advances, Ends, IsAfter, IsHalfExtended, IsHalfRenewed, Serves, contents_after, half_after}
use Rattle.sessions.specs.Streams.{Writes}
use Rattle.plist_state.specs.State.{WorldState}
use Rattle.world_text.specs.Snapshot.{snapshot}
use Rattle.prevalence_store.specs.Theorem.{Survives}
use Rattle.prevalence_store.proofs.calls.LeftAlone.{alone_both}
use Rattle.prevalence_store.proofs.Surviving.{after-append, both_survive}
use Rattle.user_macros.specs.Functions.{Functions}

onward_onward : (p q r : Progress) → progress_onward (progress_onward p q) r ≡ progress_onward p (progress_onward q r)
onward_onward p q r =
    λ i. record { world = r.world; rest = r.rest; taken = append_assoc p.taken q.taken r.taken i; lines = append_assoc p.lines q.lines r.lines i; refused = append_assoc p.refused q.refused r.refused i }

pub onward_begun : (p : Progress) → progress_onward p (first_progress p.world p.rest) ≡ p
onward_begun p =
    λ i. record { world = p.world; rest = p.rest; taken = append-nil p.taken i; lines = append-nil p.lines i; refused = append-nil p.refused i }

-- one form more of the rest is one form more of the whole
more_onward : (p q r : Progress) (one : Option Progress) → option_map (progress_onward q) one ≡ Some r → option_map (progress_onward (progress_onward p q)) one ≡ Some (progress_onward p r)
more_onward p q r None is = absurd (cc)
more_onward p q r (Some s) is =
    let same : progress_onward q s ≡ r = cc in
    ap (λ o. Some o) (onward_onward p q s ∙ ap (progress_onward p) same)

pub writes_both : (a b c : Option (List ℕ)) (front back : List ℕ) → Writes a b front → Writes b c back → Writes a c (front ++ back)
writes_both a b c front back first second = λ held is.
    second (held ++ front) (first held is) ∙ ap (λ t. Some t) (append_assoc held front back)

-- none of two are none of the first and none of the second
none_of_both : (xs ys : List LogRecord) → xs ++ ys ≡ [] → (xs ≡ []) × (ys ≡ [])
none_of_both [] ys is = (refl, is)
none_of_both (x ∷ xs) ys is = absurd (cc)

-- ---- the log after some records, and some more

half_after_both : (n m k : ℕ) (half : Half) → k ≡ n + m → half_after k half ≡ half_after n (half_after m half)
half_after_both zero m k half is = let same : k ≡ m = omega arith in ap (λ j. half_after j half) same
half_after_both (suc n) m zero half is = absurd (omega arith)
half_after_both (suc n) m (suc k) half is = let less : k ≡ n + m = omega arith in ap opposite_of (half_after_both n m k half less)

module _ (functions : Functions) {D R : Type 0} (state : D → State) (sound : (d : D) → IsHonest (state d) → IsSoundDisk (state d)) (old mid new : StoreView D R) (w v : WorldState) (xs ys : List LogRecord)
    (here : after functions w xs ≡ Some v) (limit : mid.limit ≡ old.limit) (honest : (state mid.disk).honest ≡ (state old.disk).honest) (mixes : (state mid.disk).mixes ≡ (state old.disk).mixes) where
  -- the version of a half that is begun later, after one of this version, or after one that was begun on the same disk
  begun_later : (version : ℕ) → next_version (state mid.disk).mixes version ≡ next_version (state old.disk).mixes version
  begun_later version = ap (λ m. next_version m version) mixes

  begun_twice : (version : ℕ) → next_version (state mid.disk).mixes (next_version (state old.disk).mixes version) ≡ next_version (state old.disk).mixes version
  begun_twice version = begun_later (next_version (state old.disk).mixes version) ∙ next_version_twice (state old.disk).mixes version

  both_extended : IsHalfExtended state old mid xs → IsHalfExtended state mid new ys → IsHalfExtended state old new (xs ++ ys)
  both_extended one two = record {
    half = two.half ∙ one.half;
    version = two.version ∙ one.version;
    generation = two.generation ∙ one.generation;
    record_count = let sum = length-append xs ys in let a = one.record_count in let b = two.record_count in omega arith;
    size = omega (arith, one.size, two.size, batch_more old.version xs ys, ap (λ n. batch_size n ys) one.version);
    first_size = two.first_size ∙ one.first_size;
    fits = let a = one.fits in let b = two.fits in omega arith;
    described = λ k claims held.
        subst (λ entries. Describes new (record k { entries = entries }) (state new.disk).reads) (append_assoc k.entries xs ys)
        (two.described (with_records k xs) (subst IsTrue (sym honest) claims) (one.described k claims held));
    other = λ claims.
        let still = subst IsTrue (sym honest) claims in
        alone_both (opposite_of old.half) (state old.disk) (state mid.disk) (state new.disk) (sound mid.disk still) (one.other claims)
        (subst (λ (h : Half). LeavesAlone (opposite_of h) (state mid.disk) (state new.disk)) one.half (two.other still));
    untouched = λ is. let none = none_of_both xs ys is in two.untouched none.1 ∙ one.untouched none.0;
  }

  -- snapshots are taken later
  unfoldable extended_renewed : IsHalfExtended state old mid xs → IsHalfRenewed state mid new functions v ys → IsHalfRenewed state old new functions w (xs ++ ys)
  extended_renewed one two = record {
    snapshots = two.snapshots;
    some = two.some;
    earlier = xs ++ two.earlier;
    later = two.later;
    parts = ap (λ l. xs ++ l) two.parts ∙ sym (append_assoc xs two.earlier two.later);
    first = two.first;
    first_is = after-append functions w v xs two.earlier here ∙ two.first_is;
    half = two.half ∙ ap (half_after two.snapshots) one.half;
    version = two.version ∙ ap (next_version (state mid.disk).mixes) one.version ∙ begun_later old.version;
    generation = let a = one.generation in let b = two.generation in omega arith;
    record_count = two.record_count;
    size = two.size;
    first_size = two.first_size;
    fits = let fits = two.fits in omega arith;
    described = λ k claims held.
        subst (λ m. Describes new (contents_after m k two.snapshots two.first two.later) (state new.disk).reads) mixes
        (two.described (with_records k xs) (subst IsTrue (sym honest) claims) (one.described k claims held));
  }

  -- they were taken earlier
  renewed_extended : IsHalfRenewed state old mid functions w xs → IsHalfExtended state mid new ys → IsHalfRenewed state old new functions w (xs ++ ys)
  renewed_extended one two = record {
    snapshots = one.snapshots;
    some = one.some;
    earlier = one.earlier;
    later = one.later ++ ys;
    parts = ap (λ l. l ++ ys) one.parts ∙ append_assoc one.earlier one.later ys;
    first = one.first;
    first_is = one.first_is;
    half = two.half ∙ one.half;
    version = two.version ∙ one.version;
    generation = two.generation ∙ one.generation;
    record_count = let sum = length-append one.later ys in let a = one.record_count in let b = two.record_count in omega arith;
    size =
        omega (
          arith,
          one.size,
          two.size,
          batch_more mid.version one.later ys,
          ap (λ n. half_base n (length (snapshot one.first))) two.version,
          ap (λ n. batch_size n (one.later ++ ys)) two.version,
        );
    first_size = two.first_size ∙ one.first_size ∙ ap (λ n. half_base n (length (snapshot one.first))) (sym two.version);
    fits = let a = one.fits in let b = two.fits in omega arith;
    described = λ k claims held. two.described (contents_after (state old.disk).mixes k one.snapshots one.first one.later) (subst IsTrue (sym honest) claims) (one.described k claims held);
  }

  unfoldable both_renewed : IsHalfRenewed state old mid functions w xs → IsHalfRenewed state mid new functions v ys → IsHalfRenewed state old new functions w (xs ++ ys)
  both_renewed one two = record {
    snapshots = two.snapshots + one.snapshots;
    some = let some = one.some in omega arith;
    earlier = xs ++ two.earlier;
    later = two.later;
    parts = ap (λ l. xs ++ l) two.parts ∙ sym (append_assoc xs two.earlier two.later);
    first = two.first;
    first_is = after-append functions w v xs two.earlier here ∙ two.first_is;
    half = two.half ∙ ap (half_after two.snapshots) one.half ∙ sym (half_after_both two.snapshots one.snapshots (two.snapshots + one.snapshots) old.half refl);
    version = two.version ∙ ap (next_version (state mid.disk).mixes) one.version ∙ begun_twice old.version;
    generation = let a = one.generation in let b = two.generation in omega arith;
    record_count = two.record_count;
    size = two.size;
    first_size = two.first_size;
    fits = let fits = two.fits in omega arith;
    described = λ k claims held.
        let later : (k.generation + one.snapshots) + two.snapshots ≡ k.generation + (two.snapshots + one.snapshots) = omega arith in
        subst (λ g. Describes new (record (contents_after (state old.disk).mixes k one.snapshots two.first two.later) { generation = g }) (state new.disk).reads) later
        (subst (λ v. Describes new (record { version = v; generation = (k.generation + one.snapshots) + two.snapshots; snapshot = snapshot two.first; entries = two.later }) (state new.disk).reads) (begun_twice k.version)
        (two.described (contents_after (state old.disk).mixes k one.snapshots one.first one.later) (subst IsTrue (sym honest) claims) (one.described k claims held)));
  }

  -- snapshots are taken in the second part, and this is left of it
  pub renewed_later : IsHalfExtended state old mid xs ⊎ IsHalfRenewed state old mid functions w xs → (two : IsHalfRenewed state mid new functions v ys)
      → (both : IsHalfRenewed state old new functions w (xs ++ ys)) × (both.later ≡ two.later)
  unfolding extended_renewed both_renewed
  renewed_later (inl one) two = (extended_renewed one two, refl)
  renewed_later (inr one) two = (both_renewed one two, refl)

  log_both : IsHalfExtended state old mid xs ⊎ IsHalfRenewed state old mid functions w xs → IsHalfExtended state mid new ys ⊎ IsHalfRenewed state mid new functions v ys
      → IsHalfExtended state old new (xs ++ ys) ⊎ IsHalfRenewed state old new functions w (xs ++ ys)
  log_both (inl one) (inl two) = inl (both_extended one two)
  log_both (inl one) (inr two) = inr (extended_renewed one two)
  log_both (inr one) (inl two) = inr (renewed_extended one two)
  log_both (inr one) (inr two) = inr (both_renewed one two)

module _ (functions : Functions) {D R : Type 0} (state : D → State) (sound : (d : D) → IsHonest (state d) → IsSoundDisk (state d)) (old mid new : StoreView D R) (w : WorldState) (p : Progress)
    (first : IsAfter functions state old mid w p) (honest : (state mid.disk).honest ≡ (state old.disk).honest) where
  pub after_both : (q : Progress) → IsAfter functions state mid new p.world q → IsAfter functions state old new w (progress_onward p q)
  after_both q second = record {
    left = second.left;
    records = after-append functions w p.world p.taken q.taken first.records ∙ second.records;
    limit = second.limit ∙ first.limit;
    macros = second.macros ∙ first.macros;
    failures = second.failures ∙ first.failures;
    mixes = second.mixes ∙ first.mixes;
    log = log_both functions state sound old mid new w p.world p.taken q.taken first.records first.limit honest first.mixes first.log second.log;
  }

module _ (functions : Functions) where
  -- ---- progress

  pub step_back : (mode : Mode) (o : Option Progress) (r : Progress) → option_and_then (one_form_more functions mode) o ≡ Some r → (q : Progress) × (o ≡ Some q) × (one_form_more functions mode q ≡ Some r)
  step_back mode None r is = absurd (cc)
  step_back mode (Some q) r is = (q, refl, is)

  -- so many forms of the rest, after others
  pub forms_onward : (n m k : ℕ) (w : WorldState) (mode : Mode) (text : List ℕ) (p q : Progress) → k ≡ n + m
      → after_forms functions m w mode text ≡ Some p → after_forms functions n p.world mode p.rest ≡ Some q → after_forms functions k w mode text ≡ Some (progress_onward p q)
  forms_onward zero m k w mode text p q is here there =
      let count : k ≡ m = omega arith in
      let start : first_progress p.world p.rest ≡ q = cc in
      ap (λ j. after_forms functions j w mode text) count ∙ here ∙ ap (λ o. Some o) (sym (onward_begun p) ∙ ap (progress_onward p) start)
  forms_onward (suc n) m zero w mode text p q is here there = absurd (omega arith)
  forms_onward (suc n) m (suc k) w mode text p q is here there =
      let last = step_back mode (after_forms functions n p.world mode p.rest) q there in
      let less : k ≡ n + m = omega arith in
      ap (option_and_then (one_form_more functions mode)) (forms_onward n m k w mode text p last.0 less here last.1)
      ∙ more_onward p last.0 q (one_form functions last.0.world mode last.0.rest (read_in functions last.0.world mode last.0.rest)) last.2

  -- ---- what was written

  -- ---- a session goes on

  module _ {D R : Type 0} (state : D → State) (sound : (d : D) → IsHonest (state d) → IsSoundDisk (state d)) (old mid new : StoreView D R) (w : WorldState) (mode : Mode) (text : List ℕ) (a b c : Option (List ℕ)) (m : ℕ) (p : Progress)
      (first : Advances functions state old mid w mode text a b m p) (honest : (state mid.disk).honest ≡ (state old.disk).honest) where
    survive_both : (taken : List LogRecord) (n : ℕ) → SurvivesAs functions state mid new p.world taken n → SurvivesAs functions state old new w (p.taken ++ taken) (length p.taken + n)
    survive_both taken n second known claims keeps =
        let before = first.survives known claims keeps in
        let left = first.after.left in
        both_survive functions (state old.disk) (state mid.disk) (state new.disk) w p.world p.taken taken n new.world
        (subst (λ o. Survives functions (state old.disk) (state mid.disk) w p.taken (length p.taken) o) left before)
        (second left (subst IsTrue (sym honest) claims) (before.kept p.world left))

    pub survive_with : (taken : List LogRecord) (n k : ℕ) → k ≡ length p.taken + n → SurvivesAs functions state mid new p.world taken n → SurvivesAs functions state old new w (p.taken ++ taken) k
    survive_with taken n k is second = subst (λ j. SurvivesAs functions state old new w (p.taken ++ taken) j) (sym is) (survive_both taken n second)

    -- some forms, and some more
    pub advance_both : (n k : ℕ) (q : Progress) → k ≡ n + m → Advances functions state mid new p.world mode p.rest b c n q → Advances functions state old new w mode text a c k (progress_onward p q)
    advance_both n k q is second = record {
      far_is = forms_onward n m k w mode text p q is first.far_is second.far_is;
      lines = writes_both a b c p.lines q.lines first.lines second.lines;
      after = after_both functions state sound old mid new w p first.after honest q second.after;
      survives = survive_with q.taken (length q.taken) (length (p.taken ++ q.taken)) (length-append p.taken q.taken) second.survives;
    }

    pub ends_both : (forms : ℕ) (far : Progress) (lines : ℕ) (answered : Progress) (part : List ℕ) (group : Bool) (ending : Ending)
        → after_forms functions lines p.world mode p.rest ≡ Some answered → Ends functions state mid new p.world mode p.rest b c forms far lines answered part group ending
        → Ends functions state old new w mode text a c (forms + m) (progress_onward p far) (lines + m) (progress_onward p answered) part group ending
    ends_both forms far lines answered part group End answered_is ends = record {
      all = let all = ends.all in omega arith;
      no_part = ends.no_part;
      nothing_left = ends.nothing_left;
      after = after_both functions state sound old mid new w p first.after honest far ends.after;
    }
    ends_both forms far lines answered part group (Reader number) answered_is ends = record {
      all = let all = ends.all in omega arith;
      at = ends.at;
      reads = ends.reads;
      line = ends.line;
      after = after_both functions state sound old mid new w p first.after honest far ends.after;
    }
    ends_both forms far lines answered part group (Store number) answered_is (inl stopped) = inl (record {
      device = stopped.device;
      some_open = let some = stopped.some_open in omega arith;
      no_part = stopped.no_part;
      mid = stopped.mid;
      before = after_both functions state sound old mid stopped.mid w p first.after honest answered stopped.before;
      entries = stopped.entries;
      some = stopped.some;
      one_open = λ none. let one = stopped.one_open none in (omega (arith, one.0), one.1);
      were_accepted = ap (λ l. p.taken ++ l) stopped.were_accepted ∙ sym (append_assoc p.taken answered.taken stopped.entries);
      fits = stopped.fits;
      failed = stopped.failed;
      all_or_none = stopped.all_or_none;
    })
    ends_both forms far lines answered part group (Store number) answered_is (inr (inl stopped)) = inr (inl (record {
      device = stopped.device;
      all = let all = stopped.all in omega arith;
      no_part = stopped.no_part;
      mid = stopped.mid;
      before = after_both functions state sound old mid stopped.mid w p first.after honest far stopped.before;
      fits = stopped.fits;
      failed = stopped.failed;
    }))
    ends_both forms far lines answered part group (Store number) answered_is (inr (inr (inl full))) =
        let renewed = renewed_later functions state sound old mid new w p.world p.taken far.taken first.after.records first.after.limit honest first.after.mixes first.after.log full.renewed in
        inr (inr (inl (record {
          full = full.full;
          all = let all = full.all in omega arith;
          no_part = full.no_part;
          next = full.next;
          renewed = renewed.0;
          none_since = renewed.1 ∙ full.none_since;
          only_text = full.only_text;
          after = after_both functions state sound old mid new w p first.after honest far full.after;
        })))
    ends_both forms far lines answered part group (Store number) answered_is (inr (inr (inr (inl large)))) = inr (inr (inr (inl (record {
      large = large.large;
      all = let all = large.all in omega arith;
      no_part = large.no_part;
      next = large.next;
      why = large.why;
      after = after_both functions state sound old mid new w p first.after honest far large.after;
    }))))
    ends_both forms far lines answered part group (Store number) answered_is (inr (inr (inr (inr (inl unread))))) = inr (inr (inr (inr (inl (record {
      input = unread.input;
      all = let all = unread.all in omega arith;
      no_part = unread.no_part;
      more = unread.more;
      after = after_both functions state sound old mid new w p first.after honest far unread.after;
    })))))
    ends_both forms far lines answered part group (Store number) answered_is (inr (inr (inr (inr (inr (inl unwritten)))))) = inr (inr (inr (inr (inr (inl (record {
      output = unwritten.output;
      unwritten = unwritten.unwritten;
      some_left = unwritten.some_left;
      front =
          append_assoc p.lines far.lines (last_line (read_in functions far.world mode far.rest))
          ∙ ap (λ t. p.lines ++ t) unwritten.front
          ∙ ap (λ t. p.lines ++ t) (append_assoc answered.lines part unwritten.unwritten)
          ∙ sym (append_assoc p.lines answered.lines (part ++ unwritten.unwritten))
          ∙ sym (append_assoc (p.lines ++ answered.lines) part unwritten.unwritten);
      in_form = λ some.
          let is = unwritten.in_form (omega arith) in
          let rest = is.2 in (
            progress_onward p is.0,
            forms_onward (lines + 1) m ((lines + m) + 1) w mode text p is.0 (omega arith) first.far_is is.1,
            (
              rest.0,
              rest.1,
              ap (λ t. p.lines ++ t) (rest.2 ∙ append_assoc answered.lines part rest.0) ∙ sym (append_assoc p.lines answered.lines (part ++ rest.0))
                  ∙ sym (append_assoc (p.lines ++ answered.lines) part rest.0),
            ),
          );
      after = after_both functions state sound old mid new w p first.after honest far unwritten.after;
    }))))))
    ends_both forms far lines answered part group (Store number) answered_is (inr (inr (inr (inr (inr (inr out)))))) = inr (inr (inr (inr (inr (inr (record {
      memory = out.memory;
      all = let all = out.all in omega arith;
      no_part = out.no_part;
      after = after_both functions state sound old mid new w p first.after honest far out.after;
    }))))))

    -- some forms, and how the session ended after them
    unfoldable pub serve_both : (group : Bool) (ending : Ending) → Serves functions state mid new p.world mode p.rest b c group ending → Serves functions state old new w mode text a c group ending
    serve_both group ending second = record {
      forms = second.forms + m;
      far = progress_onward p second.far;
      far_is = forms_onward second.forms m (second.forms + m) w mode text p second.far refl first.far_is second.far_is;
      lines = second.lines + m;
      answered = progress_onward p second.answered;
      answered_is = forms_onward second.lines m (second.lines + m) w mode text p second.answered refl first.far_is second.answered_is;
      at_most = let at_most = second.at_most in omega arith;
      in_turn = λ none. let in_turn = second.in_turn none in omega arith;
      part = second.part;
      output = λ held is. writes_both a b c p.lines (second.answered.lines ++ second.part) first.lines second.output held is
          ∙ ap (λ t. Some (held ++ t)) (sym (append_assoc p.lines second.answered.lines second.part));
      survives = survive_with second.far.taken (length second.answered.taken) (length (p.taken ++ second.answered.taken)) (length-append p.taken second.answered.taken) second.survives;
      ends = ends_both second.forms second.far second.lines second.answered second.part group ending second.answered_is second.ends;
    }
