-- Where what is open began: what is before it is discarded text, and from there on the text is read as it is alone.
use Rattle.std.proofs.Common.{◌≡◌, ℕ, zero, suc, ◌+◌, ◌-◌, ◌<◌, ◌≤◌, ◌⊎◌, inl, inr, Bool, true, false, List, [], ◌∷◌, ◌++◌, length, drop, Result, Ok, Err, IfOk, refl, sym, ap, subst, ◌∙◌, append_assoc, append-nil, length-append, length-drop, arith}
use Rattle.std.specs.Prelude.{◌&&◌}
use Rattle.std.proofs.lemmas.Bool.{lt-ltb}
use Rattle.std.proofs.lemmas.List.{take-append-le, drop-append-le}
use Rattle.std.proofs.Math.Seq.{take-length, drop-length, take-append_seam, drop-append_seam}
use Rattle.lisp_object.specs.declared.refusal.TheConstants.{DOT_CONTEXT}
use Rattle.lisp_reading.specs.declared.attempt.Found.{Found}
use Rattle.lisp_reading.specs.declared.attempt.Found.TheVariants.{Nothing as nothing, One as one, LoneDot as lone_dot, TheEnd as the_end}
use Rattle.lisp_reading.specs.Plans.{Read, fault, run}
use Rattle.lisp_reading.specs.Deciding.{decided_from}
use Rattle.lisp_reading.proofs.Deciding.{decided_is}
use Rattle.lisp_reading.specs.Setting.{Setting}
use Rattle.lisp_reading.specs.Reading.{ReadingResult, form, empty, refused, attempt, is_whitespace, outcome, reads_in, reads_at, reads, space_at}
use Rattle.lisp_reading.proofs.Forms.{reads_is, the_end_there}
use Rattle.form_reader.specs.declared.stack.Frame.{Frame}
use Rattle.form_reader.specs.declared.reader.FormReader.{FormReader}
use Rattle.form_reader.specs.declared.reader.ReaderState.{ReaderState}
use Rattle.form_reader.specs.declared.reader.ReaderState.TheVariants.{Open}
use Rattle.form_reader.specs.declared.reader.Advance.{Advance}
use Rattle.form_reader.specs.declared.reader.Advance.TheVariants.{More as AdvanceMore, Form as AdvanceForm, Refused as AdvanceRefused}
use Rattle.form_reader.specs.declared.state.State.{State}
use Rattle.form_reader.specs.declared.state.State.TheVariants.{Object as AtObject}
use Rattle.form_reader.specs.declared.step.Change.{Change}
use Rattle.form_reader.specs.declared.step.Change.TheVariants.{Goes, Form as ChangeForm, Refused as ChangeRefused}
use Rattle.std.specs.declared.alloc.AllocError.{AllocError}
use Rattle.form_reader.specs.Step.{is_space, outcome_of, start_of, verdict_of, ChangesTo, OpensNothingAtStart, AttemptEndsBefore, Starts}
use Rattle.form_reader.specs.State.{state_gives}
use Rattle.form_reader.specs.EndOfText.{RefusesIn}
use Rattle.form_reader.specs.declared.reader.ReadOutcome.{ReadOutcome}
use Rattle.form_reader.specs.declared.reader.ReadOutcome.TheVariants.{Form as ReadForm, Empty as ReadEmpty, Refused as ReadRefused}
use Rattle.form_reader.specs.Reader.{fed, begun, further, BeginsAt, HasBegunAfter, StepsBegun, IsDecidedFrom, RefusesFrom, IsNewReader, IsBetweenForms, IsAfterBytes, IsAfterIn, Steps, Becomes}
use Rattle.form_reader.proofs.Readers.{anew_between, between_reads, between_empty}
use Rattle.form_reader.proofs.EndOfText.{ended_there}

-- ---- offsets

further_twice : (a b : ℕ) (o : ReadingResult) → further a (further b o) ≡ further (a + b) o
further_twice a b (form x start «end» next) =
    let sum : (n : ℕ) → a + (b + n) ≡ a + b + n = λ n. omega arith in
    λ i. form x (sum start i) (sum «end» i) (sum next i)
further_twice a b empty = refl
further_twice a b (refused number offset) = let sum : a + (b + offset) ≡ a + b + offset = omega arith in ap (refused number) sum

module _ (setting : Setting) where
  turn_further : (again : ℕ → List ℕ → ReadingResult) (start : ℕ) (r : Read Found) → ((at : ℕ) (cs : List ℕ) → again (start + at) cs ≡ further start (again (0 + at) cs))
      → outcome setting.table start again r ≡ further start (outcome setting.table 0 again r)
  turn_further again start (Ok (nothing token, at, cs)) all = all at cs
  turn_further again start (Ok (one token x, at, cs)) all =
      let many = space_at setting.table token cs in
      let from : start ≡ start + 0 = omega arith in
      let stop : start + at ≡ start + (0 + at) = omega arith in
      let last : start + at + many ≡ start + (0 + at + many) = omega arith in
      λ i. form x (from i) (stop i) (last i)
  turn_further again start (Ok (lone_dot, at, cs)) all = let stop : start + at ≡ start + (0 + at) = omega arith in ap (refused DOT_CONTEXT) stop
  turn_further again start (Ok (the_end, at, cs)) all = refl
  turn_further again start (Err e) all = let stop : start + e.at ≡ start + (0 + e.at) = omega arith in ap (refused e.number) stop

  in_further : (n start : ℕ) (text : List ℕ) → reads_in setting n start text ≡ further start (reads_in setting n 0 text)
  unfolding reads_in
  in_further zero start text = refl
  in_further (suc n) start text =
      turn_further (λ next cs. reads_in setting n next cs) start (run setting.table setting.limits (attempt setting setting.limits.nesting) 0 text)
      (λ at cs.
      let sum : start + at ≡ start + (0 + at) = omega arith in
      in_further n (start + at) cs ∙ ap (λ k. further k (reads_in setting n 0 cs)) sum ∙ sym (further_twice start (0 + at) (reads_in setting n 0 cs))
      ∙ ap (further start) (sym (in_further n (0 + at) cs)))

  reads_further : (start : ℕ) (text : List ℕ) → reads_at setting start text ≡ further start (reads setting text)
  unfolding reads
  reads_further start text = in_further (length text + 1) start text

  reads_none : reads setting [] ≡ empty
  unfolding reads
  reads_none = reads_is setting 0 [] ∙ ap (outcome setting.table 0 (λ next cs. reads_at setting next cs)) (the_end_there setting)

  -- ---- where what these bytes have open begins

  -- nothing is open
  ends_begins : (bytes : List ℕ) → reads setting bytes ≡ empty → ((cs : List ℕ) → reads setting (bytes ++ cs) ≡ reads_at setting (length bytes) cs)
      → BeginsAt setting bytes (length bytes)
  ends_begins bytes none all = record {
    within = omega arith;
    discarded = ap (reads setting) (take-length bytes) ∙ none;
    alone = λ cs. all cs ∙ reads_further (length bytes) cs ∙ ap (λ (t : List ℕ). further (length bytes) (reads setting (t ++ cs))) (sym (drop-length bytes));
    first = λ c cs is some. let never : [] ≡ c ∷ cs = sym (drop-length bytes) ∙ is in cc;
  }

  -- it is one byte
  byte_begins : (bytes : List ℕ) (byte : ℕ) → reads setting bytes ≡ empty → ((cs : List ℕ) → reads setting (bytes ++ byte ∷ cs) ≡ reads_at setting (length bytes) (byte ∷ cs))
      → (0 < setting.limits.text → is_whitespace setting.table byte ≡ false) → BeginsAt setting (bytes ++ byte ∷ []) (length bytes)
  byte_begins bytes byte none all other =
      let rest : drop (length bytes) (bytes ++ byte ∷ []) ≡ byte ∷ [] = drop-append_seam bytes (byte ∷ []) in record {
        within = omega (arith, length-append bytes (byte ∷ []));
        discarded = ap (reads setting) (take-append_seam bytes (byte ∷ [])) ∙ none;
        alone = λ cs.
            ap (reads setting) (append_assoc bytes (byte ∷ []) cs) ∙ all cs ∙ reads_further (length bytes) (byte ∷ cs)
            ∙ ap (λ (t : List ℕ). further (length bytes) (reads setting (t ++ cs))) (sym rest);
        first = λ c cs is some. let whole : byte ∷ [] ≡ c ∷ cs = sym rest ∙ is in let same : byte ≡ c = cc in ap (is_whitespace setting.table) (sym same) ∙ other some;
      }

  -- more bytes follow: the first of them is no whitespace, if it is the first of what is open
  pub begins_more : (bytes more : List ℕ) (from : ℕ) → BeginsAt setting bytes from
      → ((c : ℕ) (cs : List ℕ) → from ≡ length bytes → more ≡ c ∷ cs → 0 < setting.limits.text → is_whitespace setting.table c ≡ false)
      → BeginsAt setting (bytes ++ more) from
  begins_more bytes more from begins next =
      let kept : drop from (bytes ++ more) ≡ drop from bytes ++ more = drop-append-le from bytes more begins.within in record {
        within = omega (arith, length-append bytes more, begins.within);
        discarded = ap (reads setting) (take-append-le from bytes more begins.within) ∙ begins.discarded;
        alone = λ cs.
            ap (reads setting) (append_assoc bytes more cs) ∙ begins.alone (more ++ cs)
            ∙ ap (λ (t : List ℕ). further from (reads setting t)) (sym (append_assoc (drop from bytes) more cs) ∙ ap (λ (t : List ℕ). t ++ cs) (sym kept));
        first = λ c cs is some. by (drop from bytes) refl c cs (sym kept ∙ is) some;
      }
    where
      by : (front : List ℕ) → drop from bytes ≡ front → (c : ℕ) (cs : List ℕ) → front ++ more ≡ c ∷ cs → 0 < setting.limits.text → is_whitespace setting.table c ≡ false
      by [] e c cs is some =
          let none : length bytes - from ≡ 0 = sym (length-drop from bytes) ∙ ap length e in
          next c cs (omega (arith, none, begins.within)) is some
      by (d ∷ ds) e c cs is some = let same : d ≡ c = cc in ap (is_whitespace setting.table) (sym same) ∙ begins.first d ds e some

-- a form that has begun stays where it is, whatever follows
pub begins_longer : (setting : Setting) (bytes more : List ℕ) (from : ℕ) → BeginsAt setting bytes from → from < length bytes → BeginsAt setting (bytes ++ more) from
begins_longer setting bytes more from begins some = begins_more setting bytes more from begins (λ c cs same is lt. absurd (omega (arith, some, same)))

-- of a refusal, what begins there is refused alone
pub refused_begins : (setting : Setting) (bytes : List ℕ) (from number offset : ℕ) → BeginsAt setting bytes from → reads setting bytes ≡ refused number offset
    → (from < length bytes) × (from ≤ offset) × (reads setting (drop from bytes) ≡ refused number (offset - from))
refused_begins setting bytes from number offset begins is = (some (drop from bytes) refl, there.0, there.1)
  where
    alone : further from (reads setting (drop from bytes)) ≡ refused number offset
    alone =
        ap (λ (t : List ℕ). further from (reads setting t)) (sym (append-nil (drop from bytes))) ∙ sym (begins.alone [])
        ∙ ap (reads setting) (append-nil bytes) ∙ is

    back : (o : ReadingResult) → further from o ≡ refused number offset → (from ≤ offset) × (o ≡ refused number (offset - from))
    back (form x start «end» next) e = cc
    back empty e = cc
    back (refused code at) e =
        let same : code ≡ number = cc in
        let sum : from + at ≡ offset = cc in
        let less : at ≡ offset - from = omega (arith, sum) in
        (omega (arith, sum), λ i. refused (same i) (less i))

    there : (from ≤ offset) × (reads setting (drop from bytes) ≡ refused number (offset - from))
    there = back (reads setting (drop from bytes)) alone

    some : (rest : List ℕ) → drop from bytes ≡ rest → from < length bytes
    some [] e =
        let never : empty ≡ refused number (offset - from) = sym (reads_none setting) ∙ ap (reads setting) (sym e) ∙ there.1 in
        cc
    some (c ∷ cs) e =
        let many : length bytes - from ≡ suc (length cs) = sym (length-drop from bytes) ∙ ap length e in
        omega (arith, many)

-- ---- a reader

pub between_begun : (setting : Setting) (reader : FormReader) (bytes : List ℕ) → IsAfterBytes setting reader bytes → IsBetweenForms reader
    → ((cs : List ℕ) → decided_from setting (bytes ++ cs) ≡ start_of setting reader.start (state_gives setting reader.stack AtObject reader.at cs))
    → HasBegunAfter setting reader bytes
between_begun setting reader bytes after between decides =
    let here : IsAfterIn setting reader (Open AtObject) bytes = subst (λ (s : ReaderState). IsAfterIn setting reader s bytes) between.state after in
    let from : begun reader ≡ length bytes = omega (arith, here.0, between.at) in
    record {
      goes_on = (AtObject, between.state);
      begins = subst (BeginsAt setting bytes) (sym from)
          (ends_begins setting bytes (between_empty setting reader bytes after between) (λ cs. between_reads setting reader bytes cs after between));
      between = λ e. between;
      decides = λ state is cs.
          let same : AtObject ≡ state = let both : Open AtObject ≡ Open state = sym between.state ∙ is in cc in
          decides cs ∙ ap (λ (s : State). start_of setting reader.start (state_gives setting reader.stack s reader.at cs)) same;
    }

-- nothing was fed
first_decides : (setting : Setting) (cs : List ℕ) → decided_from setting cs ≡ start_of setting 0 (state_gives setting [] AtObject 0 cs)
unfolding decided_from
first_decides setting cs = decided_is setting 0 cs

pub new_begun : (setting : Setting) (reader : FormReader) → IsNewReader reader → IsAfterBytes setting reader [] → HasBegunAfter setting reader []
new_begun setting reader new after =
    between_begun setting reader [] after (record { at = new.at; stack = new.stack; state = new.state })
    (λ cs. first_decides setting cs ∙ (λ i. start_of setting (sym new.start i) (state_gives setting (sym new.stack i) AtObject (sym new.at i) cs)))

-- whitespace is discarded where nothing is open, and no other byte
pub space_there : (setting : Setting) (c : ℕ) → is_whitespace setting.table c ≡ true → 0 < setting.limits.text → is_space setting c ≡ true
space_there setting c e some = ap (λ (b : Bool). b && is_whitespace setting.table c) (lt-ltb 0 setting.limits.text some) ∙ e

other_byte : (setting : Setting) (c : ℕ) → is_space setting c ≡ false → 0 < setting.limits.text → is_whitespace setting.table c ≡ false
other_byte setting c is some = ap (λ (b : Bool). b && is_whitespace setting.table c) (sym (lt-ltb 0 setting.limits.text some)) ∙ is

module _ (setting : Setting) (old : FormReader) (state : State) (bytes : List ℕ) (byte : ℕ) (after : IsAfterIn setting old (Open state) bytes) (has : HasBegunAfter setting old bytes)
    (is_open : old.state ≡ Open state) where
  -- the byte, where it is the first of what is open
  abbrev IsOther : Type 0
  IsOther = IsBetweenForms old → 0 < setting.limits.text → is_whitespace setting.table byte ≡ false

  -- it is that, where it is not passed over
  other_than : (change : Change) → (IsBetweenForms old → is_space setting byte ≡ true → change ≡ Goes (old.start + 1) 0 AtObject) → (change ≡ Goes (old.start + 1) 0 AtObject → ⊥) → IsOther
  other_than change passes never between some = by (is_whitespace setting.table byte) refl
    where
      by : (b : Bool) → is_whitespace setting.table byte ≡ b → is_whitespace setting.table byte ≡ false
      by false e = e
      by true e = absurd (never (passes between (space_there setting byte e some)))

  -- what was open is open still
  stays_begun : IsOther → BeginsAt setting (bytes ++ byte ∷ []) (begun old)
  stays_begun other =
      begins_more setting bytes (byte ∷ []) (begun old) has.begins
      (λ c cs here is some.
      let same : byte ≡ c = cc in
      ap (is_whitespace setting.table) (sym same) ∙ other (has.between (omega (arith, after.0, here))) some)

  -- it came to nothing before the byte
  ended_begins : AttemptEndsBefore setting old.stack state old.at byte → BeginsAt setting (bytes ++ byte ∷ []) (old.start + old.at)
  ended_begins ends =
      let at_end = ended_there setting old.stack old.at byte (nothing ends.token) state (ends.found []) in
      let none : reads setting bytes ≡ empty =
      ap (reads setting) (sym (append-nil bytes)) ∙ after.1 [] ∙ ap (outcome_of setting old.start) at_end
      ∙ reads_further setting (old.start + old.at) [] ∙ ap (further (old.start + old.at)) (reads_none setting) in
      subst (BeginsAt setting (bytes ++ byte ∷ [])) (sym after.0)
      (byte_begins setting bytes byte none
      (λ cs. after.1 (byte ∷ cs) ∙ ap (outcome_of setting old.start) (ends.found cs) ∙ ap (λ n. reads_at setting n (byte ∷ cs)) after.0)
      (other_byte setting byte ends.other))

  -- what decides the text, with the byte
  pub decides_on : (cs : List ℕ) → decided_from setting ((bytes ++ byte ∷ []) ++ cs) ≡ start_of setting old.start (state_gives setting old.stack state old.at (byte ∷ cs))
  decides_on cs = ap (decided_from setting) (append_assoc bytes (byte ∷ []) cs) ∙ has.decides state is_open (byte ∷ cs)

  pub stepped_begun : (mid new : FormReader) (stack : List Frame) (change : Change) (step : Advance)
      → (IsBetweenForms old → is_space setting byte ≡ true → change ≡ Goes (old.start + 1) 0 AtObject)
      → ((cs : List ℕ) → ChangesTo setting stack cs change (verdict_of setting old.start (state_gives setting old.stack state old.at (byte ∷ cs))))
      → Starts setting old.stack state old.start old.at byte change → OpensNothingAtStart stack change → Becomes change mid new step → mid.stack ≡ stack
      → Steps setting new (bytes ++ byte ∷ []) step → StepsBegun setting new (bytes ++ byte ∷ []) step
  stepped_begun mid new stack (Goes start at there) step passes turns starts anew takes same steps =
      subst (λ (s : Advance). StepsBegun setting new (bytes ++ byte ∷ []) s) (sym takes.0) (by at refl)
    where
      told : Steps setting new (bytes ++ byte ∷ []) AdvanceMore
      told = subst (λ (s : Advance). Steps setting new (bytes ++ byte ∷ []) s) takes.0 steps

      between : begun new ≡ fed new → IsBetweenForms new
      between = anew_between mid new stack (Goes start at there) step anew takes same takes.0

      decides : (state : State) → new.state ≡ Open state
          → (cs : List ℕ) → decided_from setting ((bytes ++ byte ∷ []) ++ cs) ≡ start_of setting new.start (state_gives setting new.stack state new.at cs)
      decides next is cs =
          let found : there ≡ next = let both : Open there ≡ Open next = sym takes.4 ∙ is in cc in
          decides_on cs ∙ (λ i. (turns cs i).1)
          ∙ (λ i. start_of setting (sym takes.1 i) (state_gives setting ((sym same ∙ sym takes.3) i) (found i) (sym takes.2 i) cs))

      has_begun : BeginsAt setting (bytes ++ byte ∷ []) start → HasBegunAfter setting new (bytes ++ byte ∷ [])
      has_begun begins =
          record { goes_on = (there, takes.4); begins = subst (BeginsAt setting (bytes ++ byte ∷ [])) (sym takes.1) begins; between = between; decides = decides }

      later : IsOther → 0 < at → (start ≡ old.start) ⊎ ((at ≡ 0) ⊎ ((start ≡ old.start + old.at) × AttemptEndsBefore setting old.stack state old.at byte))
          → HasBegunAfter setting new (bytes ++ byte ∷ [])
      later other some (inl stays) = has_begun (subst (BeginsAt setting (bytes ++ byte ∷ [])) (sym stays) (stays_begun other))
      later other some (inr (inl none)) = absurd (omega (arith, some, none))
      later other some (inr (inr here)) = has_begun (subst (BeginsAt setting (bytes ++ byte ∷ [])) (sym here.0) (ended_begins here.1))

      by : (n : ℕ) → at ≡ n → HasBegunAfter setting new (bytes ++ byte ∷ [])
      by zero none =
          let anew = between (omega (arith, takes.2, none)) in
          between_begun setting new (bytes ++ byte ∷ []) told.0 anew (decides AtObject anew.state)
      by (suc n) some =
          let other = other_than (Goes start at there) passes (λ is. let none : at ≡ 0 = cc in absurd (omega (arith, some, none))) in
          later other (omega (arith, some)) starts
  stepped_begun mid new stack (ChangeForm x start «end» next) (AdvanceForm datum s e n) passes turns starts anew takes same steps = λ later. new_begun later new steps.4 (steps.5 later)
  stepped_begun mid new stack (ChangeForm x start «end» next) AdvanceMore passes turns starts anew takes same steps = absurd takes
  stepped_begun mid new stack (ChangeForm x start «end» next) (AdvanceRefused code offset) passes turns starts anew takes same steps = absurd takes
  stepped_begun mid new stack (ChangeRefused from code offset) step passes turns starts anew takes same steps =
      subst (λ (s : Advance). StepsBegun setting new (bytes ++ byte ∷ []) s) (sym takes.0)
      (subst (BeginsAt setting (bytes ++ byte ∷ [])) (sym takes.2) (by starts), λ cs. decides_on cs ∙ (λ i. (turns cs i).1) ∙ sym takes.2)
    where
      other : IsOther
      other = other_than (ChangeRefused from code offset) passes (λ is. cc)

      by : (from ≡ old.start) ⊎ ((from ≡ old.start + old.at) × AttemptEndsBefore setting old.stack state old.at byte) → BeginsAt setting (bytes ++ byte ∷ []) from
      by (inl stays) = subst (BeginsAt setting (bytes ++ byte ∷ [])) (sym stays) (stays_begun other)
      by (inr here) = subst (BeginsAt setting (bytes ++ byte ∷ [])) (sym here.0) (ended_begins here.1)

-- ---- the end of the text

pub refuses_from : (setting : Setting) (reader : FormReader) (state : State) (bytes : List ℕ) (result : Result ReadOutcome AllocError) → reader.state ≡ Open state → HasBegunAfter setting reader bytes
    → IfOk result (RefusesIn setting reader.start (state_gives setting reader.stack state reader.at [])) → IfOk result (RefusesFrom setting bytes (begun reader))
refuses_from setting reader state bytes (Ok (ReadRefused number offset)) is has h = ap (decided_from setting) (sym (append-nil bytes)) ∙ has.decides state is [] ∙ h
refuses_from setting reader state bytes (Ok ReadEmpty) is has h = tt
refuses_from setting reader state bytes (Ok (ReadForm datum start «end» next)) is has h = tt
refuses_from setting reader state bytes (Err e) is has h = tt
