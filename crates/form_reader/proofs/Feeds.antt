-- Bytes that are fed at once, one step after the other; reading a whole text so.
use Rattle.std.proofs.Common.{◌≡◌, ℕ, ◌+◌, ◌-◌, ◌<◌, ◌≤◌, true, false, List, [], ◌∷◌, ◌++◌, take, Result, Ok, refl, sym, ap, subst, ◌∙◌, append_assoc, append-nil, arith, zero, suc, Bool, length, drop, IfOk, take_all}
use Rattle.std.specs.declared.alloc.AllocError.{AllocError}
use Rattle.form_reader.specs.declared.reader.FormReader.{FormReader}
use Rattle.form_reader.specs.declared.reader.Advance.{Advance}
use Rattle.form_reader.specs.declared.reader.Advance.TheVariants.{More as AdvanceMore, Form as AdvanceForm, Refused as AdvanceRefused}
use Rattle.lisp_reading.specs.Setting.{Setting}
use Rattle.form_reader.specs.Reader.{fed, begun, DecideNothing, IsAfterBytes, HasBegunAfter, Steps, StepsBegun, BeginsLater, CountsFedBytes, FeedsReader, AdvancesFed, is_more, IsSoundStep, IsOutcome}
use Rattle.std.proofs.lemmas.List.{take-append-drop}
use Rattle.std.specs.Prelude.{◌&&◌}
use Rattle.std.specs.List.{list_all}
use Rattle.lisp_reading.specs.declared.limits.Limits.{Limits}
use Rattle.lisp_object.specs.declared.datum.Datum.{Datum}
use Rattle.lisp_object.specs.Object.{IsSound}
use Rattle.lisp_object.specs.Datum.{object_of, is_proper}
use Rattle.lisp_reading.specs.Reading.{form, refused, reads}
use Rattle.form_reader.specs.declared.reader.ReadOutcome.{ReadOutcome}

pub more_is : (step : Advance) → is_more step ≡ true → step ≡ AdvanceMore
more_is AdvanceMore e = refl
more_is (AdvanceForm datum start «end» next) e = cc
more_is (AdvanceRefused number offset) e = cc

-- ---- how many bytes were fed, and where what is open began

pub counts_more : (old new : FormReader) (step : Advance) → step ≡ AdvanceMore → CountsFedBytes old new step → fed new ≡ fed old + 1
counts_more old new step is counts = subst (λ (s : Advance). CountsFedBytes old new s) is counts

pub begins_more : (old new : FormReader) (step : Advance) → step ≡ AdvanceMore → BeginsLater old new step → (begun old ≤ begun new) × (begun new ≤ fed new)
begins_more old new step is begins = subst (λ (s : Advance). BeginsLater old new s) is begins

pub advances_last : (old middle new : FormReader) (k : ℕ) (step : Advance) → fed middle ≡ fed old + k → begun old ≤ begun middle → CountsFedBytes middle new step → BeginsLater middle new step
    → AdvancesFed old new (k + 1) step
advances_last old middle new k AdvanceMore so le counts begins = (omega (arith, so, counts), omega (arith, le, begins.0), begins.1)
advances_last old middle new k (AdvanceForm datum start «end» next) so le counts begins = (counts, omega (arith, le, begins.0), begins.1)
advances_last old middle new k (AdvanceRefused number offset) so le counts begins = omega (arith, le, begins.0)

-- ---- what the steps answer

-- nothing was fed yet
pub none_taken : (setting : Setting) (reader : FormReader) (before bytes : List ℕ) → IsAfterBytes setting reader before → IsAfterBytes setting reader (before ++ take 0 bytes)
none_taken setting reader before bytes after = subst (λ (t : List ℕ). IsAfterBytes setting reader t) (sym (append-nil before)) after

pub none_begun : (setting : Setting) (reader : FormReader) (before bytes : List ℕ) → HasBegunAfter setting reader before → HasBegunAfter setting reader (before ++ take 0 bytes)
none_begun setting reader before bytes has = subst (λ (t : List ℕ). HasBegunAfter setting reader t) (sym (append-nil before)) has

module _ (setting : Setting) (old middle new : FormReader) (bytes : List ℕ) (k c : ℕ) (step : Advance) (is : take (k + 1) bytes ≡ take k bytes ++ c ∷ [])
    (after : (before : List ℕ) → IsAfterBytes setting old before → IsAfterBytes setting middle (before ++ take k bytes))
    (steps : (before : List ℕ) → IsAfterBytes setting middle before → Steps setting new (before ++ c ∷ []) step) where
  one_more : (before : List ℕ) → (before ++ take k bytes) ++ c ∷ [] ≡ before ++ take (k + 1) bytes
  one_more before = append_assoc before (take k bytes) (c ∷ []) ∙ ap (λ (t : List ℕ). before ++ t) (sym is)

  then_steps : (before : List ℕ) → IsAfterBytes setting old before → Steps setting new (before ++ take (k + 1) bytes) step
  then_steps before a = subst (λ (t : List ℕ). Steps setting new t step) (one_more before) (steps (before ++ take k bytes) (after before a))

  -- more bytes decide
  pub steps_on : step ≡ AdvanceMore → (before : List ℕ) → IsAfterBytes setting old before → Steps setting new (before ++ take (k + 1) bytes) AdvanceMore
  steps_on more before a = subst (λ (s : Advance). Steps setting new (before ++ take (k + 1) bytes) s) more (then_steps before a)

  -- it is the last step
  pub feeds_last : ((before : List ℕ) → IsAfterBytes setting old before → 0 < k → Steps setting middle (before ++ take k bytes) AdvanceMore)
      → (before : List ℕ) → IsAfterBytes setting old before → FeedsReader setting new before bytes (k + 1) step
  feeds_last first before a = record {
    steps = then_steps before a;
    undecided = λ other lt.
        let some : 0 < k = omega (arith, lt) in
        let same : k ≡ k + 1 - 1 = omega arith in
        subst (λ (n : ℕ). DecideNothing setting (before ++ take n bytes)) same (first before a some).3;
  }

  -- where what is open then began
  module _ (kept : (before : List ℕ) → IsAfterBytes setting old before → HasBegunAfter setting old before → HasBegunAfter setting middle (before ++ take k bytes))
      (begins : (before : List ℕ) → IsAfterBytes setting middle before → HasBegunAfter setting middle before → StepsBegun setting new (before ++ c ∷ []) step) where
    pub begun_last : (before : List ℕ) → IsAfterBytes setting old before → HasBegunAfter setting old before → StepsBegun setting new (before ++ take (k + 1) bytes) step
    begun_last before a has = subst (λ (t : List ℕ). StepsBegun setting new t step) (one_more before) (begins (before ++ take k bytes) (after before a) (kept before a has))

    pub begun_on : step ≡ AdvanceMore → (before : List ℕ) → IsAfterBytes setting old before → HasBegunAfter setting old before → HasBegunAfter setting new (before ++ take (k + 1) bytes)
    begun_on more before a has = subst (λ (s : Advance). StepsBegun setting new (before ++ take (k + 1) bytes) s) more (begun_last before a has)

-- all are taken, and more decide
pub feeds_whole : (setting : Setting) (old new : FormReader) (bytes : List ℕ) (k : ℕ) → 0 < k
    → ((before : List ℕ) → IsAfterBytes setting old before → 0 < k → Steps setting new (before ++ take k bytes) AdvanceMore)
    → (before : List ℕ) → IsAfterBytes setting old before → FeedsReader setting new before bytes k AdvanceMore
feeds_whole setting old new bytes k some steps before a = record {
  steps = steps before a some;
  undecided = λ other lt. let never : true ≡ false = other in cc;
}

-- ---- steps that cannot be

pub not_more : (step : Advance) → is_more step ≡ false → step ≡ AdvanceMore → ⊥
not_more AdvanceMore e more = cc
not_more (AdvanceForm datum start «end» next) e more = cc
not_more (AdvanceRefused number offset) e more = cc

-- a step that refuses again does not go on
pub refused_not_more : (number offset : ℕ) (step : Advance) → step ≡ AdvanceMore → ◌≡◌ {A = Result Advance AllocError} (Ok step) (Ok (AdvanceRefused number offset)) → ⊥
refused_not_more number offset step more e = cc

pub ok_more : (step : Advance) → ◌≡◌ {A = Result Advance AllocError} (Ok step) (Ok AdvanceMore) → step ≡ AdvanceMore
ok_more step e = cc

-- ---- what holds of each byte of a text

first_holds : (a b : Bool) → (a && b) ≡ true → a ≡ true
first_holds true b e = refl
first_holds false b e = e

rest_holds : (a b : Bool) → (a && b) ≡ true → b ≡ true
rest_holds true b e = e
rest_holds false b e = cc

pub each_holds : (p : ℕ → Bool) (bytes : List ℕ) (k c : ℕ) (rest : List ℕ) → list_all p bytes ≡ true → drop k bytes ≡ c ∷ rest → p c ≡ true
each_holds p [] zero c rest all is = cc
each_holds p [] (suc k) c rest all is = cc
each_holds p (b ∷ bs) zero c rest all is = let same : b ≡ c = cc in ap p (sym same) ∙ first_holds (p b) (list_all p bs) all
each_holds p (b ∷ bs) (suc k) c rest all is = each_holds p bs k c rest (rest_holds (p b) (list_all p bs) all) is

module _ (under : Limits → Setting) (held handed : Limits) (reader : FormReader) (bytes : List ℕ) (k : ℕ) (step : Advance) (same : held ≡ handed)
    (feeds : FeedsReader (under held) reader [] bytes k step) where
  steps_now : Steps (under handed) reader (take k bytes) step
  steps_now = subst (λ (l : Limits). Steps (under l) reader (take k bytes) step) same feeds.steps

  pub whole_form : (datum : Datum) (start «end» next : ℕ) → step ≡ AdvanceForm datum start «end» next → IsSoundStep step
      → (reads (under handed) bytes ≡ form (object_of datum) start «end» next) × (is_proper datum ≡ true) × IsSound (object_of datum)
  whole_form datum start «end» next e sound =
      let told : Steps (under handed) reader (take k bytes) (AdvanceForm datum start «end» next) = subst (λ (s : Advance). Steps (under handed) reader (take k bytes) s) e steps_now in
      (ap (reads (under handed)) (sym (take-append-drop k bytes)) ∙ told.0 (drop k bytes), told.1, subst IsSoundStep e sound)

  pub whole_refusal : (number offset : ℕ) → step ≡ AdvanceRefused number offset → reads (under handed) bytes ≡ refused number offset
  whole_refusal number offset e =
      let told : Steps (under handed) reader (take k bytes) (AdvanceRefused number offset) = subst (λ (s : Advance). Steps (under handed) reader (take k bytes) s) e steps_now in
      ap (reads (under handed)) (sym (take-append-drop k bytes)) ∙ told.0 (drop k bytes)

  -- more bytes decide, and there are none
  pub whole_after : step ≡ AdvanceMore → k ≡ length bytes → IsAfterBytes (under handed) reader bytes
  whole_after e all =
      let told : Steps (under handed) reader (take k bytes) AdvanceMore = subst (λ (s : Advance). Steps (under handed) reader (take k bytes) s) e steps_now in
      let whole : take k bytes ≡ bytes = take_all k bytes (omega (arith, all)) in
      subst (λ (t : List ℕ). IsAfterBytes (under handed) reader t) whole told.0

-- what the end of the text gives under the limits that the reader holds, it gives under those that it was handed
pub finished_whole : (under : Limits → Setting) (held handed : Limits) (reader : FormReader) (bytes : List ℕ) (result : Result ReadOutcome AllocError) → held ≡ handed
    → IsAfterBytes (under handed) reader bytes → ((text : List ℕ) → IsAfterBytes (under held) reader text → IfOk result (λ outcome. IsOutcome outcome (reads (under held) text)))
    → IfOk result (λ outcome. IsOutcome outcome (reads (under handed) bytes))
finished_whole under held handed reader bytes result same after gives =
    subst (λ (l : Limits). IsAfterBytes (under l) reader bytes → IfOk result (λ outcome. IsOutcome outcome (reads (under l) bytes))) same (gives bytes) after

-- the same where the text has no byte
pub finished_none : (under : Limits → Setting) (held handed : Limits) (reader : FormReader) (bytes : List ℕ) (result : Result ReadOutcome AllocError) → held ≡ handed → bytes ≡ []
    → IsAfterBytes (under handed) reader [] → ((text : List ℕ) → IsAfterBytes (under held) reader text → IfOk result (λ outcome. IsOutcome outcome (reads (under held) text)))
    → IfOk result (λ outcome. IsOutcome outcome (reads (under handed) bytes))
finished_none under held handed reader bytes result same none after gives =
    subst (λ (t : List ℕ). IfOk result (λ outcome. IsOutcome outcome (reads (under handed) t))) (sym none) (finished_whole under held handed reader [] result same after gives)

pub none_in : (bytes : List ℕ) → length bytes ≡ 0 → bytes ≡ []
none_in [] e = refl
none_in (b ∷ bs) e = absurd (omega (arith, e))

-- ---- answers that decide

pub form_is : (datum : Datum) (start «end» next : ℕ) (step : Advance) → step ≡ AdvanceForm datum start «end» next → is_more step ≡ false
form_is datum start «end» next step e = ap is_more e

pub refused_is : (number offset : ℕ) (step : Advance) → step ≡ AdvanceRefused number offset → is_more step ≡ false
refused_is number offset step e = ap is_more e

pub decided_not_more : {count : ℕ} (all : ℕ) (step : Advance) → is_more step ≡ false → ◌≡◌ {A = Result (ℕ × Advance) AllocError} (Ok (count, step)) (Ok (all, AdvanceMore)) → ⊥
decided_not_more {count = count} all step e same =
    let pair : ◌≡◌ {A = ℕ × Advance} (count, step) (all, AdvanceMore) = cc in
    let told : step ≡ AdvanceMore = ap (λ (p : ℕ × Advance). p.1) pair in
    let never : true ≡ false = sym (ap is_more told) ∙ e in cc
