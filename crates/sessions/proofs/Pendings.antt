-- What is pending of a session.
use Rattle.std.proofs.Common.{◌≡◌, ℕ, ◌+◌, ◌-◌, ◌<◌, ◌≤◌, true, false, Bool, cond, List, [], ◌∷◌, ◌++◌, length, drop, take, append_assoc, Ok, Err, nat_lt, refl, sym, ap, subst, ◌∙◌, arith, append-nil, length-append, length-drop}
use Rattle.std.proofs.lemmas.Bool.{ltb-true, ltb-false}
use Rattle.std.proofs.lemmas.List.{drop-append-le}
use Rattle.lisp_object.specs.Object.{Object}
use Rattle.lisp_object.specs.Object as object
use Rattle.lisp_object.specs.Datum.{object_of, is_proper}
use Rattle.lisp_object.specs.declared.datum.Datum.{Datum}
use Rattle.form_eval.specs.Laws.{MayEvaluate}
use Rattle.form_eval.specs.declared.read_form.ReadForm.{ReadForm}
use Rattle.package_table.specs.Symbols.{are_there}
use Rattle.lisp_reading.proofs.Refusals.{refusal_stays}
use Rattle.lisp_reading.specs.declared.attempt.Found.{Found}
use Rattle.lisp_reading.specs.declared.attempt.Found.TheVariants.{Nothing as nothing, One as one, LoneDot as lone_dot, TheEnd as the_end}
use Rattle.form_reader.specs.declared.reader.FormReader.{FormReader}
use Rattle.form_reader.specs.declared.reader.ReaderState.{ReaderState}
use Rattle.form_reader.specs.declared.reader.ReaderState.TheVariants.{Open, Refused, OutOfMemory}
use Rattle.form_reader.specs.declared.reader.Advance.{Advance}
use Rattle.form_reader.specs.declared.reader.Advance.TheVariants.{More as AdvanceMore, Form as AdvanceForm, Refused as AdvanceRefused}
use Rattle.lisp_reading.specs.Plans.{Read}
use Rattle.form_reader.specs.Reader.{begun, fed, limits_of, BeginsAt, BeginsLater, HasBegunAfter, IsAfterBytes, IsAfterIn, IsDecidedFrom, MayGoOn, Steps, StepsBegun}
use Rattle.lisp_reading.specs.Reading.{form, empty, outcome, reads, reads_at}
use Rattle.lisp_reading.specs.Setting.{Setting}
use Rattle.lisp_reading.specs.Fitting.{IsFitting}
use Rattle.lisp_reading.proofs.Forms.{reads_is, stood, the_end_there}
use Rattle.plist_state.specs.Sound.{IsSoundWorldState}
use Rattle.plist_state.specs.State.{WorldState}
use Rattle.sessions.specs.declared.input.Pending.{Pending}
use Rattle.session_words.specs.declared.mode.Mode.{Mode}
use Rattle.prevalence_store.specs.meaning.Acceptance.{between, form_limits, read_in, setting_in}
use Rattle.user_macros.specs.Functions.{Functions}
use Rattle.sessions.specs.steps.Input.{HasForm, HasRefusal, IsLastForm, IsPending}
use Rattle.sessions.specs.steps.Answer.{BeginsWithForm}
use Rattle.prevalence_store.proofs.calls.Executing.{form_places, own_whole}
use Rattle.prevalence_store.proofs.steps.Fitting.{fits_in, is_form}

-- ---- no bytes

pub reads_none : (setting : Setting) → reads setting [] ≡ empty
unfolding reads
reads_none setting = reads_is setting 0 [] ∙ ap (outcome setting.table 0 (λ next cs. reads_at setting next cs)) (the_end_there setting)

-- nothing is pending, if the reader is new
pub none_pending : (functions : Functions) (w : WorldState) (mode : Mode) (pending : Pending) → limits_of pending.reader ≡ form_limits → IsAfterBytes (setting_in functions w mode) pending.reader []
    → fed pending.reader ≡ 0 → begun pending.reader ≡ 0 → pending.text.items ≡ [] → pending.dropped ≡ 0
    → HasBegunAfter (setting_in functions w mode) pending.reader [] → IsPending functions w mode pending []
none_pending functions w mode pending limits after count begins none zero has_begun = record {
  limits = limits;
  after = after;
  count = count;
  kept = none ∙ ap (λ n. drop n []) (sym zero);
  only = zero ∙ sym begins;
  more = subst (MayGoOn []) (sym (reads_none (setting_in functions w mode))) tt;
  has_begun = has_begun;
}

-- ---- a form

-- where the attempt that gives it began
form_from : (setting : Setting) (start : ℕ) (read : Read Found) (x : Object) (first stop next : ℕ)
    → outcome setting.table start (λ later cs. reads_at setting later cs) read ≡ form x first stop next → start ≤ first
form_from setting start (Ok (nothing token, at, cs)) x first stop next is =
    let s = stood setting (length cs + 1) (start + at) cs x first stop next is in let from = s.start_is in omega arith
form_from setting start (Ok (one token y, at, cs)) x first stop next is = let same : start ≡ first = cc in omega arith
form_from setting start (Ok (lone_dot, at, cs)) x first stop next is = absurd (cc)
form_from setting start (Ok (the_end, at, cs)) x first stop next is = absurd (cc)
form_from setting start (Err e) x first stop next is = absurd (cc)

-- a form at the end of the text began where what is open began, or later
pub form_begun : (setting : Setting) (reader : FormReader) (bytes : List ℕ) (x : Object) (start stop next : ℕ) → IsAfterBytes setting reader bytes
    → reads setting bytes ≡ form x start stop next → begun reader ≤ start
form_begun setting reader bytes x start stop next after is = by_state reader.state after where
  whole : reads setting (bytes ++ []) ≡ form x start stop next
  whole = ap (reads setting) (append-nil bytes) ∙ is

  by_state : (s : ReaderState) → IsAfterIn setting reader s bytes → begun reader ≤ start
  by_state (Open stage) a = form_from setting reader.start _ x start stop next (sym (a.1 []) ∙ whole)
  by_state (Refused code offset) a = let e = sym (a []) ∙ whole in absurd (cc)
  by_state OutOfMemory a = absurd a

-- a byte more of a piece
pub piece_more : (bytes piece : List ℕ) (k byte : ℕ) → take (k + 1) piece ≡ take k piece ++ byte ∷ [] → (bytes ++ take k piece) ++ byte ∷ [] ≡ bytes ++ take (k + 1) piece
piece_more bytes piece k byte taken = append_assoc bytes (take k piece) (byte ∷ []) ∙ ap (λ t. bytes ++ t) (sym taken)

-- one byte more is kept
pub kept_more : (text bytes : List ℕ) (byte dropped : ℕ) → dropped ≤ length bytes → text ≡ drop dropped bytes → text ++ byte ∷ [] ≡ drop dropped (bytes ++ byte ∷ [])
kept_more text bytes byte dropped within is = ap (λ t. t ++ byte ∷ []) is ∙ sym (drop-append-le dropped bytes (byte ∷ []) within)

module _ (functions : Functions) (w : WorldState) (mode : Mode) (old : Pending) (bytes : List ℕ) (pending : IsPending functions w mode old bytes) where
  -- what was dropped, of the bytes
  pub dropped_within : old.dropped ≤ length bytes
  dropped_within = let a = pending.only in let b = pending.count in omega arith

  pub kept_count : old.dropped + length old.text.items ≡ length bytes
  kept_count = let same : length old.text.items ≡ length bytes - old.dropped = ap length pending.kept ∙ length-drop old.dropped bytes in let within = dropped_within in omega arith

  -- the places of a form at the end of the input
  pub last_places : (x : Object) (start stop next : ℕ) → read_in functions w mode bytes ≡ form x start stop next
      → (old.dropped ≤ start) × (start ≤ stop) × (stop ≤ length bytes)
  last_places x start stop next is =
      let from = form_begun (setting_in functions w mode) old.reader bytes x start stop next pending.after is in
      let places = form_places functions w mode bytes x start stop next is in
      (let a = pending.only in omega arith, let a = places.0 in omega arith, let a = places.1 in let b = places.2 in omega arith)

  -- the form that it is
  pub last_form : (x : Object) (own : List ℕ) (start stop next : ℕ) → read_in functions w mode bytes ≡ form x start stop next → own ≡ between start stop bytes
      → (last : IsLastForm functions w mode bytes x own) × (last.start ≡ start) × (length bytes ≡ next)
  last_form x own start stop next is is_own =
      let ends : next ≡ length bytes = subst (MayGoOn bytes) is pending.more in
      (record { start = start; stop = stop; reads = is ∙ ap (form x start stop) ends; is_own = is_own }, refl, sym ends)

  -- the places of a form that a byte more decides
  pub record FedPlaces (byte start stop next : ℕ) : Type 0 where
    pub from : old.dropped ≤ start
    pub order : start < stop
    pub after : stop ≤ next
    pub within : next ≤ length bytes + 1
    pub close : length bytes ≤ next

  module _ (byte : ℕ) (new : FormReader) (step : Advance) (datum : Datum) (start stop next : ℕ) (is : step ≡ AdvanceForm datum start stop next)
      (steps : Steps (setting_in functions w mode) new (bytes ++ byte ∷ []) step) where
    form_told : Steps (setting_in functions w mode) new (bytes ++ byte ∷ []) (AdvanceForm datum start stop next)
    form_told = subst (λ (s : Advance). Steps (setting_in functions w mode) new (bytes ++ byte ∷ []) s) is steps

    pub fed_places : BeginsLater old.reader new step → FedPlaces byte start stop next
    fed_places later =
        let from : (begun old.reader ≤ start) × (begun new ≡ 0) = subst (λ (s : Advance). BeginsLater old.reader new s) is later in
        let places = form_places functions w mode ((bytes ++ byte ∷ []) ++ []) (object_of datum) start stop next (form_told.0 []) in
        let many : length (bytes ++ byte ∷ []) ≡ length bytes + 1 = length-append bytes (byte ∷ []) in
        record {
          from = let a = pending.only in let b = from.0 in omega arith;
          order = places.0;
          after = places.1;
          within = let a = form_told.2 in omega arith;
          close = let a = form_told.3 in omega arith;
        }

    by_left : (n count : ℕ) (b : Bool) → nat_lt (n - old.dropped) count ≡ b → FedPlaces byte start stop n → old.dropped + count ≡ length bytes + 1 → n + cond b 1 0 ≡ length bytes + 1
    by_left n count true is_left places all = let less : n - old.dropped < count = ltb-true (n - old.dropped) count is_left in let a = places.close in omega arith
    by_left n count false is_left places all = let more : count ≤ n - old.dropped = ltb-false (n - old.dropped) count is_left in let a = places.within in let c = places.from in omega arith

    pub has_form : (after : Pending) (own : List ℕ) (count : ℕ) → FedPlaces byte start stop next → after.reader ≡ new → after.text.items ≡ [] → after.dropped ≡ 0 → limits_of new ≡ form_limits
        → StepsBegun (setting_in functions w mode) new (bytes ++ byte ∷ []) step → old.dropped + count ≡ length bytes + 1 → own ≡ between start stop (bytes ++ byte ∷ [])
        → (has : HasForm functions w mode after (bytes ++ byte ∷ []) (object_of datum) own (nat_lt (next - old.dropped) count)) × (has.start ≡ start) × (has.next ≡ next)
    has_form after own count places reader none zero limits has_begun all is_own =
        let again : (later : Setting) → HasBegunAfter later new [] = subst (λ (s : Advance). StepsBegun (setting_in functions w mode) new (bytes ++ byte ∷ []) s) is has_begun in
        let many : length (bytes ++ byte ∷ []) ≡ length bytes + 1 = length-append bytes (byte ∷ []) in
        let fresh = form_told.4 in
        let fed_none : fed new ≡ 0 = let a = fresh.start in let b = fresh.at in omega arith in (
          record {
            start = start;
            stop = stop;
            next = next;
            reads = form_told.0;
            is_own = is_own;
            next_is = by_left next count (nat_lt (next - old.dropped) count) refl places all ∙ sym many;
            none = λ later in_mode. none_pending functions later in_mode after (ap limits_of reader ∙ limits)
                (subst (λ (r : FormReader). IsAfterBytes (setting_in functions later in_mode) r []) (sym reader) (form_told.5 (setting_in functions later in_mode)))
                (ap fed reader ∙ fed_none) (ap begun reader ∙ fresh.start) none zero
                (subst (λ (r : FormReader). HasBegunAfter (setting_in functions later in_mode) r []) (sym reader) (again (setting_in functions later in_mode)));
          },
          refl,
          refl,
        )

  -- a byte more that decides nothing
  pub more_pending : (byte : ℕ) (new : FormReader) (step : Advance) → step ≡ AdvanceMore → Steps (setting_in functions w mode) new (bytes ++ byte ∷ []) step
      → StepsBegun (setting_in functions w mode) new (bytes ++ byte ∷ []) step → limits_of new ≡ limits_of old.reader → (after : Pending) → after.reader ≡ new
      → after.text.items ≡ drop after.dropped (bytes ++ byte ∷ []) → after.dropped ≡ begun after.reader → IsPending functions w mode after (bytes ++ byte ∷ [])
  more_pending byte new step is steps has_begun limits after same kept only =
      let setting : Setting = setting_in functions w mode in
      let told : Steps setting new (bytes ++ byte ∷ []) AdvanceMore = subst (λ (s : Advance). Steps setting new (bytes ++ byte ∷ []) s) is steps in
      let there : HasBegunAfter setting new (bytes ++ byte ∷ []) = subst (λ (s : Advance). StepsBegun setting new (bytes ++ byte ∷ []) s) is has_begun in
      record {
        limits = ap limits_of same ∙ limits ∙ pending.limits;
        after = subst (λ (r : FormReader). IsAfterBytes setting r (bytes ++ byte ∷ [])) (sym same) told.0;
        count = ap fed same ∙ told.1;
        kept = kept;
        only = only;
        more = told.2;
        has_begun = subst (λ (r : FormReader). HasBegunAfter setting r (bytes ++ byte ∷ [])) (sym same) there;
      }

  -- a refusal that a byte more decides
  module _ (byte : ℕ) (new : FormReader) (step : Advance) (number at : ℕ) (is : step ≡ AdvanceRefused number at) (steps : Steps (setting_in functions w mode) new (bytes ++ byte ∷ []) step) where
    refusal_told : Steps (setting_in functions w mode) new (bytes ++ byte ∷ []) (AdvanceRefused number at)
    refusal_told = subst (λ (s : Advance). Steps (setting_in functions w mode) new (bytes ++ byte ∷ []) s) is steps

    pub has_refusal : (start : ℕ) → start ≡ begun new → StepsBegun (setting_in functions w mode) new (bytes ++ byte ∷ []) step
        → (refuses : HasRefusal functions w mode (bytes ++ byte ∷ []) number) × (refuses.at ≡ at) × BeginsAt (setting_in functions w mode) (bytes ++ byte ∷ []) start
        × IsDecidedFrom (setting_in functions w mode) (bytes ++ byte ∷ []) start
    has_refusal start same has_begun =
        let begins = subst (λ (s : Advance). StepsBegun (setting_in functions w mode) new (bytes ++ byte ∷ []) s) is has_begun in (
          record { at = at; reads = refusal_told.0 },
          refl,
          subst (BeginsAt (setting_in functions w mode) (bytes ++ byte ∷ [])) (sym same) begins.0,
          subst (IsDecidedFrom (setting_in functions w mode) (bytes ++ byte ∷ [])) (sym same) begins.1,
        )

    pub refused_within : at ≤ fed old.reader + 1
    refused_within =
        let inside = (refusal_stays (setting_in functions w mode) ((bytes ++ byte ∷ []) ++ []) number at (refusal_told.0 [])).0 in
        let none = ap length (append-nil (bytes ++ byte ∷ [])) in
        let many = length-append bytes (byte ∷ []) in
        let count = pending.count in
        omega arith

-- ---- the form that a text begins with

module _ (functions : Functions) (w : WorldState) (mode : Mode) (text : List ℕ) (x : Object) (own : List ℕ) (next : ℕ) (begins : BeginsWithForm functions w mode text x own next) where
  pub begins_whole : read_in functions w mode own ≡ form x 0 (length own) (length own)
  begins_whole = subst (λ t. read_in functions w mode t ≡ form x 0 (length t) (length t)) (sym begins.is_own)
      (own_whole functions w mode text x begins.start begins.stop next begins.reads)

  pub begins_fits : IsSoundWorldState w → IsFitting w.packages x
  begins_fits sound = fits_in functions w mode text x begins.start begins.stop next sound begins.reads

-- it may be evaluated there
pub may_evaluate : (functions : Functions) (w : WorldState) (mode : Mode) (read : ReadForm) (own : List ℕ) → is_proper read.datum ≡ true → object.IsSound (object_of read.datum)
    → (read.known ≡ true → are_there w.packages (object_of read.datum) ≡ true)
    → (text : List ℕ) × ((next : ℕ) × BeginsWithForm functions w mode text (object_of read.datum) own next) → IsSoundWorldState w → MayEvaluate w.packages read
may_evaluate functions w mode read own proper sound all_there b present = record {
  proper = proper;
  form = is_form w.packages (object_of read.datum) sound (begins_fits functions w mode b.0 (object_of read.datum) own b.1.0 b.1.1 present);
  all_there = all_there;
}
