-- What versions 1 and 2 accepted, and what files meant to them, is accepted and meant as before.
--     form_stays      a form, of version 1
--     files_stay      files, of version 1
--     later_files_stay    files, of version 2
use Rattle.std.proofs.Common.{◌≡◌, ℕ, ◌==◌, Bool, true, false, List, [], ◌∷◌, length, Option, None, Some, Result, Ok, Err, refl, sym, ap, subst, ◌∙◌, inl, inr, arith}
use Rattle.std.specs.Prelude.{if◌then◌else◌}
use Rattle.disk_trait.specs.Disk.{Image}
use Rattle.gate_log.specs.Layout.{Contents, LogRecord, form_limit}
use Rattle.gate_log.specs.Log.{FilesMean}
use Rattle.lisp_object.specs.Object.{Object}
use Rattle.lisp_object.specs.declared.refusal.TheConstants.{TEXT_LEFT_OVER}
use Rattle.lisp_operators.specs.Evaluation.{Evaluation}
use Rattle.lisp_reading.specs.Reading.{ReadingResult as Reading, form, empty, refused}
use Rattle.lisp_reading.proofs.Widening.{form_widens}
use Rattle.evaluator.specs.Operators.{standard_operator_of}
use Rattle.form_eval.specs.Acceptance.{accept_over}
use Rattle.form_eval.proofs.Accepted.{accepted_as_before, accepted_without_base}
use Rattle.plist_state.specs.State.{WorldState}
use Rattle.world_text.specs.Snapshot.{snapshot_in}
use Rattle.world_text.proofs.Versions.{text_with, third_by}
use Rattle.session_words.specs.declared.mode.Mode.{Mode}
use Rattle.prevalence_store.specs.meaning.Acceptance.{Acceptance, accepted_reading, acceptance_of, accepts, after, between, mode_of, read_by, read_in, rules_in_force, setting_by, transaction_value}
use Rattle.prevalence_store.specs.meaning.Files.{ContentsMean, IsWorldOf, MeansWorld}
use Rattle.prevalence_store.specs.meaning.Version1.{ContentsMean1, IsWorldOf1, MeansWorld1, accepts1, after1, rules1}
use Rattle.prevalence_store.specs.meaning.Version2.{FilesMean2, MeansWorld2}
use Rattle.prevalence_store.proofs.meaning.Replaying.{stepped}
use Rattle.prevalence_store.proofs.meaning.Transactions.{no_operator, not_forgetting}
use Rattle.user_macros.specs.Functions.{Functions}

module _ (functions : Functions) where
  -- ---- a form

  module _ (w : WorldState) (base : w.read_base ≡ 10) where
    abbrev Stays : Result Acceptance ℕ → Acceptance → Type 0
    Stays now given = (now ≡ Ok given) × (given.world.read_base ≡ 10)

    evaluated_stays : (own : List ℕ) (x : Object) (given : Acceptance) (was : Evaluation Object) → accept_over false (standard_operator_of functions.names) w x ≡ was
        → acceptance_of own was ≡ Ok given → Stays (acceptance_of own (transaction_value functions.names w x)) given
    evaluated_stays own x given (Ok d) is gives =
        let same = accepted_without_base functions.names w x d (accepted_as_before false functions.names w x d is) in
        let world : d.state ≡ given.world = cc in
        let other = no_operator false (standard_operator_of functions.names) refl w x d is in
        (ap (acceptance_of own) (not_forgetting functions.names w x other ∙ same.0) ∙ gives, ap (λ (v : WorldState). v.read_base) (sym world) ∙ same.1 ∙ base)
    evaluated_stays own x given (Err number) is gives = absurd (cc)

    whole_stays : (text own : List ℕ) (x : Object) (given : Acceptance) (whole : Bool)
        → ◌≡◌ {A = Result Acceptance ℕ} (if whole then acceptance_of own (accept_over false (standard_operator_of functions.names) w x) else Err TEXT_LEFT_OVER) (Ok given)
        → Stays (if whole then acceptance_of own (transaction_value functions.names w x) else Err TEXT_LEFT_OVER) given
    whole_stays text own x given true gives = evaluated_stays own x given (accept_over false (standard_operator_of functions.names) w x) refl gives
    whole_stays text own x given false gives = absurd (cc)

    -- a form that was read is read the same, as the limit has grown
    wider : (mode : Mode) (text : List ℕ) (x : Object) (start «end» next : ℕ) → read_by rules1 functions w mode text ≡ form x start «end» next
        → read_in functions w mode text ≡ form x start «end» next
    wider mode text x start «end» next is = form_widens (setting_by rules1 functions w mode) text form_limit x start «end» next (omega arith) is

    read_stays : (mode : Mode) (text : List ℕ) (given : Acceptance) (was : Reading) → read_by rules1 functions w mode text ≡ was
        → accepted_reading rules1 functions w text was ≡ Ok given → Stays (accepts functions w mode text) given
    read_stays mode text given (form x start «end» next) is gives =
        subst (λ (r : Reading). Stays (accepted_reading rules_in_force functions w text r) given) (sym (wider mode text x start «end» next is))
        (whole_stays text (between start «end» text) x given (next == length text) gives)
    read_stays mode text given empty is gives = absurd (cc)
    read_stays mode text given (refused number at) is gives = absurd (cc)

    pub form_stays : (mode : Mode) (text : List ℕ) (given : Acceptance) → accepts1 functions w mode text ≡ Ok given → Stays (accepts functions w mode text) given
    form_stays mode text given is = read_stays mode text given (read_by rules1 functions w mode text) refl is

  -- ---- records

  records_stay : (w v : WorldState) (entries : List LogRecord) → w.read_base ≡ 10 → after1 functions w entries ≡ Some v → (after functions w entries ≡ Some v) × (v.read_base ≡ 10)
  records_stay w v [] base is = let same : w ≡ v = cc in (is, ap (λ (u : WorldState). u.read_base) (sym same) ∙ base)
  records_stay w v (entry ∷ entries) base is =
      by_first (λ u here made. records_stay u v entries here made) (accepts1 functions w (mode_of entry.kind) entry.text) refl is
    where
      by_first : ((u : WorldState) → u.read_base ≡ 10 → after1 functions u entries ≡ Some v → (after functions u entries ≡ Some v) × (v.read_base ≡ 10))
          → (given : Result Acceptance ℕ) → accepts1 functions w (mode_of entry.kind) entry.text ≡ given
          → elim given [ Ok a ↦ after1 functions a.world entries | Err n ↦ None ] ≡ Some v → (after functions w (entry ∷ entries) ≡ Some v) × (v.read_base ≡ 10)
      by_first later (Ok a) accepted rest =
          let one = form_stays w base (mode_of entry.kind) entry.text a accepted in
          let both = later a.world one.1 rest in
          (ap (stepped functions entries) one.0 ∙ both.0, both.1)
      by_first later (Err n) accepted rest = absurd (cc)

  -- ---- files

  -- a world that has a text in version 1 reads in base 10
  first_base : (first : WorldState) (text : List ℕ) → snapshot_in 1 first ≡ Some text → first.read_base ≡ 10
  first_base first text is =
      let parts = text_with 1 first text is in
      elim (third_by 1 first parts.0 parts.1) [ inl second ↦ absurd (omega (arith, second.0)) | inr one ↦ one.1 ]

  contents_stay : (k : Contents) (w : WorldState) → ContentsMean1 functions k w → ContentsMean functions k w × (w.read_base ≡ 10)
  contents_stay k w mean =
      let all = records_stay mean.first w k.entries (first_base mean.first k.snapshot mean.snapshot) mean.records in (
        record {
          first = mean.first;
          sound = mean.sound;
          covered = mean.covered;
          snapshot = ap (λ version. snapshot_in version mean.first) mean.version ∙ mean.snapshot;
          records = all.0;
        },
        all.1,
      )

  held_stays : (k : Option Contents) (w : WorldState) → IsWorldOf1 functions k w → IsWorldOf functions k w × (w.read_base ≡ 10)
  held_stays None w is = (is, ap (λ (v : WorldState). v.read_base) is)
  held_stays (Some k) w is = contents_stay k w is

  pub files_stay : (image : Image) (w : WorldState) → MeansWorld1 functions image w → MeansWorld functions image w × (w.read_base ≡ 10)
  files_stay image w means = let held = held_stays means.0 w means.2 in ((means.0, means.1, held.0), held.1)

  -- ---- files of version 2

  gated_stay : (k : Option Contents) (image : Image) → FilesMean2 k image → FilesMean k image
  gated_stay None image meant = meant
  gated_stay (Some k) image meant = (meant.0, record { used = inl meant.1.used; beside = meant.1.beside })

  pub later_files_stay : (image : Image) (w : WorldState) → MeansWorld2 functions image w → MeansWorld functions image w
  later_files_stay image w means = (means.0, gated_stay means.0 image means.1, means.2)
