-- Forms of a piece that are evaluated one after the other.
use Rattle.std.proofs.Common.{◌≡◌, ℕ, ◌+◌, ◌-◌, ◌<◌, ◌≤◌, Bool, true, false, cond, List, [], ◌++◌, length, take, drop, Some, Ok, Err, refl, sym, ap, subst, ◌∙◌, append-nil, length-append, length-drop, arith}
use Rattle.std.specs.List.{AllByRecursion}
use Rattle.std.proofs.lemmas.List.{drop-append-le, drop-drop}
use Rattle.gate_log.proofs.Sizes.{batch_more}
use Rattle.gate_log.specs.Layout.{IsLogRecord, LogRecord, batch_size}
use Rattle.lisp_object.specs.Object.{Object, IsSound}
use Rattle.lisp_object.specs.Datum.{object_of, is_proper}
use Rattle.form_eval.specs.declared.read_form.ReadForm.{ReadForm}
use Rattle.package_table.specs.Symbols.{are_there}
use Rattle.lisp_operators.specs.EvaluationAnswers.{done}
use Rattle.lisp_operators.specs.Evaluation.{Evaluation}
use Rattle.lisp_reading.specs.Reading.{form}
use Rattle.plist_state.specs.Sound as world
use Rattle.plist_state.specs.State.{WorldState}
use Rattle.prevalence_store.specs.declared.batch.Batch.{Batch}
use Rattle.session_words.specs.declared.mode.Mode.{Mode}
use Rattle.session_words.specs.declared.wanted.SessionOptions.{SessionOptions}
use Rattle.sessions.specs.declared.gather.GatheredForms.{GatheredForms}
use Rattle.sessions.specs.declared.gather.GroupLimit.{GroupLimit}
use Rattle.sessions.specs.declared.input.Pending.{Pending}
use Rattle.prevalence_store.specs.meaning.Acceptance.{acceptance_of, after, between, read_in, records_of, transaction_value}
use Rattle.sessions.specs.FormAnswers.{Progress, after_forms, first_progress, form_progress, one_form, progress_onward}
use Rattle.sessions.specs.steps.Answer.{BeginsWithForm}
use Rattle.form_eval.specs.Laws.{MayEvaluate}
use Rattle.prevalence_store.specs.steps.Batch.{entries_in, IsEmpty}
use Rattle.sessions.specs.steps.Input.{HasForm}
use Rattle.sessions.specs.steps.Gather.{BeginsWhole, HoldsNoForm, IsFormAdded, AreWithinLimit, AreFormsGathered, AddsNextForm}
use Rattle.prevalence_store.proofs.calls.Executing.{form_places, own_whole}
use Rattle.sessions.proofs.Progressing.{forms_onward}
use Rattle.sessions.proofs.Endings.{after_one_form}
use Rattle.prevalence_store.proofs.steps.Grouping.{IsReplayed, fit_both, of_value}
use Rattle.sessions.proofs.Pendings.{may_evaluate}
use Rattle.sessions.proofs.Pieces.{between_more, longer, longer_evaluated, whole_begins}
use Rattle.prevalence_store.proofs.Surviving.{after-append}
use Rattle.user_macros.specs.Functions.{Functions}
use Rattle.prevalence_store.proofs.steps.Taking.{none_in}

-- what comes of a form, by what is left after it
any_rest : (w : WorldState) (mode : Mode) (own rest : List ℕ) (given : Evaluation Object) → form_progress w mode own rest given ≡ record (form_progress w mode own [] given) { rest = rest }
any_rest w mode own rest (Ok done) = refl
any_rest w mode own rest (Err number) = refl

module _ (functions : Functions) (mode : Mode) (w : WorldState) (text : List ℕ) (x : Object) (own : List ℕ) (next : ℕ) (begins : BeginsWhole functions w mode text x own next) where
  reads_alone : read_in functions w mode text ≡ form x begins.start begins.stop next
  reads_alone = ap (read_in functions w mode) (sym (append-nil text)) ∙ begins.reads []

  begins_with : BeginsWithForm functions w mode text x own next
  begins_with = record { start = begins.start; stop = begins.stop; reads = reads_alone; is_own = begins.is_own }

  own_longer : (more : List ℕ) → between begins.start begins.stop (text ++ more) ≡ own
  own_longer more =
      let places = form_places functions w mode text x begins.start begins.stop next reads_alone in
      between_more begins.start begins.stop text more (omega (arith, places.0)) (omega (arith, places.1, begins.within)) ∙ sym begins.is_own

  -- one form of it was evaluated, whatever follows it
  pub one_stays : (given : Evaluation Object) → transaction_value functions.names w x ≡ given → (more : List ℕ)
      → after_forms functions 1 w mode (text ++ more) ≡ Some (longer (record (form_progress w mode own [] given) { rest = drop next text }) more)
  one_stays given valued more =
      after_one_form functions w mode (text ++ more) _ (ap (one_form functions w mode (text ++ more)) (begins.reads more))
      ∙ (λ i. Some (form_progress w mode (own_longer more i) (drop-append-le next text more begins.within i) (valued i)))
      ∙ ap (λ p. Some p) (longer_evaluated w mode own (drop next text) more given ∙ ap (λ p. longer p more) (any_rest w mode own (drop next text) given))

  -- its record makes the world that it left, and fits the log
  pub one_again : (given : Evaluation Object) → transaction_value functions.names w x ≡ given
      → (after functions w (form_progress w mode own [] given).taken ≡ Some (form_progress w mode own [] given).world) × AllByRecursion IsLogRecord (form_progress w mode own [] given).taken
  one_again given valued = by_given given (of_value functions mode w own x given valued whole) where
    whole : read_in functions w mode own ≡ form x 0 (length own) (length own)
    whole = subst (λ t. read_in functions w mode t ≡ form x 0 (length t) (length t)) (sym begins.is_own) (own_whole functions w mode text x begins.start begins.stop next reads_alone)

    by_given : (e : Evaluation Object) → IsReplayed functions mode w (acceptance_of own e)
        → (after functions w (form_progress w mode own [] e).taken ≡ Some (form_progress w mode own [] e).world) × AllByRecursion IsLogRecord (form_progress w mode own [] e).taken
    by_given (Ok done) is = (is.again, is.fit)
    by_given (Err number) is = (is.again, is.fit)

-- its datum may be evaluated
pub may_add : (functions : Functions) (mode : Mode) (w : WorldState) (text : List ℕ) (read : ReadForm) (own : List ℕ) (next : ℕ) → BeginsWhole functions w mode text (object_of read.datum) own next → world.IsSoundWorldState w
    → is_proper read.datum ≡ true → IsSound (object_of read.datum) → (read.known ≡ true → are_there w.packages (object_of read.datum) ≡ true) → MayEvaluate w.packages read
may_add functions mode w text read own next begins present proper sound all_there =
    may_evaluate functions w mode read own proper sound all_there (text, (next, begins_with functions mode w text (object_of read.datum) own next begins)) present

-- the bytes of a piece before the one that is left
but_left : (left : Bool) (n : ℕ) → 0 < n → n - cond left 1 0 + cond left 1 0 ≡ n
but_left true n some = omega (arith, some)
but_left false n some = omega arith

-- a form that the first bytes of a piece decide
pub piece_begins : (functions : Functions) (w : WorldState) (mode : Mode) (pending : Pending) (piece : List ℕ) (n : ℕ) (x : Object) (own : List ℕ) (left : Bool) → 0 < n → n ≤ length piece
    → (has : HasForm functions w mode pending (take n piece) x own left) (next : ℕ) → has.next ≡ next → BeginsWhole functions w mode piece x own next
piece_begins functions w mode pending piece n x own left some within has next is =
    (whole_begins functions w mode pending (take n piece) x own left has [] piece n (n - cond left 1 0) refl within (but_left left n some) next is).0

module _ (functions : Functions) (wanted : SessionOptions) (w : WorldState) (text : List ℕ) where
  -- before the first form
  pub none_gathered : (none : GatheredForms) → HoldsNoForm none → AreFormsGathered functions wanted w text w [] none
  none_gathered none is = record {
    far = first_progress w text;
    stays = λ more. ap (λ n. after_forms functions n w wanted.mode (text ++ more)) is.forms;
    rest = ap (λ n. drop n text) (sym is.bytes);
    within = omega (arith, is.bytes);
    left = refl;
    lines = is.lines;
    taken = refl;
    counted = is.records;
    accepted = λ strict. refl;
    record_bytes = is.record_bytes;
    again = refl;
    fit = tt;
  }

  -- one form more
  pub more_gathered : (u v : WorldState) (had has : Batch) (old new : GatheredForms) (piece : List ℕ) (count : ℕ) → AreFormsGathered functions wanted w text u (entries_in had) old → drop old.bytes text ≡ piece
      → AddsNextForm functions wanted piece u v had has old new count → AreFormsGathered functions wanted w text v (entries_in has) new
  more_gathered u v had has old new piece count is piece_is after_it =
      let p : Progress = is.far in
      let begins = after_it.begins in
      let added = after_it.added in
      let given = added.given in
      let one : Progress = form_progress u wanted.mode after_it.own [] given in
      let q : Progress = record one { rest = drop count piece } in
      let here : p.rest ≡ piece = is.rest ∙ piece_is in
      let again = one_again functions wanted.mode u piece after_it.object after_it.own count begins given added.valued in
      record {
        far = progress_onward p q;
        stays = λ more.
            forms_onward functions 1 old.forms new.forms w wanted.mode (text ++ more) (longer p more) (longer q more) (omega (arith, added.forms)) (is.stays more)
            (subst (λ (s : WorldState). after_forms functions 1 s wanted.mode (p.rest ++ more) ≡ Some (longer q more)) is.left
            (subst (λ t. after_forms functions 1 u wanted.mode (t ++ more) ≡ Some (longer q more)) (sym here)
            (one_stays functions wanted.mode u piece after_it.object after_it.own count begins given added.valued more)));
        rest = ap (drop count) (sym piece_is) ∙ drop-drop count old.bytes text ∙ ap (λ n. drop n text) (sym added.bytes_are);
        within = omega (arith, added.bytes_are, begins.within, is.within, ap length piece_is, length-drop old.bytes text);
        left = added.left;
        lines = added.lines ∙ ap (λ l. l ++ one.lines) is.lines;
        taken = added.taken ∙ ap (λ l. l ++ one.taken) is.taken;
        counted = added.counted;
        accepted = λ strict. ap (λ l. l ++ one.refused) (is.accepted strict) ∙ added.accepted strict;
        record_bytes = omega (arith, added.record_bytes, is.record_bytes, batch_more old.limit.version p.taken one.taken, ap (λ (l : GroupLimit). batch_size l.version (p.taken ++ one.taken)) added.limit);
        again = after-append functions w p.world p.taken one.taken is.again ∙ subst (λ (s : WorldState). after functions s one.taken ≡ Some one.world) is.left again.0;
        fit = fit_both p.taken one.taken is.fit again.1;
      }

  -- the first form
  pub first_gathered : (v : WorldState) (had has : Batch) (none new : GatheredForms) (x : Object) (own : List ℕ) (next : ℕ) → IsEmpty had → HoldsNoForm none
      → BeginsWhole functions w wanted.mode text x own next → IsFormAdded functions wanted x own next w v had has none new → AreFormsGathered functions wanted w text v (entries_in has) new
  first_gathered v had has none new x own next empty is begins added =
      more_gathered w v had has none new text next (subst (λ (es : List LogRecord). AreFormsGathered functions wanted w text w es none) (sym (none_in had empty)) (none_gathered none is)) (ap (λ n. drop n text) is.bytes)
      (record { object = x; own = own; begins = begins; added = added })

-- how many forms there are
pub counted_by : (next many : ℕ) (limit : GroupLimit) (gathered : GatheredForms) → gathered.limit ≡ limit → 0 < gathered.forms → gathered.forms ≤ gathered.bytes → next ≤ gathered.bytes → gathered.bytes ≤ next + many
    → gathered.records ≤ limit.forms → gathered.record_bytes ≤ limit.bytes → AreWithinLimit next many limit gathered
counted_by next many limit gathered same some forms first others records bytes =
    record { some = some; forms = forms; first = first; others = others; records = records; record_bytes = bytes; limit_is = same }

-- a form has one record at most
record_at_most : (wrote : Bool) (mode : Mode) (own : List ℕ) → length (records_of wrote mode own) ≤ 1
record_at_most true mode own = omega arith
record_at_most false mode own = omega arith

taken_at_most : (w : WorldState) (mode : Mode) (own : List ℕ) (given : Evaluation Object) → length (form_progress w mode own [] given).taken ≤ 1
taken_at_most w mode own (Ok done) = record_at_most done.wrote mode own
taken_at_most w mode own (Err number) = omega arith

module _ (functions : Functions) (wanted : SessionOptions) where
  -- a form adds one text at most
  pub text_at_most : (x : Object) (own : List ℕ) (bytes : ℕ) (w v : WorldState) (had has : Batch) (old new : GatheredForms) → IsFormAdded functions wanted x own bytes w v had has old new
      → length (entries_in has) ≤ length (entries_in had) + 1
  text_at_most x own bytes w v had has old new added =
      let taken : List LogRecord = (form_progress w wanted.mode own [] added.given).taken in
      omega (arith, ap length added.taken, length-append (entries_in had) taken, taken_at_most w wanted.mode own added.given)
