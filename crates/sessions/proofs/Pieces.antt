-- A form that the bytes of a piece decide, or the end of the input.
use Rattle.std.proofs.Common.{◌≡◌, ◌⊎◌, ℕ, zero, suc, ◌+◌, ◌-◌, ◌<◌, ◌≤◌, Bool, true, cond, List, [], ◌++◌, length, take, drop, Option, Some, Ok, Err, inl, inr, refl, sym, ap, subst, ◌∙◌, append_assoc, append-nil, length-append, length-drop, arith}
use Rattle.std.proofs.lemmas.List.{take-append-drop, take-append-le, drop-append-le, drop_all, length-take-le}
use Rattle.std.proofs.Math.Seq.{drop-append-add}
use Rattle.disk_trait.specs.Disk.{State}
use Rattle.lisp_operators.specs.Evaluation.{Evaluation}
use Rattle.lisp_object.specs.Object.{Object}
use Rattle.plist_state.specs.State.{WorldState}
use Rattle.form_reader.specs.Reader.{fed}
use Rattle.lisp_reading.specs.Reading.{form}
use Rattle.sessions.specs.declared.input.Pending.{Pending}
use Rattle.session_words.specs.declared.mode.Mode.{Mode}
use Rattle.sessions.specs.declared.ending.Ending.TheVariants.{End}
use Rattle.prevalence_store.specs.meaning.Acceptance.{between, read_in, setting_in, transaction_value}
use Rattle.user_macros.specs.Functions.{Functions}
use Rattle.sessions.specs.FormAnswers.{Progress, after_forms, form_progress, one_form}
use Rattle.sessions.specs.steps.Gather.{BeginsWhole}
use Rattle.sessions.specs.steps.Input.{HasForm, IsLastForm, IsPending}
use Rattle.sessions.specs.Serve.{Advances}
use Rattle.prevalence_store.specs.calls.Store.{StoreView}
use Rattle.sessions.specs.steps.Serve.{SessionGoesOn, PassesBytes, ServesStrict}
use Rattle.session_words.specs.declared.wanted.SessionOptions.{SessionOptions}
use Rattle.sessions.specs.steps.Course.{Course}
use Rattle.sessions.specs.steps.Answer.{BeginsWithForm, PassesForm}
use Rattle.prevalence_store.proofs.calls.Executing.{form_places}
use Rattle.sessions.specs.Streams.{Writes}
use Rattle.sessions.proofs.Pendings.{reads_none}
use Rattle.sessions.proofs.Endings.{after_one_form}

-- with more text after what is left
abbrev pub longer : Progress → List ℕ → Progress
longer far more = record far { rest = far.rest ++ more }

-- the places of a form are the same in a text that goes on
pub between_more : (start stop : ℕ) (text more : List ℕ) → start ≤ stop → stop ≤ length text → between start stop (text ++ more) ≡ between start stop text
between_more start stop text more order within =
    let room : stop - start ≤ length (drop start text) = rw (length-drop start text) (omega arith) in
    ap (take (stop - start)) (drop-append-le start text more (omega arith)) ∙ take-append-le (stop - start) (drop start text) more room

pub longer_evaluated : (w : WorldState) (mode : Mode) (own rest more : List ℕ) (given : Evaluation Object) → form_progress w mode own (rest ++ more) given ≡ longer (form_progress w mode own rest given) more
longer_evaluated w mode own rest more (Ok done) = refl
longer_evaluated w mode own rest more (Err number) = refl

rest_evaluated : (w : WorldState) (mode : Mode) (own rest : List ℕ) (given : Evaluation Object) → (form_progress w mode own rest given).rest ≡ rest
rest_evaluated w mode own rest (Ok done) = refl
rest_evaluated w mode own rest (Err number) = refl

-- ---- a piece, and what of it was fed

-- forms that are the same whatever follows a text are so of each text that goes on
pub stays_longer : (functions : Functions) (n : ℕ) (w : WorldState) (mode : Mode) (text more : List ℕ) (far : Progress) → ((others : List ℕ) → after_forms functions n w mode (text ++ others) ≡ Some (longer far others))
    → (others : List ℕ) → after_forms functions n w mode ((text ++ more) ++ others) ≡ Some (longer (longer far more) others)
stays_longer functions n w mode text more far stays others =
    ap (after_forms functions n w mode) (append_assoc text more others) ∙ stays (more ++ others) ∙ ap (λ rest. Some (record far { rest = rest })) (sym (append_assoc far.rest more others))

-- what was fed of a piece, and what is left of it
pub piece_whole : (bytes piece : List ℕ) (n : ℕ) → (bytes ++ take n piece) ++ drop n piece ≡ bytes ++ piece
piece_whole bytes piece n = append_assoc bytes (take n piece) (drop n piece) ∙ ap (λ t. bytes ++ t) (take-append-drop n piece)

-- with more after it
pub piece_whole_more : (bytes piece more : List ℕ) (n : ℕ) → (bytes ++ take n piece) ++ (drop n piece ++ more) ≡ (bytes ++ piece) ++ more
piece_whole_more bytes piece more n = sym (append_assoc (bytes ++ take n piece) (drop n piece) more) ∙ ap (λ t. t ++ more) (piece_whole bytes piece n)

-- what is left of it after a form
pub piece_left : (bytes piece : List ℕ) (n next count : ℕ) → next ≡ length bytes + count → count ≤ n → n ≤ length piece → drop next (bytes ++ take n piece) ++ drop n piece ≡ drop count piece
piece_left bytes piece n next count is some within =
    let many : length (take n piece) ≡ n = length-take-le n piece within in
    ap (λ m. drop m (bytes ++ take n piece) ++ drop n piece) is
    ∙ ap (λ t. t ++ drop n piece) (drop-append-add bytes (take n piece) count)
    ∙ sym (drop-append-le count (take n piece) (drop n piece) (omega arith))
    ∙ ap (drop count) (take-append-drop n piece)

-- how much a session has still to take of a piece, for its measure: if something is pending, one turn more may take nothing
abbrev pub to_take : (before many : ℕ) → ℕ
to_take zero many = many + many
to_take (suc n) many = suc (many + many)

-- more of them were taken
pub moves_further : (before after many count more : ℕ) → PassesBytes before after many (Ok count) → count + more ≤ many → PassesBytes before after many (Ok (count + more))
moves_further before after many count more moves within = (within, omega (arith, moves.1), by_first moves.2) where
  by_first : (0 < count) ⊎ ((0 < before) × (after ≡ 0)) → (0 < count + more) ⊎ ((0 < before) × (after ≡ 0))
  by_first (inl some) = inl (omega (arith, some))
  by_first (inr first) = inr first

-- the own text of a form, as a slice of the same bytes
pub begins_as : (functions : Functions) (w : WorldState) (mode : Mode) (text : List ℕ) (x : Object) (own slice : List ℕ) (next : ℕ) (begins : BeginsWithForm functions w mode text x own next) → slice ≡ own → BeginsWithForm functions w mode text x slice next
begins_as functions w mode text x own slice next begins same = record { start = begins.start; stop = begins.stop; reads = begins.reads; is_own = same ∙ begins.is_own }

-- ---- a form that the bytes begin with, whatever follows them

module _ (functions : Functions) (w : WorldState) (mode : Mode) (pending : Pending) (text : List ℕ) (x : Object) (own : List ℕ) (left : Bool)
    (has : HasForm functions w mode pending text x own left) where
  next_within : has.next ≤ length text
  next_within = let is = has.next_is in omega arith

  reads_here : read_in functions w mode text ≡ form x has.start has.stop has.next
  reads_here = ap (read_in functions w mode) (sym (append-nil text)) ∙ has.reads []

  stop_within : (has.start < has.stop) × (has.stop ≤ has.next)
  stop_within = let places = form_places functions w mode text x has.start has.stop has.next reads_here in (places.0, places.1)

  abbrev given : Evaluation Object
  given = transaction_value functions.names w x

  own_again : (more : List ℕ) → between has.start has.stop (text ++ more) ≡ between has.start has.stop text
  own_again more = between_more has.start has.stop text more (let a = stop_within.0 in omega arith) (let a = stop_within.1 in let b = next_within in omega arith)

  pub form_begins : (slice more : List ℕ) → slice ≡ own → BeginsWithForm functions w mode (text ++ more) x slice has.next
  form_begins slice more same = record {
    start = has.start;
    stop = has.stop;
    reads = has.reads more;
    is_own = same ∙ has.is_own ∙ sym (own_again more);
  }

  pub form_begins_here : (slice : List ℕ) → slice ≡ own → BeginsWithForm functions w mode text x slice has.next
  form_begins_here slice same = record { start = has.start; stop = has.stop; reads = reads_here; is_own = same ∙ has.is_own }

  -- where they begin
  pub begins_start : (slice more : List ℕ) (same : slice ≡ own) → (form_begins slice more same).start ≡ has.start
  unfolding form_begins
  begins_start slice more same = refl

  pub begins_here_start : (slice : List ℕ) (same : slice ≡ own) → (form_begins_here slice same).start ≡ has.start
  unfolding form_begins_here
  begins_here_start slice same = refl

  one_form_of : (t : List ℕ) → read_in functions w mode t ≡ form x has.start has.stop has.next
      → after_forms functions 1 w mode t ≡ Some (form_progress w mode (between has.start has.stop t) (drop has.next t) given)
  one_form_of t reads = after_one_form functions w mode t _ (ap (one_form functions w mode t) reads)

  far_is_one : (far : Progress) → after_forms functions 1 w mode text ≡ Some far → far ≡ form_progress w mode (between has.start has.stop text) (drop has.next text) given
  far_is_one far is = let same = sym is ∙ one_form_of text reads_here in cc

  one_stays : (far : Progress) → after_forms functions 1 w mode text ≡ Some far → (more : List ℕ) → after_forms functions 1 w mode (text ++ more) ≡ Some (longer far more)
  one_stays far is more =
      one_form_of (text ++ more) (has.reads more)
      ∙ (λ i. Some (form_progress w mode (own_again more i) (drop-append-le has.next text more next_within i) given))
      ∙ ap (λ p. Some p) (longer_evaluated w mode (between has.start has.stop text) (drop has.next text) more given)
      ∙ ap (λ p. Some (longer p more)) (sym (far_is_one far is))

  -- nor does more after it make a difference
  pub text_stays : (more : List ℕ) (far : Progress) → after_forms functions 1 w mode (text ++ more) ≡ Some far → (others : List ℕ) → after_forms functions 1 w mode ((text ++ more) ++ others) ≡ Some (longer far others)
  text_stays more far is others =
      let base : Progress = form_progress w mode (between has.start has.stop text) (drop has.next text) given in
      let whole : after_forms functions 1 w mode text ≡ Some base = one_form_of text reads_here in
      let same : far ≡ longer base more = let here = one_stays base whole more in cc in
      ap (after_forms functions 1 w mode) (append_assoc text more others) ∙ one_stays base whole (more ++ others)
      ∙ ap (λ r. Some (record base { rest = r })) (sym (append_assoc base.rest more others)) ∙ ap (λ p. Some (longer p others)) (sym same)

  one_rest : (far : Progress) → after_forms functions 1 w mode text ≡ Some far → far.rest ≡ drop has.next text
  one_rest far is = ap (λ (p : Progress). p.rest) (far_is_one far is) ∙ rest_evaluated w mode (between has.start has.stop text) (drop has.next text) given

  -- if a piece decides it, and so many bytes of the piece are taken
  module _ (bytes piece : List ℕ) (n count : ℕ) (fed_is : text ≡ bytes ++ take n piece) (within : n ≤ length piece) (taken : count + cond left 1 0 ≡ n) where
    pub next_is : has.next ≡ length bytes + count
    next_is =
        let many : length text ≡ length bytes + n = ap length fed_is ∙ length-append bytes (take n piece) ∙ ap (λ m. length bytes + m) (length-take-le n piece within) in
        let all = has.next_is in
        omega arith

    -- a form that the piece begins with, whatever follows it
    pub whole_begins : (to : ℕ) → has.next ≡ to → BeginsWhole functions w mode (bytes ++ piece) x own to × (drop to (bytes ++ piece) ≡ drop count piece)
    whole_begins to to_is =
        let places = stop_within in
        let cut : (bytes ++ take n piece) ++ drop n piece ≡ bytes ++ piece = piece_whole bytes piece n in
        let next : to ≡ length bytes + count = sym to_is ∙ next_is in (
          record {
            start = has.start;
            stop = has.stop;
            reads = λ more.
                ap (read_in functions w mode) (ap (λ t. t ++ more) (sym cut) ∙ append_assoc (bytes ++ take n piece) (drop n piece) more ∙ ap (λ t. t ++ (drop n piece ++ more)) (sym fed_is))
                ∙ has.reads (drop n piece ++ more) ∙ ap (λ m. form x has.start has.stop m) to_is;
            is_own = has.is_own ∙ sym (own_again (drop n piece)) ∙ ap (λ t. between has.start has.stop (t ++ drop n piece)) fed_is ∙ ap (between has.start has.stop) cut;
            within = omega (arith, next, length-append bytes piece, taken, within);
          },
          ap (λ m. drop m (bytes ++ piece)) next ∙ drop-append-add bytes piece count,
        )

    pub form_takes : (old : Pending) → IsPending functions w mode old bytes → PassesBytes (fed old.reader) (fed pending.reader) (length piece) (Ok count)
    form_takes old before = (omega arith, rw none (omega arith), by_count count next_is) where
      none : fed pending.reader ≡ 0
      none = (has.none w mode).count

      by_count : (k : ℕ) → has.next ≡ length bytes + k → (0 < k) ⊎ ((0 < fed old.reader) × (fed pending.reader ≡ 0))
      by_count zero is = inr (let order = stop_within.0 in let after = stop_within.1 in let many = before.count in omega arith, none)
      by_count (suc k) is = inl (omega arith)

  module _ {D R : Type 0} (state : D → State) (wanted : SessionOptions) (same_mode : wanted.mode ≡ mode) (course later : Course) (old new : StoreView D R) (a b : Option (List ℕ)) where
    -- the form was answered, and what follows it is left
    pub after_form : (refusals : List ℕ) → PassesForm functions state course later old new w wanted text a b has.start has.next refusals → (wanted.strict ≡ true → refusals ≡ [])
        → SessionGoesOn functions state wanted.strict course later old new w mode text a b pending (drop has.next text)
    after_form refusals passes accepted =
        let far : Progress = passes.far in
        let far_is = subst (λ (m : Mode). after_forms functions 1 w m text ≡ Some far) same_mode passes.advances.far_is in
        let left = one_rest far far_is in
        let many : length far.rest ≡ length text - has.next = ap length left ∙ length-drop has.next text in
        let within = next_within in record {
          forms = 1;
          far = far;
          advances = subst (λ (m : Mode). Advances functions state old new w m text a b 1 far) same_mode passes.advances;
          paced = passes.paced;
          comes = record { forms_are = let is = passes.forms in omega arith; bytes_are = let is = passes.bytes in omega arith };
          accepted = λ strict. passes.refused_are ∙ accepted strict;
          stays = one_stays far far_is;
          bytes = [];
          rest = left;
          is_pending = has.none far.world mode;
        }

-- ---- the form that ends the input

module _ (functions : Functions) (w : WorldState) (mode : Mode) (text : List ℕ) (x : Object) (own : List ℕ) (last : IsLastForm functions w mode text x own) where
  pub last_begins : (slice : List ℕ) → slice ≡ own → BeginsWithForm functions w mode text x slice (length text)
  last_begins slice same = record { start = last.start; stop = last.stop; reads = last.reads; is_own = same ∙ last.is_own }

  pub last_start : (slice : List ℕ) (same : slice ≡ own) → (last_begins slice same).start ≡ last.start
  unfolding last_begins
  last_start slice same = refl

  last_rest : (far : Progress) → after_forms functions 1 w mode text ≡ Some far → far.rest ≡ []
  last_rest far is =
      let given = transaction_value functions.names w x in
      let one = after_one_form functions w mode text _ (ap (one_form functions w mode text) last.reads) in
      let same : far ≡ form_progress w mode (between last.start last.stop text) (drop (length text) text) given = let both = sym is ∙ one in cc in
      ap (λ (p : Progress). p.rest) same ∙ rest_evaluated w mode (between last.start last.stop text) (drop (length text) text) given ∙ drop_all (length text) text (omega arith)

  -- it was answered, and nothing is left
  pub ended_form : {D R : Type 0} (state : D → State) (wanted : SessionOptions) → wanted.mode ≡ mode → (course later : Course) (old new : StoreView D R) (a b : Option (List ℕ)) (start next : ℕ) (refusals : List ℕ)
      → PassesForm functions state course later old new w wanted text a b start next refusals → (wanted.strict ≡ true → refusals ≡ []) → ServesStrict functions state wanted course old new w mode text a b End
  ended_form state wanted same_mode course later old new a b start next refusals passes accepted =
      let far : Progress = passes.far in
      let advances = subst (λ (m : Mode). Advances functions state old new w m text a b 1 far) same_mode passes.advances in (
        record {
          forms = 1;
          far = far;
          far_is = advances.far_is;
          lines = 1;
          answered = far;
          answered_is = advances.far_is;
          at_most = omega arith;
          in_turn = λ none. omega arith;
          part = [];
          output = subst (Writes a b) (sym (append-nil far.lines)) advances.lines;
          survives = advances.survives;
          ends = record {
            all = refl;
            no_part = refl;
            nothing_left = ap (read_in functions far.world mode) (last_rest far advances.far_is) ∙ reads_none (setting_in functions far.world mode);
            after = advances.after;
          };
        },
        (later.pace, passes.paced),
        λ strict. (passes.refused_are ∙ accepted strict, λ more. absurd (omega (arith, more))),
      )
