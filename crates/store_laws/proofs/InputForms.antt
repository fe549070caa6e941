-- How many forms an input has, which is the first that is refused, and that what comes of the first of them comes first.
use Rattle.std.proofs.Common.{◌≡◌, ℕ, zero, suc, ◌+◌, ◌<◌, ◌≤◌, List, [], ◌∷◌, ◌++◌, length, drop, Option, None, Some, Ok, Err, inl, inr, refl, sym, ap, subst, ◌∙◌, arith, append-nil, append_assoc, length-drop}
use Rattle.std.specs.Option.{option_and_then, option_map}
use Rattle.std.proofs.lemmas.Bool.{cases_eq, cases_lt}
use Rattle.gate_log.specs.Layout.{LogRecord}
use Rattle.lisp_reading.specs.Reading.{ReadingResult as Reading, form, empty, refused}
use Rattle.lisp_object.specs.Object.{Object}
use Rattle.lisp_operators.specs.Evaluation.{Evaluation}
use Rattle.plist_state.specs.State.{WorldState}
use Rattle.session_words.specs.declared.mode.Mode.{Mode}
use Rattle.prevalence_store.specs.meaning.Acceptance.{between, read_in, transaction_value}
use Rattle.sessions.specs.FormAnswers.{Progress, after_forms, first_progress, form_progress, last_line, one_form, one_form_more, progress_onward}
use Rattle.sessions.specs.Serve.{IsFormUnaccepted}
use Rattle.store_laws.specs.Outcomes.{EndsAtRefusal, HasForms, answers}
use Rattle.user_macros.specs.Functions.{Functions}

module _ (functions : Functions) (world : WorldState) (mode : Mode) where
  abbrev after : ℕ → List ℕ → Option Progress
  after n text = after_forms functions n world mode text

  -- what the text that is left begins with
  abbrev at_rest : Progress → Reading
  at_rest far = read_in functions far.world mode far.rest

  -- ---- how many forms an input has

  none_after : (text : List ℕ) (n m : ℕ) → n ≤ m → after n text ≡ None → after m text ≡ None
  none_after text n zero le none = let same : n ≡ 0 = omega arith in subst (λ k. after k text ≡ None) same none
  none_after text n (suc m) le none = elim (cases_eq n (suc m)) [
    | inl same ↦ subst (λ k. after k text ≡ None) same none
    | inr other ↦ ap (option_and_then (one_form_more functions mode)) (none_after text n m (omega arith) none)
  ]

  none_more : (text : List ℕ) (n : ℕ) (far : Progress) → HasForms functions world mode text n far → after (suc n) text ≡ None
  none_more text n far all = ap (option_and_then (one_form_more functions mode)) all.far_is ∙ ap (option_map (progress_onward far)) all.no_more

  -- there are no more than it has
  pub at_most : (text : List ℕ) (n m : ℕ) (far p : Progress) → HasForms functions world mode text n far → after m text ≡ Some p → m ≤ n
  at_most text n m far p all is = elim (cases_lt n m) [
    | inl over ↦ let none = none_after text (suc n) m (omega arith) (none_more text n far all) in absurd (cc)
    | inr within ↦ within
  ]

  pub one_count : (text : List ℕ) (n m : ℕ) (far other : Progress) → HasForms functions world mode text n far → HasForms functions world mode text m other → (n ≡ m) × (far ≡ other)
  one_count text n m far other all others =
      let one = at_most text n m far other all others.far_is in
      let two = at_most text m n other far others all.far_is in
      let same : n ≡ m = omega arith in
      let here : after m text ≡ Some far = subst (λ k. after k text ≡ Some far) same all.far_is in
      let there = others.far_is in
      (same, cc)

  -- each form takes one byte or more of what is left
  abbrev pub TakesBytes : Type 0
  TakesBytes = (left : WorldState) (text : List ℕ) (object : Object) (start stop next : ℕ) → read_in functions left mode text ≡ form object start stop next → (0 < next) × (next ≤ length text)

  rest_after : (left : WorldState) (own rest : List ℕ) (given : Evaluation Object) → (form_progress left mode own rest given).rest ≡ rest
  rest_after left own rest (Ok done) = refl
  rest_after left own rest (Err number) = refl

  abbrev Counted : List ℕ → Type 0
  Counted text = (forms : ℕ) × (all : Progress) × HasForms functions world mode text forms all

  -- there are no more forms, or one after which less is left
  one_more : TakesBytes → (text : List ℕ) (n : ℕ) (far : Progress) → after n text ≡ Some far → (r : Reading) → at_rest far ≡ r
      → ((next : Progress) → after (suc n) text ≡ Some next → length next.rest < length far.rest → Counted text) → Counted text
  one_more takes text n far far_is (form object start stop next) read goes_on =
      let some = takes far.world far.rest object start stop next read in
      let given : Evaluation Object = transaction_value functions.names far.world object in
      let left = drop next far.rest in
      let one : Progress = form_progress far.world mode (between start stop far.rest) left given in
      let there : after (suc n) text ≡ Some (progress_onward far one) =
      ap (option_and_then (one_form_more functions mode)) far_is ∙ ap (λ r. option_map (progress_onward far) (one_form functions far.world mode far.rest r)) read in
      let fewer : length left < length far.rest = omega (arith, some.0, some.1, length-drop next far.rest) in
      goes_on (progress_onward far one) there (subst (λ (l : List ℕ). length l < length far.rest) (sym (rest_after far.world (between start stop far.rest) left given)) fewer)
  one_more takes text n far far_is empty read goes_on = (n, far, record { far_is = far_is; no_more = ap (one_form functions far.world mode far.rest) read })
  one_more takes text n far far_is (refused number at) read goes_on = (n, far, record { far_is = far_is; no_more = ap (one_form functions far.world mode far.rest) read })

  counted : TakesBytes → (text : List ℕ) (most n : ℕ) (far : Progress) → after n text ≡ Some far → length far.rest ≤ most → Counted text
  counted takes text zero n far far_is le = one_more takes text n far far_is (at_rest far) refl (λ next next_is less. absurd (omega (arith, le, less)))
  counted takes text (suc most) n far far_is le =
      one_more takes text n far far_is (at_rest far) refl (λ next next_is less. counted takes text most (suc n) next next_is (omega (arith, le, less)))

  -- so an input has a number of them
  pub some_count : TakesBytes → (text : List ℕ) → (forms : ℕ) × (all : Progress) × HasForms functions world mode text forms all
  some_count takes text = counted takes text (length text) 0 (first_progress world text) refl (omega arith)

  -- ---- what comes of more forms begins with what came of fewer

  -- what came of the first forms is the front of what came of all
  pub record IsFrontOf (p q : Progress) : Type 0 where
    pub lines : List ℕ
    pub lines_are : q.lines ≡ p.lines ++ lines
    pub records_ : List LogRecord
    pub records_are : q.taken ≡ p.taken ++ records_
    pub refusals : List ℕ
    pub refusals_are : q.refused ≡ p.refused ++ refusals

  front_same : (p q : Progress) → p ≡ q → IsFrontOf p q
  front_same p q same = subst (IsFrontOf p) same (record {
    lines = [];
    lines_are = sym (append-nil p.lines);
    records_ = [];
    records_are = sym (append-nil p.taken);
    refusals = [];
    refusals_are = sym (append-nil p.refused);
  })

  one_form_made : (p q : Progress) (made : Option Progress) → option_map (progress_onward p) made ≡ Some q → IsFrontOf p q
  one_form_made p q (Some r) is =
      let same : progress_onward p r ≡ q = cc in
      subst (IsFrontOf p) same (record { lines = r.lines; lines_are = refl; records_ = r.taken; records_are = refl; refusals = r.refused; refusals_are = refl })
  one_form_made p q None is = absurd (cc)

  front_both : (p q r : Progress) → IsFrontOf p q → IsFrontOf q r → IsFrontOf p r
  front_both p q r first second = record {
    lines = first.lines ++ second.lines;
    lines_are = second.lines_are ∙ ap (λ l. l ++ second.lines) first.lines_are ∙ append_assoc p.lines first.lines second.lines;
    records_ = first.records_ ++ second.records_;
    records_are = second.records_are ∙ ap (λ l. l ++ second.records_) first.records_are ∙ append_assoc p.taken first.records_ second.records_;
    refusals = first.refusals ++ second.refusals;
    refusals_are = second.refusals_are ∙ ap (λ l. l ++ second.refusals) first.refusals_are ∙ append_assoc p.refused first.refusals second.refusals;
  }

  by_last : (p q : Progress) (before : Option Progress) → ((r : Progress) → before ≡ Some r → IsFrontOf p r) → option_and_then (one_form_more functions mode) before ≡ Some q → IsFrontOf p q
  by_last p q (Some r) earlier made = front_both p r q (earlier r refl) (one_form_made r q _ made)
  by_last p q None earlier made = absurd (cc)

  pub fewer_first : (text : List ℕ) (n m : ℕ) (p q : Progress) → n ≤ m → after n text ≡ Some p → after m text ≡ Some q → IsFrontOf p q
  fewer_first text n zero p q le few many = let none : n ≡ 0 = omega arith in let here : after 0 text ≡ Some p = subst (λ k. after k text ≡ Some p) none few in front_same p q (cc)
  fewer_first text n (suc m) p q le few many = elim (cases_eq n (suc m)) [
    | inl same ↦ let here : after (suc m) text ≡ Some p = subst (λ k. after k text ≡ Some p) same few in front_same p q (cc)
    | inr other ↦ by_last p q (after m text) (λ r is. fewer_first text n m p r (omega arith) few is) many
  ]

  -- ---- the first form that is refused

  none_of : (xs ys : List ℕ) → xs ++ ys ≡ [] → xs ≡ []
  none_of [] ys is = refl
  none_of (x ∷ xs) ys is = absurd (cc)

  -- no form before the first that is refused is
  not_before : (text : List ℕ) (n m : ℕ) (far other : Progress) → EndsAtRefusal functions world mode text n far → EndsAtRefusal functions world mode text m other → m ≤ n
  not_before text n m far other one two = elim (cases_lt n m) [
    | inl fewer ↦
        let grown = fewer_first text n two.accepted far two.before (omega (arith, fewer, two.one_more)) one.far_is two.before_is in
        absurd (one.refused (none_of far.refused grown.refusals (sym grown.refusals_are ∙ two.none_refused)))
    | inr within ↦ within
  ]

  pub one_refusal : (text : List ℕ) (n m : ℕ) (far other : Progress) → EndsAtRefusal functions world mode text n far → EndsAtRefusal functions world mode text m other → (n ≡ m) × (far ≡ other)
  one_refusal text n m far other one two =
      let first = not_before text n m far other one two in
      let second = not_before text m n other far two one in
      let same : n ≡ m = omega arith in
      let here : after m text ≡ Some far = subst (λ k. after k text ≡ Some far) same one.far_is in
      let there = two.far_is in
      (same, cc)

  -- the last of some forms is refused
  pub refused_last : (text : List ℕ) (n m : ℕ) (far before : Progress) (number start : ℕ) → n ≡ m + 1 → after n text ≡ Some far → after m text ≡ Some before
      → IsFormUnaccepted functions before.world mode before.rest number start → far.refused ≡ before.refused ++ number ∷ []
  refused_last text n m far before number start one_more far_is before_is refuses =
      let one : Progress = form_progress before.world mode (between start refuses.stop before.rest) (drop refuses.next before.rest) (Err number) in
      let reads : one_form functions before.world mode before.rest (read_in functions before.world mode before.rest) ≡ Some one =
      ap (one_form functions before.world mode before.rest) refuses.reads
      ∙ (λ i. Some (form_progress before.world mode (between start refuses.stop before.rest) (drop refuses.next before.rest) (refuses.refused i))) in
      let there : after (suc m) text ≡ Some (progress_onward before one) = ap (option_and_then (one_form_more functions mode)) before_is ∙ ap (option_map (progress_onward before)) reads in
      let same : suc m ≡ n = omega (arith, one_more) in
      let both : ◌≡◌ {A = Option Progress} (Some far) (Some (progress_onward before one)) = sym far_is ∙ sym (ap (λ k. after k text) same) ∙ there in
      ap (λ (o : Option Progress). elim o [ None ↦ [] | Some p ↦ p.refused ]) both

  -- the answers to fewer forms, and to what the reader refuses after them
  pub answers_first : (text : List ℕ) (n m : ℕ) (far p : Progress) → HasForms functions world mode text n far → after m text ≡ Some p
      → (rest : List ℕ) × (answers functions mode far ≡ answers functions mode p ++ rest)
  answers_first text n m far p all is = by_reading (at_rest p) refl where
    ends_there : one_form functions p.world mode p.rest (at_rest p) ≡ None → (rest : List ℕ) × (answers functions mode far ≡ answers functions mode p ++ rest)
    ends_there none =
        let same = one_count text n m far p all (record { far_is = is; no_more = none }) in
        ([], ap (answers functions mode) same.1 ∙ sym (append-nil (answers functions mode p)))

    by_reading : (r : Reading) → at_rest p ≡ r → (rest : List ℕ) × (answers functions mode far ≡ answers functions mode p ++ rest)
    by_reading (form object start stop next) read =
        let grown = fewer_first text m n p far (at_most text n m far p all is) is all.far_is in
        let none : answers functions mode p ≡ p.lines = ap (λ r. p.lines ++ last_line r) read ∙ append-nil p.lines in (
          grown.lines ++ last_line (at_rest far),
          ap (λ l. l ++ last_line (at_rest far)) grown.lines_are ∙ append_assoc p.lines grown.lines (last_line (at_rest far))
              ∙ ap (λ l. l ++ (grown.lines ++ last_line (at_rest far))) (sym none),
        )
    by_reading empty read = ends_there (ap (one_form functions p.world mode p.rest) read)
    by_reading (refused number at) read = ends_there (ap (one_form functions p.world mode p.rest) read)
