-- A session over the text of an export ends with its world.
--     session_ends
use Rattle.std.proofs.Common.{◌≡◌, ℕ, zero, suc, ◌≤◌, List, [], ◌∷◌, ◌++◌, Option, Some, None, inl, inr, refl, sym, ap, subst, ◌∙◌, arith}
use Rattle.std.specs.Option.{option_and_then, option_map}
use Rattle.std.proofs.lemmas.Bool.{cases_eq, cases_lt}
use Rattle.disk_trait.specs.Disk.{State}
use Rattle.lisp_reading.specs.Reading.{empty}
use Rattle.plist_state.specs.State.{WorldState, initial}
use Rattle.user_macros.specs.Functions.{Functions}
use Rattle.sessions.specs.Serve.{ServesWanted}
use Rattle.prevalence_store.specs.calls.Store.{StoreView}
use Rattle.session_words.specs.declared.mode.Mode.{Mode}
use Rattle.session_words.specs.declared.mode.Mode.TheVariants.{Current}
use Rattle.sessions.specs.declared.ending.Ended.{Ended}
use Rattle.sessions.specs.declared.ending.Ended.TheVariants.{End, Unreadable, Unaccepted, Store}
use Rattle.session_words.specs.declared.wanted.SessionOptions.{SessionOptions}
use Rattle.prevalence_store.specs.meaning.Acceptance.{read_in}
use Rattle.sessions.specs.FormAnswers.{Progress, after_forms, one_form, one_form_more, progress_onward}
use Rattle.store_laws.specs.Outcomes.{EndsAtRefusal, HasForms, IsEndBy}
use Rattle.store_laws.proofs.Outcomes.{completed, fewer_first, one_count, stopped}
use Rattle.session_words.specs.declared.content.Content.TheVariants.{World}
use Rattle.world_forms.specs.Forms.{forms, last_newline}
use Rattle.export_laws.specs.ExportedTexts.{Makes}
use Rattle.whole_export.specs.ExportSession.{EndsWith}

-- ---- no form is refused, where none of all is

module _ (functions : Functions) (world : WorldState) (mode : Mode) (text : List ℕ) where
  abbrev after : ℕ → Option Progress
  after n = after_forms functions n world mode text

  none_after : (n m : ℕ) → n ≤ m → after n ≡ None → after m ≡ None
  none_after n zero le none = let same : n ≡ 0 = omega arith in subst (λ k. after k ≡ None) same none
  none_after n (suc m) le none = elim (cases_eq n (suc m)) [
    | inl same ↦ subst (λ k. after k ≡ None) same none
    | inr other ↦ ap (option_and_then (one_form_more functions mode)) (none_after n m (omega arith) none)
  ]

  at_most : (n m : ℕ) (far p : Progress) → HasForms functions world mode text n far → after m ≡ Some p → m ≤ n
  at_most n m far p all is = elim (cases_lt n m) [
    | inl over ↦
        let none = none_after (suc n) m (omega arith) (ap (option_and_then (one_form_more functions mode)) all.far_is ∙ ap (option_map (progress_onward far)) all.no_more) in
        absurd (cc)
    | inr within ↦ within
  ]

  none_of : (xs ys : List ℕ) → xs ++ ys ≡ [] → xs ≡ []
  none_of [] ys is = refl
  none_of (x ∷ xs) ys is = absurd cc

  pub none_refused : (n m : ℕ) (far p : Progress) → HasForms functions world mode text n far → far.refused ≡ [] → EndsAtRefusal functions world mode text m p → ⊥
  none_refused n m far p all none ends =
      let front = fewer_first functions world mode text m n p far (at_most n m far p all ends.far_is) ends.far_is all.far_is in
      ends.refused (none_of p.refused front.refusals (sym front.refusals_are ∙ none))

-- ---- a session over the forms of s, which make w

module _ (functions : Functions) (s w : WorldState) (made : Makes functions initial (forms s World) w (last_newline s World)) (reads : read_in functions w Current (last_newline s World) ≡ empty) where
  at_end : read_in functions made.progress.world Current made.progress.rest ≡ empty
  at_end = (λ i. read_in functions (made.world i) Current (made.left i)) ∙ reads

  has_forms : HasForms functions initial Current (forms s World) made.count made.progress
  has_forms = record { far_is = made.given; no_more = ap (one_form functions made.progress.world Current made.progress.rest) at_end }

  module _ {D R : Type 0} (state : D → State) (wanted : SessionOptions) (mode : wanted.mode ≡ Current) (old new : StoreView D R) (has held written : Option (List ℕ)) where
    abbrev text : List ℕ
    text = forms s World

    abbrev Served : Ended → Type 0
    Served ended = ServesWanted functions state wanted old new initial (Some text) has held written ended

    -- what came of a session that came to the end of its input
    the_same : (n : ℕ) (far : Progress) → HasForms functions initial wanted.mode text n far → far ≡ made.progress
    the_same n far all = (one_count functions initial Current text n made.count far made.progress (subst (λ m. HasForms functions initial m text n far) mode all) has_forms).1

    pub session_ends : (ended : Ended) → Served ended → EndsWith new.world w ended
    session_ends End served =
        let c = completed functions state old new initial wanted text has held written End served tt in
        c.2.after.left ∙ ap (λ (p : Progress). Some p.world) (the_same c.0 c.1 c.2.all) ∙ ap (λ v. Some v) made.world
    session_ends (Unreadable number place) served =
        let c = completed functions state old new initial wanted text has held written (Unreadable number place) served tt in
        let far = c.1 in
        let same = the_same c.0 far c.2.all in
        let read : read_in functions far.world wanted.mode far.rest ≡ empty = (λ i. read_in functions (same i).world (mode i) (same i).rest) ∙ at_end in
        let ended : Unreadable number place ≡ End = subst (λ r. IsEndBy r (Unreadable number place)) read c.2.ends in
        absurd cc
    session_ends (Unaccepted number place) served =
        let c = stopped functions state old new initial wanted text has held written number place served in
        none_refused functions initial Current text made.count c.0 made.progress c.1 has_forms made.refused
        (subst (λ m. EndsAtRefusal functions initial m text c.0 c.1) mode c.2.first)
    session_ends (Store number) served = tt
