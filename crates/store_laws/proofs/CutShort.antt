-- What a session wrote that was cut short is the front of the answers to its input.
use Rattle.std.proofs.Common.{◌≡◌, ◌⊎◌, ℕ, ◌+◌, ◌<◌, ◌≤◌, Bool, List, [], ◌++◌, Option, None, Some, inl, inr, refl, sym, ap, subst, ◌∙◌, arith, append-nil, append_assoc}
use Rattle.std.proofs.lemmas.Bool.{cases_eq}
use Rattle.disk_trait.specs.Disk.{State}
use Rattle.lisp_object.specs.declared.refusal.TheConstants.{OUTPUT}
use Rattle.plist_state.specs.State.{WorldState}
use Rattle.session_words.specs.declared.mode.Mode.{Mode}
use Rattle.sessions.specs.declared.ending.Ended.TheVariants.{Store}
use Rattle.sessions.specs.declared.ending.Ending.TheVariants as ending
use Rattle.session_words.specs.declared.wanted.SessionOptions.{SessionOptions}
use Rattle.prevalence_store.specs.meaning.Acceptance.{read_in}
use Rattle.sessions.specs.FormAnswers.{Progress, after_forms, last_line}
use Rattle.sessions.specs.Serve.{Ends, IsAfter, EndsAtFailedWrite, Serves, ServesWanted, StaysOrEnds, StaysRefused}
use Rattle.prevalence_store.specs.calls.Store.{StoreView}
use Rattle.store_laws.specs.Outcomes.{BreaksOff, HasForms, answers}
use Rattle.user_macros.specs.Functions.{Functions}
use Rattle.store_laws.proofs.InputForms.{IsFrontOf, answers_first, at_most, fewer_first}

module _ (functions : Functions) {D R : Type 0} (state : D → State) (old new : StoreView D R) (w : WorldState) where
  known : (far : Progress) → IsAfter functions state old new w far → (now : WorldState) → new.world ≡ Some now → now ≡ far.world
  known far after_it now is = let left = after_it.left in cc

  unknown : (far : Progress) → new.world ≡ None → (now : WorldState) → new.world ≡ Some now → now ≡ far.world
  unknown far none now is = absurd (cc)

  module _ (mode : Mode) (text : List ℕ) (held written : Option (List ℕ)) (group : Bool) (number : ℕ) (served : Serves functions state old new w mode text held written group (ending.Store number)) where
    abbrev bytes : List ℕ
    bytes = served.answered.lines ++ served.part

    -- what was written is the front of the lines of the forms that were taken; or the output failed in the line of a refusal of the
    -- reader after them
    abbrev IsWithin : Type 0
    IsWithin = (rest : List ℕ) × (served.far.lines ≡ bytes ++ rest)

    pub record IsInLast : Type 0 where
      pub output : number ≡ OUTPUT
      pub all : served.lines ≡ served.forms
      pub rest : List ℕ
      pub front : answers functions mode served.far ≡ bytes ++ rest

    -- and the store has the world after them, or none
    pub record IsCut : Type 0 where
      pub front : IsWithin ⊎ IsInLast
      pub left : (now : WorldState) → new.world ≡ Some now → now ≡ served.far.world

    whole_lines : served.part ≡ [] → IsWithin
    whole_lines no_part =
        let grown = fewer_first functions w mode text served.lines served.forms served.answered served.far served.at_most served.answered_is served.far_is in
        let whole : bytes ≡ served.answered.lines = ap (λ l. served.answered.lines ++ l) no_part ∙ append-nil served.answered.lines in
        (grown.lines, grown.lines_are ∙ ap (λ l. l ++ grown.lines) (sym whole))

    in_a_form : (next : Progress) → after_forms functions (served.lines + 1) w mode text ≡ Some next → served.lines < served.forms → (rest : List ℕ) → next.lines ≡ served.answered.lines ++ served.part ++ rest
        → IsWithin
    in_a_form next next_is fewer rest parts =
        let grown = fewer_first functions w mode text (served.lines + 1) served.forms next served.far (omega arith) next_is served.far_is in
        (rest ++ grown.lines, grown.lines_are ∙ ap (λ l. l ++ grown.lines) parts ∙ append_assoc bytes rest grown.lines)

    unwritten : EndsAtFailedWrite functions state old new w mode text held written served.forms served.far served.lines served.answered served.part number → IsWithin ⊎ IsInLast
    unwritten is = elim (cases_eq served.lines served.forms) [
      | inl same ↦ inr (record { output = is.output; all = same; rest = is.unwritten; front = is.front })
      | inr other ↦
          let fewer : served.lines < served.forms = omega (arith, served.at_most) in
          let form = is.in_form fewer in
          inl (in_a_form form.0 form.1 fewer form.2.0 form.2.2)
    ]

    cut : Ends functions state old new w mode text held written served.forms served.far served.lines served.answered served.part group (ending.Store number) → IsCut
    cut (inl is) = record { front = inl (whole_lines is.no_part); left = unknown served.far is.failed.unknown }
    cut (inr (inl is)) = record { front = inl (whole_lines is.no_part); left = unknown served.far is.failed.unknown }
    cut (inr (inr (inl is))) = record { front = inl (whole_lines is.no_part); left = known served.far is.after }
    cut (inr (inr (inr (inl is)))) = record { front = inl (whole_lines is.no_part); left = known served.far is.after }
    cut (inr (inr (inr (inr (inl is))))) = record { front = inl (whole_lines is.no_part); left = known served.far is.after }
    cut (inr (inr (inr (inr (inr (inl is)))))) = record { front = unwritten is; left = known served.far is.after }
    cut (inr (inr (inr (inr (inr (inr is)))))) = record { front = inl (whole_lines is.no_part); left = known served.far is.after }

    -- of an input that goes on after what was read, and of which the forms that were taken are the first ones
    pub cut_short : (left : List ℕ) → after_forms functions served.forms w mode (text ++ left) ≡ Some (record served.far { rest = served.far.rest ++ left })
        → (number ≡ OUTPUT → served.lines ≡ served.forms → (left ≡ []) ⊎ ((refusal : ℕ) × StaysRefused functions w mode text served.forms served.far refusal))
        → (forms : ℕ) (far : Progress) → HasForms functions w mode (text ++ left) forms far → BreaksOff functions state old new w mode (text ++ left) held written far forms
    cut_short left taken last forms far all = record {
      taken = served.forms;
      among = among;
      so_far = so_far;
      so_far_is = taken;
      bytes = bytes;
      unwritten = (front some.front).0;
      front = (front some.front).1;
      output = served.output;
      records_left = grown.records_;
      records_are = grown.records_are;
      left = some.left;
    } where
      some : IsCut
      some = cut served.ends

      so_far : Progress
      so_far = record served.far { rest = served.far.rest ++ left }

      among : served.forms ≤ forms
      among = at_most functions w mode (text ++ left) forms served.forms far so_far all taken

      grown : IsFrontOf functions w mode so_far far
      grown = fewer_first functions w mode (text ++ left) served.forms forms so_far far among taken all.far_is

      -- the reader refuses what is left in the same way
      same_last : (left ≡ []) ⊎ ((refusal : ℕ) × StaysRefused functions w mode text served.forms served.far refusal)
          → last_line (read_in functions served.far.world mode served.far.rest) ≡ last_line (read_in functions served.far.world mode (served.far.rest ++ left))
      same_last (inl none) = ap (λ l. last_line (read_in functions served.far.world mode l)) (sym (ap (λ l. served.far.rest ++ l) none ∙ append-nil served.far.rest))
      same_last (inr stays) =
          let here = (stays.1.1 []).1 in
          let there = (stays.1.1 left).1 in
          ap last_line (sym (ap (read_in functions served.far.world mode) (append-nil served.far.rest)) ∙ here ∙ sym there)

      front : IsWithin ⊎ IsInLast → (rest : List ℕ) × (answers functions mode far ≡ bytes ++ rest)
      front (inl (rest, is)) =
          let last_one = last_line (read_in functions far.world mode far.rest) in (
            (rest ++ grown.lines) ++ last_one,
            ap (λ l. l ++ last_one) (grown.lines_are ∙ ap (λ l. l ++ grown.lines) is ∙ append_assoc bytes rest grown.lines) ∙ append_assoc bytes (rest ++ grown.lines) last_one,
          )
      front (inr is) =
          let others = answers_first functions w mode (text ++ left) forms served.forms far so_far all taken in
          let same = ap (λ l. served.far.lines ++ l) (sym (same_last (last is.output is.all))) ∙ is.front in
          (is.rest ++ others.0, others.1 ∙ ap (λ l. l ++ others.0) same ∙ append_assoc bytes is.rest others.0)

  -- the forms of what was read are those of the input
  still_forms : (mode : Mode) (text left : List ℕ) (forms number : ℕ) (far : Progress) → after_forms functions forms w mode text ≡ Some far → StaysOrEnds functions w mode text forms far number left
      → after_forms functions forms w mode (text ++ left) ≡ Some (record far { rest = far.rest ++ left })
  still_forms mode text left forms number far far_is (inl stays) = stays left
  still_forms mode text left forms number far far_is (inr (none, other)) =
      subst (λ l. after_forms functions forms w mode (text ++ l) ≡ Some (record far { rest = far.rest ++ l })) (sym none)
      (ap (after_forms functions forms w mode) (append-nil text) ∙ far_is ∙ ap (λ l. Some (record far { rest = l })) (sym (append-nil far.rest)))

  pub front_of_all : (wanted : SessionOptions) (input : List ℕ) (has held written : Option (List ℕ)) (number forms : ℕ) (far : Progress) → HasForms functions w wanted.mode input forms far
      → ServesWanted functions state wanted old new w (Some input) has held written (Store number) → BreaksOff functions state old new w wanted.mode input held written far forms
  front_of_all wanted input has held written number forms far all wants =
      let over = wants.0 in
      let read = over.reads input refl in
      let served = over.serves in
      let far_is : after_forms functions served.forms w wanted.mode (over.text ++ read.0) ≡ Some (record served.far { rest = served.far.rest ++ read.0 }) =
      still_forms wanted.mode over.text read.0 served.forms number served.far served.far_is read.2.2 in
      subst (λ text. BreaksOff functions state old new w wanted.mode text held written far forms) (sym read.1)
      (cut_short wanted.mode over.text held written wanted.group number served read.0 far_is read.2.0 forms far
      (subst (λ text. HasForms functions w wanted.mode text forms far) read.1 all))
