-- A text of forms is read the same after a newline.
--     without_newline      what it makes, where a form was read
use Rattle.std.proofs.Common.{◌≡◌, ℕ, zero, suc, ◌+◌, ◌-◌, ◌<◌, List, [], ◌∷◌, length, drop, take, Option, Some, None, Ok, Err, refl, sym, ap, ◌∙◌, arith}
use Rattle.std.specs.Option.{option_and_then, option_map}
use Rattle.lisp_object.specs.declared.refusal.TheConstants.{DOT_CONTEXT}
use Rattle.readtable_core.specs.Tables.{standard}
use Rattle.package_table.specs.Table.{common_lisp_user}
use Rattle.plist_state.specs.State.{WorldState}
use Rattle.user_macros.specs.Functions.{Functions}
use Rattle.lisp_reading.specs.declared.attempt.Found.{Found}
use Rattle.lisp_reading.specs.declared.attempt.Found.TheVariants.{Nothing as nothing, One as one, LoneDot as lone_dot, TheEnd as the_end}
use Rattle.lisp_reading.specs.Plans.{Read, run}
use Rattle.lisp_reading.specs.Setting.{Setting, setting_of}
use Rattle.lisp_reading.specs.Reading.{ReadingResult, attempt, empty, form, outcome, reads, reads_at, reads_in, refused, space_at}
use Rattle.lisp_reading.proofs.Forms.{reads_is}
use Rattle.session_words.specs.declared.mode.Mode.TheVariants.{Current}
use Rattle.prevalence_store.specs.meaning.Acceptance.{form_limits, read_in, transaction_value}
use Rattle.sessions.specs.FormAnswers.{Progress, after_forms, first_progress as before_forms, form_progress, one_form, one_form_more, progress_onward}
use Rattle.world_text.proofs.Begun.{newline_begun}
use Rattle.export_laws.specs.ExportedTexts.{Makes, ReadsAsExported}

-- the same, a byte later
abbrev later : ReadingResult → ReadingResult
later (form x start «end» next) = form x (1 + start) (1 + «end») (1 + next)
later empty = empty
later (refused number at) = refused number (1 + at)

module _ (setting : Setting) where
  outcome_later : (start : ℕ) (more : ℕ → List ℕ → ReadingResult) (more2 : ℕ → List ℕ → ReadingResult) → ((at : ℕ) (cs : List ℕ) → more2 (1 + at) cs ≡ later (more at cs))
      → (r : Read Found) → outcome setting.table (1 + start) more2 r ≡ later (outcome setting.table start more r)
  outcome_later start more more2 all (Ok (nothing token, at, cs)) =
      ap (λ n. more2 n cs) (let h : 1 + start + at ≡ 1 + (start + at) = omega arith in h) ∙ all (start + at) cs
  outcome_later start more more2 all (Ok (one token x, at, cs)) =
      let e : 1 + start + at ≡ 1 + (start + at) = omega arith in
      let n : 1 + start + at + space_at setting.table token cs ≡ 1 + (start + at + space_at setting.table token cs) = omega arith in
      λ i. form x (1 + start) (e i) (n i)
  outcome_later start more more2 all (Ok (lone_dot, at, cs)) = λ i. refused DOT_CONTEXT ((let h : 1 + start + at ≡ 1 + (start + at) = omega arith in h) i)
  outcome_later start more more2 all (Ok (the_end, at, cs)) = refl
  outcome_later start more more2 all (Err f) = λ i. refused f.number ((let h : 1 + start + f.at ≡ 1 + (start + f.at) = omega arith in h) i)

  reads_later : (n start : ℕ) (text : List ℕ) → reads_in setting n (1 + start) text ≡ later (reads_in setting n start text)
  unfolding reads_in
  reads_later zero start text = refl
  reads_later (suc n) start text =
      outcome_later start (λ next cs. reads_in setting n next cs) (λ next cs. reads_in setting n next cs) (λ at cs. reads_later n at cs)
      (run setting.table setting.limits (attempt setting setting.limits.nesting) 0 text)

abbrev rest_of : Option Progress → List ℕ
rest_of (Some p) = p.rest
rest_of None = []

module _ (functions : Functions) (s : WorldState) (as_exported : ReadsAsExported s) (text : List ℕ) where
  abbrev its_setting : Setting
  its_setting = setting_of form_limits standard 10 s.packages common_lisp_user functions

  exported_so : (input : List ℕ) → read_in functions s Current input ≡ reads its_setting input
  exported_so input = λ i. reads (setting_of form_limits (as_exported.readtable i) (as_exported.base i) s.packages (as_exported.current i) functions) input

  read_later : reads its_setting (10 ∷ text) ≡ later (reads its_setting text)
  unfolding reads
  read_later =
      reads_is its_setting 0 (10 ∷ text)
      ∙ ap (outcome standard 0 (λ next cs. reads_at its_setting next cs)) (newline_begun form_limits s.packages common_lisp_user functions 100 0 text (omega arith))
      ∙ reads_later its_setting (length text + 1) 0 text

  form_later : (r : ReadingResult) → one_form functions s Current (10 ∷ text) (later r) ≡ one_form functions s Current text r
  form_later (form x start «end» next) =
      let a : 1 + start ≡ suc start = omega arith in
      let n : 1 + next ≡ suc next = omega arith in
      let size : 1 + «end» - (1 + start) ≡ «end» - start = omega arith in
      λ i. Some (form_progress s Current (take (size i) (drop (a i) (10 ∷ text))) (drop (n i) (10 ∷ text)) (transaction_value functions.names s x))
  form_later empty = refl
  form_later (refused number at) = refl

  one_later : one_form functions s Current (10 ∷ text) (read_in functions s Current (10 ∷ text)) ≡ one_form functions s Current text (read_in functions s Current text)
  one_later =
      ap (one_form functions s Current (10 ∷ text)) (exported_so (10 ∷ text) ∙ read_later) ∙ form_later (reads its_setting text)
      ∙ ap (one_form functions s Current text) (sym (exported_so text))

  forms_later : (n : ℕ) → after_forms functions (suc n) s Current (10 ∷ text) ≡ after_forms functions (suc n) s Current text
  forms_later zero = ap (option_map (progress_onward (before_forms s text))) one_later
  forms_later (suc n) = ap (option_and_then (one_form_more functions Current)) (forms_later n)

  pub without_newline : (after : WorldState) (rest : List ℕ) → length rest < length (10 ∷ text) → Makes functions s (10 ∷ text) after rest → Makes functions s text after rest
  without_newline after rest shorter made = by_count made.count made.given
    where
      by_count : (n : ℕ) → after_forms functions n s Current (10 ∷ text) ≡ Some made.progress → Makes functions s text after rest
      by_count zero given =
          let same : 10 ∷ text ≡ rest = ap rest_of given ∙ made.left in
          absurd (omega (arith, shorter, ap length same))
      by_count (suc n) given =
          record { count = suc n; progress = made.progress; given = sym (forms_later n) ∙ given; world = made.world; left = made.left; refused = made.refused }
