-- A form on a line is read and accepted, after those before it.
--     nothing_made      before the first form
--     next_made      one form more, after the newline of the line before it
--     one_more_made      on a line of its own
use Rattle.std.proofs.Common.{◌≡◌, ℕ, suc, ◌+◌, false, List, [], ◌∷◌, ◌++◌, length, drop, Some, Ok, refl, ap, ◌∙◌, arith}
use Rattle.std.specs.Option.{option_and_then, option_map}
use Rattle.lisp_object.specs.Object.{Object}
use Rattle.readtable_core.specs.Tables.{standard}
use Rattle.package_table.specs.Table.{Table as Packages, common_lisp_user}
use Rattle.plist_state.specs.State.{WorldState}
use Rattle.user_macros.specs.Functions.{Functions, no_functions}
use Rattle.lisp_operators.specs.Evaluation.{Done}
use Rattle.lisp_reading.specs.declared.attempt.Found.TheVariants.{One as one}
use Rattle.lisp_reading.specs.Setting.{setting_of}
use Rattle.lisp_reading.specs.Reading.{form, outcome, reads, reads_at}
use Rattle.lisp_reading.proofs.Forms.{drop_front, reads_is}
use Rattle.session_words.specs.declared.mode.Mode.TheVariants.{Current}
use Rattle.prevalence_store.specs.meaning.Acceptance.{between, form_limits, read_in, transaction_value}
use Rattle.sessions.specs.FormAnswers.{first_progress as before_forms, form_progress, one_form, one_form_more, progress_onward}
use Rattle.world_text.proofs.Begun.{begun, newline_begun}
use Rattle.world_forms.specs.Properties.{form_setting}
use Rattle.wider_functions.proofs.Keeping.{none_are_among}
use Rattle.wider_functions.proofs.Reading.{reading_widens}
use Rattle.export_laws.specs.ExportedTexts.{Makes, ReadsAsExported}

-- the text is read as this form, before a newline and whatever follows
abbrev pub IsForm : Packages → List ℕ → Object → Type 0
IsForm t text x = (rest : List ℕ) → begun form_limits t common_lisp_user no_functions 100 0 (text ++ 10 ∷ rest) ≡ Ok (one false x, length text, 10 ∷ rest)

module _ (t : Packages) (text : List ℕ) (x : Object) (rest : List ℕ) (is : begun form_limits t common_lisp_user no_functions 100 0 (text ++ rest) ≡ Ok (one false x, length text, rest)) where
  -- at an offset
  read_at : (start : ℕ) → reads_at (form_setting t) start (text ++ rest) ≡ form x start (start + length text) (start + length text + 0)
  read_at start =
      reads_is (form_setting t) start (text ++ rest)
      ∙ ap (outcome standard start (λ next cs. reads_at (form_setting t) next cs)) is

  -- after a newline
  read_after : reads (form_setting t) (10 ∷ text ++ rest) ≡ form x 1 (1 + length text) (1 + length text)
  unfolding reads
  read_after =
      reads_is (form_setting t) 0 (10 ∷ text ++ rest)
      ∙ ap (outcome standard 0 (λ next cs. reads_at (form_setting t) next cs)) (newline_begun form_limits t common_lisp_user no_functions 100 0 (text ++ rest) (omega arith))
      ∙ read_at 1
      ∙ ap (λ n. form x 1 (1 + length text) n) (let h : 1 + length text + 0 ≡ 1 + length text = omega arith in h)

  -- with any macro functions
  read_with : (functions : Functions) → reads (setting_of form_limits standard 10 t common_lisp_user functions) (10 ∷ text ++ rest) ≡ form x 1 (1 + length text) (1 + length text)
  read_with functions =
      reading_widens form_limits standard 10 t common_lisp_user no_functions functions (none_are_among functions) (10 ∷ text ++ rest) x 1 (1 + length text) (1 + length text) read_after

  -- in a state that reads so
  read_here : (functions : Functions) (s : WorldState) → ReadsAsExported s → s.packages ≡ t → read_in functions s Current (10 ∷ text ++ rest) ≡ form x 1 (1 + length text) (1 + length text)
  read_here functions s as_exported same =
      (λ i. reads (setting_of form_limits (as_exported.readtable i) (as_exported.base i) (same i) (as_exported.current i) functions) (10 ∷ text ++ rest))
      ∙ read_with functions

  dropped : drop (1 + length text) (10 ∷ text ++ rest) ≡ rest
  dropped =
      ap (λ n. drop n (10 ∷ text ++ rest)) (let h : 1 + length text ≡ suc (length text) = omega arith in h)
      ∙ drop_front text rest

module _ (functions : Functions) where
  pub nothing_made : (s : WorldState) (text : List ℕ) → Makes functions s text s text
  nothing_made s text = record { count = 0; progress = before_forms s text; given = refl; world = refl; left = refl; refused = refl }

  -- a form that is read so before what follows it
  pub next_made : (first now : WorldState) (whole text rest : List ℕ) (x : Object) (done : Done Object)
      → Makes functions first whole now (10 ∷ text ++ rest) → ReadsAsExported now
      → begun form_limits now.packages common_lisp_user no_functions 100 0 (text ++ rest) ≡ Ok (one false x, length text, rest) → transaction_value functions.names now x ≡ Ok done
      → Makes functions first whole done.state rest
  next_made first now whole text rest x done made as_exported is accepted =
      let p = made.progress in
      let input = 10 ∷ text ++ rest in
      let q = form_progress now Current (between 1 (1 + length text) input) (drop (1 + length text) input) (Ok done) in
      let one_is : one_form functions now Current input (read_in functions now Current input) ≡ Some q
      = ap (one_form functions now Current input) (read_here now.packages text x rest is functions now as_exported refl)
      ∙ ap (λ e. Some (form_progress now Current (between 1 (1 + length text) input) (drop (1 + length text) input) e)) accepted in
      let more : one_form_more functions Current p ≡ Some (progress_onward p q)
      = ap (option_map (progress_onward p)) ((λ i. one_form functions (made.world i) Current (made.left i) (read_in functions (made.world i) Current (made.left i))) ∙ one_is) in
      record {
        count = suc made.count;
        progress = progress_onward p q;
        given = ap (option_and_then (one_form_more functions Current)) made.given ∙ more;
        world = refl;
        left = dropped now.packages text x rest is;
        refused = ap (λ ns. ns ++ []) made.refused;
      }

  pub one_more_made : (first now : WorldState) (whole text rest : List ℕ) (x : Object) (done : Done Object)
      → Makes functions first whole now (10 ∷ text ++ 10 ∷ rest) → ReadsAsExported now → IsForm now.packages text x → transaction_value functions.names now x ≡ Ok done
      → Makes functions first whole done.state (10 ∷ rest)
  one_more_made first now whole text rest x done made as_exported is accepted = next_made first now whole text (10 ∷ rest) x done made as_exported (is rest) accepted
