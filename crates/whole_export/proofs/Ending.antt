-- What ends the text of a world: a newline if its readtable discards it, and so no form.
--     ending_short, nothing_left
use Rattle.std.proofs.Common.{◌≡◌, ℕ, List, ◌-◌, ◌<◌, ◌≤◌, Bool, true, false, [], ◌∷◌, length, Some, None, Ok, refl, ap, ◌∙◌, arith}
use Rattle.std.specs.Prelude.{if◌then◌else◌, ◌==◌, unwrap_or}
use Rattle.std.specs.Option.{option_map_or}
use Rattle.std.specs.FinMap as finite
use Rattle.std.proofs.lemmas.Bool.{eqb-true}
use Rattle.readtable_core.specs.declared.characters.Syntax.TheVariants.{Whitespace}
use Rattle.readtable_core.specs.Characters.{syntax_number}
use Rattle.readtable_core.specs.Tables.{Table, entry_at, standard}
use Rattle.readtable_core.proofs.Named.{same_number}
use Rattle.plist_state.specs.State.{WorldState}
use Rattle.user_macros.specs.Functions.{Functions}
use Rattle.form_reader.proofs.Objects.{takes_is}
use Rattle.lisp_reading.specs.declared.attempt.Found.{Found}
use Rattle.lisp_reading.specs.declared.attempt.Found.TheVariants.{Nothing as nothing}
use Rattle.lisp_reading.specs.Plans.{Read, run, scans}
use Rattle.lisp_reading.specs.Reading.{ReadingResult, alone, empty, inner, outcome, reads, reads_in, stands_alone, token_found}
use Rattle.lisp_reading.specs.Setting.{Setting}
use Rattle.lisp_reading.proofs.Forms.{first, the_end_there}
use Rattle.session_words.specs.declared.mode.Mode.TheVariants.{Current}
use Rattle.prevalence_store.specs.meaning.Acceptance.{read_in, setting_in}
use Rattle.session_words.specs.declared.content.Content.TheVariants.{World}
use Rattle.world_forms.specs.Forms.{last_newline, newline_in}

abbrev newline : Bool → List ℕ
newline b = if b then 10 ∷ [] else []

newline_short : (b : Bool) → length (newline b) ≤ 1
newline_short true = omega arith
newline_short false = omega arith

pub ending_short : (s : WorldState) → length (last_newline s World) ≤ 1
unfolding last_newline
ending_short s =
    elim (finite.get s.readtables s.current_readtable) as (λ o. length (option_map_or newline_in o []) ≤ 1) [
      | None ↦ omega arith
      | Some t ↦ newline_short (syntax_number (entry_at t 10).syntax == syntax_number Whitespace)
    ]

module _ (setting : Setting) where
  none_there : reads setting [] ≡ empty
  unfolding reads reads_in
  none_there = ap (outcome setting.table 0 (λ next cs. reads_in setting 0 next cs)) (the_end_there setting)

  blank_there : (entry_at setting.table 10).syntax ≡ Whitespace → 0 < setting.limits.text → reads setting (10 ∷ []) ≡ empty
  unfolding reads reads_in run
  blank_there blank room =
      let begins : Read Found → ReadingResult = outcome setting.table 0 (λ next cs. reads_in setting 1 next cs) in
      let found : first setting (10 ∷ []) ≡ Ok (nothing false, 1, [])
      = takes_is setting.table setting.limits (scans false setting.limits.token (token_found setting)) (λ c. stands_alone (entry_at setting.table c).syntax)
      (λ c. alone setting (setting.limits.nesting - setting.limits.nesting) (inner setting setting.limits.nesting) c (entry_at setting.table c).syntax) 0 10 [] room (ap stands_alone blank)
      ∙ ap (λ y. run setting.table setting.limits (alone setting (setting.limits.nesting - setting.limits.nesting) (inner setting setting.limits.nesting) 10 y) 1 []) blank in
      ap begins found ∙ ap (outcome setting.table 1 (λ next cs. reads_in setting 0 next cs)) (the_end_there setting)

pub nothing_left : (functions : Functions) (s : WorldState) → read_in functions s Current (last_newline s World) ≡ empty
unfolding last_newline
nothing_left functions s =
    elim (finite.get s.readtables s.current_readtable) as (λ o. finite.get s.readtables s.current_readtable ≡ o → read_in functions s Current (option_map_or newline_in o []) ≡ empty) [
      | None ↦ λ _. none_there (setting_in functions s Current)
      | Some t ↦ λ is. by_kind t is (syntax_number (entry_at t 10).syntax == syntax_number Whitespace) refl
    ] refl
  where
    by_kind : (t : Table) → finite.get s.readtables s.current_readtable ≡ Some t → (b : Bool) → (syntax_number (entry_at t 10).syntax == syntax_number Whitespace) ≡ b
        → read_in functions s Current (newline b) ≡ empty
    by_kind t is true blank =
        blank_there (setting_in functions s Current)
        (ap (λ o. (entry_at (unwrap_or o standard) 10).syntax) is ∙ same_number (entry_at t 10).syntax Whitespace (eqb-true (syntax_number (entry_at t 10).syntax) (syntax_number Whitespace) blank))
        (omega arith)
    by_kind t is false other = none_there (setting_in functions s Current)
