-- The language with functions, beside the one without them.
--     keeps_value, keeps_refusal      by what the one without them gives
--     program_way, program_answer, own_way, own_answer      the macro functions in force
use Rattle.std.proofs.Common.{◌≡◌, ℕ, true, false, if◌then◌else◌, option_map, Ok, Err, ap, ◌∙◌}
use Rattle.lisp_object.specs.Object.{Object}
use Rattle.package_table.specs.Table.{Name}
use Rattle.plist_state.specs.State.{WorldState}
use Rattle.user_macros.specs.Calls.{MacroCall}
use Rattle.user_macros.specs.Functions.{Functions}
use Rattle.lisp_operators.specs.Evaluation.{Done, Evaluation}
use Rattle.lexical_evaluation.specs.Calls.{or_with_functions}
use Rattle.evaluator.specs.FormsGivenBack.{asks_for_functions}
use Rattle.kept_functions.specs.ReaderFunctions.{is_lisp_name, reader_function_in, ReaderDefinition}
use Rattle.lexical_evaluation.specs.InForce.{functions_in_force, answer_or_refusal}

pub keeps_value : (o other : Evaluation Object) (d : Done Object) → o ≡ Ok d → or_with_functions o other ≡ Ok d
keeps_value o other d is = ap (λ q. or_with_functions q other) is

pub keeps_refusal : (o other : Evaluation Object) (code : ℕ) → o ≡ Err code → asks_for_functions code ≡ false → or_with_functions o other ≡ Err code
keeps_refusal o other code is not_asked = ap (λ q. or_with_functions q other) is ∙ ap (λ b. if b then other else Err code) not_asked

module _ (program : Functions) (s : WorldState) (name : Name) where
  pub program_way : is_lisp_name name ≡ false → (functions_in_force program s).way name ≡ program.way name
  program_way is = ap (λ b. if b then option_map (λ (r : ReaderDefinition). r.way) (reader_function_in s name) else program.way name) is

  pub program_answer : (call : MacroCall) → is_lisp_name name ≡ false → (functions_in_force program s).answer name call ≡ program.answer name call
  program_answer call is = ap (λ b. if b then answer_or_refusal s (reader_function_in s name) call else program.answer name call) is

  pub own_way : is_lisp_name name ≡ true → (functions_in_force program s).way name ≡ option_map (λ (r : ReaderDefinition). r.way) (reader_function_in s name)
  own_way is = ap (λ b. if b then option_map (λ (r : ReaderDefinition). r.way) (reader_function_in s name) else program.way name) is

  pub own_answer : (call : MacroCall) → is_lisp_name name ≡ true → (functions_in_force program s).answer name call ≡ answer_or_refusal s (reader_function_in s name) call
  own_answer call is = ap (λ b. if b then answer_or_refusal s (reader_function_in s name) call else program.answer name call) is
