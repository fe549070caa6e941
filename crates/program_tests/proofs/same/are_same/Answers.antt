use Rattle.std.proofs.Common.{◌≡◌, ℕ, List, sym, ap, subst, ◌∙◌}
use Rattle.lisp_reading.specs.Reading.{empty}
use Rattle.plist_state.specs.State.{WorldState, initial}
use Rattle.session_words.specs.declared.content.Content.TheVariants.{World}
use Rattle.session_words.specs.declared.mode.Mode.{Mode}
use Rattle.session_words.specs.declared.mode.Mode.TheVariants.{Current}
use Rattle.prevalence_store.specs.meaning.Acceptance.{read_in}
use Rattle.sessions.specs.FormAnswers.{Progress, one_form}
use Rattle.store_laws.specs.Outcomes.{HasForms}
use Rattle.user_macros.specs.Functions.{Functions}
use Rattle.world_forms.specs.Forms.{forms, last_newline}
use Rattle.export_laws.specs.ExportedTexts.{Makes}
use Rattle.program_tests.proofs.same.are_same.Goals as goal

module _ (functions : Functions) (text : List ℕ) where
  -- the forms that make a world are all that the text has, as what is left of it is no form
  has_forms : (s : WorldState) (rest : List ℕ) (makes : Makes functions initial text s rest) → read_in functions s Current rest ≡ empty → HasForms functions initial Current text makes.count makes.progress
  has_forms s rest makes none = record {
    far_is = makes.given;
    no_more = ap (one_form functions makes.progress.world Current makes.progress.rest) ((λ i. read_in functions (makes.world i) Current (makes.left i)) ∙ none);
  }

  -- one text makes one world, as it has one outcome
  one_made : ((world : WorldState) (mode : Mode) (input : List ℕ) (n m : ℕ) (far other : Progress)
      → HasForms functions world mode input n far → HasForms functions world mode input m other → (n ≡ m) × (far ≡ other))
      → (s t : WorldState) (rest left : List ℕ) → Makes functions initial text s rest → read_in functions s Current rest ≡ empty
      → Makes functions initial text t left → read_in functions t Current left ≡ empty → s ≡ t
  one_made one s t rest left makes none others others_none =
      let same = one initial Current text makes.count others.count makes.progress others.progress (has_forms s rest makes none) (has_forms t left others others_none) in
      sym makes.world ∙ ap (λ (p : Progress). p.world) same.1 ∙ others.world

  -- the text of this world makes it
  made_of : (s : WorldState) → forms s World ≡ text → Makes functions initial (forms s World) s (last_newline s World) → Makes functions initial text s (last_newline s World)
  made_of s is makes = subst (λ cs. Makes functions initial cs s (last_newline s World)) is makes

pub returns : goal.returns
returns c = λ functions same text_is none covered others_is others_none others_covered.
    let s = c.args.one.now.0 in
    let t = c.args.other.now.0 in
    let text = c.args.text.now in
    let law = c.export_makes_a_world.ensures in
    one_made functions text (c.one_outcome.ensures.one_count functions) s t (last_newline s World) (last_newline t World)
    (made_of functions text s (sym text_is) (law.world functions s c.soundness.ensures.present covered none)) (law.all functions s)
    (made_of functions text t (sym others_is ∙ sym (c.is_equal.ensures same)) (law.world functions t c.soundness-2.ensures.present others_covered others_none)) (law.all functions t)
