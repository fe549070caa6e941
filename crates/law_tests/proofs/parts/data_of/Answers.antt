use Rattle.std.proofs.Common.{[], ◌∷◌, sym, subst, ◌∙◌}
use Rattle.export_laws.specs.ExportedTexts.{Makes, with_data_of}
use Rattle.plist_state.specs.State.{initial}
use Rattle.law_tests.proofs.parts.data_of.Goals as goal

pub returns-then-is_nothing-clause-data : goal.returns-then-is_nothing-clause-data
returns-then-is_nothing-clause-data c = λ functions.
    let s = c.args.world.now.0 in
    let none = sym c.in_ok-exported.ensures.left_out ∙ sym c.as_slice.ensures.value ∙ c.is_nothing.ensures c.if-is_nothing.true in
    subst (λ text. Makes functions initial text (with_data_of s) (10 ∷ [])) (sym c.in_ok-exported.ensures.forms)
    (c.data_makes_a_world.ensures functions s c.soundness.ensures.present none)

pub returns-then-is_nothing-clause-properties : goal.returns-then-is_nothing-clause-properties
returns-then-is_nothing-clause-properties c = λ functions now rest same empty exported.
    let s = c.args.world.now.0 in
    let none = sym c.in_ok-exported.ensures.left_out ∙ sym c.as_slice.ensures.value ∙ c.is_nothing.ensures c.if-is_nothing.true in
    c.property_lines_are_read.ensures functions s now rest c.soundness.ensures.present none same empty exported
