use Rattle.std.proofs.Common.{◌∙◌, Some, refl, sym, ap}
use Rattle.world_text.specs.Snapshot.{snapshot}
use Rattle.law_tests.proofs.texts.have_same_text.Goals as goal

pub returns : goal.returns
returns c = λ same.
    let s = c.args.one.now.0 in
    let t = c.args.other.now.0 in
    let texts = sym c.in_ok-text.ensures.text ∙ (sym c.as_slice.ensures.value ∙ (c.is_equal.ensures same ∙ (c.as_slice-2.ensures.value ∙ c.in_ok-others_text.ensures.text))) in
    c.one_text_one_state.ensures 2 s t (snapshot s) c.soundness.ensures.present c.soundness-2.ensures.present refl (ap (λ text. Some text) (sym texts))
