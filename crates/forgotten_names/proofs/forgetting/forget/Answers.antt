use Rattle.std.proofs.Common.{Some, sym, ap, ◌∙◌}
use Rattle.plist_state.specs.Readers.{borrowed_symbols}
use Rattle.forgotten_names.specs.WorldsWithoutNames.{without_unneeded_symbols}
use Rattle.forgotten_names.proofs.ForgottenSound.{forgotten_sound}
use Rattle.forgotten_names.proofs.forgetting.forget.Goals as goal

pub returns-in-Ok : goal.returns-in-Ok
returns-in-Ok g c =
    let held = borrowed_symbols c.args.held.now in
    let s = c.args.world.now.0 in
    let same = c.in-Ok.ensures.only (without_unneeded_symbols held s) (forgotten_sound held s c.soundness.ensures.present)
    (ap (λ text. Some text) (sym (c.as_slice.ensures.value ∙ c.in_ok-text.ensures))) in
    λ i. (sym same i, c.in-Ok.ensures.unmarked i)
