use Rattle.std.proofs.Common.{◌≡◌, not, rules, sym, ap, ◌∙◌}
use Rattle.std.specs.Str.{bytes_eq}
use Rattle.std.proofs.lemmas.Bool.{false≢true}
use Rattle.package_table.proofs.Frames.{equal_itself}
use Rattle.snapshot_text.proofs.reader.approve.Goals as goal

pub returns-then-not-branch-clause-refused : goal.returns-then-not-branch-clause-refused
returns-then-not-branch-clause-refused g c =
    (_, c.soundness.ensures.present, search rules, c.requires.size, sym c.in_ok-is_covered.ensures ∙ c.if-not-branch.true)

pub returns-then-ne-clause-refused : goal.returns-then-ne-clause-refused
returns-then-ne-clause-refused g c = λ s sound fits e.
    let same : c.as_slice.result.now ≡ c.args.bytes.now = search rules in
    false≢true (sym (c.if-ne.ensures ∙ ap not (ap (λ x. bytes_eq x c.args.bytes.now) same ∙ equal_itself c.args.bytes.now)))
