use Rattle.std.proofs.Common.{◌∙◌, ap, sym}
use Rattle.std.specs.Str.{str_eq_ignore_ascii_case}
use Rattle.name_patterns.proofs.Pieces.{last_piece}
use Rattle.name_patterns.proofs.patterns.ends_with.Goals as goal

pub returns : goal.returns
returns c = c.is_same.ensures ∙ ap (λ end. str_eq_ignore_ascii_case end c.args.part.now) c.end_of.ensures ∙ sym (last_piece c.args.part.now c.args.text.now)
