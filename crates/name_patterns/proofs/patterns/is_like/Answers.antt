use Rattle.std.proofs.Common.{◌∙◌, ℕ, List, None, Some, ap, sym}
use Rattle.name_patterns.specs.Pattern.{matches_pieces}
use Rattle.name_patterns.proofs.Pieces.{decided_by_front, one_piece}
use Rattle.name_patterns.proofs.patterns.is_like.Goals as goal

pub returns-in_default : goal.returns-in_default
returns-in_default c = c.is_same.ensures ∙ one_piece c.args.pattern.now c.args.name.now c.in_default.ensures

pub returns-in-Some-after_front : goal.returns-in-Some-after_front
returns-in-Some-after_front c =
    let cut = ap (λ (ps : List (List ℕ)). matches_pieces ps c.args.name.now) c.in-Some.ensures.0 in
    c.some_end_is_like.ensures
    ∙ sym (cut ∙ decided_by_front c.in-Some.front.now c.in-Some.rest.now c.args.name.now (Some c.in-Some-after_front.text) c.in-Some-after_front.ensures)

pub returns-in-None : goal.returns-in-None
returns-in-None c =
    let cut = ap (λ (ps : List (List ℕ)). matches_pieces ps c.args.name.now) c.in-Some.ensures.0 in
    sym (cut ∙ decided_by_front c.in-Some.front.now c.in-Some.rest.now c.args.name.now None c.in-None.ensures)
