use Rattle.std.proofs.Common.{◌∙◌, ℕ, List, ap, sym}
use Rattle.name_patterns.specs.Pattern.{matches_pieces, some_end}
use Rattle.name_patterns.proofs.patterns.some_end_is_like.Goals as goal

pub returns-in_default-after_first : goal.returns-in_default-after_first
returns-in_default-after_first c =
    let cut = ap (λ (ps : List (List ℕ)). some_end (matches_pieces ps) c.loop-piece.rest.now) c.in-Some.ensures.0 in
    sym (cut ∙ c.in_default-after_first.ensures c.in-Some.others.now) ∙ c.loop-piece.invariant

pub loop-piece-preserved : goal.loop-piece-preserved
loop-piece-preserved c =
    let cut = ap (λ (ps : List (List ℕ)). some_end (matches_pieces ps) c.loop-piece.rest.now) c.in-Some.ensures.0 in
    sym (cut ∙ c.in-Some-after_first.ensures c.in-Some.others.now) ∙ c.loop-piece.invariant

pub returns : goal.returns
returns c =
    c.ends_with.ensures ∙ ap (λ (ps : List (List ℕ)). some_end (matches_pieces ps) c.loop-piece.rest.now) (sym c.in_default.ensures) ∙ c.loop-piece.invariant
