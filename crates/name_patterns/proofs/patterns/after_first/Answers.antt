use Rattle.std.proofs.Common.{◌≡◌, ◌∙◌, false, true, rules, sym, tests}
use Rattle.name_patterns.specs.Pattern.{begins_with}
use Rattle.name_patterns.proofs.Pieces.{decided_here, piece_later, piece_of_none}
use Rattle.name_patterns.proofs.patterns.after_first.Goals as goal

pub returns-in_default : goal.returns-in_default
returns-in_default c others =
    let not : begins_with c.args.part.now c.loop-rest.rest.now ≡ false = search (rules, tests) in
    sym (c.loop-rest.invariant others) ∙ piece_of_none c.args.part.now others c.loop-rest.rest.now c.in_default.len_below not

pub loop-rest-preserved : goal.loop-rest-preserved
loop-rest-preserved c others =
    let not : begins_with c.args.part.now c.loop-rest.rest.now ≡ false = search (rules, tests) in
    piece_later c.args.part.now others c.loop-rest.rest.now c.in-len1-up.len_at_least not ∙ c.loop-rest.invariant others

pub returns : goal.returns
returns c others =
    let is : begins_with c.args.part.now c.loop-rest.rest.now ≡ true = search (rules, tests) in
    sym (c.loop-rest.invariant others) ∙ decided_here c.args.part.now others c.loop-rest.rest.now c.after_front.result is c.after_front.ensures
