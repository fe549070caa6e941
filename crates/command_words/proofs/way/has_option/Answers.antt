use Rattle.std.proofs.Common.{◌≡◌, false, true, rules, tests, codes}
use Rattle.std.specs.Str.{bytes_eq}
use Rattle.command_words.specs.Ways.{is_option}
use Rattle.command_words.proofs.Options.{at_end, ends, finds, goes_on}
use Rattle.command_words.proofs.way.has_option.Goals as goal

pub returns-then-eq : goal.returns-then-eq
returns-then-eq g c =
    let hyphens : bytes_eq c.as_str-word.result.now (codes "--") ≡ true = search (rules, tests) in
    ends g.S.AsStr.text c.args.option.now c.args.words.now c.loop-word.word-index c.word-item.result c.as_str-word.result.now c.loop-word-test.true c.word-item.is c.as_str-word.ensures
    c.loop-word.invariant hyphens

pub returns-then-is_option : goal.returns-then-is_option
returns-then-is_option g c =
    let hyphens : bytes_eq c.as_str-word.result.now (codes "--") ≡ false = search (rules, tests) in
    let found : is_option c.args.option.now c.as_str-word.result.now ≡ true = search (rules, tests) in
    finds g.S.AsStr.text c.args.option.now c.args.words.now c.loop-word.word-index c.word-item.result c.as_str-word.result.now c.loop-word-test.true c.word-item.is c.as_str-word.ensures
    c.loop-word.invariant hyphens found

pub loop-word-preserved : goal.loop-word-preserved
loop-word-preserved g c =
    let hyphens : bytes_eq c.as_str-word.result.now (codes "--") ≡ false = search (rules, tests) in
    let other : is_option c.args.option.now c.as_str-word.result.now ≡ false = search (rules, tests) in
    goes_on g.S.AsStr.text c.args.option.now c.args.words.now c.loop-word.word-index c.word-item.result c.as_str-word.result.now c.loop-word-test.true c.word-item.is c.as_str-word.ensures
    c.loop-word.invariant hyphens other

pub returns : goal.returns
returns g c = at_end g.S.AsStr.text c.args.option.now c.args.words.now c.loop-word.word-index c.loop-word-test.false c.loop-word.invariant
