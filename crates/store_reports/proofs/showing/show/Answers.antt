use Rattle.std.proofs.Common.{◌≡◌, false, rules, tests, true}
use Rattle.std.specs.Prelude.{is_some}
use Rattle.store_reports.specs.ShownProperties.{has_wanted}
use Rattle.store_reports.specs.declared.showing.ShowError.TheVariants as showing
use Rattle.store_reports.proofs.ShownTexts.{no_indicator, no_symbol, some_shown}
use Rattle.store_reports.proofs.showing.show.Goals as goal

pub returns-then-is_some-clause-shown : goal.returns-then-is_some-clause-shown
returns-then-is_some-clause-shown c =
    let there : has_wanted c.args.selection.now c.args.world.now.0 ≡ true = search (rules, tests) in
    some_shown c.args.selection.now c.args.world.now.0 c.in_ok-text.text.items there c.in_ok-text.ensures showing.NoSymbol c.some_text.result c.some_text.ensures

pub returns-then-is_some-clause-refused : goal.returns-then-is_some-clause-refused
returns-then-is_some-clause-refused c =
    let there : has_wanted c.args.selection.now c.args.world.now.0 ≡ true = search (rules, tests) in
    let asked : is_some c.args.selection.now.symbol ≡ true = search (rules, tests) in
    no_symbol c.args.selection.now c.args.world.now.0 c.in_ok-text.text.items there c.in_ok-text.ensures asked c.some_text.result c.some_text.ensures

pub returns-then-is_some-2-clause-shown : goal.returns-then-is_some-2-clause-shown
returns-then-is_some-2-clause-shown c =
    let there : has_wanted c.args.selection.now c.args.world.now.0 ≡ true = search (rules, tests) in
    some_shown c.args.selection.now c.args.world.now.0 c.in_ok-text.text.items there c.in_ok-text.ensures showing.NoIndicator c.some_text-then-is_some-2.result
    c.some_text-then-is_some-2.ensures

pub returns-then-is_some-2-clause-refused : goal.returns-then-is_some-2-clause-refused
returns-then-is_some-2-clause-refused c =
    let there : has_wanted c.args.selection.now c.args.world.now.0 ≡ true = search (rules, tests) in
    let other : is_some c.args.selection.now.symbol ≡ false = search (rules, tests) in
    let asked : is_some c.args.selection.now.indicator ≡ true = search (rules, tests) in
    no_indicator c.args.selection.now c.args.world.now.0 c.in_ok-text.text.items there c.in_ok-text.ensures other asked c.some_text-then-is_some-2.result
    c.some_text-then-is_some-2.ensures
