use Rattle.std.proofs.Common.{is_some, sym, ap, ◌∙◌}
use Rattle.std.specs.Option.{option_map, option_and_then}
use Rattle.std.specs.FinMap as finite
use Rattle.package_table.specs.Numbers.{table_now}
use Rattle.plist_state.specs.Lists.{named_plist}
use Rattle.plist_state.specs.Views.{lists_of}
use Rattle.plist_state.proofs.ListRows.{has_counted}
use Rattle.plist_state.proofs.Named.{some_named}
use Rattle.plist_state.proofs.readers.has_properties.Goals as goal

pub returns-in-Some : goal.returns-in-Some
returns-in-Some c =
    let s = table_now c.args.packages.now in
    let m = lists_of c.args.rows.now in
    has_counted c.args.rows.now.items c.in-Some.number _ c.count.ensures ∙ sym (some_named s (finite.get m c.in-Some.number))
    ∙ ap (λ o. is_some (option_map (named_plist s) (option_and_then (finite.get m) o))) c.in-Some.ensures

pub returns-in-None : goal.returns-in-None
returns-in-None c =
    let s = table_now c.args.packages.now in
    let m = lists_of c.args.rows.now in
    ap (λ o. is_some (option_map (named_plist s) (option_and_then (finite.get m) o))) c.in-None.ensures
