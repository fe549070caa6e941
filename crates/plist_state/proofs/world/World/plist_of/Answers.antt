use Rattle.std.proofs.Common.{All, sym, ap, subst, ◌∙◌}
use Rattle.package_table.specs.Numbers.{table_now}
use Rattle.plist_state.specs.Lists.{NumberedPlist, IsNumber, named_plist}
use Rattle.plist_state.specs.Views.{items_in}
use Rattle.plist_state.proofs.InState.{row_seen, none_seen}
use Rattle.plist_state.proofs.Viewed.{are_numbers}
use Rattle.plist_state.proofs.world.World.plist_of.Goals as goal

pub new-requires-clause-indicators : goal.new-requires-clause-indicators
new-requires-clause-indicators c =
    let s = table_now c.self.inside.packages in
    are_numbers s (items_in c.row.result)
    (subst (λ (ps : NumberedPlist). All (λ p. IsNumber s p.0) ps) (sym c.row.ensures.list) (c.self.invariant.now.owned.indicators c.in-Some.number))

pub returns-in-Some : goal.returns-in-Some
returns-in-Some c =
    c.new.ensures ∙ ap (named_plist (table_now c.self.inside.packages)) c.row.ensures.list
    ∙ row_seen c.self.inside c.args.self.now c.self.view_is (c.args.home.now, c.args.name.now) c.in-Some.number (sym c.in-Some.ensures)

pub returns-in-None : goal.returns-in-None
returns-in-None c =
    c.new-in-None.ensures ∙ none_seen c.self.inside c.args.self.now c.self.view_is (c.args.home.now, c.args.name.now) (sym c.in-None.ensures)
