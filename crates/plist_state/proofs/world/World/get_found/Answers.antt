use Rattle.std.proofs.Common.{◌≡◌, Some, subst, ◌∙◌}
use Rattle.package_table.specs.Lookup.{home_by_name}
use Rattle.package_table.specs.Numbers.{table_now}
use Rattle.package_table.specs.Table.{Name, symbol_count}
use Rattle.plist_state.specs.State.{Worlds}
use Rattle.plist_state.proofs.InState.{property_seen}
use Rattle.plist_state.proofs.world.World.get_found.Goals as goal

pub returns-clause-value : goal.returns-clause-value
returns-clause-value c =
    let a = c.self.inside in
    let x = c.in-Some.ensures in
    let i = c.in-Some-found.ensures in
    let here : (name home : Name) → home_by_name (table_now a.packages).0 c.args.current.now name ≡ Some home → home_by_name c.args.self.now.0.packages c.args.current.now name ≡ Some home =
    λ name home. subst (λ (w : Worlds). home_by_name w.0.packages c.args.current.now name ≡ Some home) c.self.view_is in record {
      home = x.home;
      indicator_home = i.home;
      symbol_found = here c.args.symbol.now x.home x.finds;
      indicator_found = here c.args.indicator.now i.home i.finds;
      gets = c.value.ensures.value
          ∙ property_seen a c.self.invariant c.args.self.now c.self.view_is (x.home, c.args.symbol.now) (i.home, c.args.indicator.now) (symbol_count (table_now a.packages).0) c.numbering.ensures
          c.in-Some.owner c.in-Some-found.under x.number i.number;
    }
