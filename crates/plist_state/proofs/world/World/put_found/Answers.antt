use Rattle.std.proofs.Common.{◌≡◌, Some, Ok, sym, subst}
use Rattle.lisp_object.specs.Datum.{object_of}
use Rattle.package_table.specs.Lookup.{home_by_name}
use Rattle.package_table.specs.Numbers.{table_now}
use Rattle.package_table.specs.Table.{Name, symbol_count}
use Rattle.plist_state.specs.Properties.{with_value, with_value_by}
use Rattle.plist_state.specs.State.{Worlds}
use Rattle.plist_state.specs.Views.{rest_of}
use Rattle.plist_state.specs.Sound.{IsValue}
use Rattle.plist_state.specs.Lists.{same_number}
use Rattle.plist_state.specs.Journal.{marks_of}
use Rattle.plist_state.specs.MarkedWorlds.{earlier_states}
use Rattle.plist_state.proofs.InState.{world_listed}
use Rattle.plist_state.proofs.Putting.{part_put, same_list}
use Rattle.plist_state.proofs.world.World.put_found.Goals as goal

pub invariant_of-self : goal.invariant_of-self
invariant_of-self c =
    let a = c.self.inside in
    let x = c.in-Some.ensures in
    let i = c.in-Some-found.ensures in
    let v = object_of c.args.value in
    let here : (name home : Name) → home_by_name (table_now a.packages).0 c.args.current.now name ≡ Some home → home_by_name c.args.self.now.0.packages c.args.current.now name ≡ Some home =
    λ name home. subst (λ (w : Worlds). home_by_name w.0.packages c.args.current.now name ≡ Some home) c.self.view_is in record {
      now = part_put a.packages a.stored a.marks.items a.sizes.entries c.self.invariant.now c.numbering.ensures (x.home, c.args.symbol.now) (i.home, c.args.indicator.now)
          c.in-Some.owner c.in-Some-found.place x.number i.number v c.put.result c.put.new.stored c.put.new.marks.items c.forget.new.sizes.entries
          (subst (λ (w : Worlds). IsValue w.0.packages v) (sym c.self.view_is)
          (c.requires.value x.home i.home (here c.args.symbol.now x.home x.finds) (here c.args.indicator.now i.home i.finds)))
          c.put.ensures.ok c.put.ensures.err c.put.ensures.wider c.put.ensures.indexed c.put.ensures.marked c.forget.ensures;
      earlier = c.self.invariant.earlier;
    }

pub invariant_of-self-2 : goal.invariant_of-self-2
invariant_of-self-2 c =
    let a = c.self.inside in
    let x = c.in-Some.ensures in
    let i = c.in-Some-found.ensures in
    let v = object_of c.args.value in
    let here : (name home : Name) → home_by_name (table_now a.packages).0 c.args.current.now name ≡ Some home → home_by_name c.args.self.now.0.packages c.args.current.now name ≡ Some home =
    λ name home. subst (λ (w : Worlds). home_by_name w.0.packages c.args.current.now name ≡ Some home) c.self.view_is in record {
      now = part_put a.packages a.stored a.marks.items a.sizes.entries c.self.invariant.now c.numbering.ensures (x.home, c.args.symbol.now) (i.home, c.args.indicator.now)
          c.in-Some.owner c.in-Some-found.place x.number i.number v c.put.result c.put.new.stored c.put.new.marks.items c.forget.new.sizes.entries
          (subst (λ (w : Worlds). IsValue w.0.packages v) (sym c.self.view_is)
          (c.requires.value x.home i.home (here c.args.symbol.now x.home x.finds) (here c.args.indicator.now i.home i.finds)))
          c.put.ensures.ok c.put.ensures.err c.put.ensures.wider c.put.ensures.indexed c.put.ensures.marked c.forget.ensures;
      earlier = c.self.invariant.earlier;
    }

pub returns-clause-put : goal.returns-clause-put
returns-clause-put c = λ done.
    let a = c.self.inside in
    let x = c.in-Some.ensures in
    let i = c.in-Some-found.ensures in
    let n = c.in-Some.owner in
    let j = c.in-Some-found.place in
    let v = object_of c.args.value in
    let here : (name home : Name) → home_by_name (table_now a.packages).0 c.args.current.now name ≡ Some home → home_by_name c.args.self.now.0.packages c.args.current.now name ≡ Some home =
    λ name home. subst (λ (w : Worlds). home_by_name w.0.packages c.args.current.now name ≡ Some home) c.self.view_is in record {
      home = x.home;
      indicator_home = i.home;
      symbol_found = here c.args.symbol.now x.home x.finds;
      indicator_found = here c.args.indicator.now i.home i.finds;
      puts = world_listed {A = Unit {0}} {E = Unit {0}} (Ok tt) (earlier_states a.earlier.items) a.packages (marks_of a.marks.items) (marks_of c.put.new.marks.items) (rest_of a.stored) (rest_of c.put.new.stored)
          c.put.ensures.marked.same c.args.self.now c.self.view_is (symbol_count (table_now a.packages).0) c.numbering.ensures (x.home, c.args.symbol.now) n x.number
          (λ ps. with_value_by same_number ps j v) (λ ps. with_value ps (i.home, c.args.indicator.now) v)
          (same_list a.packages a.stored a.marks.items a.sizes.entries c.self.invariant.now c.numbering.ensures (x.home, c.args.symbol.now) (i.home, c.args.indicator.now) n j x.number i.number v)
          c.in_ok-put.ensures.ok;
    }
