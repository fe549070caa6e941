use Rattle.std.proofs.Common.{sym, subst}
use Rattle.package_table.specs.Table.{symbol_count}
use Rattle.package_table.specs.Numbers.{table_now}
use Rattle.lisp_object.specs.Datum.{object_of}
use Rattle.plist_state.specs.Properties.{with_value, with_value_by}
use Rattle.plist_state.specs.State.{Worlds}
use Rattle.plist_state.specs.Views.{symbol_named, rest_of}
use Rattle.plist_state.specs.Sound.{IsSymbol, IsValue}
use Rattle.plist_state.specs.Lists.{same_number}
use Rattle.plist_state.specs.Journal.{marks_of}
use Rattle.plist_state.specs.MarkedWorlds.{earlier_states}
use Rattle.plist_state.proofs.InState.{world_listed, world_same_err}
use Rattle.plist_state.proofs.Putting.{part_put, same_list}
use Rattle.plist_state.proofs.world.World.put_at.Goals as goal

pub number-owner-requires : goal.number-owner-requires
number-owner-requires c = subst (λ (w : Worlds). IsSymbol w.0.packages (symbol_named c.args.symbol)) (sym c.self.view_is) c.requires.symbol

pub number-indicator-requires : goal.number-indicator-requires
number-indicator-requires c = subst (λ (w : Worlds). IsSymbol w.0.packages (symbol_named c.args.indicator)) (sym c.self.view_is) c.requires.indicator

pub invariant_of-self : goal.invariant_of-self
invariant_of-self c =
    let a = c.self.inside in
    let v = object_of c.args.value in record {
      now = part_put a.packages a.stored a.marks.items a.sizes.entries c.self.invariant.now c.numbering.ensures (symbol_named c.args.symbol) (symbol_named c.args.indicator)
          c.number-owner.result c.number-indicator.result c.number-owner.ensures c.number-indicator.ensures v c.put.result c.put.new.stored c.put.new.marks.items c.forget.new.sizes.entries
          (subst (λ (w : Worlds). IsValue w.0.packages v) (sym c.self.view_is) c.requires.value) c.put.ensures.ok c.put.ensures.err c.put.ensures.wider c.put.ensures.indexed c.put.ensures.marked c.forget.ensures;
      earlier = c.self.invariant.earlier;
    }

pub returns-clause-ok : goal.returns-clause-ok
returns-clause-ok c =
    let a = c.self.inside in
    let i = symbol_named c.args.indicator in
    let n = c.number-owner.result in
    let j = c.number-indicator.result in
    let v = object_of c.args.value in
    world_listed c.put.result (earlier_states a.earlier.items) a.packages (marks_of a.marks.items) (marks_of c.put.new.marks.items) (rest_of a.stored) (rest_of c.put.new.stored) c.put.ensures.marked.same
    c.args.self.now c.self.view_is (symbol_count (table_now a.packages).0) c.numbering.ensures (symbol_named c.args.symbol) n c.number-owner.ensures
    (λ ps. with_value_by same_number ps j v) (λ ps. with_value ps i v)
    (same_list a.packages a.stored a.marks.items a.sizes.entries c.self.invariant.now c.numbering.ensures (symbol_named c.args.symbol) i n j c.number-owner.ensures c.number-indicator.ensures v)
    c.put.ensures.ok

pub returns-clause-err : goal.returns-clause-err
returns-clause-err c =
    let a = c.self.inside in
    world_same_err c.put.result (earlier_states a.earlier.items) a.packages (marks_of a.marks.items) (marks_of c.put.new.marks.items) (rest_of a.stored) (rest_of c.put.new.stored) c.put.ensures.marked.same
    c.args.self.now c.self.view_is c.put.ensures.err
