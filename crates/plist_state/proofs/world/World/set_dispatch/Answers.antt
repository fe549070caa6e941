use Rattle.std.proofs.Common.{sym, subst}
use Rattle.package_table.specs.Table.{keyword}
use Rattle.plist_state.specs.Sound.{IsSymbol}
use Rattle.readtable_core.specs.Tables.{Table}
use Rattle.plist_state.specs.Changes.{with_sub_function}
use Rattle.package_table.specs.Numbers.{table_now}
use Rattle.plist_state.specs.State.{WorldState, Worlds}
use Rattle.plist_state.specs.MarkedWorlds.{state_in}
use Rattle.plist_state.specs.Views.{rest_of}
use Rattle.plist_state.proofs.KeptWorld.{sound_changed, named_dispatched}
use Rattle.plist_state.proofs.Left.{left_kept, left_marked, left_refused}
use Rattle.plist_state.proofs.world.World.set_dispatch.Goals as goal

pub invariant_of-self : goal.invariant_of-self
invariant_of-self c =
    let s : WorldState = state_in (table_now c.self.inside.packages) (rest_of c.self.inside.stored) in
    let e = c.set_dispatch.ensures in
    let at_home : IsSymbol s.packages (keyword, c.args.function) = subst (λ (w : Worlds). IsSymbol w.0.packages (keyword, c.args.function)) (sym c.self.view_is) c.requires.keyword in
    left_kept c.self.inside c.set_dispatch.new.tables c.set_dispatch.new.marks c.set_dispatch.result e.unchanged e.marked _ e.gives c.self.invariant
    (sound_changed s c.args.name.now (λ (t : Table). with_sub_function t c.args.c c.args.sub c.args.function) c.self.invariant.now.sound
    (λ t u named made. named_dispatched s.packages c.args.c c.args.sub c.args.function t u c.requires.character c.requires.sub_character c.requires.other c.as_bytes.ensures.sound at_home named made))

pub returns-clause-marked : goal.returns-clause-marked
returns-clause-marked c =
    let e = c.set_dispatch.ensures in
    left_marked c.self.inside c.set_dispatch.new.tables c.set_dispatch.new.marks c.set_dispatch.result e.unchanged e.marked c.args.self.now c.self.view_is

pub returns-clause-unchanged : goal.returns-clause-unchanged
returns-clause-unchanged c =
    let e = c.set_dispatch.ensures in
    left_refused c.self.inside c.set_dispatch.new.tables c.set_dispatch.new.marks c.set_dispatch.result e.unchanged e.marked c.args.self.now c.self.view_is
