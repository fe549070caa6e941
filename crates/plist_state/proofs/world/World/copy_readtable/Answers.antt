use Rattle.std.proofs.Common.{sym, subst}
use Rattle.package_table.specs.Table.{keyword}
use Rattle.plist_state.specs.Sound.{IsSymbol}
use Rattle.package_table.specs.Numbers.{table_now}
use Rattle.plist_state.specs.State.{WorldState, Worlds}
use Rattle.plist_state.specs.MarkedWorlds.{state_in}
use Rattle.plist_state.specs.Views.{rest_of}
use Rattle.plist_state.proofs.KeptWorld.{sound_copied}
use Rattle.plist_state.proofs.Left.{left_kept, left_marked, left_refused}
use Rattle.plist_state.proofs.world.World.copy_readtable.Goals as goal

pub invariant_of-self : goal.invariant_of-self
invariant_of-self c =
    let s : WorldState = state_in (table_now c.self.inside.packages) (rest_of c.self.inside.stored) in
    let e = c.copy.ensures in
    let at_home : IsSymbol s.packages (keyword, c.args.to.now) = subst (λ (w : Worlds). IsSymbol w.0.packages (keyword, c.args.to.now)) (sym c.self.view_is) c.requires in
    left_kept c.self.inside c.copy.new.tables c.copy.new.marks c.copy.result e.unchanged e.marked _ e.gives c.self.invariant
    (sound_copied s c.args.from.now c.args.to.now c.self.invariant.now.sound at_home)

pub returns-clause-marked : goal.returns-clause-marked
returns-clause-marked c =
    let e = c.copy.ensures in
    left_marked c.self.inside c.copy.new.tables c.copy.new.marks c.copy.result e.unchanged e.marked c.args.self.now c.self.view_is

pub returns-clause-unchanged : goal.returns-clause-unchanged
returns-clause-unchanged c =
    let e = c.copy.ensures in
    left_refused c.self.inside c.copy.new.tables c.copy.new.marks c.copy.result e.unchanged e.marked c.args.self.now c.self.view_is
