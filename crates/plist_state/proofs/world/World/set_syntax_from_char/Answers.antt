use Rattle.package_table.specs.Numbers.{table_now}
use Rattle.plist_state.specs.State.{WorldState}
use Rattle.plist_state.specs.MarkedWorlds.{state_in}
use Rattle.plist_state.specs.Views.{rest_of}
use Rattle.plist_state.proofs.KeptWorld.{sound_syntax}
use Rattle.plist_state.proofs.Left.{left_kept, left_marked, left_refused}
use Rattle.plist_state.proofs.world.World.set_syntax_from_char.Goals as goal

pub invariant_of-self : goal.invariant_of-self
invariant_of-self c =
    let s : WorldState = state_in (table_now c.self.inside.packages) (rest_of c.self.inside.stored) in
    let e = c.set_syntax.ensures in
    left_kept c.self.inside c.set_syntax.new.tables c.set_syntax.new.marks c.set_syntax.result e.unchanged e.marked _ e.gives c.self.invariant
    (sound_syntax s c.args.to.now c.args.c c.args.from.now c.args.d c.self.invariant.now.sound c.requires.to)

pub returns-clause-marked : goal.returns-clause-marked
returns-clause-marked c =
    let e = c.set_syntax.ensures in
    left_marked c.self.inside c.set_syntax.new.tables c.set_syntax.new.marks c.set_syntax.result e.unchanged e.marked c.args.self.now c.self.view_is

pub returns-clause-unchanged : goal.returns-clause-unchanged
returns-clause-unchanged c =
    let e = c.set_syntax.ensures in
    left_refused c.self.inside c.set_syntax.new.tables c.set_syntax.new.marks c.set_syntax.result e.unchanged e.marked c.args.self.now c.self.view_is
