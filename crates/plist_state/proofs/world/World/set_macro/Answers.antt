use Rattle.std.proofs.Common.{Ok, sym, subst}
use Rattle.package_table.specs.Table.{keyword}
use Rattle.plist_state.specs.Sound.{IsSymbol}
use Rattle.readtable_core.specs.Tables.{Table}
use Rattle.readtable_core.specs.Changes.{with_character_entry, macro_entry}
use Rattle.package_table.specs.Numbers.{table_now}
use Rattle.plist_state.specs.State.{WorldState, Worlds}
use Rattle.plist_state.specs.MarkedWorlds.{state_in}
use Rattle.plist_state.specs.Views.{rest_of}
use Rattle.plist_state.proofs.KeptWorld.{sound_changed, named_macro}
use Rattle.plist_state.proofs.Left.{left_kept, left_marked, left_refused}
use Rattle.plist_state.proofs.world.World.set_macro.Goals as goal

pub invariant_of-self : goal.invariant_of-self
invariant_of-self c =
    let s : WorldState = state_in (table_now c.self.inside.packages) (rest_of c.self.inside.stored) in
    let e = c.set_macro.ensures in
    let at_home : IsSymbol s.packages (keyword, c.args.function) = subst (λ (w : Worlds). IsSymbol w.0.packages (keyword, c.args.function)) (sym c.self.view_is) c.requires.keyword in
    left_kept c.self.inside c.set_macro.new.tables c.set_macro.new.marks c.set_macro.result e.unchanged e.marked _ e.gives c.self.invariant
    (sound_changed s c.args.name.now (λ (t : Table). Ok (with_character_entry t c.args.c (macro_entry c.args.function c.args.non_terminating))) c.self.invariant.now.sound
    (λ t u named made. named_macro s.packages c.args.c c.args.function c.args.non_terminating t u c.requires.character c.requires.other c.as_bytes.ensures.sound at_home named made))

pub returns-clause-marked : goal.returns-clause-marked
returns-clause-marked c =
    let e = c.set_macro.ensures in
    left_marked c.self.inside c.set_macro.new.tables c.set_macro.new.marks c.set_macro.result e.unchanged e.marked c.args.self.now c.self.view_is

pub returns-clause-unchanged : goal.returns-clause-unchanged
returns-clause-unchanged c =
    let e = c.set_macro.ensures in
    left_refused c.self.inside c.set_macro.new.tables c.set_macro.new.marks c.set_macro.result e.unchanged e.marked c.args.self.now c.self.view_is
