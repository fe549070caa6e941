use Rattle.std.proofs.Common.{◌≡◌, ◌++◌, [], ◌∷◌, length, take, refl, sym, ◌∙◌, arith}
use Rattle.std.specs.List.{slice_get}
use Rattle.plist_state.specs.State.{Worlds}
use Rattle.plist_state.proofs.Marking.{first_marks, this_mark, gone_back}
use Rattle.plist_state.proofs.Earlier.{arrived, nearer}
use Rattle.plist_state.proofs.world.World.back_to.Goals as goal

pub loop-self-init : goal.loop-self-init
loop-self-init c = ([], refl, omega (arith, c.requires))

pub loop-self-preserved : goal.loop-self-preserved
loop-self-preserved c =
    let before : Worlds = c.args.self.now in
    nearer c.args.mark (before.0, before.1 ++ before.0 ∷ []) c.loop-self.self c.go_back.new.self c.loop-self.invariant c.go_back.ensures

pub returns-clause-past : goal.returns-clause-past
returns-clause-past c =
    let w : Worlds = c.loop-self.self in
    let count : length w.1 ≡ c.args.mark = omega (arith, c.loop-self.invariant.2, c.mark_count.ensures, c.loop-self-test.false) in
    let there = arrived c.args.mark c.args.self.now w c.loop-self.invariant count c.requires in
    sym ((λ i. take (sym count i) (there.1 i)) ∙ first_marks w.1 w.0 there.0)

pub returns-clause-now : goal.returns-clause-now
returns-clause-now c =
    let w : Worlds = c.loop-self.self in
    let count : length w.1 ≡ c.args.mark = omega (arith, c.loop-self.invariant.2, c.mark_count.ensures, c.loop-self-test.false) in
    let there = arrived c.args.mark c.args.self.now w c.loop-self.invariant count c.requires in
    (λ i. slice_get (there.1 i) (sym count i)) ∙ this_mark w.1 w.0 there.0

pub returns-clause-whole : goal.returns-clause-whole
returns-clause-whole c = λ w later is count. gone_back w c.loop-self.self later c.args.self.now.1 c.args.mark (returns-clause-past c) (returns-clause-now c) is count
