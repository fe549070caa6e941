use Rattle.std.proofs.Common.{◌≡◌, ◌+◌, length, sym, ap, ◌∙◌, arith}
use Rattle.plist_state.specs.State.{Worlds}
use Rattle.plist_state.proofs.Earlier.{marks_in}
use Rattle.plist_state.proofs.world.World.mark_count.Goals as goal

pub returns : goal.returns
returns c =
    let a = c.self.inside in
    let all : length c.args.self.now.1 ≡ a.earlier_marks + length a.marks.items =
    ap (λ (w : Worlds). length w.1) (sym c.self.view_is) ∙ marks_in a c.self.invariant in
    omega (arith, all, c.len.ensures, a.marks.ok.0)
