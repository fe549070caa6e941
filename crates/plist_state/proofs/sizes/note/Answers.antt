use Rattle.std.proofs.Common.{ℕ, Some, sym, subst, arith}
use Rattle.plist_state.specs.Sizes.{Sizes, AreOtherSizes}
use Rattle.plist_state.proofs.Sized.{IsSet, noted}
use Rattle.plist_state.proofs.sizes.note.Goals as goal

pub returns-then-size-lt-LONG : goal.returns-then-size-lt-LONG
returns-then-size-lt-LONG c = λ m others there. c.forget.ensures m others

pub returns-in-Err : goal.returns-in-Err
returns-in-Err c = λ m others there. c.forget-in-Err.ensures m (subst (λ (es : Sizes). AreOtherSizes m c.args.number c.args.indicator es) (sym c.in-Err.ensures.err) others)

pub returns-in_default : goal.returns-in_default
returns-in_default c = λ m others there.
    let old = c.args.sizes.now.entries in
    let new = c.insert.new.self.entries in
    noted m c.args.number c.args.indicator old new others c.args.size (omega (arith, c.ranges.indicator)) there
    (subst (λ (k : ℕ). IsSet old new k (Some c.args.size)) c.key.ensures c.in_default.ensures.updates.0)
