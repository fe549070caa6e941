use Rattle.std.proofs.Common.{ℕ, None, subst}
use Rattle.plist_state.proofs.Sized.{IsSet, forgotten}
use Rattle.plist_state.proofs.sizes.forget.Goals as goal

pub returns : goal.returns
returns c = λ m others.
    let old = c.args.sizes.now.entries in
    let new = c.remove-size.new.self.entries in
    forgotten m c.args.number c.args.indicator old new others (subst (λ (k : ℕ). IsSet old new k None) c.key.ensures c.remove-size.ensures.updates.0)
