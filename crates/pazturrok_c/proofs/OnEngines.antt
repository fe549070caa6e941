-- What a call does to the engine of a slot, from what it did to the engine that it took out and put back.
use Rattle.std.proofs.Common.{◌≡◌, ℕ, Option, Some, sym, subst}
use Rattle.pazturrok_c.specs.EngineCalls.{OnEngine}
use Rattle.pazturrok_c.specs.declared.engine.Engine.{Engine}

pub engine_there : (old new : Engine) (found left : Option Engine) (number : ℕ) (Does : Engine → Engine → Type 0) → Some old ≡ found → left ≡ Some new → Does old new → OnEngine found left number Does
engine_there old new found left number Does was is does =
    subst (λ (o : Option Engine). OnEngine o left number Does) was (subst (λ (o : Option Engine). OnEngine (Some old) o number Does) (sym is) does)
