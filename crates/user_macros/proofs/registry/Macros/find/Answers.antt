use Rattle.std.proofs.Common.{sym, ◌∙◌}
use Rattle.user_macros.proofs.Found.{found_here, found_nowhere}
use Rattle.user_macros.proofs.registry.Macros.find.Goals as goal

pub returns-then-eq-clause-found : goal.returns-then-eq-clause-found
returns-then-eq-clause-found g c =
    found_here (λ s. s.name) c.args.self.now.stored.items c.deref-stored-items.result.now c.loop-stored.stored-index c.stored-item.result
    c.args.name c.deref-stored-items.ensures.value c.loop-stored-test.true c.stored-item.is (sym c.eq.ensures ∙ c.if-eq.true)

pub returns-clause-found : goal.returns-clause-found
returns-clause-found g c =
    found_nowhere (λ s. s.name) c.args.self.now.stored.items c.deref-stored-items.result.now c.loop-stored.stored-index c.args.name
    c.deref-stored-items.ensures.value c.loop-stored-test.false c.loop-stored.invariant
