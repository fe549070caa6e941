use Rattle.std.proofs.Common.{◌==◌, ℕ, IsTrue, ap, refl, subst, sym, ◌∙◌, length}
use Rattle.std.proofs.lemmas.Bool.{eqb-true}
use Rattle.deferred_disk.proofs.Pending.{no_bytes, none_pending}
use Rattle.deferred_disk.proofs.disk.DeferredDisk.is_done.Goals as goal

pub returns : goal.returns
returns c =
    let orders = c.args.self.now.past.calls.pending in
    let same = ap length c.orders.ensures in (
      λ empty. none_pending orders (sym same ∙ eqb-true _ 0 (subst IsTrue c.is_empty.ensures empty)),
      λ none. subst IsTrue (sym c.is_empty.ensures) (subst (λ (n : ℕ). IsTrue (n == 0)) (sym (same ∙ no_bytes orders none)) refl),
    )
