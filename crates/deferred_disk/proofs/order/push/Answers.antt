use Rattle.std.proofs.Common.{◌≡◌, ◌++◌, MatchResult, ℕ, List, subst}
use Rattle.deferred_disk.proofs.order.push.Goals as goal

pub returns-in-Write : goal.returns-in-Write
returns-in-Write c =
    rw c.in-Write.is
    (subst
    (λ (h : List ℕ). MatchResult c.push_both.result (λ _. c.push_both.new.orders.items ≡ c.args.orders.now.items ++ (h ++ c.in-Write.bytes.now)) (λ _. c.push_both.new.orders.items ≡ c.args.orders.now.items))
    c.head.ensures c.push_both.ensures)
