use Rattle.std.proofs.Common.{ℕ, List, length, sym, ap, subst, ◌∙◌}
use Rattle.package_sets.specs.SymbolChains.{second_of, AreChainsOfNames}
use Rattle.package_sets.proofs.Chaining.{chained_kept, chained_second}
use Rattle.package_sets.proofs.symbols.Symbols.push.Goals as goal

pub invariant_of-self-2 : goal.invariant_of-self-2
invariant_of-self-2 c =
    let ps : List (ℕ × ℕ) = c.self.inside.pairs in
    let before = chained_kept (second_of ps) (length ps) c.self.inside.chains c.reserve.new.self c.reserve.ensures.lasts c.reserve.ensures.befores c.self.invariant in
    subst (λ (qs : List (ℕ × ℕ)). AreChainsOfNames (second_of qs) (length qs) c.push_reserved.new.self) (sym c.in_ok-push.ensures.ok)
    (chained_second ps (c.args.home, c.args.name) c.len.result c.reserve.new.self c.push_reserved.new.self
    (c.len.ensures ∙ ap (λ (qs : List (ℕ × ℕ)). length qs) c.in_ok-push.ensures.ok) c.push_reserved.ensures.lasts c.push_reserved.ensures.befores before)
