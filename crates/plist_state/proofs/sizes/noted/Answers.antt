use Rattle.std.proofs.Common.{ℕ, sym, ap, ◌∙◌, arith}
use Rattle.std.specs.Map.{lookup}
use Rattle.std.specs.BTreeMap.{is_at}
use Rattle.std.specs.Ordering.{nat_cmp}
use Rattle.plist_state.proofs.sizes.noted.Goals as goal

pub returns-in-Some : goal.returns-in-Some
returns-in-Some c = λ m are.
    are c.args.number c.args.indicator c.in-Some.size.now (omega (arith, c.ranges.indicator))
    (ap (λ (k : ℕ). lookup (is_at (nat_cmp k)) c.args.sizes.now.entries) (sym c.key.ensures) ∙ sym c.in-Some.ensures.value)
