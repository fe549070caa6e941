use Rattle.std.proofs.Common.{ℕ, List, [], length, get_or, ap, ◌∙◌, arith}
use Rattle.std.proofs.lemmas.List.{get_or_past}
use Rattle.package_sets.specs.SymbolChains.{last_below}
use Rattle.package_sets.proofs.chains.Chains.new.Goals as goal

pub returns : goal.returns
unfolding last_below
returns c names = record {
  lasts = λ j. ap (λ (l : List ℕ). get_or l j 0) c.new.ensures.items ∙ get_or_past [] j 0 (omega arith);
  as_many = ap (λ (l : List ℕ). length l) c.new-2.ensures.items;
  befores = λ x less. absurd (omega (arith, less));
}
