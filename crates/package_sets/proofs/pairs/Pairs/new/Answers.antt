use Rattle.std.proofs.Common.{ap, sym, ◌∙◌, ℕ, List, map, length, lit<}
use Rattle.std.specs.Global.{Vec}
use Rattle.package_sets.specs.declared.pair.Pair.{Pair}
use Rattle.package_sets.specs.KeptSets.{positions_of}
use Rattle.package_sets.specs.Groups.{group_at, pair_of}
use Rattle.package_sets.proofs.Positions.{no_positions}
use Rattle.package_sets.proofs.pairs.Pairs.new.Goals as goal

pub invariant_of-result : goal.invariant_of-result
invariant_of-result c =
    let none = c.with_hasher.ensures.empty in
    let no_groups = c.new.ensures.items in
    record {
      few = let size = ap length none in rw none (lit< tt);
      grouped = λ f. ap (λ (gs : List (Vec ℕ)). group_at gs f) no_groups ∙ sym (no_positions f) ∙ ap (λ (ps : List Pair). positions_of f (map pair_of ps)) (sym none);
    }
