use Rattle.std.proofs.Common.{◌≡◌, ◌-◌, ◌++◌, ◌∷◌, [], ℕ, ap, subst, ◌∙◌, map, length, take, arith}
use Rattle.std.proofs.lemmas.List.{map-append, length_push}
use Rattle.package_sets.specs.Groups.{pair_of, ArePositionsGrouped}
use Rattle.package_sets.proofs.Positions.{last_there, grouped_pop, group_changed}
use Rattle.package_sets.proofs.pairs.Pairs.pop.Goals as goal

pub index_mut-group-requires : goal.index_mut-group-requires
index_mut-group-requires c =
    let ps = map pair_of c.pop.new.self.keys in
    let p = pair_of c.in-Some.last in
    let is : map pair_of c.self.inside.set.keys ≡ ps ++ p ∷ [] = ap (map pair_of) c.in-Some.ensures.keys ∙ map-append pair_of c.pop.new.self.keys (c.in-Some.last ∷ []) in
    let there = last_there c.self.inside.groups.items ps p (subst (ArePositionsGrouped c.self.inside.groups.items) is c.self.invariant.grouped) in
    omega (arith, there, c.self.inside.groups.ok.0)

pub invariant_of-self : goal.invariant_of-self
invariant_of-self c =
    let gs = c.self.inside.groups.items in
    let ps = map pair_of c.pop.new.self.keys in
    let p = pair_of c.in-Some.last in
    let v = c.index_mut-group.result.now in
    let is : map pair_of c.self.inside.set.keys ≡ ps ++ p ∷ [] = ap (map pair_of) c.in-Some.ensures.keys ∙ map-append pair_of c.pop.new.self.keys (c.in-Some.last ∷ []) in
    let before = subst (ArePositionsGrouped gs) is c.self.invariant.grouped in
    let rest : c.pop-position.new.self.items ≡ take (length v.items - 1) v.items = c.pop-position.ensures.rest ∙ ap (λ (n : ℕ). take (n - 1) v.items) v.ok.0 in
    let changed = group_changed gs p.0 v c.pop-position.new.self (λ l. take (length l - 1) l) (last_there gs ps p before) c.index_mut-group.ensures.value rest in
    record {
      few = omega (arith, c.self.invariant.few, ap length is, length_push ps p);
      grouped = grouped_pop gs _ ps p before changed;
    }
