use Rattle.std.proofs.Common.{◌≡◌, ◌++◌, ◌∷◌, [], ℕ, List, cond, nat_eq, sym, ap, subst, ◌∙◌, map, length, position, arith, if◌then◌else◌}
use Rattle.std.specs.Prelude.{None}
use Rattle.std.specs.List.{list_any}
use Rattle.std.proofs.lemmas.List.{map-append, length-map, length_push}
use Rattle.package_sets.specs.declared.pair.Pair.{Pair}
use Rattle.package_sets.specs.KeptSets.{pair_eq}
use Rattle.package_sets.specs.Groups.{group_at, pair_of, ArePositionsGrouped}
use Rattle.package_sets.proofs.Places.{position-map, none_any}
use Rattle.package_sets.proofs.Positions.{grouped_push}
use Rattle.package_sets.proofs.pairs.Pairs.push.Goals as goal

-- the pairs after one is inserted that was not there
inserted : (ks : List Pair) (p : Pair) → position (pair_eq (pair_of p)) (map pair_of ks) ≡ None
    → map pair_of (if list_any (λ k. pair_eq (pair_of p) (pair_of k)) ks then ks else ks ++ p ∷ []) ≡ map pair_of ks ++ pair_of p ∷ []
inserted ks p none =
    let nowhere = none_any (λ (k : Pair). pair_eq (pair_of p) (pair_of k)) ks (sym (position-map pair_of (pair_eq (pair_of p)) ks) ∙ none) in
    ap (λ b. map pair_of (if b then ks else ks ++ p ∷ [])) nowhere ∙ map-append pair_of ks (p ∷ [])

pub invariant_of-self-2 : goal.invariant_of-self-2
invariant_of-self-2 c =
    let ks = c.self.inside.set.keys in
    let gs = c.self.inside.groups.items in
    let pair : Pair = record { first = c.args.first; second = c.args.second } in
    let none : position (pair_eq (pair_of pair)) (map pair_of ks) ≡ None = ap (position (pair_eq (pair_of pair))) c.self.view_is ∙ c.requires in
    let read : map pair_of c.insert_full.new.self.keys ≡ map pair_of ks ++ pair_of pair ∷ [] =
    ap (map pair_of) (c.in_default.ensures.keys ∙ ap (λ (l : List Pair). if list_any (λ k. pair_eq (pair_of pair) (pair_of k)) l then l else l ++ pair ∷ []) c.in_ok-reserve.ensures.keys) ∙ inserted ks pair none in
    let number : c.len-len.result ≡ length (map pair_of ks) = c.len-len.ensures.len ∙ sym (length-map ks pair_of) in
    record {
      few = omega (arith, ap length read, length_push (map pair_of ks) (pair_of pair), number, c.if-len.false);
      grouped = subst (ArePositionsGrouped c.note.new.groups.items) (sym read) (grouped_push gs c.note.new.groups.items (map pair_of ks) (pair_of pair) c.self.invariant.grouped
          (λ f. c.in_ok-note.ensures.ok f ∙ ap (λ n. cond (nat_eq c.args.first f) (group_at gs f ++ n ∷ []) (group_at gs f)) number));
    }

pub returns-clause-ok : goal.returns-clause-ok
returns-clause-ok c =
    let ks = c.self.inside.set.keys in
    let pair : Pair = record { first = c.args.first; second = c.args.second } in
    let none : position (pair_eq (pair_of pair)) (map pair_of ks) ≡ None = ap (position (pair_eq (pair_of pair))) c.self.view_is ∙ c.requires in
    ap (map pair_of) (c.in_default.ensures.keys ∙ ap (λ (l : List Pair). if list_any (λ k. pair_eq (pair_of pair) (pair_of k)) l then l else l ++ pair ∷ []) c.in_ok-reserve.ensures.keys)
    ∙ inserted ks pair none ∙ ap (λ (l : List (ℕ × ℕ)). l ++ pair_of pair ∷ []) c.self.view_is
