use Rattle.std.proofs.Common.{◌≡◌, ◌<◌, ◌^◌, ◌+◌, ◌++◌, [], ◌∷◌, ℕ, List, length, sym, ap, subst, ◌∙◌, arith}
use Rattle.plist_state.specs.declared.replaced.Replaced.{Replaced}
use Rattle.plist_state.specs.State.{Worlds}
use Rattle.plist_state.specs.MarkedWorlds.{worlds_in, earlier_states, CanBePutBack, AreReplacedParts}
use Rattle.plist_state.proofs.Earlier.{parts, placed, replaced_push}
use Rattle.plist_state.proofs.world.World.put_in_place.Goals as goal

pub invariant_of-self-2 : goal.invariant_of-self-2
invariant_of-self-2 c =
    let a = c.self.inside in
    let other : Replaced = c.into_parts-other.result in
    let there : Replaced = record { packages = c.replace.new.dest; stored = c.replace-2.new.dest; marks = c.replace-3.new.dest; sizes = c.replace-4.new.dest } in
    let is : there ≡ other =
    λ i. record { packages = c.replace.ensures.after i; stored = c.replace-2.ensures.after i; marks = c.replace-3.ensures.after i; sizes = c.replace-4.ensures.after i } in
    let before : Replaced = record { packages = c.replace.result; stored = c.replace-2.result; marks = c.replace-3.result; sizes = c.replace-4.result } in
    let was : before ≡ parts a =
    λ i. record { packages = c.replace.ensures.value i; stored = c.replace-2.ensures.value i; marks = c.replace-3.ensures.value i; sizes = c.replace-4.ensures.value i } in
    let items : c.push_reserved.new.self.items ≡ a.earlier.items ++ parts a ∷ [] = c.push_reserved.ensures.items ∙ (λ i. c.in_ok-reserve.ensures.items i ++ was i ∷ []) in
    let marks : ℕ = a.earlier_marks + c.len.result + 1 in
    let count : marks ≡ a.earlier_marks + length a.marks.items + 1 = omega (arith, c.len.ensures, a.marks.ok.0) in
    let below : marks < 2 ^ 62 = omega (arith, c.if-earlier_marks-ge-MOST_EARLIER_MARKS.false) in
    record {
      now = subst CanBePutBack (sym is) c.into_parts-other.ensures.kept;
      earlier = subst (λ (es : List Replaced). AreReplacedParts es marks) (sym items)
          (replaced_push a.earlier.items a.earlier_marks (parts a) marks c.self.invariant.earlier c.self.invariant.now count below);
    }

pub returns-clause-ok : goal.returns-clause-ok
returns-clause-ok c =
    let a = c.self.inside in
    let other : Replaced = c.into_parts-other.result in
    let there : Replaced = record { packages = c.replace.new.dest; stored = c.replace-2.new.dest; marks = c.replace-3.new.dest; sizes = c.replace-4.new.dest } in
    let is : there ≡ other =
    λ i. record { packages = c.replace.ensures.after i; stored = c.replace-2.ensures.after i; marks = c.replace-3.ensures.after i; sizes = c.replace-4.ensures.after i } in
    let before : Replaced = record { packages = c.replace.result; stored = c.replace-2.result; marks = c.replace-3.result; sizes = c.replace-4.result } in
    let was : before ≡ parts a =
    λ i. record { packages = c.replace.ensures.value i; stored = c.replace-2.ensures.value i; marks = c.replace-3.ensures.value i; sizes = c.replace-4.ensures.value i } in
    let items : c.push_reserved.new.self.items ≡ a.earlier.items ++ parts a ∷ [] = c.push_reserved.ensures.items ∙ (λ i. c.in_ok-reserve.ensures.items i ++ was i ∷ []) in
    let states : worlds_in there ≡ c.args.other = ap worlds_in is ∙ c.into_parts-other.ensures.same in
    let now : ◌≡◌ {A = Worlds} ((worlds_in there).0, earlier_states c.push_reserved.new.self.items ++ (worlds_in there).1) (c.args.other.0, earlier_states (a.earlier.items ++ parts a ∷ []) ++ c.args.other.1) =
    λ i. ((states i).0, earlier_states (items i) ++ (states i).1) in
    now ∙ (λ i. (c.args.other.0, earlier_states (a.earlier.items ++ parts a ∷ []) ++ c.requires i)) ∙ (λ i. (c.args.other.0, placed a c.args.self.now c.self.view_is i))
