use Rattle.std.proofs.Common.{◌≡◌, ◌-◌, ℕ, suc, List, length, position, sym, ap, subst, ◌∙◌, arith}
use Rattle.package_sets.specs.KeptSets.{pair_at, pair_eq}
use Rattle.package_sets.specs.SymbolChains.{second_of, last_below}
use Rattle.package_sets.proofs.Namesakes.{IsLeft, left_first, left_none, left_hit, left_next}
use Rattle.package_sets.proofs.symbols.Symbols.find.Goals as goal

pub loop-init : goal.loop-init
loop-init c =
    let ps : List (ℕ × ℕ) = c.self.inside.pairs in
    let first : c.last-last.result ≡ last_below (second_of ps) c.args.name (length ps) = c.last-last.ensures ∙ c.self.invariant.lasts c.args.name in
    subst (λ (n : ℕ). IsLeft ps c.args.home c.args.name n) (sym first) (left_first ps c.args.home c.args.name)

pub returns-then-last-eq0 : goal.returns-then-last-eq0
returns-then-last-eq0 c =
    let ps : List (ℕ × ℕ) = c.self.inside.pairs in
    let none : c.loop.last ≡ 0 = omega (arith, c.if-last-eq0.true) in
    sym (left_none ps c.args.home c.args.name (subst (λ (n : ℕ). IsLeft ps c.args.home c.args.name n) none c.loop.invariant))
    ∙ ap (position (pair_eq (c.args.home, c.args.name))) c.self.view_is

pub returns-then-at-home : goal.returns-then-at-home
returns-then-at-home c =
    let ps : List (ℕ × ℕ) = c.self.inside.pairs in
    let more : c.loop.last ≡ suc (c.loop.last - 1) = omega (arith, c.if-last-eq0.false) in
    let home : (pair_at ps (c.loop.last - 1)).0 ≡ c.args.home = sym (ap (λ (p : ℕ × ℕ). p.0) c.at.ensures) ∙ (let is : c.at.result.first ≡ c.args.home = grind arith in is) in
    sym (left_hit ps c.args.home c.args.name c.loop.last (c.loop.last - 1) c.loop.invariant more c.distinctness.ensures home)
    ∙ ap (position (pair_eq (c.args.home, c.args.name))) c.self.view_is

pub loop-preserved : goal.loop-preserved
loop-preserved c =
    let ps : List (ℕ × ℕ) = c.self.inside.pairs in
    let place : ℕ = c.loop.last - 1 in
    let more : c.loop.last ≡ suc (c.loop.last - 1) = omega (arith, c.if-last-eq0.false) in
    let within = c.loop.invariant.fits in
    let before : c.before-last.result ≡ last_below (second_of ps) (second_of ps (c.loop.last - 1)) (c.loop.last - 1) =
    c.before-last.ensures ∙ c.self.invariant.befores (c.loop.last - 1) (omega (arith, within, more)) in
    subst (λ (n : ℕ). IsLeft ps c.args.home c.args.name n) (sym before)
    (left_next ps c.args.home c.args.name c.loop.last (c.loop.last - 1) c.loop.invariant more
    (λ home. let is : c.at.result.first ≡ c.args.home = ap (λ (p : ℕ × ℕ). p.0) c.at.ensures ∙ home in grind arith))
