use Rattle.std.proofs.Common.{◌≡◌, ◌-◌, ℕ, suc, is_some, length, position, sym, ap, subst, ◌∙◌, arith}
use Rattle.package_sets.specs.KeptSets.{Kept, pair_at, pair_eq}
use Rattle.package_sets.specs.SymbolChains.{external_name, last_below}
use Rattle.package_sets.specs.Views.{kept_of}
use Rattle.package_sets.proofs.Seeking.{IsSought, sought_first, sought_end, sought_hit, sought_next}
use Rattle.package_sets.proofs.sets.PackageSets.find_inherited.Goals as goal

pub loop-init : goal.loop-init
loop-init c =
    let first : c.last-last.result ≡ last_below (external_name c.self.inside.symbols c.self.inside.externals) c.args.name (length c.self.inside.externals) = c.last-last.ensures ∙ c.self.invariant.chained.lasts c.args.name in
    subst (λ (k : Kept). IsSought k c.args.owner c.args.name c.last-last.result) c.self.view_is
    (subst (λ (n : ℕ). IsSought (kept_of c.self.inside) c.args.owner c.args.name n) (sym first) (sought_first (kept_of c.self.inside) c.args.owner c.args.name))

pub returns-then-last-eq0 : goal.returns-then-last-eq0
returns-then-last-eq0 c =
    let none : c.loop.last ≡ 0 = omega (arith, c.if-last-eq0.true) in
    sought_end c.args.self.now c.args.owner c.args.name (subst (λ (n : ℕ). IsSought c.args.self.now c.args.owner c.args.name n) none c.loop.invariant)

pub at-requires : goal.at-requires
at-requires c =
    let size : length c.self.inside.externals ≡ length c.args.self.now.externals = ap (λ (k : Kept). length k.externals) c.self.view_is in
    omega (arith, c.loop.invariant.fits, size, c.if-last-eq0.false)

pub before-last-requires : goal.before-last-requires
before-last-requires c =
    let size : length c.self.inside.externals ≡ length c.args.self.now.externals = ap (λ (k : Kept). length k.externals) c.self.view_is in
    omega (arith, c.loop.invariant.fits, size, c.self.invariant.chained.as_many, c.if-last-eq0.false)

pub returns-then-is_used : goal.returns-then-is_used
returns-then-is_used c =
    let more : c.loop.last ≡ suc (c.loop.last - 1) = omega (arith, c.if-last-eq0.false) in
    let here = c.at.ensures ∙ ap (λ (k : Kept). pair_at k.externals (c.loop.last - 1)) c.self.view_is in
    sought_hit c.args.self.now c.args.owner c.args.name c.loop.last (c.loop.last - 1) c.loop.invariant more
    (ap (λ (e : ℕ × ℕ). is_some (position (pair_eq (c.args.owner, e.0)) c.args.self.now.uses)) (sym here) ∙ sym c.is_used.ensures ∙ c.if-is_used.true)

pub loop-preserved : goal.loop-preserved
loop-preserved c =
    let more : c.loop.last ≡ suc (c.loop.last - 1) = omega (arith, c.if-last-eq0.false) in
    let here = c.at.ensures ∙ ap (λ (k : Kept). pair_at k.externals (c.loop.last - 1)) c.self.view_is in
    let size : length c.self.inside.externals ≡ length c.args.self.now.externals = ap (λ (k : Kept). length k.externals) c.self.view_is in
    let before : c.before-last.result ≡ last_below (external_name c.args.self.now.symbols c.args.self.now.externals) (external_name c.args.self.now.symbols c.args.self.now.externals (c.loop.last - 1)) (c.loop.last - 1) =
    c.before-last.ensures ∙ c.self.invariant.chained.befores (c.loop.last - 1) (omega (arith, c.loop.invariant.fits, size, more))
    ∙ ap (λ (k : Kept). last_below (external_name k.symbols k.externals) (external_name k.symbols k.externals (c.loop.last - 1)) (c.loop.last - 1)) c.self.view_is in
    subst (λ (n : ℕ). IsSought c.args.self.now c.args.owner c.args.name n) (sym before)
    (sought_next c.args.self.now c.args.owner c.args.name c.loop.last (c.loop.last - 1) c.loop.invariant more
    (ap (λ (e : ℕ × ℕ). is_some (position (pair_eq (c.args.owner, e.0)) c.args.self.now.uses)) (sym here) ∙ sym c.is_used.ensures ∙ c.if-is_used.false))
