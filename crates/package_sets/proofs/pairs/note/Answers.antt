use Rattle.std.proofs.Common.{◌≡◌, ◌<◌, ◌++◌, ◌∷◌, [], ℕ, Bool, true, false, cond, nat_eq, List, ap, refl, ◌∙◌, length, arith, Result, Ok, Err}
use Rattle.std.specs.Prelude.{OnErr}
use Rattle.package_sets.specs.Groups.{group_at}
use Rattle.package_sets.proofs.Positions.{group_changed}
use Rattle.package_sets.proofs.pairs.note.Goals as goal

on_err : {A E P : Type 0} (r : Result A E) → P → OnErr r P
on_err (Ok x) p = tt
on_err (Err e) p = p

one : {A : Type 0} (b : Bool) (x : A) → cond b x x ≡ x
one true x = refl
one false x = refl

pub returns-in_err-push-2-clause-err : goal.returns-in_err-push-2-clause-err
returns-in_err-push-2-clause-err c =
    let gs = c.loop-alloc.groups.items in
    let within : c.args.first < length gs = omega (arith, c.loop-alloc-test.false, c.len.ensures, c.loop-alloc.groups.ok.0) in
    on_err c.from_residual-in_err-push-2.result (λ f.
    group_changed gs c.args.first c.index_mut-group.result.now c.push-2.new.self (λ l. l) within c.index_mut-group.ensures.value c.in_err-push-2.ensures.items f
    ∙ one (nat_eq c.args.first f) (group_at gs f) ∙ c.loop-alloc.invariant f)

pub returns-clause-ok : goal.returns-clause-ok
returns-clause-ok c = λ f.
    let gs = c.loop-alloc.groups.items in
    let within : c.args.first < length gs = omega (arith, c.loop-alloc-test.false, c.len.ensures, c.loop-alloc.groups.ok.0) in
    group_changed gs c.args.first c.index_mut-group.result.now c.push-2.new.self (λ l. l ++ c.args.position ∷ []) within c.index_mut-group.ensures.value c.in_ok-push-2.ensures.items f
    ∙ ap (λ (l : List ℕ). cond (nat_eq c.args.first f) (l ++ c.args.position ∷ []) l) (c.loop-alloc.invariant f)
