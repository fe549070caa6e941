use Rattle.std.proofs.Common.{ℕ, All, List, ap, subst, ◌∙◌}
use Rattle.std.specs.Borrow.{Bor}
use Rattle.std.proofs.lemmas.List.{take_all}
use Rattle.package_table.specs.Table.{Table, IsPresent}
use Rattle.package_table.proofs.Growing.{grows_both}
use Rattle.plist_state.specs.State.{Worlds}
use Rattle.plist_state.specs.Changes.{with_packages}
use Rattle.snapshot_lines.specs.QuotedTexts.{unescaped}
use Rattle.snapshot_text.proofs.Begins.{one_more}
use Rattle.snapshot_text.proofs.own_parts.intern_each.Goals as goal

pub loop-name-preserved : goal.loop-name-preserved
loop-name-preserved c =
    let u : Table = c.intern_one.new.world.0.packages in
    let i = c.loop-name.name-index in
    record {
      there = λ s sound part here lisp own.
          let now = c.loop-name.invariant.there s sound part here lisp own in
          let one = c.in_ok-intern_one.ensures.there s sound now.0 (c.loop-name.invariant.grows.packages c.args.owner.now here) lisp (own i _ c.loop-name-test.true) in (
            one.0,
            one_more (λ (b : Bor (List ℕ)). IsPresent c.loop-name.world.0.packages c.args.owner.now (unescaped b.now) c.args.owner.now)
                (λ (b : Bor (List ℕ)). IsPresent u c.args.owner.now (unescaped b.now) c.args.owner.now) c.args.names.now i _ c.loop-name-test.true
                (λ b. c.in_ok-intern_one.ensures.grows.homes c.args.owner.now (unescaped b.now) c.args.owner.now) now.1 one.1,
          );
      rest = c.intern_one.ensures.rest ∙ ap (λ (w : Worlds). (with_packages w.0 u, w.1)) c.loop-name.invariant.rest;
      grows = grows_both c.args.world.now.0.packages c.loop-name.world.0.packages u c.loop-name.invariant.grows c.intern_one.ensures.grows;
    }

pub returns-clause-there : goal.returns-clause-there
returns-clause-there c = λ s sound part here lisp own.
    let now = c.loop-name.invariant.there s sound part here lisp own in
    (now.0, subst (λ (xs : List (Bor (List ℕ))). All (λ b. IsPresent c.loop-name.world.0.packages c.args.owner.now (unescaped b.now) c.args.owner.now) xs) (take_all c.loop-name.name-index c.args.names.now c.loop-name-test.false) now.1)
