use Rattle.std.proofs.Common.{◌≡◌, ◌+◌, ◌++◌, replicate, append-nil, refl, sym, ap, ◌∙◌, arith}
use Rattle.std_macros.proofs.Repeating.{one_copy_more}
use Rattle.std_macros.proofs.vectors.repeated.Goals as goal

pub loop-init : goal.loop-init
loop-init c = record { same = refl; so_far = sym (append-nil c.args.front.items) }

pub loop-preserved : goal.loop-preserved
loop-preserved c = record {
  same = c.loop.invariant.same;
  so_far = c.in_ok-push.ensures.items
      ∙ one_copy_more c.args.front.items c.loop.items.items c.args.last _ c.loop.counter c.loop.invariant.so_far (c.in_ok-copy.ensures ∙ c.loop.invariant.same);
}

pub returns : goal.returns
returns c =
    let all : c.loop.counter ≡ c.args.copies = omega arith in
    c.from_vec.ensures ∙ c.in_ok-push-2.ensures.items
    ∙ one_copy_more c.args.front.items c.loop.items.items c.args.last _ c.loop.counter c.loop.invariant.so_far c.loop.invariant.same
    ∙ ap (λ n. c.args.front.items ++ replicate (n + 1) c.args.last) all
