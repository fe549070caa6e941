use Rattle.std.proofs.Common.{arith, ◌≡◌, refl, sym}
use Rattle.lisp_object.proofs.Objects.{object_of-Vector}
use Rattle.lisp_object.proofs.Properness.{is_proper-Vector}
use Rattle.reader_tests.proofs.Larger.{no_ones, one_more, proper_with_one}
use Rattle.reader_tests.proofs.large.too_large.Goals as goal

pub loop-init : goal.loop-init
loop-init c = rw (c.new-items.ensures) record { objects = sym no_ones; proper = refl }

pub loop-preserved : goal.loop-preserved
loop-preserved c = rw (c.in_ok-push.ensures.ok) record {
  objects = one_more c.loop.items c.loop.counter c.loop.invariant.objects;
  proper = proper_with_one c.loop.items c.loop.invariant.proper;
}

pub returns : goal.returns
returns c =
    let all : c.loop.counter ≡ 1000000 = omega arith in
    rw (is_proper-Vector c.loop.items, c.loop.invariant.proper, object_of-Vector c.loop.items, c.loop.invariant.objects, all) refl
