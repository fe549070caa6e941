use Rattle.std.proofs.Common.{arith, ◌≡◌, ◌∙◌, codes, refl, ap, map}
use Rattle.lisp_object.specs.Object.{nil, pairs}
use Rattle.lisp_object.specs.Datum.{object_of}
use Rattle.lisp_object.proofs.Properness.{is_proper-Symbol}
use Rattle.reader_tests.proofs.Larger.{no_lists, one_deeper}
use Rattle.reader_tests.proofs.large.too_deep.Goals as goal

pub loop-init : goal.loop-init
loop-init c = rw (c.in_ok-datum.ensures) record {
  object = no_lists;
  proper = is_proper-Symbol (codes "COMMON-LISP") (codes "NIL");
}

pub loop-preserved : goal.loop-preserved
loop-preserved c = record {
  object = c.in_ok-datum-2.ensures.object ∙ ap (λ ds. pairs (map object_of ds) nil) c.in_ok-vec.ensures.items ∙ one_deeper c.loop.datum c.loop.counter c.loop.invariant.object;
  proper = c.in_ok-datum-2.ensures.proper (rw (c.in_ok-vec.ensures.items, c.loop.invariant.proper) refl) refl;
}

pub returns : goal.returns
returns c =
    let all : c.loop.counter ≡ 101 = omega arith in
    rw (c.loop.invariant.proper, c.loop.invariant.object, all) refl
