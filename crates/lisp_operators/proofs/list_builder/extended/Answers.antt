use Rattle.std.proofs.Common.{◌<◌, ◌≤◌, arith}
use Rattle.lisp_object.specs.Datum.{object_of}
use Rattle.lisp_operators.proofs.ListBuilding.{shallow_more, large_more, size_is, objects_more, proper_more}
use Rattle.lisp_operators.proofs.list_builder.extended.Goals as goal

pub returns-then-size-ge-LARGEST_SIZE : goal.returns-then-size-ge-LARGEST_SIZE
returns-then-size-ge-LARGEST_SIZE c = λ xs held.
    let large : 1000000 ≤ c.saturating_add-size.result = omega (arith, c.if-size-ge-LARGEST_SIZE.true) in (
      shallow_more xs (object_of c.args.value) c.requires.depth held.4,
      large_more xs (object_of c.args.value) c.args.size c.size_of.result c.saturating_add-size.result held.2 c.size_of.ensures c.saturating_add-size.ensures large,
    )

pub returns : goal.returns
returns c = λ xs held.
    let small : c.saturating_add-size.result < 1000000 = omega (arith, c.if-size-ge-LARGEST_SIZE.false) in (
      objects_more c.args.values.items c.push.new.self.items c.args.value xs c.in_ok-push.ensures.items held.0,
      proper_more c.args.values.items c.push.new.self.items c.args.value c.in_ok-push.ensures.items held.1 c.requires.value,
      size_is xs (object_of c.args.value) c.args.size c.size_of.result c.saturating_add-size.result held.2 c.size_of.ensures c.saturating_add-size.ensures small,
      small,
      shallow_more xs (object_of c.args.value) c.requires.depth held.4,
    )
