-- The text after one item more.
use Rattle.std.proofs.Common.{◌∙◌, ◌++◌, [], ap, arith, codes}
use Rattle.std.specs.Prelude.{◌==◌, if◌then◌else◌}
use Rattle.lisp_object.specs.declared.datum.Datum.TheViews.{sized-List, sized-Vector, the_lemmas}
use Rattle.lisp_object.proofs.datum.Datum.TheLaws.{the_size}
use Rattle.lisp_object.specs.Datum.{object_of}
use Rattle.canon_printer.specs.Printed.{printed, printed_prefix}
use Rattle.canon_printer.proofs.Lists.{written_items_one_more}
use Rattle.lisp_object.proofs.ProperLists.{proper_list_items, proper_list_tail, proper_vector_items}
use Rattle.canon_printer.proofs.printer.+writing.Goals as goal

pub write-write_items-requires : goal.write-write_items-requires
write-write_items-requires t c = (
  grind (arith, the_lemmas, sized-List c.in-List.items c.in-List.tail, ap the_size c.in-List.is),
  (proper_list_items c.args.datum.now c.in-List.items c.in-List.tail c.in-List.is c.requires.proper, c.requires.known),
)

pub write-write_tail-requires : goal.write-write_tail-requires
write-write_tail-requires t c = (
  grind (arith, the_lemmas, sized-List c.in-List.items c.in-List.tail, ap the_size c.in-List.is),
  (proper_list_tail c.args.datum.now c.in-List.items c.in-List.tail c.in-List.is c.requires.proper, c.requires.known),
)

pub write-write_items-requires-in-Vector : goal.write-write_items-requires-in-Vector
write-write_items-requires-in-Vector t c = (
  omega (arith, sized-Vector c.in-Vector.items, ap the_size c.in-Vector.is),
  (proper_vector_items c.args.datum.now c.in-Vector.items c.in-Vector.is c.requires.proper, c.requires.known),
)

pub write_items-loop-i-preserved : goal.write_items-loop-i-preserved
write_items-loop-i-preserved t c =
    c.in_ok-write.ensures
    ∙ ap (λ s. s ++ printed c.args.packages.now.0 c.args.current.now (object_of c.index-items-i.result)) (c.in_ok-write_space.ensures ∙ ap (λ s. s ++ (if c.loop-i.i == 0 then [] else codes " ")) c.loop-i.invariant)
    ∙ written_items_one_more (printed_prefix c.args.packages.now.0 c.args.current.now) c.args.text.now.items c.as_slice-items.result.now c.loop-i.i c.index-items-i.result c.loop-i-test.true c.index-items-i.is
