use Rattle.std.proofs.Common.{length, false, true, refl, sym, ap, ◌∙◌, arith}
use Rattle.lisp_object.specs.declared.datum.Datum.TheViews.{sized-List, the_lemmas}
use Rattle.lisp_object.proofs.datum.Datum.TheLaws.{the_size}
use Rattle.lisp_object.specs.Datum.{object_of}
use Rattle.lisp_operators.proofs.Shapes.{pair_at}
use Rattle.value_functions.specs.Equality.{is_equal}
use Rattle.value_functions.proofs.ListParts.{parts_items}
use Rattle.value_functions.proofs.EqualLists.{unequal_lengths, no_list, pair_and_other, tail_ends, equal_lists, nil_end_alone}
use Rattle.value_functions.proofs.equals.+equal.Goals as goal

pub are_equal-returns-then-items-others : goal.are_equal-returns-then-items-others
are_equal-returns-then-items-others t c =
    λ s v no_s no_v. unequal_lengths c.args.items.now c.args.others.now s v no_s no_v
    (omega (arith, c.if-items-others.true, ap length c.as_slice-items.ensures, ap length c.as_slice-others.ensures))

pub is_equal-are_equal-requires : goal.is_equal-are_equal-requires
is_equal-are_equal-requires t c = (
  grind (arith, the_lemmas, sized-List c.in-List.items c.in-List.tail, ap the_size c.in-List.is),
  (
    parts_items c.args.a.now c.in-List.items c.in-List.items c.in-List.tail c.in-List.is refl c.requires.first,
    parts_items c.args.b.now c.in-List-b.others c.in-List-b.others c.in-List-b.end c.in-List-b.is refl c.requires.second,
  ),
)

pub is_equal-returns-then-not-are_equal : goal.is_equal-returns-then-not-are_equal
is_equal-returns-then-not-are_equal t c =
    equal_lists c.args.a.now c.args.b.now c.in-List.items c.in-List-b.others c.in-List.tail c.in-List-b.end false c.in-List.is c.in-List-b.is
    c.requires.first c.requires.second c.if-not-are_equal.ensures

pub is_equal-ends_equal-requires : goal.is_equal-ends_equal-requires
is_equal-ends_equal-requires t c = (
  grind (arith, the_lemmas, sized-List c.in-List.items c.in-List.tail, ap the_size c.in-List.is),
  (
    tail_ends c.args.a.now c.in-List.items c.in-List.tail c.in-List.is c.requires.first,
    tail_ends c.args.b.now c.in-List-b.others c.in-List-b.end c.in-List-b.is c.requires.second,
  ),
)

pub is_equal-returns-else-not-are_equal : goal.is_equal-returns-else-not-are_equal
is_equal-returns-else-not-are_equal t c =
    c.ends_equal.ensures
    ∙ equal_lists c.args.a.now c.args.b.now c.in-List.items c.in-List-b.others c.in-List.tail c.in-List-b.end true c.in-List.is c.in-List-b.is
    c.requires.first c.requires.second c.if-not-are_equal.ensures

pub is_equal-returns-in_default-b : goal.is_equal-returns-in_default-b
is_equal-returns-in_default-b t c =
    pair_at (λ x. is_equal x (object_of c.args.b.now)) false c.args.a.now c.in-List.items c.in-List.tail
    (pair_and_other (object_of c.args.a.now) (object_of c.args.b.now) (no_list c.args.b.now c.in_default-b.not-List)) c.in-List.is c.requires.first

pub ends_equal-returns-in-Some-end-2 : goal.ends_equal-returns-in-Some-end-2
ends_equal-returns-in-Some-end-2 t c =
    nil_end_alone c.args.tail.now c.args.end.now c.in-Some-end-2.field-0 c.in-None.is c.in-Some-end-2.is c.requires.second
