use Rattle.std.proofs.Common.{◌≡◌, ◌/◌, ◌+◌, ◌-◌, ◌++◌, map, set, suc, not, sym, ap, ◌∙◌, arith}
use Rattle.property_rows.specs.Slots.{is_gone, property_in, slot_shown}
use Rattle.property_rows.proofs.Counted.{tree-any, tree-whole, tree_fits}
use Rattle.property_rows.proofs.Turned.{shown-length, lengths, later, count_fits, count_some, front_at, here_at, after_at, in_front_turned, here_turned, behind_turned}
use Rattle.property_rows.proofs.tree.+turn.Goals as goal

pub returns-then-slots-half-clause-tree : goal.returns-then-slots-half-clause-tree
returns-then-slots-half-clause-tree t c =
    let same = shown-length c.args.slots.now c.turn.new.slots _ _ c.turn.ensures.shown in
    let fits = tree_fits c.args.size c.args.slots.now c.requires.tree in
    tree-any (c.args.size / 2) c.args.size c.turn.new.slots (tree-whole c.args.size c.args.slots.now c.requires.tree) (omega (arith, same, fits)) c.turn.ensures.tree

pub changed-here-requires-clause-more : goal.changed-here-requires-clause-more
changed-here-requires-clause-more t c = λ _. count_fits c.args.size c.args.slots.now c.split_at_mut-front.result.0.now c.in-Some.here.now c.in-Some.back.now c.split_at_mut-front.ensures.front_len (c.split_at_mut-front.ensures.value ∙ ap (λ l. c.split_at_mut-front.result.0.now ++ l) c.in-Some.ensures.cases.0) c.requires.tree c.requires.few

pub changed-here-requires-clause-less : goal.changed-here-requires-clause-less
changed-here-requires-clause-less t c = λ back.
    count_some c.args.size c.args.slots.now c.split_at_mut-front.result.0.now c.in-Some.here.now c.in-Some.back.now c.split_at_mut-front.ensures.front_len (c.split_at_mut-front.ensures.value ∙ ap (λ l. c.split_at_mut-front.result.0.now ++ l) c.in-Some.ensures.cases.0) c.requires.tree c.args.place (omega (arith, c.if-place-half.true, c.split_at_mut-front.ensures.front_len))
    (ap is_gone (sym (front_at c.args.size c.args.slots.now c.split_at_mut-front.result.0.now c.in-Some.here.now c.in-Some.back.now c.split_at_mut-front.ensures.front_len (c.split_at_mut-front.ensures.value ∙ ap (λ l. c.split_at_mut-front.result.0.now ++ l) c.in-Some.ensures.cases.0) c.requires.tree c.args.place c.if-place-half.true)) ∙ c.requires.here ∙ ap not back)

pub turn-requires-else-place-half-2 : goal.turn-requires-else-place-half-2
turn-requires-else-place-half-2 t c =
    let long = lengths c.args.size c.args.slots.now c.split_at_mut-front.result.0.now c.in-Some.here.now c.in-Some.back.now c.split_at_mut-front.ensures.front_len (c.split_at_mut-front.ensures.value ∙ ap (λ l. c.split_at_mut-front.result.0.now ++ l) c.in-Some.ensures.cases.0) c.requires.tree in
    let fits = tree_fits c.args.size c.args.slots.now c.requires.tree in
    let past : c.args.place ≡ suc (c.args.size / 2) + (c.args.place - c.args.size / 2 - 1) = omega (arith, c.if-place-half.false, c.if-place-half-2.false) in (
      omega (arith, long, fits, c.decreases),
      (
        later c.args.size c.args.slots.now c.split_at_mut-front.result.0.now c.in-Some.here.now c.in-Some.back.now c.split_at_mut-front.ensures.front_len (c.split_at_mut-front.ensures.value ∙ ap (λ l. c.split_at_mut-front.result.0.now ++ l) c.in-Some.ensures.cases.0) c.requires.tree,
        (
          omega (arith, past, long, c.requires.place),
          (
            omega (arith, long, c.requires.few),
            ap is_gone (sym (after_at c.args.size c.args.slots.now c.split_at_mut-front.result.0.now c.in-Some.here.now c.in-Some.back.now c.split_at_mut-front.ensures.front_len (c.split_at_mut-front.ensures.value ∙ ap (λ l. c.split_at_mut-front.result.0.now ++ l) c.in-Some.ensures.cases.0) c.requires.tree c.args.place (c.args.place - c.args.size / 2 - 1) past)) ∙ c.requires.here,
          ),
        ),
      ),
    )

pub returns-then-place-half-clause-tree : goal.returns-then-place-half-clause-tree
returns-then-place-half-clause-tree t c =
    (in_front_turned c.args.size c.args.slots.now c.split_at_mut-front.result.0.now c.in-Some.here.now c.in-Some.back.now c.split_at_mut-front.ensures.front_len (c.split_at_mut-front.ensures.value ∙ ap (λ l. c.split_at_mut-front.result.0.now ++ l) c.in-Some.ensures.cases.0) c.requires.tree c.turn-then-place-half.new.slots c.changed-here.result c.args.place c.args.leaves _ c.if-place-half.true (c.turn-then-place-half.ensures.tree, c.turn-then-place-half.ensures.shown)
    (ap is_gone (sym (front_at c.args.size c.args.slots.now c.split_at_mut-front.result.0.now c.in-Some.here.now c.in-Some.back.now c.split_at_mut-front.ensures.front_len (c.split_at_mut-front.ensures.value ∙ ap (λ l. c.split_at_mut-front.result.0.now ++ l) c.in-Some.ensures.cases.0) c.requires.tree c.args.place c.if-place-half.true)) ∙ c.requires.here) (c.changed-here.ensures.more, c.changed-here.ensures.less)).0

pub returns-then-place-half-clause-shown : goal.returns-then-place-half-clause-shown
returns-then-place-half-clause-shown t c =
    (in_front_turned c.args.size c.args.slots.now c.split_at_mut-front.result.0.now c.in-Some.here.now c.in-Some.back.now c.split_at_mut-front.ensures.front_len (c.split_at_mut-front.ensures.value ∙ ap (λ l. c.split_at_mut-front.result.0.now ++ l) c.in-Some.ensures.cases.0) c.requires.tree c.turn-then-place-half.new.slots c.changed-here.result c.args.place c.args.leaves _ c.if-place-half.true (c.turn-then-place-half.ensures.tree, c.turn-then-place-half.ensures.shown)
    (ap is_gone (sym (front_at c.args.size c.args.slots.now c.split_at_mut-front.result.0.now c.in-Some.here.now c.in-Some.back.now c.split_at_mut-front.ensures.front_len (c.split_at_mut-front.ensures.value ∙ ap (λ l. c.split_at_mut-front.result.0.now ++ l) c.in-Some.ensures.cases.0) c.requires.tree c.args.place c.if-place-half.true)) ∙ c.requires.here) (c.changed-here.ensures.more, c.changed-here.ensures.less)).1
    ∙ ap (λ s. set (map slot_shown c.args.slots.now) c.args.place (c.args.leaves, property_in s)) (sym (front_at c.args.size c.args.slots.now c.split_at_mut-front.result.0.now c.in-Some.here.now c.in-Some.back.now c.split_at_mut-front.ensures.front_len (c.split_at_mut-front.ensures.value ∙ ap (λ l. c.split_at_mut-front.result.0.now ++ l) c.in-Some.ensures.cases.0) c.requires.tree c.args.place c.if-place-half.true))

pub returns-then-place-half-2-clause-tree : goal.returns-then-place-half-2-clause-tree
returns-then-place-half-2-clause-tree t c =
    (here_turned c.args.size c.args.slots.now c.split_at_mut-front.result.0.now c.in-Some.here.now c.in-Some.back.now c.split_at_mut-front.ensures.front_len (c.split_at_mut-front.ensures.value ∙ ap (λ l. c.split_at_mut-front.result.0.now ++ l) c.in-Some.ensures.cases.0) c.requires.tree c.changed-here-then-place-half-2.result c.args.place c.args.leaves c.if-place-half-2.true
    (ap is_gone (sym (here_at c.args.size c.args.slots.now c.split_at_mut-front.result.0.now c.in-Some.here.now c.in-Some.back.now c.split_at_mut-front.ensures.front_len (c.split_at_mut-front.ensures.value ∙ ap (λ l. c.split_at_mut-front.result.0.now ++ l) c.in-Some.ensures.cases.0) c.requires.tree c.args.place c.if-place-half-2.true)) ∙ c.requires.here) (c.changed-here-then-place-half-2.ensures.more, c.changed-here-then-place-half-2.ensures.less)).0

pub returns-then-place-half-2-clause-shown : goal.returns-then-place-half-2-clause-shown
returns-then-place-half-2-clause-shown t c =
    (here_turned c.args.size c.args.slots.now c.split_at_mut-front.result.0.now c.in-Some.here.now c.in-Some.back.now c.split_at_mut-front.ensures.front_len (c.split_at_mut-front.ensures.value ∙ ap (λ l. c.split_at_mut-front.result.0.now ++ l) c.in-Some.ensures.cases.0) c.requires.tree c.changed-here-then-place-half-2.result c.args.place c.args.leaves c.if-place-half-2.true
    (ap is_gone (sym (here_at c.args.size c.args.slots.now c.split_at_mut-front.result.0.now c.in-Some.here.now c.in-Some.back.now c.split_at_mut-front.ensures.front_len (c.split_at_mut-front.ensures.value ∙ ap (λ l. c.split_at_mut-front.result.0.now ++ l) c.in-Some.ensures.cases.0) c.requires.tree c.args.place c.if-place-half-2.true)) ∙ c.requires.here) (c.changed-here-then-place-half-2.ensures.more, c.changed-here-then-place-half-2.ensures.less)).1
    ∙ ap (λ s. set (map slot_shown c.args.slots.now) c.args.place (c.args.leaves, property_in s)) (sym (here_at c.args.size c.args.slots.now c.split_at_mut-front.result.0.now c.in-Some.here.now c.in-Some.back.now c.split_at_mut-front.ensures.front_len (c.split_at_mut-front.ensures.value ∙ ap (λ l. c.split_at_mut-front.result.0.now ++ l) c.in-Some.ensures.cases.0) c.requires.tree c.args.place c.if-place-half-2.true))

pub returns-else-place-half-2-clause-tree : goal.returns-else-place-half-2-clause-tree
returns-else-place-half-2-clause-tree t c =
    (behind_turned c.args.size c.args.slots.now c.split_at_mut-front.result.0.now c.in-Some.here.now c.in-Some.back.now c.split_at_mut-front.ensures.front_len (c.split_at_mut-front.ensures.value ∙ ap (λ l. c.split_at_mut-front.result.0.now ++ l) c.in-Some.ensures.cases.0) c.requires.tree c.turn-else-place-half-2.new.slots c.args.place (c.args.place - c.args.size / 2 - 1) c.args.leaves _ (omega (arith, c.if-place-half.false, c.if-place-half-2.false))
    (c.turn-else-place-half-2.ensures.tree, c.turn-else-place-half-2.ensures.shown)).0

pub returns-else-place-half-2-clause-shown : goal.returns-else-place-half-2-clause-shown
returns-else-place-half-2-clause-shown t c =
    let past : c.args.place ≡ suc (c.args.size / 2) + (c.args.place - c.args.size / 2 - 1) = omega (arith, c.if-place-half.false, c.if-place-half-2.false) in
    (behind_turned c.args.size c.args.slots.now c.split_at_mut-front.result.0.now c.in-Some.here.now c.in-Some.back.now c.split_at_mut-front.ensures.front_len (c.split_at_mut-front.ensures.value ∙ ap (λ l. c.split_at_mut-front.result.0.now ++ l) c.in-Some.ensures.cases.0) c.requires.tree c.turn-else-place-half-2.new.slots c.args.place (c.args.place - c.args.size / 2 - 1) c.args.leaves _ past
    (c.turn-else-place-half-2.ensures.tree, c.turn-else-place-half-2.ensures.shown)).1
    ∙ ap (λ s. set (map slot_shown c.args.slots.now) c.args.place (c.args.leaves, property_in s)) (sym (after_at c.args.size c.args.slots.now c.split_at_mut-front.result.0.now c.in-Some.here.now c.in-Some.back.now c.split_at_mut-front.ensures.front_len (c.split_at_mut-front.ensures.value ∙ ap (λ l. c.split_at_mut-front.result.0.now ++ l) c.in-Some.ensures.cases.0) c.requires.tree c.args.place (c.args.place - c.args.size / 2 - 1) past))
