use Rattle.std.proofs.Common.{◌≡◌, Some, map, sym, ap, subst, ◌∙◌}
use Rattle.lisp_object.specs.Datum.{object_of}
use Rattle.plist_state.specs.Changes.{with_dispatching, state_with_readtables}
use Rattle.lisp_operators.specs.ArgumentKinds.{a_keyword, given_or}
use Rattle.lisp_operators.specs.Properties.{t}
use Rattle.lisp_operators.specs.Readtables.{value_after, after_first, make_dispatch}
use Rattle.lisp_operators.specs.EvaluationAnswers.{Answers, done}
use Rattle.lisp_operators.proofs.ReadtableSteps.{make_opens}
use Rattle.lisp_operators.proofs.Storable.{character_kind}
use Rattle.lisp_operators.proofs.readtables.make_dispatch.Goals as goal

pub make_dispatch-made-requires : goal.make_dispatch-made-requires
make_dispatch-made-requires c =
    let u = c.args.world.now.0.packages in
    character_kind u (object_of c.in_ok-character.character.now) c.in_ok-c.c (sym c.in_ok-c.ensures) (c.in_ok-character.ensures.arguments u c.requires).0.value

pub returns-clause-gives : goal.returns-clause-gives
returns-clause-gives c =
    let s = c.args.world.now.0 in
    let new = c.make_dispatch-made.new.self.0 in
    let rest = map object_of c.in_ok-character.rest.now in
    let n = c.in_ok-name.name.now in
    let given : Some n ≡ given_or a_keyword s.current_readtable (after_first rest) =
    subst (λ k. Some n ≡ given_or a_keyword k (map object_of c.after_first.result.now)) c.current_readtable.ensures c.in_ok-name.ensures ∙ ap (given_or a_keyword s.current_readtable) c.after_first.ensures.value in
    let name_is : c.as_slice.result.now ≡ n = c.as_slice.ensures.value ∙ c.in_ok-name-2.ensures.items in
    subst (λ vs. Answers done c.changed.result new (make_dispatch (map object_of vs) s)) (sym c.in_ok-character.ensures.value)
    (make_opens (Answers done c.changed.result new) s (object_of c.in_ok-character.character.now) rest c.in_ok-c.c n c.in_ok-c.ensures given
    (subst (λ said. Answers done c.changed.result new (value_after s t said)) (λ i. state_with_readtables s (with_dispatching s.readtables (name_is i) c.in_ok-c.c (c.is_given.ensures i)))
    (c.changed.ensures.gives s new (state_with_readtables s (with_dispatching s.readtables c.as_slice.result.now c.in_ok-c.c c.is_given.result)) c.make_dispatch-made.ensures.gives)))
