use Rattle.std.proofs.Common.{◌≡◌, Some, map, sym, subst, ◌∙◌}
use Rattle.lisp_object.specs.Datum.{object_of}
use Rattle.package_table.specs.Table.{keyword}
use Rattle.plist_state.specs.Sound.{IsSymbol}
use Rattle.plist_state.specs.Changes.{with_dispatch, state_with_readtables}
use Rattle.lisp_operators.specs.ArgumentKinds.{a_keyword, given_or}
use Rattle.lisp_operators.specs.Properties.{t}
use Rattle.lisp_operators.specs.Readtables.{value_after, set_dispatch}
use Rattle.lisp_operators.specs.EvaluationAnswers.{Answers, done}
use Rattle.lisp_operators.proofs.ReadtableSteps.{dispatch_opens}
use Rattle.lisp_operators.proofs.Storable.{character_kind, keyword_kind}
use Rattle.lisp_operators.proofs.readtables.set_dispatch.Goals as goal

pub set_dispatch-made-requires-clause-character : goal.set_dispatch-made-requires-clause-character
set_dispatch-made-requires-clause-character c =
    let u = c.args.world.now.0.packages in
    character_kind u (object_of c.in_ok-character.character.now) c.in_ok-c.c (sym c.in_ok-c.ensures) (c.in_ok-character.ensures.arguments u c.requires.values).0.value

pub set_dispatch-made-requires-clause-sub_character : goal.set_dispatch-made-requires-clause-sub_character
set_dispatch-made-requires-clause-sub_character c =
    let u = c.args.world.now.0.packages in
    character_kind u (object_of c.in_ok-character.sub.now) c.in_ok-d.d (sym c.in_ok-d.ensures) (c.in_ok-character.ensures.arguments u c.requires.values).1.value

pub set_dispatch-made-requires-clause-keyword : goal.set_dispatch-made-requires-clause-keyword
set_dispatch-made-requires-clause-keyword c =
    let u = c.args.world.now.0.packages in
    subst (λ k. IsSymbol u (keyword, k)) (sym c.in_ok-function-2.ensures.0)
    (keyword_kind u (object_of c.in_ok-character.function.now) c.in_ok-function.function.now (sym c.in_ok-function.ensures) (c.in_ok-character.ensures.arguments u c.requires.values).2.value)

pub returns-clause-gives : goal.returns-clause-gives
returns-clause-gives c =
    let s = c.args.world.now.0 in
    let new = c.set_dispatch-made.new.self.0 in
    let rest = map object_of c.in_ok-character.rest.now in
    let n = c.in_ok-name.name.now in
    let given : Some n ≡ given_or a_keyword s.current_readtable rest = subst (λ k. Some n ≡ given_or a_keyword k rest) c.current_readtable.ensures c.in_ok-name.ensures in
    let name_is : c.as_slice.result.now ≡ n = c.as_slice.ensures.value ∙ c.in_ok-name-2.ensures.items in
    subst (λ vs. Answers done c.changed.result new (set_dispatch c.args.names.now (map object_of vs) s)) (sym c.in_ok-character.ensures.value)
    (dispatch_opens (Answers done c.changed.result new) s c.args.names.now (object_of c.in_ok-character.character.now) (object_of c.in_ok-character.sub.now) (object_of c.in_ok-character.function.now) rest c.in_ok-c.c c.in_ok-d.d c.in_ok-function.function.now n c.in_ok-table.table.now
    c.in_ok-c.ensures c.in_ok-d.ensures c.in_ok-function.ensures given c.in_ok-table.ensures c.in_ok-function-2.ensures.1
    (subst (λ said. Answers done c.changed.result new (value_after s t said)) (λ i. state_with_readtables s (with_dispatch s.readtables (name_is i) c.in_ok-c.c c.in_ok-d.d (c.in_ok-function-2.ensures.0 i)))
    (c.changed.ensures.gives s new (state_with_readtables s (with_dispatch s.readtables c.as_slice.result.now c.in_ok-c.c c.in_ok-d.d c.in_ok-function-2.function)) c.set_dispatch-made.ensures.gives)))
