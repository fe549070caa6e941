use Rattle.std.proofs.Common.{◌≡◌, Some, map, sym, ap, subst, ◌∙◌}
use Rattle.lisp_object.specs.Datum.{object_of}
use Rattle.package_table.specs.Table.{keyword}
use Rattle.plist_state.specs.Sound.{IsSymbol}
use Rattle.plist_state.specs.Changes.{with_macro, state_with_readtables}
use Rattle.lisp_operators.specs.ArgumentKinds.{a_keyword, given_or}
use Rattle.lisp_operators.specs.Properties.{t}
use Rattle.lisp_operators.specs.Readtables.{value_after, after_first, set_macro}
use Rattle.lisp_operators.specs.EvaluationAnswers.{Answers, done}
use Rattle.lisp_operators.proofs.ReadtableSteps.{macro_opens}
use Rattle.lisp_operators.proofs.Storable.{character_kind, keyword_kind}
use Rattle.lisp_operators.proofs.readtables.set_macro.Goals as goal

pub set_macro-made-requires-clause-character : goal.set_macro-made-requires-clause-character
set_macro-made-requires-clause-character c =
    let u = c.args.world.now.0.packages in
    character_kind u (object_of c.in_ok-character.character.now) c.in_ok-c.c (sym c.in_ok-c.ensures) (c.in_ok-character.ensures.arguments u c.requires.values).0.value

pub set_macro-made-requires-clause-keyword : goal.set_macro-made-requires-clause-keyword
set_macro-made-requires-clause-keyword c =
    let u = c.args.world.now.0.packages in
    subst (λ k. IsSymbol u (keyword, k)) (sym c.in_ok-function-2.ensures.0)
    (keyword_kind u (object_of c.in_ok-character.function.now) c.in_ok-function.function.now (sym c.in_ok-function.ensures) (c.in_ok-character.ensures.arguments u c.requires.values).1.value)

pub returns-clause-gives : goal.returns-clause-gives
returns-clause-gives c =
    let s = c.args.world.now.0 in
    let new = c.set_macro-made.new.self.0 in
    let rest = map object_of c.in_ok-character.rest.now in
    let n = c.in_ok-name.name.now in
    let given : Some n ≡ given_or a_keyword s.current_readtable (after_first rest) =
    subst (λ k. Some n ≡ given_or a_keyword k (map object_of c.after_first.result.now)) c.current_readtable.ensures c.in_ok-name.ensures ∙ ap (given_or a_keyword s.current_readtable) c.after_first.ensures.value in
    let name_is : c.as_slice.result.now ≡ n = c.as_slice.ensures.value ∙ c.in_ok-name-2.ensures.items in
    subst (λ vs. Answers done c.changed.result new (set_macro c.args.names.now (map object_of vs) s)) (sym c.in_ok-character.ensures.value)
    (macro_opens (Answers done c.changed.result new) s c.args.names.now (object_of c.in_ok-character.character.now) (object_of c.in_ok-character.function.now) rest c.in_ok-c.c c.in_ok-function.function.now n c.in_ok-writable.field-0.now
    c.in_ok-c.ensures c.in_ok-function.ensures given c.in_ok-writable.ensures c.in_ok-function-2.ensures.1
    (subst (λ said. Answers done c.changed.result new (value_after s t said)) (λ i. state_with_readtables s (with_macro s.readtables (name_is i) c.in_ok-c.c (c.in_ok-function-2.ensures.0 i) (c.is_given.ensures i)))
    (c.changed.ensures.gives s new (state_with_readtables s (with_macro s.readtables c.as_slice.result.now c.in_ok-c.c c.in_ok-function-2.function c.is_given.result)) c.set_macro-made.ensures.gives)))
