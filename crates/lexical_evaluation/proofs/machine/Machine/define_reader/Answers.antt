use Rattle.lexical_evaluation.proofs.Safe.{answered_holds, reader_safe}
use Rattle.std.proofs.Common.{sym, ap, subst, ◌∙◌, arith, ◌≡◌, ◌<◌, length}
use Rattle.lisp_object.specs.Object.{Object, list_of, pair}
use Rattle.lisp_object.specs.Datum.{object_of}
use Rattle.plist_state.specs.Sound.{IsValue}
use Rattle.lisp_operators.specs.EvaluationAnswers.{Answers, done, objects}
use Rattle.evaluator.specs.Operators.{first}
use Rattle.evaluator.specs.Value.{rest}
use Rattle.lisp_object.specs.declared.refusal.TheConstants.{ARGUMENT_KIND}
use Rattle.kept_functions.specs.ReaderFunctions.{reader_defined}
use Rattle.lexical_evaluation.specs.Machine.{point_of}
use Rattle.lexical_evaluation.specs.Ways.{ways}
use Rattle.lexical_evaluation.proofs.Finishing.{keeps_refused, no_reader, first_and_rest}
use Rattle.lexical_evaluation.proofs.Handing.{first_holds, rest_holds}
use Rattle.lexical_evaluation.proofs.machine.Machine.define_reader.Goals as goal

pub returns-then-is_empty-clause-gives : goal.returns-then-is_empty-clause-gives
returns-then-is_empty-clause-gives c = λ names.
    let m = c.args.self.now in
    let s = c.args.world.now.0 in
    let ds = c.args.values.items in
    keeps_refused (ways names) s s m m (λ rules seen p. rules.defined_reader (list_of (objects ds)) p) ARGUMENT_KIND
    (no_reader names m.deeper ds (point_of m s) (grind (arith, c.is_empty.ensures, c.if-is_empty.true)))

pub define_reader-defined-requires-clause-name : goal.define_reader-defined-requires-clause-name
define_reader-defined-requires-clause-name c =
    let u = c.args.world.now.0.packages in
    record {
      proper = c.in_ok-name.ensures.proper;
      value = subst (IsValue u) (sym c.in_ok-name.ensures.first) (first_holds u c.soundness.ensures.present.packages (list_of (objects c.args.values.items)) c.requires.list);
    }

pub define_reader-defined-requires-clause-definition : goal.define_reader-defined-requires-clause-definition
define_reader-defined-requires-clause-definition c =
    let u = c.args.world.now.0.packages in
    record {
      proper = c.in_ok-definition.ensures.proper;
      value = subst (IsValue u) (sym (c.in_ok-definition.ensures.list ∙ c.in_ok-name.ensures.others)) (rest_holds u c.soundness.ensures.present.packages (list_of (objects c.args.values.items)) c.requires.list);
    }

pub returns-clause-gives : goal.returns-clause-gives
returns-clause-gives c = λ names.
    let s = c.args.world.now.0 in
    let t = c.define_reader-defined.new.world.0 in
    let ds = c.args.values.items in
    let all = list_of (objects ds) in
    c.made.ensures.gives (ways names) s t (reader_defined all s)
    (subst (λ (x : Object). Answers done c.define_reader-defined.result t (reader_defined x s))
    (ap (λ x. pair x (object_of c.in_ok-definition.definition)) c.in_ok-name.ensures.first
    ∙ ap (pair (first all)) (c.in_ok-definition.ensures.list ∙ c.in_ok-name.ensures.others)
    ∙ first_and_rest ds (grind (arith, c.is_empty.ensures, c.if-is_empty.false)))
    c.define_reader-defined.ensures.gives)

pub returns-clause-arguments : goal.returns-clause-arguments
returns-clause-arguments c =
    let some : 0 < length c.args.values.items = grind (arith, c.is_empty.ensures, c.if-is_empty.false) in λ hand.
    let s = c.args.world.now.0 in
    let all = list_of (objects c.args.values.items) in
    let name = object_of c.in_ok-name.name in
    let definition = object_of c.in_ok-definition.definition in
    let sound = c.soundness.ensures.present in
    let whole : pair name definition ≡ all =
    ap (λ x. pair x definition) c.in_ok-name.ensures.first ∙ ap (pair (first all)) (c.in_ok-definition.ensures.list ∙ c.in_ok-name.ensures.others)
    ∙ first_and_rest c.args.values.items some in
    c.made.ensures.arguments c.define_reader-defined.new.world.0.packages
    (answered_holds c.args.self.now s c.define_reader-defined.new.world.0 (reader_defined (pair name definition) s)
    (reader_safe s (pair name definition) sound (subst (IsValue s.packages) (sym whole) c.requires.list))
    hand c.define_reader-defined.result c.define_reader-defined.ensures.gives c.define_reader-defined.ensures.proper)
