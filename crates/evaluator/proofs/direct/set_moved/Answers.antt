use Rattle.std.proofs.Common.{codes, sym, subst}
use Rattle.lisp_object.specs.Object.{symbol}
use Rattle.lisp_object.specs.Datum.{object_of}
use Rattle.package_table.specs.Table.{common_lisp}
use Rattle.plist_state.specs.Views.{symbol_named}
use Rattle.plist_state.specs.Sound.{IsValue}
use Rattle.lisp_operators.specs.Effects.{Leaves}
use Rattle.evaluator.proofs.QuotedKeys.{key_symbols, setf_given}
use Rattle.evaluator.proofs.direct.set_moved.Goals as goal

pub put-requires : goal.put-requires
put-requires c =
    let u = c.args.world.now.0.packages in
    let p = c.in-Some.property in
    let both = key_symbols u (symbol_named p.symbol) (symbol_named p.indicator) (symbol common_lisp (codes "GET")) (subst (IsValue u) c.in-Some.ensures c.requires.place.value) in
    record {
      symbol = both.0;
      indicator = both.1;
      value = c.in-Ok.ensures.argument u c.requires.form;
    }

pub returns-in-Ok-clause-gives : goal.returns-in-Ok-clause-gives
returns-in-Ok-clause-gives c = λ names.
    let p = c.in-Some.property in
    subst (Leaves c.put.result c.put.new.world.0)
    (sym (setf_given names c.args.world.now.0 (object_of c.args.place.now) (object_of c.args.form) (object_of c.in-Ok.literal) (symbol_named p.symbol) (symbol_named p.indicator) c.in-Some.ensures c.in-Ok.ensures.value))
    c.put.ensures.gives
