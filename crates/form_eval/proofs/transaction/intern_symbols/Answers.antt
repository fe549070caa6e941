use Rattle.std.proofs.Common.{◌≡◌, ◌<◌, All, map, sym, subst, ap, ◌∙◌}
use Rattle.lisp_object.specs.Datum.{object_of}
use Rattle.plist_state.specs.Properties.{Symbol}
use Rattle.plist_state.specs.Readers.{borrowed_symbol}
use Rattle.package_table.specs.Symbols.{symbols}
use Rattle.form_eval.specs.Acceptance.{with_symbols_interned}
use Rattle.lisp_operators.specs.EvaluationAnswers.{MakesPackages}
use Rattle.form_eval.proofs.KnownSymbols.{known_symbols}
use Rattle.form_eval.proofs.SoundSymbols.{symbols_can, ascii_of, all_of_mapped}
use Rattle.form_eval.proofs.transaction.intern_symbols.Goals as goal

pub intern_all-requires : goal.intern_all-requires
intern_all-requires c =
    let u = c.args.world.now.0.packages in
    let x = object_of c.args.form.now.datum in
    let same : map borrowed_symbol c.as_slice.result.now ≡ symbols x = ap (map borrowed_symbol) c.as_slice.ensures.value ∙ c.in_ok-symbols.ensures in
    all_of_mapped (λ (y : Symbol). All (λ b. b < 128) y.1) borrowed_symbol c.as_slice.result.now
    (subst (All (λ (y : Symbol). All (λ b. b < 128) y.1)) (sym same) (ascii_of u (symbols x) (symbols_can u x c.requires.form.form.object c.requires.form.form.symbols)))

pub returns-clause-gives : goal.returns-clause-gives
returns-clause-gives c =
    let u = c.args.world.now.0.packages in
    let same : map borrowed_symbol c.as_slice.result.now ≡ symbols (object_of c.args.form.now.datum) = ap (map borrowed_symbol) c.as_slice.ensures.value ∙ c.in_ok-symbols.ensures in
    subst (λ xs. MakesPackages c.intern_all.result c.intern_all.new.world.0.packages (with_symbols_interned u xs)) same c.intern_all.ensures.gives

pub returns-then-form-clause-gives : goal.returns-then-form-clause-gives
returns-then-form-clause-gives c =
    known_symbols c.args.world.now.0.packages (symbols (object_of c.args.form.now.datum)) (c.requires.form.all_there c.if-form.true)
