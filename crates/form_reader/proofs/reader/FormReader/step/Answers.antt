use Rattle.std.proofs.Common.{◌≡◌, [], sym, subst, ◌∙◌, refl}
use Rattle.lisp_reading.specs.Setting.{setting_of}
use Rattle.form_reader.specs.declared.reader.ReaderState.{ReaderState}
use Rattle.form_reader.specs.declared.reader.ReaderState.TheVariants.{Open}
use Rattle.form_reader.specs.declared.state.State.TheVariants.{Object as AtObject}
use Rattle.form_reader.specs.Reader.{IsAfterIn}
use Rattle.form_reader.proofs.Readers.{leaves_between, stepped, ok_change}
use Rattle.form_reader.proofs.Begun.{stepped_begun}
use Rattle.form_reader.proofs.reader.FormReader.step.Goals as goal

pub returns-in_ok-change-in-Open-clause-steps : goal.returns-in_ok-change-in-Open-clause-steps
returns-in_ok-change-in-Open-clause-steps g c = λ bytes after.
    let setting = setting_of c.args.self.now.limits c.args.readtable.now c.args.base c.args.packages.now.0 c.args.current.now
    (g.R.MacroFunctions.functions c.args.macros.now) in
    stepped setting c.args.self.now _ c.take.new.self c.in-Open.state bytes c.args.byte c.take_byte.new.stack c.in_ok-change-in-Open.change c.take.result
    (subst (λ (s : ReaderState). IsAfterIn setting c.args.self.now s bytes) (sym c.replace.ensures.value ∙ c.in-Open.is) after)
    c.in_ok-change-in-Open.ensures.turns c.in_ok-change-in-Open.ensures.ready c.take.ensures.takes refl

pub returns-in_ok-change-in-Open-clause-between_forms : goal.returns-in_ok-change-in-Open-clause-between_forms
returns-in_ok-change-in-Open-clause-between_forms g c =
    let setting = setting_of c.args.self.now.limits c.args.readtable.now c.args.base c.args.packages.now.0 c.args.current.now
    (g.R.MacroFunctions.functions c.args.macros.now) in
    leaves_between setting _ c.take.new.self c.take_byte.new.stack c.in_ok-change-in-Open.change c.take.result _ (c.in_ok-change-in-Open.ensures.turns []) c.take.ensures.takes refl

pub returns-in_ok-change-in-Open-clause-has_begun : goal.returns-in_ok-change-in-Open-clause-has_begun
returns-in_ok-change-in-Open-clause-has_begun g c = λ bytes after has.
    let setting = setting_of c.args.self.now.limits c.args.readtable.now c.args.base c.args.packages.now.0 c.args.current.now
    (g.R.MacroFunctions.functions c.args.macros.now) in
    let is_open = sym c.replace.ensures.value ∙ c.in-Open.is in
    let here : IsAfterIn setting c.args.self.now (Open c.in-Open.state) bytes = subst (λ (s : ReaderState). IsAfterIn setting c.args.self.now s bytes) is_open after in
    stepped_begun setting c.args.self.now c.in-Open.state bytes c.args.byte here has is_open _ c.take.new.self c.take_byte.new.stack c.in_ok-change-in-Open.change c.take.result
    (λ between space. ok_change c.in_ok-change-in-Open.change _ (c.in_ok-change-in-Open.ensures.space space between.at between.stack
    (let same : Open c.in-Open.state ≡ Open AtObject = sym is_open ∙ between.state in cc)).0)
    c.in_ok-change-in-Open.ensures.turns c.in_ok-change-in-Open.ensures.starts c.in_ok-change-in-Open.ensures.anew c.take.ensures.takes refl
    (returns-in_ok-change-in-Open-clause-steps g c bytes after)
