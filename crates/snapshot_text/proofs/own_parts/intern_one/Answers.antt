use Rattle.std.proofs.Common.{◌≡◌, true, subst, sym, ◌∙◌}
use Rattle.std.specs.List.{list_all}
use Rattle.lisp_object.specs.Ascii.{is_ascii}
use Rattle.package_table.specs.declared.intern.Interned.{Interned}
use Rattle.package_table.specs.Table.{Name, Table, IsPresent, AreSoundPackages}
use Rattle.world_text.proofs.Ascii.{ascii_all}
use Rattle.snapshot_lines.specs.QuotedTexts.{unescaped}
use Rattle.snapshot_text.proofs.Gave.{refused_same}
use Rattle.snapshot_text.proofs.PartMakes.{intern_goes, owned_is, refused_so}
use Rattle.snapshot_text.proofs.own_parts.intern_one.Goals as goal

present_ascii : (s : Table) (p n : Name) → AreSoundPackages s → IsPresent s p n p → list_all is_ascii n ≡ true
present_ascii s p n sound got = ascii_all n (sound.within.symbol_names p n p got).ascii

pub returns-in_err-name-clause-there : goal.returns-in_err-name-clause-there
returns-in_err-name-clause-there c = λ s sound part here lisp got.
    refused_same _ c.in_err-name.field-0.0 (c.in_err-name.ensures.read (present_ascii s c.args.owner.now (unescaped c.args.name.now) sound got)) c.from_residual.result c.from_residual.ensures.1

pub returns-in_err-intern-clause-there : goal.returns-in_err-intern-clause-there
returns-in_err-intern-clause-there c = λ s sound part here lisp got.
    let t : Table = c.args.world.now.0.packages in
    let read : c.as_slice.result.now ≡ unescaped c.args.name.now = c.as_slice.ensures ∙ c.in_ok-name.ensures.same in
    let o = intern_goes t s part sound (subst AreSoundPackages c.packages.ensures c.soundness.ensures) c.args.owner.now c.as_slice.result.now here lisp (subst (λ (x : Name). IsPresent s c.args.owner.now x c.args.owner.now) (sym read) got) in
    refused_so {A = Interned} _ (λ interned. (interned.home, c.intern.new.self.0.packages)) c.in_err-intern.field-0.0 _ _ o.1.goes c.in_err-intern.ensures.gives c.from_residual-in_err-intern.result c.from_residual-in_err-intern.ensures.1

pub returns-clause-there : goal.returns-clause-there
returns-clause-there c = λ s sound part here lisp got.
    let t : Table = c.args.world.now.0.packages in
    let u : Table = c.intern.new.self.0.packages in
    let read : c.as_slice.result.now ≡ unescaped c.args.name.now = c.as_slice.ensures ∙ c.in_ok-name.ensures.same in
    let o = intern_goes t s part sound (subst AreSoundPackages c.packages.ensures c.soundness.ensures) c.args.owner.now c.as_slice.result.now here lisp (subst (λ (x : Name). IsPresent s c.args.owner.now x c.args.owner.now) (sym read) got) in
    let is = owned_is t s u c.args.owner.now c.as_slice.result.now c.in_ok-intern.field-0.home o c.in_ok-intern.ensures.gives in
    (is.0, subst (λ (x : Name). IsPresent u c.args.owner.now x c.args.owner.now) read is.1)
