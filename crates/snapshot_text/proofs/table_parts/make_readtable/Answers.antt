use Rattle.std.proofs.Common.{◌≡◌, rules, refl, sym, ap, subst, ◌∙◌}
use Rattle.std.specs.Prelude.{Ok}
use Rattle.readtable_core.specs.declared.table.Case.{Case}
use Rattle.readtable_core.specs.Cases.{case_name}
use Rattle.readtable_core.specs.Tables.{Table, standard}
use Rattle.readtable_core.proofs.Named.{same_case}
use Rattle.plist_state.specs.State.{WorldState}
use Rattle.plist_state.specs.Changes.{state_with_readtables, with_case}
use Rattle.plist_state.specs.declared.error.ReadtableError.TheVariants.{OutOfMemory}
use Rattle.snapshot_text.specs.BuiltWorlds.{with_table, IsWritable}
use Rattle.snapshot_text.proofs.TableParts.{same_ok, refused, changed_to, table_twice}
use Rattle.snapshot_text.proofs.ReadtableParts.{copied, copy_writable}
use Rattle.snapshot_text.proofs.table_parts.make_readtable.Goals as goal

abbrev of_case : Case → Table
of_case k = record standard { letters = k }

pub returns-in_err-set_case : goal.returns-in_err-set_case
returns-in_err-set_case c = λ proper k object there can.
    let s = c.args.world.now.0 in
    let name = c.args.name.now in
    let now = c.copy_readtable.new.self.0 in
    let copy : now ≡ with_table s name standard = same_ok now _ _ c.in_ok-copy_readtable.ensures.gives (copied s name can) in
    let w : IsWritable now.readtables name standard = subst (λ (x : WorldState). IsWritable x.readtables name standard) (sym copy) (copy_writable s name can) in
    let said : state_with_readtables now (with_case now.readtables name c.in-Some.letters) ≡ Ok (with_table now name (of_case c.in-Some.letters)) =
    changed_to now name standard (of_case c.in-Some.letters) (λ t. Ok (record t { letters = c.in-Some.letters })) w refl in
    let out : c.in_err-set_case.field-0.0 ≡ OutOfMemory = refused _ _ c.in_err-set_case.field-0.0 c.in_err-set_case.ensures.gives said in
    search rules

pub returns : goal.returns
returns c = λ proper k object there can.
    let s = c.args.world.now.0 in
    let name = c.args.name.now in
    let now = c.copy_readtable.new.self.0 in
    let copy : now ≡ with_table s name standard = same_ok now _ _ c.in_ok-copy_readtable.ensures.gives (copied s name can) in
    let w : IsWritable now.readtables name standard = subst (λ (x : WorldState). IsWritable x.readtables name standard) (sym copy) (copy_writable s name can) in
    let said : state_with_readtables now (with_case now.readtables name c.in-Some.letters) ≡ Ok (with_table now name (of_case c.in-Some.letters)) =
    changed_to now name standard (of_case c.in-Some.letters) (λ t. Ok (record t { letters = c.in-Some.letters })) w refl in
    let letters : c.in-Some.letters ≡ k = same_case c.in-Some.letters k (c.in-Some.ensures.some ∙ c.as_slice.ensures ∙ c.in_ok-text_in.ensures.read proper (case_name k) object) in
    same_ok c.set_case.new.self.0 _ _ c.in_ok-set_case.ensures.gives said
    ∙ ap (λ (x : WorldState). with_table x name (of_case c.in-Some.letters)) copy ∙ table_twice s name standard (of_case c.in-Some.letters)
    ∙ ap (λ j. with_table s name (of_case j)) letters
