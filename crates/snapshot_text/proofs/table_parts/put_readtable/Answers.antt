use Rattle.std.proofs.Common.{◌≡◌, ◌∷◌, [], List, length, sym, ap, subst, ◌∙◌, arith, MatchResult}
use Rattle.lisp_object.specs.Object.{Object, text, list_of}
use Rattle.readtable_core.specs.Cases.{case_name}
use Rattle.readtable_core.specs.Tables.{Table, standard}
use Rattle.readtable_core.proofs.Sound.{standard_sound}
use Rattle.package_table.specs.Table.{Name, keyword}
use Rattle.plist_state.specs.State.{WorldState}
use Rattle.plist_state.specs.Sound.{HasKeywordFunctions, IsSymbol}
use Rattle.world_text.specs.Snapshot.{entry_objects}
use Rattle.snapshot_text.specs.BuiltWorlds.{with_table, CanBeMade, IsWritable}
use Rattle.snapshot_lines.specs.declared.error.BuildError.TheVariants.{OutOfMemory}
use Rattle.snapshot_text.proofs.ReadParts.{item_count, three_items}
use Rattle.snapshot_text.proofs.TableParts.{made_writable, table_twice}
use Rattle.snapshot_text.proofs.table_parts.put_readtable.Goals as goal

abbrev parts : Name → Table → List Object
parts name t = text name ∷ text (case_name t.letters) ∷ list_of (entry_objects t) ∷ []

pub returns-in_err-items_in : goal.returns-in_err-items_in
returns-in_err-items_in c = λ proper name t object named there can. absurd (c.in_err-items_in.ensures.read proper (parts name t) object)

pub returns-in_default : goal.returns-in_default
returns-in_default c = λ proper name t object named there can.
    let count : length c.in_ok-items_in.field-0.now ≡ 3 =
    item_count c.in_ok-items_in.field-0.now (parts name t) (c.in_ok-items_in.ensures.read proper (parts name t) object).0 in
    absurd (omega (arith, c.in_default.len_below))

pub returns-in_default-2 : goal.returns-in_default-2
returns-in_default-2 c = λ proper name t object named there can.
    let count : length c.in_ok-items_in.field-0.now ≡ 3 =
    item_count c.in_ok-items_in.field-0.now (parts name t) (c.in_ok-items_in.ensures.read proper (parts name t) object).0 in
    absurd (omega (arith, c.in_default.len_at_least))

pub returns : goal.returns
returns c = λ proper name t object named there can.
    let s = c.args.world.now.0 in
    let n = c.as_slice-name.result.now in
    let u : Table = record standard { letters = t.letters } in
    let read = c.in_ok-items_in.ensures.read proper (parts name t) object in
    let three = three_items c.in_ok-items_in.field-0.now c.name-item.result c.letters-item.result c.entries-item.result
    (text name) (text (case_name t.letters)) (list_of (entry_objects t)) read.0 read.1 c.name-item.is c.letters-item.is c.entries-item.is in
    let called : n ≡ name = c.as_slice-name.ensures ∙ c.in_ok-text_in.ensures.read three.first_proper name three.first in
    let may : CanBeMade s.readtables n = subst (CanBeMade s.readtables) (sym called) can in
    let made : c.make_readtable.new.world.0 ≡ with_table s n u =
    c.in_ok-make_readtable.ensures three.second_proper t.letters three.second (subst (λ x. IsSymbol s.packages (keyword, x)) (sym called) there) may in
    let named_now : HasKeywordFunctions c.make_readtable.new.world.0.packages t = subst (λ (x : WorldState). HasKeywordFunctions x.packages t) (sym made) named in
    let w : IsWritable c.make_readtable.new.world.0.readtables n u =
    subst (λ (x : WorldState). IsWritable x.readtables n u) (sym made) (made_writable s n u may.other may.standard standard_sound.count) in
    subst (λ (x : WorldState). MatchResult c.put_entries.result (λ _. c.put_entries.new.world.0 ≡ x) (λ e. e ≡ OutOfMemory))
    (ap (λ (x : WorldState). with_table x n t) made ∙ table_twice s n u t ∙ ap (λ x. with_table s x t) called)
    (c.put_entries.ensures three.third_proper t three.third named_now w)
