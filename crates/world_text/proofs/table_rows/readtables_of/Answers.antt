use Rattle.std.proofs.Common.{◌≡◌, true, rules, ap, ◌∙◌}
use Rattle.std.specs.List.{list_all}
use Rattle.lisp_object.specs.Datum.{is_proper}
use Rattle.world_text.proofs.Ascii.{are_ascii_names}
use Rattle.world_text.proofs.Worlds.{readtable_names_ascii}
use Rattle.world_text.proofs.table_rows.readtables_of.Goals as goal

pub returns-clause-proper : goal.returns-clause-proper
returns-clause-proper c =
    let ascii : are_ascii_names c.as_slice.result.now ≡ true =
    ap are_ascii_names (c.as_slice.ensures ∙ c.in_ok-names.ensures) ∙ readtable_names_ascii c.args.world.now.0 c.soundness.ensures.present in
    let proper : list_all is_proper c.in_ok-rows.rows.items ≡ true = c.in_ok-rows.ensures.proper ascii in
    search rules
