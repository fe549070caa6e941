use Rattle.std.proofs.Common.{ap, ◌∙◌}
use Rattle.std.specs.List.{list_all}
use Rattle.lisp_object.specs.Ascii.{is_ascii}
use Rattle.lisp_object.proofs.Properness.{is_proper-Text}
use Rattle.lisp_object.proofs.Sound.{all_ascii}
use Rattle.client_table.proofs.entry.text_datum.Goals as goal

pub returns-clause-proper : goal.returns-clause-proper
returns-clause-proper c = is_proper-Text c.in_ok-bytes.bytes ∙ ap (list_all is_ascii) c.in_ok-bytes.ensures ∙ all_ascii c.args.bytes.now c.requires
