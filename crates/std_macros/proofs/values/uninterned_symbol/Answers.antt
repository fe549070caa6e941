use Rattle.std.proofs.Common.{ap, ◌∙◌}
use Rattle.std.specs.List.{list_all}
use Rattle.lisp_object.specs.Ascii.{is_ascii}
use Rattle.token_scan.specs.Marks.{characters}
use Rattle.token_meaning.specs.Folding.{folded_marks}
use Rattle.token_meaning.proofs.Ascii.{ascii_characters}
use Rattle.token_meaning.proofs.Folds.{folded_ascii}
use Rattle.std_macros.proofs.SoundData.{uninterned_datum}
use Rattle.std_macros.proofs.values.uninterned_symbol.Goals as goal

pub returns-clause-proper : goal.returns-clause-proper
returns-clause-proper c =
    uninterned_datum c.in_ok-from_vec.field-0
    (ap (list_all is_ascii) (c.in_ok-from_vec.ensures ∙ c.in_ok-name.ensures ∙ ap characters (c.as_slice-2.ensures ∙ c.folded-marks.ensures))
    ∙ ascii_characters (folded_marks c.args.case c.args.marks.items) (folded_ascii c.args.case c.args.marks.items c.requires))
