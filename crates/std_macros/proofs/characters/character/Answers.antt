use Rattle.std.proofs.Common.{true, sym, ap, ◌∙◌}
use Rattle.std.specs.List.{list_all}
use Rattle.std.proofs.lemmas.Bool.{and_parts}
use Rattle.lisp_object.specs.Ascii.{is_ascii}
use Rattle.token_meaning.proofs.Ascii.{ascii_characters}
use Rattle.std_macros.proofs.SoundData.{character_datum}
use Rattle.std_macros.proofs.characters.character.Goals as goal

pub returns-in-Some-clause-proper : goal.returns-in-Some-clause-proper
returns-in-Some-clause-proper c =
    character_datum c.in-Some.c
    (and_parts (is_ascii c.in-Some.c) true
    (ap (list_all is_ascii) (sym c.in-Some.ensures) ∙ ascii_characters c.args.marks.now c.requires)).0
