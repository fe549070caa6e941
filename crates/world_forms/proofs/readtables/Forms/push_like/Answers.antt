use Rattle.std.proofs.Common.{codes}
use Rattle.world_forms.specs.NameTokens.{world_form_line, character_argument}
use Rattle.world_forms.specs.Readtables.{like_line, table_argument}
use Rattle.world_forms.proofs.Added.{five_added}
use Rattle.world_forms.proofs.readtables.Forms.push_like.Goals as goal

pub returns : goal.returns
unfolding like_line
returns c =
    five_added c.args.text.now.items (codes "(SET-SYNTAX-FROM-CHAR") (character_argument c.args.c) (character_argument c.args.there) (table_argument c.args.self.now.name.now)
    (world_form_line (codes " :STANDARD)")) c.in_ok-extend_from_slice.ensures.items c.in_ok-push_character.ensures c.in_ok-push_character-2.ensures
    c.in_ok-push_table_name.ensures c.in_ok-extend_from_slice-2.ensures.items
