use Rattle.std.proofs.Common.{codes}
use Rattle.world_forms.specs.NameTokens.{world_form_line, keyword_argument}
use Rattle.world_forms.specs.Readtables.{set_case_line, table_argument}
use Rattle.world_forms.proofs.Added.{five_added}
use Rattle.world_forms.proofs.readtables.Forms.push_set_case.Goals as goal

pub returns : goal.returns
unfolding set_case_line
returns c =
    five_added c.args.text.now.items (codes "(SETF (READTABLE-CASE") (table_argument c.args.self.now.name.now) (codes ")") (keyword_argument c.args.case.now)
    (world_form_line (codes ")")) c.in_ok-extend_from_slice.ensures.items c.in_ok-push_table_name.ensures c.in_ok-push.ensures.items
    c.in_ok-push_keyword.ensures c.in_ok-extend_from_slice-2.ensures.items
