use Rattle.std.proofs.Common.{◌∙◌}
use Rattle.session_words.specs.declared.mode.Mode.TheVariants.{Current}
use Rattle.prevalence_store.specs.meaning.Acceptance.{read_in}
use Rattle.session_words.specs.declared.content.Content.TheVariants.{World}
use Rattle.world_forms.specs.Forms.{last_newline}
use Rattle.whole_export.proofs.Ending.{nothing_left}
use Rattle.whole_export.proofs.Sessions.{session_ends}
use Rattle.whole_export.proofs.Whole.{rest_made, world_made}
use Rattle.whole_export.proofs.export_is_taken.Goals as goal

pub returns-clause-world : goal.returns-clause-world
returns-clause-world g c = λ functions s sound covered none wanted old new has held written ended mode served.
    session_ends functions s s (world_made functions s sound covered none) (nothing_left functions s) g.D.Disk.state wanted mode old new has held written ended served

pub returns-clause-without : goal.returns-clause-without
returns-clause-without g c = λ functions s sound covered wanted old new has held written ended mode served.
    let rest = rest_made functions s sound covered in (
      rest.0,
      rest.1,
      session_ends functions s rest.0 rest.2 ((λ i. read_in functions (rest.1.others i) Current (last_newline s World)) ∙ nothing_left functions s)
          g.D.Disk.state wanted mode old new has held written ended served,
    )
