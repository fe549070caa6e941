use Rattle.std.proofs.Common.{◌⊎◌, refl}
use Rattle.command_words.specs.declared.words.Task.TheVariants.{Run}
use Rattle.machine_tests.proofs.Machines.{honest_as_opened, opened_so, there_after}
use Rattle.machine_tests.specs.Machine.{IsThereByThen}
use Rattle.store_commands.specs.Commands.{DoesAfter, AreStreamsUntouched, IsStatusOfUnopenedStore}
use Rattle.store_commands.specs.Folders.{OpensStore}
use Rattle.store_commands.specs.Output.{held_by}
use Rattle.user_macros.specs.Functions.{are_registered}
use Rattle.machine_tests.proofs.programs.run_on_machine.Goals as goal

pub returns : goal.returns
returns g c = λ folder existing wanted taken.
    let functions = g.M.Meaning.Meaning.functions in
    let state = g.R.Disk.Disk.state in
    let tells = g.R.Disk.TellsCause.tells in
    let opens = g.R.Folders.opens c.args.rt.now in
    let macros = c.args.macros in
    let whole = are_registered functions (g.M.MacroFunctions.functions macros) in
    let remaining = g.I.Read.remaining in
    let contents = held_by g.O.Write.contents in
    let given = c.program.ensures.taken folder existing (Run wanted) taken in
    let input = c.args.input.now in
    let left = c.program.new.input in
    let held = c.args.output.now in
    let written = c.program.new.output in
    let status = c.program.result in (
      given.0,
      opened_so input left held written (OpensStore state tells opens)
          (DoesAfter functions state macros whole remaining contents input left held written (Run wanted) status given.0)
          (λ disk. IsThereByThen functions wanted state macros (remaining input) (remaining left) (contents held) (contents written) disk
          ⊎ ((back : _) × IsStatusOfUnopenedStore functions state disk back whole status × AreStreamsUntouched input left held written))
          folder existing status given.0
          (λ disk opened does.
          let honest = honest_as_opened state tells opens folder existing disk c.requires.honest opened in
          there_after functions wanted state macros whole remaining contents input left held written status given.0 disk honest
          (λ back ended session. c.what_a_session_wrote_is_there.ensures.one functions wanted disk back macros (remaining input) (remaining left) (contents held) (contents written) ended
          honest session)
          (λ back ended session other start left_disk others_macros gave leaves holds wrote ending still earlier k might.
          c.what_was_answered_is_found.ensures.found functions other wanted start left_disk others_macros gave leaves holds wrote ending still earlier k (state disk).reads might
          disk back macros (remaining input) (remaining left) (contents held) (contents written) ended honest refl session)
          does)
          given.3,
    )
