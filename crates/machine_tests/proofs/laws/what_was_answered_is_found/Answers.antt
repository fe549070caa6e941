use Rattle.std.proofs.Common.{true}
use Rattle.machine_tests.proofs.Found.{after_found, as_before, never_for_files, world_found}
use Rattle.machine_tests.specs.Machine.{calls_of_session}
use Rattle.store_commands.specs.Session.{half_limit}
use Rattle.machine_tests.proofs.laws.what_was_answered_is_found.Goals as goal

pub returns-clause-found : goal.returns-clause-found
returns-clause-found g c = λ functions wanted other start back macros had has held written ended still earlier k image left crashed next others gave leaves holds wrote ending honest reads again.
    let means = c.what_a_session_wrote_is_there.ensures.one functions wanted start back macros had has held written ended still earlier k left.0 image left.1 in
    after_found functions earlier.is_opened.world again.is_opened.world (calls_of_session functions wanted g.D.Disk.state earlier) k image means
    (world_found functions g.E.Disk.state image crashed honest reads others half_limit again.opened again.is_opened means.left means.meant)

pub returns-clause-refused : goal.returns-clause-refused
returns-clause-refused g c = λ functions wanted start back macros had has held written ended still earlier k image left crashed unopened limit number honest reads refused.
    let means = c.what_a_session_wrote_is_there.ensures.one functions wanted start back macros had has held written ended still earlier k left.0 image left.1 in
    never_for_files functions g.E.Disk.state image crashed honest reads true limit number unopened refused means.left means.meant

pub returns-clause-unbegun : goal.returns-clause-unbegun
returns-clause-unbegun g c = λ functions wanted other start back macros had has held written ended before still keeps earlier image left crashed next others gave leaves holds wrote ending honest reads again.
    world_found functions g.E.Disk.state image crashed honest reads others half_limit again.opened again.is_opened before
    (as_before functions (g.D.Disk.state start) before image keeps ((earlier.is_opened.reopens still).any_moment.each image left))
