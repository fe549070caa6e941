use Rattle.std.proofs.Common.{◌≡◌, ℕ, List, Option, Some, refl, subst, ◌∙◌}
use Rattle.disk_trait.specs.Disk.{State}
use Rattle.plist_state.specs.State.{WorldState, initial}
use Rattle.sessions.specs.Serve.{ServesWanted}
use Rattle.prevalence_store.specs.calls.Store.{StoreView}
use Rattle.session_words.specs.declared.mode.Mode.TheVariants.{Current}
use Rattle.sessions.specs.declared.ending.Ended.{Ended}
use Rattle.sessions.specs.declared.ending.Ended.TheVariants.{End}
use Rattle.session_words.specs.declared.wanted.SessionOptions.{SessionOptions}
use Rattle.user_macros.specs.Functions.{Functions}
use Rattle.session_words.specs.declared.content.Content.TheVariants.{World}
use Rattle.world_forms.specs.Forms.{forms}
use Rattle.whole_export.specs.ExportSession.{EndsWith}
use Rattle.program_tests.proofs.exports.taken_in.Goals as goal

-- the law, of a text that is that of the forms, and a session that came to the end
at_the_end : (functions : Functions) {D R : Type 0} (state : D → State) (s : WorldState) (text : List ℕ) → text ≡ forms s World
    → ((wanted : SessionOptions) (old new : StoreView D R) (has held written : Option (List ℕ)) (ended : Ended) → wanted.mode ≡ Current
    → ServesWanted functions state wanted old new initial (Some (forms s World)) has held written ended → EndsWith new.world s ended)
    → (wanted : SessionOptions) (old new : StoreView D R) (has held written : Option (List ℕ)) (ended : Ended) → wanted.mode ≡ Current
    → ServesWanted functions state wanted old new initial (Some text) has held written ended → ended ≡ End → new.world ≡ Some s
at_the_end functions state s text is law wanted old new has held written ended mode served stopped =
    subst (EndsWith new.world s) stopped
    (law wanted old new has held written ended mode (subst (λ cs. ServesWanted functions state wanted old new initial (Some cs) has held written ended) is served))

pub returns : goal.returns
returns g c = λ is_taken covered none first.
    let s = c.args.world.now.0 in
    at_the_end g.M.Meaning.Meaning.functions g.D.Disk.state s c.as_slice-reader.result.now (c.as_slice-reader.ensures.value ∙ c.in_ok-exported.ensures.forms)
    (λ wanted old new has held written ended mode served.
    c.export_is_taken.ensures.world g.M.Meaning.Meaning.functions s c.soundness.ensures.present covered none wanted old new has held written ended mode served)
    _ c.args.store.now c.serve_wanted-ended.new.store _ _ _ _ refl (c.serve_wanted-ended.ensures.serves initial first) (c.is_at_end.ensures is_taken)
