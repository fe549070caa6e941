-- A session leaves the macro functions as they are.
use Rattle.std.proofs.Common.{◌≡◌, ℕ, List, Option, Bool, inl, inr, ◌∙◌}
use Rattle.disk_trait.specs.Disk.{State}
use Rattle.plist_state.specs.State.{WorldState}
use Rattle.session_words.specs.declared.mode.Mode.{Mode}
use Rattle.session_words.specs.declared.wanted.SessionOptions.{SessionOptions}
use Rattle.user_macros.specs.Functions.{Functions}
use Rattle.sessions.specs.declared.ending.Ended.{Ended}
use Rattle.sessions.specs.declared.ending.Ended.TheVariants as ways
use Rattle.sessions.specs.declared.ending.Ending.{Ending}
use Rattle.sessions.specs.declared.ending.Ending.TheVariants.{End, Reader, Store}
use Rattle.sessions.specs.FormAnswers.{Progress}
use Rattle.sessions.specs.Serve.{Ends, ServesWanted}
use Rattle.prevalence_store.specs.calls.Store.{StoreView}

module _ (functions : Functions) {D R : Type 0} (state : D → State) (old new : StoreView D R) (world : WorldState) where
  macros_at_end : (mode : Mode) (text : List ℕ) (held written : Option (List ℕ)) (forms : ℕ) (far : Progress) (lines : ℕ) (answered : Progress) (part : List ℕ) (group : Bool) (ending : Ending)
      → Ends functions state old new world mode text held written forms far lines answered part group ending → new.macros ≡ old.macros
  macros_at_end mode text held written forms far lines answered part group End done = done.after.macros
  macros_at_end mode text held written forms far lines answered part group (Reader number) refused = refused.after.macros
  macros_at_end mode text held written forms far lines answered part group (Store number) (inl stopped) = stopped.failed.macros ∙ stopped.before.macros
  macros_at_end mode text held written forms far lines answered part group (Store number) (inr (inl stopped)) = stopped.failed.macros ∙ stopped.before.macros
  macros_at_end mode text held written forms far lines answered part group (Store number) (inr (inr (inl full))) = full.after.macros
  macros_at_end mode text held written forms far lines answered part group (Store number) (inr (inr (inr (inl large)))) = large.after.macros
  macros_at_end mode text held written forms far lines answered part group (Store number) (inr (inr (inr (inr (inl unread))))) = unread.after.macros
  macros_at_end mode text held written forms far lines answered part group (Store number) (inr (inr (inr (inr (inr (inl unwritten)))))) = unwritten.after.macros
  macros_at_end mode text held written forms far lines answered part group (Store number) (inr (inr (inr (inr (inr (inr none)))))) = none.after.macros

  pub kept_macros : (wanted : SessionOptions) (had has held written : Option (List ℕ)) (ended : Ended)
      → ServesWanted functions state wanted old new world had has held written ended → new.macros ≡ old.macros
  kept_macros wanted had has held written ways.End session =
      let s = session.0.serves in macros_at_end wanted.mode session.0.text held written s.forms s.far s.lines s.answered s.part wanted.group End s.ends
  kept_macros wanted had has held written (ways.Unreadable number place) session =
      let s = session.0.serves in macros_at_end wanted.mode session.0.text held written s.forms s.far s.lines s.answered s.part wanted.group (Reader number) s.ends
  kept_macros wanted had has held written (ways.Unaccepted number place) session = session.2.advances.after.macros
  kept_macros wanted had has held written (ways.Store number) session =
      let s = session.0.serves in macros_at_end wanted.mode session.0.text held written s.forms s.far s.lines s.answered s.part wanted.group (Store number) s.ends
