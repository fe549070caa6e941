-- From what was seen to what a look promises.
use Rattle.std.proofs.Common.{◌≡◌, ◌∙◌, ℕ, Bool, false, true, List, [], Option, None, Some, Result, Ok, Err, MatchResult, option_and_then, refl, sym, subst, ap, inl, inr, append-nil}
use Rattle.std.specs.Borrow.{Bor}
use Rattle.std.specs.Global.{Vec}
use Rattle.std.specs.Prelude.{IfErr, IfOk, IfSome}
use Rattle.clap.specs.Words.{Text}
use Rattle.command_words.specs.declared.looks.InfoPart.{InfoPart}
use Rattle.command_words.specs.declared.looks.Look.{Look}
use Rattle.command_words.specs.declared.looks.Look.TheVariants.{Backup, Dump, Info, Log, Show, Verify}
use Rattle.disk_trait.specs.declared.half.Half.{Half}
use Rattle.disk_trait.specs.declared.host.HostError.{HostError}
use Rattle.log_look.specs.declared.sight.Sight.{Sight}
use Rattle.log_look.specs.SeenState.{state_of_sight}
use Rattle.log_look.specs.declared.host.Figures.{Figures}
use Rattle.messages.specs.Position.{position}
use Rattle.plist_state.specs.State.{WorldState}
use Rattle.prevalence_store.specs.calls.Open.{IsOpened, IsUnopened}
use Rattle.prevalence_store.specs.calls.Store.{StoreView}
use Rattle.command_words.specs.LookLine.{AsksToLook}
use Rattle.command_words.specs.declared.looks.RecordPlace.{RecordPlace}
use Rattle.command_words.specs.declared.looks.Records.{Records}
use Rattle.command_words.specs.declared.looks.Shown.{Shown}
use Rattle.command_words.specs.declared.words.Report.TheVariants as reports
use Rattle.lisp_object.specs.declared.refusal.TheConstants.{INPUT, NO_MEMORY}
use Rattle.log_look.specs.FirstRecords.{IsCut, IsNoPlace, LookIsUnopened as IsNoLog}
use Rattle.log_look.specs.declared.error.LogError.{LogError}
use Rattle.store_commands.specs.Report.{IsReport}
use Rattle.store_commands.specs.Status.{IsOfWords}
use Rattle.store_reports.specs.Log.{IsLogText, least_records}
use Rattle.store_commands.specs.Session.{half_limit}
use Rattle.store_commands.specs.StatusAfterText.{TellsText}
use Rattle.store_commands.specs.declared.status.Status.{Status}
use Rattle.store_commands.specs.declared.status.Status.TheVariants as statuses
use Rattle.store_looks.specs.Looks.{PrintsText}
use Rattle.store_looks.specs.LookReports.{BacksUp, IsSelection, TellsProperties, WithholdsProperties, LooksAsAsked, LooksAt, System, TellsDump, TellsFigures, TellsFileFigures, TellsInfo, TellsLog, TellsLook, TellsShown, TellsVerified, OpensAsNoStore, WithholdsBackup, WithholdsDump, WithholdsFigures, WithholdsFileFigures, WithholdsInfo, WithholdsLog, WithholdsLook, WithholdsShown, WithholdsVerified, notation_of, part_of, status_in}
use Rattle.store_looks.specs.FailedLooks.{IsOfBackup, of_log, of_show}
use Rattle.store_reports.specs.Figures.{AreFiguresOf, file_info_text, info_text, verified_text}
use Rattle.store_reports.specs.declared.backups.BackupError.{BackupError}
use Rattle.store_reports.specs.declared.figures.HalfFigures.{HalfFigures}
use Rattle.store_reports.specs.declared.numbers.Notation.{Notation}
use Rattle.store_reports.specs.declared.selection.Selection.{Selection}
use Rattle.store_reports.specs.declared.showing.ShowError.{ShowError}
use Rattle.store_looks.specs.declared.unlooked.Unlooked.{Unlooked}
use Rattle.store_looks.specs.declared.unlooked.Unlooked.TheVariants as unlooked
use Rattle.user_macros.specs.Functions.{Functions}
use Rattle.world_text.specs.Snapshot.{snapshot}

-- nothing was written, and that is the text of nothing
nothing_prints : (held written : Option (List ℕ)) → written ≡ held → PrintsText held written statuses.Done
nothing_prints held written same = ([], λ had holds. same ∙ holds ∙ ap (λ (l : List ℕ). Some l) (sym (append-nil had)))

module _ (functions : Functions) {R : Type 0} (macros : R) (held written : Option (List ℕ)) (system : System) (folder : Text) where
  -- each look that tells something writes one text
  told_prints : (look : Look) (sight : Sight) (status : Status) → TellsLook functions macros held written system folder look sight status → PrintsText held written status
  unfolding TellsLook TellsInfo TellsShown TellsDump BacksUp TellsLog
  told_prints (Show shown) sight status told = (told.2.text, told.2.tells)
  told_prints (Info part) sight status (inl (_, told)) = (_, told.tells)
  told_prints (Info part) sight status (inr (_, told)) = (told.tells.text, told.tells.tells)
  told_prints (Log records) sight status told = (told.0, told.2)
  told_prints (Backup to) sight status told = subst (PrintsText held written) (sym told.0.1) (nothing_prints held written told.1)
  told_prints (Dump place) sight status told = (snapshot told.2.1.is_opened.world, told.2.1.tells)
  told_prints Verify sight status told =
      (verified_text told.opened.half told.opened.generation told.opened.record_count (position told.is_opened.world), told.tells)

  module _ (whole : Bool) where
    -- what a look came to
    abbrev CameTo : Look → Sight → Result Status Unlooked → Type 0
    CameTo look sight ended =
        MatchResult ended (TellsLook functions macros held written system folder look sight) (WithholdsLook functions macros whole system folder look sight)

    module _ (lacks_seeds : Type 0) (opens : Text → Result Sight HostError → Type 0) (look : Look) where
      pub look_prints : (status : Status) → LooksAt functions macros whole system lacks_seeds opens folder look held written (Ok status) → PrintsText held written status
      unfolding LooksAt
      look_prints status (inl none) = let is : ◌≡◌ {A = Result Status Unlooked} (Ok status) (Err (unlooked.Fault INPUT)) = none.1 in absurd (cc)
      look_prints status (inr (inl not)) = let is : ◌≡◌ {A = Result Status Unlooked} (Ok status) (Err (unlooked.Host not.0)) = not.2 in absurd (cc)
      look_prints status (inr (inr seen)) = told_prints look seen.0 status seen.2

      -- the folder was not opened
      pub look_failed : (opened : Result Sight HostError) (error : HostError) → opened ≡ Err error → opens folder opened
          → LooksAt functions macros whole system lacks_seeds opens folder look held written (Err (unlooked.Host error))
      unfolding LooksAt
      look_failed opened error is given = inr (inl (error, subst (opens folder) is given, refl))

      -- it was
      pub look_done : (opened : Result Sight HostError) (sight : Sight) (ended : Result Status Unlooked) → opened ≡ Ok sight → opens folder opened → CameTo look sight ended
          → LooksAt functions macros whole system lacks_seeds opens folder look held written ended
      unfolding LooksAt
      look_done opened sight ended is given looks = inr (inr (sight, subst (opens folder) is given, looks))

    -- ---- by what is asked for

    module _ (look : Look) (sight : Sight) where
      by_shown : (shown : Shown) (ended : Result Status Unlooked)
          → MatchResult ended (TellsShown functions macros held written shown sight) (WithholdsShown functions macros whole shown sight) → CameTo (Show shown) sight ended
      unfolding TellsLook WithholdsLook
      by_shown shown (Ok status) shows = shows
      by_shown shown (Err why) shows = shows

      pub shown_told : (shown : Shown) → look ≡ Show shown → (ended : Result Status Unlooked)
          → MatchResult ended (TellsShown functions macros held written shown sight) (WithholdsShown functions macros whole shown sight) → CameTo look sight ended
      shown_told shown is ended shows = subst (λ (l : Look). CameTo l sight ended) (sym is) (by_shown shown ended shows)

      by_verified : (ended : Result Status Unlooked)
          → MatchResult ended (TellsVerified functions macros held written sight) (WithholdsVerified functions whole sight) → CameTo Verify sight ended
      unfolding TellsLook WithholdsLook
      by_verified (Ok status) tells = tells
      by_verified (Err why) tells = tells

      pub verified_told : look ≡ Verify → (ended : Result Status Unlooked)
          → MatchResult ended (TellsVerified functions macros held written sight) (WithholdsVerified functions whole sight) → CameTo look sight ended
      verified_told is ended tells = subst (λ (l : Look). CameTo l sight ended) (sym is) (by_verified ended tells)

      by_dump : (place : RecordPlace) (ended : Result Status Unlooked)
          → MatchResult ended (TellsDump functions macros held written place sight) (WithholdsDump functions macros whole place sight) → CameTo (Dump place) sight ended
      unfolding TellsLook WithholdsLook
      by_dump place (Ok status) dumps = dumps
      by_dump place (Err why) dumps = dumps

      pub dump_told : (place : RecordPlace) → look ≡ Dump place → (ended : Result Status Unlooked)
          → MatchResult ended (TellsDump functions macros held written place sight) (WithholdsDump functions macros whole place sight) → CameTo look sight ended
      dump_told place is ended dumps = subst (λ (l : Look). CameTo l sight ended) (sym is) (by_dump place ended dumps)

      by_figures : (part : InfoPart) (ended : Result Status Unlooked)
          → MatchResult ended (TellsInfo functions macros held written part (system.measures folder) sight) (WithholdsInfo functions macros whole part (system.measures folder) sight)
          → CameTo (Info part) sight ended
      unfolding TellsLook WithholdsLook
      by_figures part (Ok status) tells = tells
      by_figures part (Err why) tells = tells

      pub figures_told : (part : InfoPart) → look ≡ Info part → (ended : Result Status Unlooked)
          → MatchResult ended (TellsInfo functions macros held written part (system.measures folder) sight) (WithholdsInfo functions macros whole part (system.measures folder) sight)
          → CameTo look sight ended
      figures_told part is ended tells = subst (λ (l : Look). CameTo l sight ended) (sym is) (by_figures part ended tells)

      by_log : (records : Records) (ended : Result Status Unlooked) → IfOk ended (TellsLog held written records sight) → IfErr ended (WithholdsLog records sight) → CameTo (Log records) sight ended
      unfolding TellsLook WithholdsLook
      by_log records (Ok status) done failed = done
      by_log records (Err why) done failed = failed

      pub log_told : (records : Records) → look ≡ Log records → (ended : Result Status Unlooked) → IfOk ended (TellsLog held written records sight) → IfErr ended (WithholdsLog records sight)
          → CameTo look sight ended
      log_told records is ended done failed = subst (λ (l : Look). CameTo l sight ended) (sym is) (by_log records ended done failed)

      -- a backup writes nothing to the output
      by_backup : (to : Bor (List ℕ)) → written ≡ held → (ended : Result Status Unlooked)
          → MatchResult ended (BacksUp functions macros (system.made to.now) sight) (WithholdsBackup functions macros whole (system.unmade to.now) sight) → CameTo (Backup to) sight ended
      unfolding TellsLook WithholdsLook
      by_backup to same (Ok status) backs = (backs, same)
      by_backup to same (Err why) backs = backs

      pub backed_up : (to : Bor (List ℕ)) → look ≡ Backup to → written ≡ held → (ended : Result Status Unlooked)
          → MatchResult ended (BacksUp functions macros (system.made to.now) sight) (WithholdsBackup functions macros whole (system.unmade to.now) sight) → CameTo look sight ended
      backed_up to is same ended backs = subst (λ (l : Look). CameTo l sight ended) (sym is) (by_backup to same ended backs)

-- what is so of the world of an open store
pub at_world : (P : WorldState → Type 0) (known : Option WorldState) (world : WorldState) → known ≡ Some world → IfSome known P → P world
at_world P known world is given = subst (λ (o : Option WorldState). IfSome o P) is given

-- what is told of the half in use of an open store, and of its position
module _ {R E : Type 0} (store : StoreView Sight R) (half : Half) (generation records : ℕ) (found : Option ℕ) (result : Result (Vec ℕ) E) where
  pub verified_at : half ≡ store.half → generation ≡ store.generation → records ≡ store.record_count → IfOk result (λ t. t.items ≡ verified_text half generation records found)
      → found ≡ option_and_then position store.world
      → IfSome store.world (λ world. IfOk result (λ t. t.items ≡ verified_text store.half store.generation store.record_count (position world)))
  verified_at of_half of_generation of_records told is = go store.world is
    where
      whole : IfOk result (λ t. t.items ≡ verified_text store.half store.generation store.record_count found)
      whole =
          subst (λ (h : Half). IfOk result (λ t. t.items ≡ verified_text h store.generation store.record_count found)) of_half
          (subst (λ (g : ℕ). IfOk result (λ t. t.items ≡ verified_text half g store.record_count found)) of_generation
          (subst (λ (n : ℕ). IfOk result (λ t. t.items ≡ verified_text half generation n found)) of_records told))

      go : (known : Option WorldState) → found ≡ option_and_then position known
          → IfSome known (λ world. IfOk result (λ t. t.items ≡ verified_text store.half store.generation store.record_count (position world)))
      go None same = tt
      go (Some world) same = subst (λ (f : Option ℕ). IfOk result (λ t. t.items ≡ verified_text store.half store.generation store.record_count f)) same whole

module _ (functions : Functions) {R : Type 0} (macros : R) (store : StoreView Sight R) where
  module _ (sight : Sight) (opened : IsOpened functions state_of_sight sight macros half_limit store) (shown : Shown) (selection : Selection) (asked : IsSelection shown selection) where
    -- what is told of them, and why nothing is
    abbrev Is : WorldState → List ℕ → Type 0
    Is = TellsProperties shown.count (notation_of shown.json) selection

    abbrev IsNot : WorldState → ShowError → Type 0
    IsNot = WithholdsProperties shown.count selection

    module _ (result : Result (Vec ℕ) ShowError) (shows : IfSome store.world (λ world. MatchResult result (λ text. Is world text.items) (IsNot world))) where
      showing : MatchResult result (λ text. Is opened.world text.items) (IsNot opened.world)
      showing = at_world (λ world. MatchResult result (λ text. Is world text.items) (IsNot world)) store.world opened.world opened.known shows

      -- properties were shown, or counted
      pub show_done : (held written : Option (List ℕ)) (status : Status) (text : Vec ℕ) (lines : List ℕ) → result ≡ Ok text → lines ≡ text.items
          → TellsText status held written lines → TellsShown functions macros held written shown sight status
      unfolding TellsShown
      show_done held written status text lines is same tells =
          let told : Is opened.world text.items = subst (λ (r : Result (Vec ℕ) ShowError). MatchResult r (λ t. Is opened.world t.items) (IsNot opened.world)) is showing in
          (selection, asked, record { opened = store; is_opened = opened; text = lines; is = subst (Is opened.world) (sym same) told; tells = tells })

      -- none were
      pub show_failed : (whole : Bool) (error : ShowError) (why : Unlooked) → result ≡ Err error → why ≡ of_show error
          → WithholdsShown functions macros whole shown sight why
      unfolding WithholdsShown
      show_failed whole error why is given =
          let not : IsNot opened.world error = subst (λ (r : Result (Vec ℕ) ShowError). MatchResult r (λ t. Is opened.world t.items) (IsNot opened.world)) is showing in
          inr (selection, asked, (error, record { opened = store; is_opened = opened; is = not }, given))

  -- figures were told of a sight that is as it was
  pub info_done : (notation : Notation) (measured : Result Figures HostError → Type 0) (sight same : Sight) (half : HalfFigures) (files : Figures) → measured (Ok files) → AreFiguresOf (state_of_sight sight).reads half → (state_of_sight same).reads ≡ (state_of_sight sight).reads
      → (opened : IsOpened functions state_of_sight same macros half_limit store) (E : Type 0) (result : Result (Vec ℕ) E) (text : Vec ℕ) (lines : List ℕ) → lines ≡ text.items
      → IfSome store.world (λ world. IfOk result (λ t. t.items ≡ info_text notation half world files)) → result ≡ Ok text
      → (held written : Option (List ℕ)) (status : Status) → TellsText status held written lines → TellsFigures functions macros held written notation measured sight status
  info_done notation measured sight same half files are_measured figures reads opened E result text lines equal told is held written status tells =
      let of_world : IfOk result (λ t. t.items ≡ info_text notation half opened.world files) =
      at_world (λ world. IfOk result (λ t. t.items ≡ info_text notation half world files)) store.world opened.world opened.known told in
      let text_is : text.items ≡ info_text notation half opened.world files = subst (λ (r : Result (Vec ℕ) E). IfOk r (λ t. t.items ≡ info_text notation half opened.world files)) is of_world in
      record {
        half = half;
        figures = figures;
        files = files;
        are_measured = are_measured;
        same = same;
        reads = reads;
        tells = record { opened = store; is_opened = opened; text = lines; is = equal ∙ text_is; tells = tells };
      }

  -- the half in use and the position were told
  pub verify_done : (sight : Sight) (opened : IsOpened functions state_of_sight sight macros half_limit store) (E : Type 0) (result : Result (Vec ℕ) E) (text : Vec ℕ) (lines : List ℕ) → lines ≡ text.items
      → IfSome store.world (λ world. IfOk result (λ t. t.items ≡ verified_text store.half store.generation store.record_count (position world))) → result ≡ Ok text
      → (held written : Option (List ℕ)) (status : Status) → TellsText status held written lines → TellsVerified functions macros held written sight status
  verify_done sight opened E result text lines equal told is held written status tells =
      let of_world : IfOk result (λ t. t.items ≡ verified_text store.half store.generation store.record_count (position opened.world)) =
      at_world (λ world. IfOk result (λ t. t.items ≡ verified_text store.half store.generation store.record_count (position world))) store.world opened.world opened.known told in
      let text_is : text.items ≡ verified_text store.half store.generation store.record_count (position opened.world) =
      subst (λ (r : Result (Vec ℕ) E). IfOk r (λ t. t.items ≡ verified_text store.half store.generation store.record_count (position opened.world))) is of_world in
      record { opened = store; is_opened = opened; tells = subst (TellsText status held written) (equal ∙ text_is) tells }

-- the lines of records were written, or not
module _ (sight : Sight) where
  pub log_done : (records : Records) (notation : Notation) (text lines : List ℕ) → notation ≡ notation_of records.json → lines ≡ text
      → IsLogText (record (part_of records) { notation = notation }) (state_of_sight sight).reads text → (held written : Option (List ℕ)) (status : Status)
      → TellsText status held written lines → TellsLog held written records sight status
  unfolding TellsLog
  log_done records notation text lines asked same is held written status tells =
      let of_lines : IsLogText (record (part_of records) { notation = notation }) (state_of_sight sight).reads lines =
      subst (IsLogText (record (part_of records) { notation = notation }) (state_of_sight sight).reads) (sym same) is in
      (lines, subst (λ (n : Notation). IsLogText (record (part_of records) { notation = n }) (state_of_sight sight).reads lines) asked of_lines, tells)

  pub log_failed : (records : Records) (error : LogError) (why : Unlooked) → IsNoPlace (least_records records.from.number) records.from.generation error (state_of_sight sight).reads → why ≡ of_log error
      → WithholdsLog records sight why
  unfolding WithholdsLog
  log_failed records error why none is = (error, none, is)

-- the store was not opened
pub unopens : (functions : Functions) (whole : Bool) (sight : Sight) (number : ℕ) (back : Sight) → IsUnopened functions state_of_sight sight whole half_limit number back → OpensAsNoStore functions whole sight (unlooked.Fault number)
unfolding OpensAsNoStore
unopens functions whole sight number back refused = (number, back, refused, refl)

-- nor told of
module _ (functions : Functions) (whole : Bool) (sight : Sight) where
  pub verify_unopened : (given why : Unlooked) → why ≡ given → OpensAsNoStore functions whole sight given → WithholdsVerified functions whole sight why
  unfolding WithholdsVerified
  verify_unopened given why is not = inl (subst (OpensAsNoStore functions whole sight) (sym is) not)

  pub verify_memory : (why : Unlooked) → why ≡ unlooked.Fault NO_MEMORY → WithholdsVerified functions whole sight why
  unfolding WithholdsVerified
  verify_memory why is = inr is

module _ (functions : Functions) {R : Type 0} (macros : R) (sight : Sight) where
  -- the text of a world after so many records was written
  pub dump_done : (place : RecordPlace) (cut : Sight) → IsCut place.number place.generation (state_of_sight sight).reads (state_of_sight cut).reads
      → (held written : Option (List ℕ)) (status : Status) (back : Sight) → IsReport functions state_of_sight reports.Dump cut macros held written status back
      → TellsDump functions macros held written place sight status
  unfolding TellsDump
  dump_done place cut is held written status back report = (cut, is, (back, report))

  pub dump_unopened : (whole : Bool) (place : RecordPlace) (cut : Sight) → IsCut place.number place.generation (state_of_sight sight).reads (state_of_sight cut).reads
      → (number : ℕ) (back : Sight) → IsUnopened functions state_of_sight cut whole half_limit number back
      → WithholdsDump functions macros whole place sight (unlooked.Fault number)
  unfolding WithholdsDump OpensAsNoStore
  dump_unopened whole place cut is number back refused = inr (cut, is, (number, back, refused, refl))

  pub dump_failed : (whole : Bool) (place : RecordPlace) (error : LogError) (why : Unlooked) → IsNoPlace place.number place.generation error (state_of_sight sight).reads → why ≡ of_log error
      → WithholdsDump functions macros whole place sight why
  unfolding WithholdsDump
  dump_failed whole place error why none is = inl (error, none, is)

  pub show_unopened : (whole : Bool) (shown : Shown) (given why : Unlooked) → why ≡ given → OpensAsNoStore functions whole sight given → WithholdsShown functions macros whole shown sight why
  unfolding WithholdsShown
  show_unopened whole shown given why is not = inl (subst (OpensAsNoStore functions whole sight) (sym is) not)

  -- a backup was made of the world of the store that was opened, or not
  module _ (store : StoreView Sight R) (opened : IsOpened functions state_of_sight sight macros half_limit store) (made : WorldState → Type 0) (unmade : WorldState → BackupError → Type 0) where
    pub backs_up : {U : Type 0} (u : U) (result : Result U BackupError) → IfSome store.world (λ world. MatchResult result (λ _. made world) (unmade world)) → result ≡ Ok u
        → (status : Status) → status ≡ statuses.Done → BacksUp functions macros made sight status
    unfolding BacksUp
    backs_up {U} u result backs is status done =
        let here : MatchResult result (λ _. made opened.world) (unmade opened.world) = at_world (λ world. MatchResult result (λ _. made world) (unmade world)) store.world opened.world opened.known backs in
        (record { opened = store; is_opened = opened; is = subst (λ (r : Result U BackupError). MatchResult r (λ _. made opened.world) (unmade opened.world)) is here }, done)

    pub backup_failed : {U : Type 0} (whole : Bool) (error : BackupError) (result : Result U BackupError) → IfSome store.world (λ world. MatchResult result (λ _. made world) (unmade world)) → result ≡ Err error
        → (why : Unlooked) → IsOfBackup error why → WithholdsBackup functions macros whole unmade sight why
    unfolding WithholdsBackup
    backup_failed {U} whole error result backs is why given =
        let here : MatchResult result (λ _. made opened.world) (unmade opened.world) = at_world (λ world. MatchResult result (λ _. made world) (unmade world)) store.world opened.world opened.known backs in
        inr (error, record { opened = store; is_opened = opened; is = subst (λ (r : Result U BackupError). MatchResult r (λ _. made opened.world) (unmade opened.world)) is here }, given)

  pub backup_unopened : (whole : Bool) (unmade : WorldState → BackupError → Type 0) (given why : Unlooked) → why ≡ given → OpensAsNoStore functions whole sight given → WithholdsBackup functions macros whole unmade sight why
  unfolding WithholdsBackup
  backup_unopened whole unmade given why is not = inl (subst (OpensAsNoStore functions whole sight) (sym is) not)

  module _ (whole : Bool) (measured : Result Figures HostError → Type 0) where
    -- no figures
    pub info_unread : (error : HostError) (why : Unlooked) → measured (Err error) → why ≡ unlooked.Host error → WithholdsFigures functions macros whole measured sight why
    unfolding WithholdsFigures
    info_unread error why not is = inl (error, not, is)

    pub info_failed : (error : LogError) (why : Unlooked) → IsNoLog error (state_of_sight sight).reads → why ≡ of_log error → WithholdsFigures functions macros whole measured sight why
    unfolding WithholdsFigures
    info_failed error why none is = inr (inl (error, none, is))

    pub info_unopened : (same : Sight) (given why : Unlooked) → why ≡ given → (state_of_sight same).reads ≡ (state_of_sight sight).reads → OpensAsNoStore functions whole same given
        → WithholdsFigures functions macros whole measured sight why
    unfolding WithholdsFigures
    info_unopened same given why is reads not = inr (inr (same, reads, inl (subst (OpensAsNoStore functions whole same) (sym is) not)))

    pub info_memory : (why : Unlooked) → why ≡ unlooked.Fault NO_MEMORY → WithholdsFigures functions macros whole measured sight why
    unfolding WithholdsFigures
    info_memory why is = inr (inr (sight, refl, inr is))

module _ (sight : Sight) (measured : Result Figures HostError → Type 0) where
  -- figures that need no world
  pub files_done : (notation : Notation) (half : HalfFigures) (files : Figures) (text lines : List ℕ) → measured (Ok files) → AreFiguresOf (state_of_sight sight).reads half → lines ≡ text
      → text ≡ file_info_text notation half files → (held written : Option (List ℕ)) (status : Status) → TellsText status held written lines
      → TellsFileFigures held written notation measured sight status
  files_done notation half files text lines are_measured figures same is held written status tells =
      record { half = half; figures = figures; files = files; are_measured = are_measured; tells = subst (TellsText status held written) (same ∙ is) tells }

  -- none of them
  pub files_unread : (error : HostError) (why : Unlooked) → measured (Err error) → why ≡ unlooked.Host error → WithholdsFileFigures measured sight why
  unfolding WithholdsFileFigures
  files_unread error why not is = inl (error, not, is)

  pub files_failed : (error : LogError) (why : Unlooked) → IsNoLog error (state_of_sight sight).reads → why ≡ of_log error → WithholdsFileFigures measured sight why
  unfolding WithholdsFileFigures
  files_failed error why none is = inr (inl (error, none, is))

  pub files_memory : (why : Unlooked) → why ≡ unlooked.Fault NO_MEMORY → WithholdsFileFigures measured sight why
  unfolding WithholdsFileFigures
  files_memory why is = inr (inr is)

  -- by what is asked for
  module _ (functions : Functions) {R : Type 0} (macros : R) (whole : Bool) (held written : Option (List ℕ)) (part : InfoPart) (notation : Notation) (is : notation ≡ notation_of part.json) where
    pub files_told : part.files ≡ true → (ended : Result Status Unlooked)
        → MatchResult ended (TellsFileFigures held written notation measured sight) (WithholdsFileFigures measured sight)
        → MatchResult ended (TellsInfo functions macros held written part measured sight) (WithholdsInfo functions macros whole part measured sight)
    unfolding TellsInfo WithholdsInfo
    files_told asked (Ok status) tells = inl (asked, subst (λ (n : Notation). TellsFileFigures held written n measured sight status) is tells)
    files_told asked (Err why) tells = inl (asked, tells)

    pub world_told : part.files ≡ false → (ended : Result Status Unlooked)
        → MatchResult ended (TellsFigures functions macros held written notation measured sight) (WithholdsFigures functions macros whole measured sight)
        → MatchResult ended (TellsInfo functions macros held written part measured sight) (WithholdsInfo functions macros whole part measured sight)
    unfolding TellsInfo WithholdsInfo
    world_told asked (Ok status) tells = inr (asked, subst (λ (n : Notation). TellsFigures functions macros held written n measured sight status) is tells)
    world_told asked (Err why) tells = inr (asked, tells)

-- the whole look
module _ (functions : Functions) {R : Type 0} (macros : R) (whole : Bool) (system : System) (lacks_seeds : Type 0) (opens : Text → Result Sight HostError → Type 0) (words : List Text) (held written : Option (List ℕ)) where
  pub look_of_words : (status : Status) → IsOfWords status → LooksAsAsked functions macros whole system lacks_seeds opens words held written status
  unfolding LooksAsAsked
  look_of_words status of_words = inl of_words

  pub look_ended : (folder : Text) (look : Look) → AsksToLook words folder look → (ended : Result Status Unlooked) (status : Status) → status ≡ status_in ended
      → LooksAt functions macros whole system lacks_seeds opens folder look held written ended → LooksAsAsked functions macros whole system lacks_seeds opens words held written status
  unfolding LooksAsAsked
  look_ended folder look asks ended status is looks = inr (folder, look, asks, (ended, is, looks))

-- no seed was had
pub look_without_seed : (functions : Functions) {R : Type 0} (macros : R) (whole : Bool) (system : System) (lacks_seeds : Type 0) (opens : Text → Result Sight HostError → Type 0) (folder : Text) (look : Look) (held written : Option (List ℕ)) → lacks_seeds
    → LooksAt functions macros whole system lacks_seeds opens folder look held written (Err (unlooked.Fault INPUT))
unfolding LooksAt
look_without_seed functions macros whole system lacks_seeds opens folder look held written lacks = inl (lacks, refl)
