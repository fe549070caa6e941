-- From the text that was looked through to what `check` promises.
use Rattle.std.proofs.Common.{◌≡◌, ◌==◌, ℕ, Bool, List, length, Option, Some, Result, Ok, Err, inl, inr, ap, sym, subst, ◌∙◌}
use Rattle.std.specs.Global.{Vec}
use Rattle.std.specs.Prelude.{IfOk, IfSome}
use Rattle.clap.specs.Words.{Text}
use Rattle.command_words.specs.CheckLine.{AsksToCheck}
use Rattle.command_words.specs.LookLine.{text_of}
use Rattle.command_words.specs.declared.check.Check.{Check}
use Rattle.form_check.specs.Checking.{Checking}
use Rattle.log_look.specs.SeenState.{state_of_sight}
use Rattle.log_look.specs.declared.sight.Sight.{Sight}
use Rattle.plist_state.specs.Sound.{IsSoundWorldState}
use Rattle.plist_state.specs.State.{WorldState}
use Rattle.prevalence_store.specs.calls.Open.{IsOpened}
use Rattle.prevalence_store.specs.calls.Store.{StoreView}
use Rattle.store_commands.specs.Session.{half_limit}
use Rattle.store_commands.specs.Status.{IsOfWords}
use Rattle.store_commands.specs.declared.status.Status.{Status}
use Rattle.store_looks.specs.CheckReports.{Checks, EndsCheck, FindsIn, IsCheckText, IsTextOf, IsWorldCheckedUnder, TellsCheckedText}
use Rattle.store_looks.specs.LookReports.{LookHasWorldThat, notation_of}
use Rattle.store_looks.specs.FailedLooks.{status_of}
use Rattle.store_looks.proofs.Looking.{at_world}
use Rattle.store_reports.specs.declared.numbers.Notation.{Notation}
use Rattle.world_text.specs.Snapshot.{snapshot, snapshot_in}
use Rattle.store_looks.specs.declared.unlooked.Unlooked.{Unlooked}
use Rattle.user_macros.specs.Functions.{Functions}

module _ (functions registered : Functions) {R : Type 0} (macros : R) (input held written : Option (List ℕ)) where
  -- what was found was told
  pub forms_told : (asked : Check) (text seen : List ℕ) (world : WorldState) (found : Checking) (lines told : List ℕ) (all : Bool) (status : Status) → seen ≡ text → told ≡ lines
      → IsTextOf (text_of asked.file) input text → IsWorldCheckedUnder functions macros (text_of asked.store) world → FindsIn registered world seen found → (notation : Notation)
      → notation ≡ notation_of asked.json → IsCheckText notation found lines
      → all ≡ (length found.1 == 0) → EndsCheck all held written told status → TellsCheckedText functions registered macros input held written asked status
  forms_told asked text seen world found lines told all status seen_is told_is text_is world_is finds notation asked_so lines_are all_is ends = record {
    text = text;
    text_is = text_is;
    world = world;
    world_is = world_is;
    found = found;
    finds = subst (λ (t : List ℕ). FindsIn registered world t found) seen_is finds;
    told = lines;
    told_is = subst (λ (n : Notation). IsCheckText n found lines) asked_so lines_are;
    tells = subst (λ (b : Bool). EndsCheck b held written lines status) all_is (subst (λ (t : List ℕ). EndsCheck all held written t status) told_is ends);
  }

  module _ (words : List Text) where
    pub check_of_words : (status : Status) → IsOfWords status → Checks functions registered macros input held written words status
    unfolding Checks
    check_of_words status of_words = inl of_words

    pub check_told : (asked : Check) → AsksToCheck words asked → (ended status : Status) → status ≡ ended → TellsCheckedText functions registered macros input held written asked ended
        → Checks functions registered macros input held written words status
    unfolding Checks
    check_told asked asks ended status is tells = inr (asked, asks, (Ok ended, is, tells))

    pub check_untold : (asked : Check) → AsksToCheck words asked → (why : Unlooked) (status : Status) → status ≡ status_of why → written ≡ held
        → Checks functions registered macros input held written words status
    unfolding Checks
    check_untold asked asks why status is same = inr (asked, asks, (Err why, is, same))

-- a world that is read again from the text of that of a store that was seen
pub seen_so : (functions : Functions) {R : Type 0} (macros : R) (sight : Sight) (store : StoreView Sight R) (opened : IsOpened functions state_of_sight sight macros half_limit store) {E : Type 0}
    (result : Result (Vec ℕ) E) (text : Vec ℕ) (bytes : List ℕ) (read : WorldState) → IfSome store.world (λ world. IsSoundWorldState world × IfOk result (λ t. t.items ≡ snapshot world)) → result ≡ Ok text
    → bytes ≡ text.items → ((s : WorldState) → IsSoundWorldState s → snapshot_in 2 s ≡ Some bytes → s ≡ read) → (seen : Sight) × LookHasWorldThat functions macros (λ had. read ≡ had) seen
seen_so functions macros sight store opened {E} result text bytes read told is same only =
    let known = at_world (λ world. IsSoundWorldState world × IfOk result (λ t. t.items ≡ snapshot world)) store.world opened.world opened.known told in
    let text_is : text.items ≡ snapshot opened.world = subst (λ (r : Result (Vec ℕ) E). IfOk r (λ t. t.items ≡ snapshot opened.world)) is known.1 in
    (sight, record { opened = store; is_opened = opened; is = sym (only opened.world known.0 (ap (λ (l : List ℕ). Some l) (sym (same ∙ text_is)))) })
