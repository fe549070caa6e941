-- Sessions in a row over one open store.
use Rattle.std.specs.Prelude.{◌≡◌, ◌≢◌, ◌⊎◌, ℕ, Bool, true, false, List, [], ◌∷◌, ◌++◌, Option, Some}
use Rattle.std.specs.Io.KnownBytes.{Consumes}
use Rattle.std.specs.List.{AllByRecursion}
use Rattle.disk_trait.specs.Disk.{State}
use Rattle.plist_state.specs.State.{WorldState}
use Rattle.sessions.specs.declared.ending.Ended.{Ended}
use Rattle.sessions.specs.declared.ending.Ended.TheVariants.{End, Store, Unaccepted, Unreadable}
use Rattle.session_words.specs.declared.wanted.SessionOptions.{SessionOptions}
use Rattle.prevalence_store.specs.Theorem.{Call}
use Rattle.sessions.specs.Account.{first_account}
use Rattle.prevalence_store.specs.calls.Open.{IsOpened}
use Rattle.sessions.specs.Serve.{ServesWanted}
use Rattle.prevalence_store.specs.calls.Store.{StoreView}
use Rattle.session_ledger.specs.OutgoingLines.{WentOut, calls_in}
use Rattle.user_macros.specs.Functions.{Functions}
use Rattle.store_commands.specs.Session.{half_limit}

-- a refusal ended the session
abbrev pub EndsRefused : Ended → Type 0
EndsRefused End = ⊥
EndsRefused (Unreadable number place) = Unit {0}
EndsRefused (Unaccepted number place) = Unit {0}
EndsRefused (Store number) = ⊥

-- Bytes of one line: none of them is a newline, but perhaps the last one.
abbrev pub IsOfLine : List ℕ → Type 0
IsOfLine bytes = (bytes ≡ []) ⊎ ((line : List ℕ) × (last : ℕ) × (bytes ≡ line ++ last ∷ []) × AllByRecursion (λ byte. byte ≢ 10) line)

-- After a session the input may have lost some bytes more, of one line.
abbrev pub DropsRestOfLine : Option (List ℕ) → Option (List ℕ) → Type 0
DropsRestOfLine there has = (bytes : List ℕ) × IsOfLine bytes × Consumes there has bytes

-- a byte was dropped, which was this one; or there was none
abbrev pub DropsByte : Bool → ℕ → Option (List ℕ) → Option (List ℕ) → Type 0
DropsByte true byte there has = Consumes there has (byte ∷ [])
DropsByte false byte there has = Consumes there has []

module _ (functions : Functions) (wanted : SessionOptions) {D R : Type 0} (state : D → State) where
  -- One of the sessions: it served so, and this went out of it.
  abbrev pub ServesOut : (old new : StoreView D R) → WorldState → (had has held written : Option (List ℕ)) → Ended → Type 0
  ServesOut old new world had has held written ended =
      ServesWanted functions state wanted old new world had has held written ended × WentOut functions state (first_account world wanted.mode had old.disk) new held written

  -- Sessions that refusals ended so, the last one first; each begins in the world and the store that the one before it left, and with
  -- what that left of the input, but for some bytes.
  abbrev pub AreEarlierSessions : List Ended → (old new : StoreView D R) → (world left : WorldState) → (had has held written : Option (List ℕ)) → Type 0
  AreEarlierSessions [] old new world left had has held written = (new ≡ old) × (left ≡ world) × (has ≡ had) × (written ≡ held)
  AreEarlierSessions (ended ∷ others) old new world left had has held written =
      (mid : StoreView D R) × (between : WorldState) × (begun : Option (List ℕ)) × (there : Option (List ℕ)) × (before : Option (List ℕ))
      × AreEarlierSessions others old mid world between had begun held before
      × EndsRefused ended × ServesOut mid new between begun there before written ended
      × (new.world ≡ Some left) × DropsRestOfLine there has

  -- sessions that refusals ended, one after the other, and a last one that ended in this way
  abbrev pub AreSessionsInTurn : (old new : StoreView D R) → WorldState → (had has held written : Option (List ℕ)) → Ended → Type 0
  AreSessionsInTurn old new world had has held written ended =
      (others : List Ended) × (mid : StoreView D R) × (between : WorldState) × (begun : Option (List ℕ)) × (there : Option (List ℕ)) × (before : Option (List ℕ))
      × AreEarlierSessions others old mid world between had begun held before
      × ServesOut mid new between begun there before written ended
      × DropsRestOfLine there has

  -- The sessions before the last one as calls of the store: of each one for each time that its lines went out, and a last
  -- one.
  abbrev pub calls_before : (others : List Ended) (old new : StoreView D R) (world left : WorldState) (had has held written : Option (List ℕ))
      → AreEarlierSessions others old new world left had has held written → List (Call D)
  calls_before [] old new world left had has held written earlier = []
  calls_before (ended ∷ others) old new world left had has held written earlier =
      calls_before others old earlier.0 world earlier.1 had earlier.2 held earlier.4 earlier.5
      ++ calls_in functions state (first_account earlier.1 wanted.mode earlier.2 earlier.0.disk) new earlier.7.1

  -- all sessions as calls of the store, those before the last one and then that one
  abbrev pub calls_in_turn : (old new : StoreView D R) (world : WorldState) (had has held written : Option (List ℕ)) (ended : Ended)
      → AreSessionsInTurn old new world had has held written ended → List (Call D)
  calls_in_turn old new world had has held written ended turn =
      calls_before turn.0 old turn.1 world turn.2 had turn.3 held turn.5 turn.6
      ++ calls_in functions state (first_account turn.2 wanted.mode turn.3 turn.1.disk) new turn.7.1

  -- The store that a disk holds was opened with these macro functions, it served sessions in a row, and it was closed: this is its
  -- disk.
  pub record AreSessions (disk : D) (macros : R) (had has held written : Option (List ℕ)) (ended : Ended) (back : D) : Type 0 where
    pub opened : StoreView D R
    pub is_opened : IsOpened functions state disk macros half_limit opened
    pub closed : StoreView D R
    pub serves : AreSessionsInTurn opened closed is_opened.world had has held written ended
    pub disk_is : back ≡ closed.disk
