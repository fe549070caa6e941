-- Sessions in a row, one more.
use Rattle.std.proofs.Common.{◌≡◌, ◌≢◌, ◌∙◌, Bool, List, ℕ, true, false, [], ◌∷◌, ◌++◌, Option, None, Some, IsSome, refl, ap, subst, sym, inl, inr, append-nil, append_assoc}
use Rattle.std.proofs.KnownBytes.{Consumes-nil, Consumes-trans}
use Rattle.std.specs.Io.KnownBytes.{Consumes}
use Rattle.std.specs.List.{AllByRecursion}
use Rattle.disk_trait.specs.Disk.{State}
use Rattle.plist_state.specs.State.{WorldState}
use Rattle.sessions.specs.declared.ending.Ended.{Ended}
use Rattle.sessions.specs.declared.ending.Ended.TheVariants.{End, Store, Unaccepted, Unreadable}
use Rattle.session_words.specs.declared.wanted.SessionOptions.{SessionOptions}
use Rattle.prevalence_store.specs.calls.Store.{StoreView}
use Rattle.user_macros.specs.Functions.{Functions}
use Rattle.diagnostics.specs.Refusals.{IsRefusalOf}
use Rattle.sessions.specs.Serve.{ServesWanted}
use Rattle.store_commands.specs.SessionsInRow.{DropsRestOfLine, DropsByte, AreEarlierSessions, EndsRefused, AreSessionsInTurn, IsOfLine, ServesOut}
use Rattle.diagnostics.specs.declared.refusal.Refusal.{Refusal}

-- where there is a refusal the session ended with it
pub ends_refused : (ended : Ended) (given : Option Refusal) (refusal : Refusal) → given ≡ Some refusal → IsRefusalOf ended given → EndsRefused ended
ends_refused End given refusal some none = absurd (cc)
ends_refused (Unreadable number place) given refusal some is = tt
ends_refused (Unaccepted number place) given refusal some is = tt
ends_refused (Store number) given refusal some none = absurd (cc)

-- ---- bytes that are dropped

drops_nothing : (has : Option (List ℕ)) → DropsRestOfLine has has
drops_nothing has = ([], inl refl, Consumes-nil has)

no_newline_but : (line : List ℕ) (byte : ℕ) → AllByRecursion (λ b. b ≢ 10) line → byte ≢ 10 → AllByRecursion (λ b. b ≢ 10) (line ++ byte ∷ [])
no_newline_but [] byte each other = (other, tt)
no_newline_but (b ∷ bs) byte each other = (each.0, no_newline_but bs byte each.1 other)

-- Of a line these bytes were dropped, the last byte that was given is this one, and if it is no newline, none of them is.
abbrev pub DropsTo : ℕ → Option (List ℕ) → Option (List ℕ) → Type 0
DropsTo last there has = (bytes : List ℕ) × IsOfLine bytes × Consumes there has bytes × (last ≢ 10 → AllByRecursion (λ b. b ≢ 10) bytes)

pub drops_from : (last : ℕ) (has : Option (List ℕ)) → DropsTo last has has
drops_from last has = ([], inl refl, Consumes-nil has, λ other. tt)

pub drops_one : (last byte : ℕ) (there mid has : Option (List ℕ)) (result : Bool) → DropsTo last there mid → last ≢ 10 → result ≡ true → DropsByte result byte mid has
    → DropsTo byte there has
drops_one last byte there mid has false dropped other is one = absurd (cc)
drops_one last byte there mid has true (bytes, of, before, none) other is one = (
  bytes ++ byte ∷ [],
  inr (bytes, byte, refl, none other),
  Consumes-trans there mid has bytes (byte ∷ []) before one,
  λ no_newline. no_newline_but bytes byte (none other) no_newline,
)

-- no byte was there
pub drops_none : (last byte : ℕ) (there mid has : Option (List ℕ)) (result : Bool) → DropsTo last there mid → result ≡ false → DropsByte result byte mid has → DropsRestOfLine there has
drops_none last byte there mid has true dropped is no_more = absurd (cc)
drops_none last byte there mid has false (bytes, of, before, none) is no_more =
    (bytes, of, subst (Consumes there has) (append-nil bytes) (Consumes-trans there mid has bytes [] before no_more))

module _ (functions : Functions) (wanted : SessionOptions) {D R : Type 0} (state : D → State) (old : StoreView D R) (world : WorldState) (had held : Option (List ℕ)) where
  -- the sessions so far, the last of which ended so
  abbrev pub Row : (new : StoreView D R) (has written : Option (List ℕ)) → Ended → Type 0
  Row new has written ended =
      (others : List Ended) × (mid : StoreView D R) × (between : WorldState) × (begun : Option (List ℕ)) × (before : Option (List ℕ))
      × AreEarlierSessions functions wanted state others old mid world between had begun held before
      × ServesOut functions wanted state mid new between begun has before written ended

  pub first_turn : (new : StoreView D R) (has written : Option (List ℕ)) (ended : Ended) → ServesOut functions wanted state old new world had has held written ended
      → Row new has written ended
  first_turn new has written ended session = ([], old, world, had, held, (refl, refl, refl, refl), session)

  -- the world that a session left which a refusal ended
  abbrev Left : StoreView D R → Type 0
  Left mid = (left : WorldState) × (mid.world ≡ Some left)

  left_by : (first mid : StoreView D R) (first_world : WorldState) (begun there before between : Option (List ℕ)) (ended : Ended) → EndsRefused ended
      → ServesWanted functions state wanted first mid first_world begun there before between ended → Left mid
  left_by first mid first_world begun there before between End none session = absurd none
  left_by first mid first_world begun there before between (Unreadable number place) is served = (served.0.serves.far.world, served.0.serves.ends.after.left)
  left_by first mid first_world begun there before between (Unaccepted number place) is served = (served.2.far.world, served.2.advances.after.left)
  left_by first mid first_world begun there before between (Store number) none session = absurd none

  pub left_open : (mid : StoreView D R) (rest between : Option (List ℕ)) (ended : Ended) → EndsRefused ended → Row mid rest between ended → IsSome mid.world
  left_open mid rest between ended refused (others, start, first, begun, before, earlier, session) =
      let left = left_by start mid first begun rest before between ended refused session.0 in
      subst (λ (o : Option WorldState). IsSome o) (sym left.1) refl

  -- the next session begins in it, and with what the input has after some bytes more
  pub turn_after : (mid new : StoreView D R) (rest next_rest has between written : Option (List ℕ)) (ended next : Ended) → EndsRefused ended
      → Row mid rest between ended → DropsRestOfLine rest next_rest
      → ((left : WorldState) → mid.world ≡ Some left → ServesOut functions wanted state mid new left next_rest has between written next)
      → Row new has written next
  turn_after mid new rest next_rest has between written ended next refused (others, start, first, begun, before, earlier, session) dropped one_more =
      let left = left_by start mid first begun rest before between ended refused session.0 in (
        ended ∷ others,
        mid,
        left.0,
        next_rest,
        between,
        (start, first, begun, rest, before, earlier, refused, session, left.1, dropped),
        one_more left.0 left.1,
      )

  -- no session follows, and some bytes more were lost
  pub last_turn : (new : StoreView D R) (rest has written : Option (List ℕ)) (ended : Ended) → Row new rest written ended → DropsRestOfLine rest has
      → AreSessionsInTurn functions wanted state old new world had has held written ended
  last_turn new rest has written ended (others, start, first, begun, before, earlier, session) dropped =
      (others, start, first, begun, rest, before, earlier, session, dropped)

  -- or none
  pub no_more_turns : (new : StoreView D R) (has written : Option (List ℕ)) (ended : Ended) → Row new has written ended
      → AreSessionsInTurn functions wanted state old new world had has held written ended
  no_more_turns new has written ended row = last_turn new has has written ended row (drops_nothing has)

-- ---- what is known as the last one of them begins

-- what it leaves of a known input, and what it adds to a known output
abbrev Goes : (had has held written : Option (List ℕ)) → Type 0
Goes had has held written = (text bytes : List ℕ) → had ≡ Some text → held ≡ Some bytes
    → (rest : List ℕ) × (said : List ℕ) × (has ≡ Some rest) × (written ≡ Some (bytes ++ said))

dropped_to : (there has : Option (List ℕ)) (rest line : List ℕ) → there ≡ Some rest → Consumes there has line → (left : List ℕ) × (has ≡ Some left)
dropped_to None has rest line is some = absurd (cc)
dropped_to (Some xs) None rest line is none = absurd none
dropped_to (Some xs) (Some ys) rest line is some = (ys, refl)

module _ (functions : Functions) (wanted : SessionOptions) {D R : Type 0} (state : D → State) where
  session_goes : (old new : StoreView D R) (world : WorldState) (had has held written : Option (List ℕ)) (ended : Ended) → EndsRefused ended
      → ServesWanted functions state wanted old new world had has held written ended → Goes had has held written
  session_goes old new world had has held written End none served = absurd none
  session_goes old new world had has held written (Unreadable number place) is served = λ text bytes known holds.
      let read = served.0.reads text known in (read.0, _, read.2.1, served.0.serves.output bytes holds)
  session_goes old new world had has held written (Unaccepted number place) is served = λ text bytes known holds.
      let read = served.3 text known in (read.0, _, read.2, served.2.advances.lines bytes holds)
  session_goes old new world had has held written (Store number) none served = absurd none

  pub earlier_go : (others : List Ended) (old new : StoreView D R) (world left : WorldState) (had has held written : Option (List ℕ))
      → AreEarlierSessions functions wanted state others old new world left had has held written → Goes had has held written
  earlier_go [] old new world left had has held written (same, still, rest, said) = λ text bytes known holds.
      (text, [], rest ∙ known, said ∙ holds ∙ ap (λ l. Some l) (sym (append-nil bytes)))
  earlier_go (ended ∷ others) old new world left had has held written (mid, between, begun, there, before, earlier, refused, session, leaves, dropped) = λ text bytes known holds.
      let far = earlier_go others old mid world between had begun held before earlier text bytes known holds in
      let more = session_goes mid new between begun there before written ended refused session.0 far.0 (bytes ++ far.1) far.2 far.3 in
      let last = dropped_to there has more.0 dropped.0 more.2 dropped.2 in
      (last.0, far.1 ++ more.1, last.1, more.3 ∙ ap (λ l. Some l) (append_assoc bytes far.1 more.1))
