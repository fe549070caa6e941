-- Sessions in a row as calls of the store in a row.
--     rows_in_turn   those of sessions in turn
use Rattle.std.proofs.Common.{◌≡◌, ◌∙◌, ℕ, List, [], ◌∷◌, ◌++◌, Option, None, Some, IsTrue, refl, sym, ap, subst}
use Rattle.disk_trait.specs.Disk.{State, IsHonest}
use Rattle.plist_state.specs.State.{WorldState}
use Rattle.prevalence_store.specs.Theorem.{Call, Headline, Keeps, Run, disk_after, world_after}
use Rattle.sessions.specs.Account.{Account, AreUnderWay, first_account}
use Rattle.prevalence_store.specs.calls.Store.{StoreView}
use Rattle.sessions.specs.declared.ending.Ended.{Ended}
use Rattle.session_ledger.specs.OutgoingLines.{WentOut, calls_in, handings_of}
use Rattle.session_words.specs.declared.wanted.SessionOptions.{SessionOptions}
use Rattle.store_commands.specs.SessionsInRow.{AreEarlierSessions, AreSessionsInTurn, calls_before, calls_in_turn}
use Rattle.store_laws.specs.Batches.{AreTogether}
use Rattle.store_laws.specs.SessionLines.{AreCalls, AreHanded, Handing, account_after, call_since, calls_of_handings}
use Rattle.user_macros.specs.Functions.{Functions}

-- ---- calls after calls

module _ {D : Type 0} where
  disk_on : (calls more : List (Call D)) (disk : D) → disk_after disk (calls ++ more) ≡ disk_after (disk_after disk calls) more
  disk_on [] more disk = refl
  disk_on (call ∷ calls) more disk = disk_on calls more call.disk

  world_on : (calls more : List (Call D)) (left : Option WorldState) → world_after left (calls ++ more) ≡ world_after (world_after left calls) more
  world_on [] more left = refl
  world_on (call ∷ calls) more left = world_on calls more call.left

  last_disk : (calls : List (Call D)) (last : Call D) (disk : D) → disk_after disk (calls ++ last ∷ []) ≡ last.disk
  last_disk [] last disk = refl
  last_disk (call ∷ calls) last disk = last_disk calls last call.disk

  last_world : (calls : List (Call D)) (last : Call D) (left : Option WorldState) → world_after left (calls ++ last ∷ []) ≡ last.left
  last_world [] last left = refl
  last_world (call ∷ calls) last left = last_world calls last call.left

module _ (functions : Functions) {D : Type 0} (state : D → State) where
  run_on : (calls more : List (Call D)) (disk : D) (left : Option WorldState) → Run functions state disk left calls
      → Run functions state (disk_after disk calls) (world_after left calls) more → Run functions state disk left (calls ++ more)
  run_on [] more disk left run rest = rest
  run_on (call ∷ calls) more disk None run rest = absurd run
  run_on (call ∷ calls) more disk (Some world) run rest = (run.0, run_on calls more call.disk call.left run.1 rest)

  together_on : (calls more : List (Call D)) (disk : D) (left : Option WorldState) → AreTogether functions state disk left calls
      → AreTogether functions state (disk_after disk calls) (world_after left calls) more → AreTogether functions state disk left (calls ++ more)
  together_on [] more disk left all rest = rest
  together_on (call ∷ calls) more disk None all rest = absurd all
  together_on (call ∷ calls) more disk (Some world) all rest = (all.0, together_on calls more call.disk call.left all.1 rest)

  -- calls that lead from one disk and world to another disk, and to this world or none
  pub record Joins (start now : D) (world : WorldState) (left : Option WorldState) (calls : List (Call D)) : Type 0 where
    pub run : Run functions state start (Some world) calls
    pub together : AreTogether functions state start (Some world) calls
    pub disk : disk_after start calls ≡ now
    pub world_is : world_after (Some world) calls ≡ left

  joins_on : (start mid now : D) (world between : WorldState) (left : Option WorldState) (calls more : List (Call D)) → Joins start mid world (Some between) calls
      → Joins mid now between left more → Joins start now world left (calls ++ more)
  joins_on start mid now world between left calls more one other = record {
    run = run_on calls more start (Some world) one.run
        (subst (λ (d : D). Run functions state d (world_after (Some world) calls) more) (sym one.disk)
        (subst (λ (l : Option WorldState). Run functions state mid l more) (sym one.world_is) other.run));
    together = together_on calls more start (Some world) one.together
        (subst (λ (d : D). AreTogether functions state d (world_after (Some world) calls) more) (sym one.disk)
        (subst (λ (l : Option WorldState). AreTogether functions state mid l more) (sym one.world_is) other.together));
    disk = disk_on calls more start ∙ ap (λ (d : D). disk_after d more) one.disk ∙ other.disk;
    world_is = world_on calls more (Some world) ∙ ap (λ (l : Option WorldState). world_after l more) one.world_is ∙ other.world_is;
  }

-- ---- sessions

module _ (functions : Functions) (wanted : SessionOptions) {D R : Type 0} (state : D → State)
    (holds : (start : D) (world : WorldState) (earlier later : List (Call D)) → IsHonest (state start) → Keeps functions (state start) world
    → Run functions state start (Some world) (earlier ++ later) → Headline functions state start world earlier later)
    (ends : (first : Account D) (handings : List (Handing D R)) (closed : StoreView D R) (handed : AreHanded functions state first handings)
    (since : AreUnderWay functions state (account_after first handings) closed) → IsHonest (state first.disk) → Keeps functions (state first.disk) first.now
    → AreCalls functions state first (calls_of_handings functions state first handings handed ++ call_since functions state (account_after first handings) closed since ∷ [])) where
  -- one of them
  one_joins : (old new : StoreView D R) (world : WorldState) (had held written : Option (List ℕ))
      → (went : WentOut functions state (first_account world wanted.mode had old.disk) new held written) → IsHonest (state old.disk) → Keeps functions (state old.disk) world
      → Joins functions state old.disk new.disk world new.world (calls_in functions state (first_account world wanted.mode had old.disk) new went)
  one_joins old new world had held written went honest keeps =
      let first = first_account world wanted.mode had old.disk in
      let handings = handings_of went.out.sent in
      let are = ends first handings new went.out.handed went.since honest keeps in
      let calls = calls_of_handings functions state first handings went.out.handed in
      let last = call_since functions state (account_after first handings) new went.since in
      record { run = are.run; together = are.together; disk = last_disk calls last old.disk; world_is = last_world calls last (Some world) }

  -- what is there after calls that left the store open
  stands : (start now : D) (world left : WorldState) (calls : List (Call D)) → Joins functions state start now world (Some left) calls → IsHonest (state start)
      → Keeps functions (state start) world → IsHonest (state now) × Keeps functions (state now) left
  stands start now world left calls joins honest keeps =
      let one = (holds start world [] calls honest keeps joins.run).as_one in
      subst (λ (d : D). IsHonest (state d) × Keeps functions (state d) left) joins.disk
      (subst IsTrue (sym one.honest) honest, one.kept left joins.world_is)

  rows_before : (others : List Ended) (old new : StoreView D R) (world left : WorldState) (had has held written : Option (List ℕ)) → IsHonest (state old.disk)
      → Keeps functions (state old.disk) world → (earlier : AreEarlierSessions functions wanted state others old new world left had has held written)
      → Joins functions state old.disk new.disk world (Some left) (calls_before functions wanted state others old new world left had has held written earlier)
  rows_before [] old new world left had has held written honest keeps earlier = record {
    run = tt;
    together = tt;
    disk = ap (λ (s : StoreView D R). s.disk) (sym earlier.0);
    world_is = ap (λ (w : WorldState). Some w) (sym earlier.1);
  }
  rows_before (ended ∷ others) old new world left had has held written honest keeps earlier =
      let so_far = rows_before others old earlier.0 world earlier.1 had earlier.2 held earlier.4 honest keeps earlier.5 in
      let there = stands old.disk earlier.0.disk world earlier.1 _ so_far honest keeps in
      let one = one_joins earlier.0 new earlier.1 earlier.2 earlier.4 written earlier.7.1 there.0 there.1 in
      joins_on functions state old.disk earlier.0.disk new.disk world earlier.1 (Some left) _ _ so_far
      (subst (λ (l : Option WorldState). Joins functions state earlier.0.disk new.disk earlier.1 l
      (calls_in functions state (first_account earlier.1 wanted.mode earlier.2 earlier.0.disk) new earlier.7.1)) earlier.8 one)

  pub rows_in_turn : (old new : StoreView D R) (world : WorldState) (had has held written : Option (List ℕ)) (ended : Ended) → IsHonest (state old.disk)
      → Keeps functions (state old.disk) world → (turn : AreSessionsInTurn functions wanted state old new world had has held written ended)
      → Joins functions state old.disk new.disk world new.world (calls_in_turn functions wanted state old new world had has held written ended turn)
  rows_in_turn old new world had has held written ended honest keeps turn =
      let so_far = rows_before turn.0 old turn.1 world turn.2 had turn.3 held turn.5 honest keeps turn.6 in
      let there = stands old.disk turn.1.disk world turn.2 _ so_far honest keeps in
      joins_on functions state old.disk turn.1.disk new.disk world turn.2 new.world _ _ so_far
      (one_joins turn.1 new turn.2 turn.3 turn.5 written turn.7.1 there.0 there.1)
