use Rattle.std.proofs.Common.{◌≡◌, ℕ, zero, suc, ◌+◌, ◌≤◌, IsTrue, List, [], ◌∷◌, ◌++◌, length, take, Option, None, Some, Ok, refl, sym, ap, subst, ◌∙◌, arith, length-append}
use Rattle.std.proofs.lemmas.List.{take_all}
use Rattle.gate_log.specs.Layout.{LogRecord}
use Rattle.plist_state.specs.State.{WorldState}
use Rattle.session_words.specs.declared.mode.Mode.TheVariants.{Current}
use Rattle.prevalence_store.specs.meaning.Acceptance.{accepts, after, records_of}
use Rattle.prevalence_store.specs.Theorem.{Call, IsAfterSome, KeepsSome, Reopens, Survives}
use Rattle.store_laws.specs.Histories.{Event, IsStop, opened, refused, called, stopped, EventsHappened}
use Rattle.user_macros.specs.Functions.{Functions}
use Rattle.program_tests.proofs.Taken.{left_by}
use Rattle.program_tests.proofs.lives.live_on.Goals as goal

none_taken : (n : ℕ) → n ≤ 0 → ◌≡◌ {A = List LogRecord} (take n []) []
none_taken zero le = refl
none_taken (suc n) le = absurd (omega arith)

-- an opening finds all forms, if all are sure and there were none before them
all_found : (functions : Functions) (w now : WorldState) (line records : List LogRecord) (found : IsAfterSome functions w (line ++ records) (length line + length records) now) → line ≡ []
    → take found.count (line ++ records) ≡ records
all_found functions w now line records found none =
    let enough = found.enough in
    let both = length-append line records in
    take_all found.count (line ++ records) (omega arith) ∙ ap (λ l. l ++ records) none

pub returns : goal.returns
returns g c = record {
  kept = λ w honest keeps stop.
      let state = g.D.Disk.state in
      let functions = g.M.Meaning.Meaning.functions in
      let store = c.in-Ok.store in
      let later = c.execute.new.self in
      -- the opening and the first form
      let o = c.in-Ok.ensures.opened in
      let opening = o.survives w honest keeps in
      let here : after functions w [] ≡ Some o.world = opening.after_all o.world o.known in
      let same_world : o.world ≡ w = cc in
      let known : store.world ≡ Some w = o.known ∙ sym here in
      let once = c.in-Accepted.ensures.answer w known in
      let still = subst IsTrue (sym opening.honest) honest in
      let one = once.survives known still (opening.kept w known) in
      let left_once : later.world ≡ Some once.given.world = left_by state store later once.given.wrote Current once.given.text once.given.world once.stored in
      let records = records_of once.given.wrote Current once.given.text in
      -- the refused opening, the other one, and the second form
      let refusal = c.in-Err.ensures.refused in
      let back_honest = subst IsTrue (sym refusal.honest) stop.honest in
      let again = c.in-Ok-open-2.store in
      let last = c.execute-2.new.self in
      let p = c.in-Ok-open-2.ensures.opened in
      let reopens = p.reopens back_honest in
      let twice = c.in-Accepted-execute.ensures.answer p.world p.known in
      let two = twice.survives p.known (subst IsTrue (sym p.honest) back_honest) reopens.kept in
      let left_twice : last.world ≡ Some twice.given.world = left_by state again last twice.given.wrote Current twice.given.text twice.given.world twice.stored in
      let more = records_of twice.given.wrote Current twice.given.text in
      -- what happened
      let first_call : Call g.row.D.Denot = record { disk = later.disk; taken = records; acknowledged = length records; left = Some once.given.world } in
      let second_call : Call g.row.D.Denot = record { disk = last.disk; taken = more; acknowledged = length more; left = Some twice.given.world } in
      let events : List (Event g.row.D.Denot) =
      opened store.disk w ∷ called first_call ∷ stopped c.args.stopped ∷ refused 1073741824 refusal.fault c.in-Err.refused.disk ∷ opened again.disk p.world ∷ called second_call ∷ [] in
      let happened : EventsHappened functions state c.args.disk None events = (
        record { reopens = subst (λ (u : WorldState). Reopens functions (state c.args.disk) (state store.disk) u) same_world (o.reopens honest); honest = o.honest },
        (
          subst (λ (left : Option WorldState). Survives functions (state store.disk) (state later.disk) w records (length records) left) left_once one,
          (
            subst (λ d. IsStop state d d c.args.stopped) c.close-left.ensures.disk stop,
            (
              record { whole = _; number = _; unopened = refusal; fault_is = refl },
              (
                record { reopens = reopens; honest = p.honest },
                (
                  subst (λ (left : Option WorldState). Survives functions (state again.disk) (state last.disk) p.world more (length more) left) left_twice two,
                  tt,
                ),
              ),
            ),
          ),
        ),
      ) in
      -- what follows
      let follows = c.histories.ensures.of_files functions c.args.disk w events honest keeps happened in
      let found = follows.1.1.0 in
      let all = all_found functions w p.world (take follows.0.count []) records found (none_taken follows.0.count follows.0.among) in
      let left_then : after functions w records ≡ Some p.world = subst (λ (l : List LogRecord). after functions w l ≡ Some p.world) all found.after_those in
      let left_before : after functions w records ≡ Some once.given.world = one.after_all once.given.world left_once in
      let same : p.world ≡ once.given.world = cc in (
        once.given,
        twice.given,
        once.accepted,
        subst (λ (u : WorldState). accepts functions u Current c.args.second.now ≡ Ok twice.given) same twice.accepted,
        subst (λ (l : List LogRecord). KeepsSome functions (state last.disk) w (l ++ more) (length l + length more)) all follows.1.1.1.keeps,
      );
}
