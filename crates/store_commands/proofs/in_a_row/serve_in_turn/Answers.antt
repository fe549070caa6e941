use Rattle.std.proofs.Common.{◌∙◌, ℕ, List, Option, subst}
use Rattle.sessions.specs.Account.{first_account}
use Rattle.sessions.specs.Serve.{ServesWanted}
use Rattle.session_ledger.specs.OutgoingLines.{WentOut}
use Rattle.store_commands.proofs.Accounts.{known_world}
use Rattle.store_commands.proofs.Turns.{ends_refused, first_turn, last_turn, left_open, no_more_turns, turn_after}
use Rattle.store_commands.proofs.in_a_row.serve_in_turn.Goals as goal

pub serve_recorded-ended-requires-clause-begins : goal.serve_recorded-ended-requires-clause-begins
serve_recorded-ended-requires-clause-begins g c = c.requires.begins

pub begin_again-requires : goal.begin_again-requires
begin_again-requires g c = record { under_way = c.sessions.invariant.2 }

pub serve_recorded-ended-requires-in-sessions-clause-is_open : goal.serve_recorded-ended-requires-in-sessions-clause-is_open
serve_recorded-ended-requires-in-sessions-clause-is_open g c =
    let refused = ends_refused c.sessions.ended c.of.result c.in-Some.refusal c.in-Some.is c.of.ensures in
    let first = known_world c.args.store.now.world c.requires.is_open in
    left_open _ _ _ _ first.0 _ _ _ _ _ c.sessions.ended refused (c.sessions.invariant.1 first.0 first.1)

pub serve_recorded-ended-requires-in-sessions-clause-begins : goal.serve_recorded-ended-requires-in-sessions-clause-begins
serve_recorded-ended-requires-in-sessions-clause-begins g c = c.begin_again.ensures.begins

pub sessions-init : goal.sessions-init
sessions-init g c = (
  c.serve_recorded-ended.ensures.macros,
  λ world known. first_turn _ _ _ _ world _ _ _ _ _ _ (c.serve_recorded-ended.ensures.serves world known, c.serve_recorded-ended.ensures.went world known),
  c.serve_recorded-ended.ensures.under_way,
  c.serve_recorded-ended.ensures.first,
)

pub sessions-preserved : goal.sessions-preserved
sessions-preserved g c =
    let functions = g.M.Meaning.Meaning.functions in
    let refused = ends_refused c.sessions.ended c.of.result c.in-Some.refusal c.in-Some.is c.of.ensures in
    let had = g.I.Read.remaining c.next_session.new.self in
    let new = c.serve_recorded-ended-in-sessions.new in
    let written = g.O.Recipient.contents new.output in (
      c.serve_recorded-ended-in-sessions.ensures.macros ∙ c.sessions.invariant.0,
      λ world known. turn_after _ _ _ _ world _ _ _ _ _ _ _ _ _ c.sessions.ended _ refused
          (c.sessions.invariant.1 world known) c.next_session.ensures.drops
          (λ left there. (
            subst (λ (held : Option (List ℕ)). ServesWanted functions g.D.Disk.state c.args.wanted c.sessions.store new.store left had (g.I.Read.remaining new.input) held written c.serve_recorded-ended-in-sessions.result)
                c.begin_again.ensures.unwritten (c.serve_recorded-ended-in-sessions.ensures.serves left there),
            subst (λ (held : Option (List ℕ)). WentOut functions g.D.Disk.state (first_account left c.args.wanted.mode had c.sessions.store.disk) new.store held written)
                c.begin_again.ensures.unwritten (c.serve_recorded-ended-in-sessions.ensures.went left there),
          )),
      c.serve_recorded-ended-in-sessions.ensures.under_way,
      c.serve_recorded-ended-in-sessions.ensures.first ∙ c.begin_again.ensures.first ∙ c.sessions.invariant.3,
    )

pub returns-then-not-next_session-clause-serves : goal.returns-then-not-next_session-clause-serves
returns-then-not-next_session-clause-serves g c = λ world known. last_turn _ _ _ _ world _ _ _ _ _ _ c.sessions.ended (c.sessions.invariant.1 world known) c.next_session.ensures.drops

pub returns-in_default-clause-serves : goal.returns-in_default-clause-serves
returns-in_default-clause-serves g c = λ world known. no_more_turns _ _ _ _ world _ _ _ _ _ c.sessions.ended (c.sessions.invariant.1 world known)

pub returns-after-sessions-clause-serves : goal.returns-after-sessions-clause-serves
returns-after-sessions-clause-serves g c = λ world known. no_more_turns _ _ _ _ world _ _ _ _ _ c.sessions.ended (c.sessions.invariant.1 world known)

pub returns-then-not-next_session-clause-ends : goal.returns-then-not-next_session-clause-ends
returns-then-not-next_session-clause-ends g c = c.sessions.invariant.2

pub returns-in_default-clause-ends : goal.returns-in_default-clause-ends
returns-in_default-clause-ends g c = c.sessions.invariant.2

pub returns-after-sessions-clause-ends : goal.returns-after-sessions-clause-ends
returns-after-sessions-clause-ends g c = c.sessions.invariant.2
