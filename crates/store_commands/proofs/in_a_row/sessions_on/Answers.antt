use Rattle.std.proofs.Common.{◌∙◌, ℕ, List, Option, IsSome, refl, subst, sym}
use Rattle.sessions.specs.Account.{Account}
use Rattle.plist_state.specs.State.{WorldState}
use Rattle.store_commands.specs.Accounts.{BeginsAccount}
use Rattle.store_commands.specs.SessionsInRow.{AreSessionsInTurn}
use Rattle.store_commands.proofs.in_a_row.sessions_on.Goals as goal

pub serve_in_turn-ended-requires-clause-is_open : goal.serve_in_turn-ended-requires-clause-is_open
serve_in_turn-ended-requires-clause-is_open g c =
    subst (λ (left : Option WorldState). IsSome left) (sym c.in_ok-store.ensures.opened.known) refl

pub serve_in_turn-ended-requires-clause-begins : goal.serve_in_turn-ended-requires-clause-begins
serve_in_turn-ended-requires-clause-begins g c = c.begin.ensures.begins

pub returns-clause-served : goal.returns-clause-served
returns-clause-served g c =
    let opened = c.in_ok-store.ensures.opened in
    let store = c.in_ok-store.store in
    let had = g.I.Read.remaining c.args.input.now in (
      record {
        opened = store;
        is_opened = opened;
        closed = c.serve_in_turn-ended.new.store;
        serves = subst (λ (held : Option (List ℕ)). AreSessionsInTurn g.M.Meaning.Meaning.functions c.args.wanted g.D.Disk.state store c.serve_in_turn-ended.new.store opened.world had
            (g.I.Read.remaining c.serve_in_turn-ended.new.input) held (g.O.Recipient.contents c.serve_in_turn-ended.new.output) c.serve_in_turn-ended.result)
            c.begin.ensures.unwritten (c.serve_in_turn-ended.ensures.serves opened.world opened.known);
        disk_is = c.close-disk.ensures.disk;
      },
      record {
        begins = subst (λ (account : Option (Account g.row.D.Denot)). BeginsAccount c.args.wanted.mode had store account)
            (sym (c.serve_in_turn-ended.ensures.first ∙ c.begin.ensures.first)) c.begin.ensures.begins;
        ends = c.serve_in_turn-ended.ensures.ends;
      },
    )
