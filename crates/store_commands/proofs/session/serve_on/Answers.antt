use Rattle.std.proofs.Common.{◌∙◌, ℕ, List, Option, IsSome, refl, subst, sym}
use Rattle.sessions.specs.Account.{Account, first_account}
use Rattle.sessions.specs.Serve.{ServesWanted}
use Rattle.plist_state.specs.State.{WorldState}
use Rattle.prevalence_store.specs.calls.Zeros.{TriesToCutZeros}
use Rattle.session_ledger.specs.OutgoingLines.{WentOut}
use Rattle.store_commands.specs.Accounts.{BeginsAccount}
use Rattle.store_commands.specs.Session.{half_limit}
use Rattle.store_commands.proofs.Accounts.{ends_further, opened_still, went_further}
use Rattle.store_commands.proofs.session.serve_on.Goals as goal

pub serve_recorded-ended-requires-clause-is_open : goal.serve_recorded-ended-requires-clause-is_open
serve_recorded-ended-requires-clause-is_open g c =
    let opened = opened_still g.M.Meaning.Meaning.functions g.D.Disk.state c.args.opening.disk c.args.opening.macros half_limit c.in_ok-store.store c.write_zeros_ahead.new.store
    c.write_zeros_ahead.ensures c.in_ok-store.ensures.opened in
    subst (λ (left : Option WorldState). IsSome left) (sym opened.known) refl

pub serve_recorded-ended-requires-clause-begins : goal.serve_recorded-ended-requires-clause-begins
serve_recorded-ended-requires-clause-begins g c = c.begin.ensures.begins

pub returns-clause-served : goal.returns-clause-served
returns-clause-served g c =
    let functions = g.M.Meaning.Meaning.functions in
    let state = g.D.Disk.state in
    let store = c.write_zeros_ahead.new.store in
    let opened = opened_still functions state c.args.opening.disk c.args.opening.macros half_limit c.in_ok-store.store store
    c.write_zeros_ahead.ensures c.in_ok-store.ensures.opened in
    let served = c.serve_recorded-ended.new.store in
    let closed = c.cut_zeros-cut.new.self in
    let tries : TriesToCutZeros functions state served closed =
    record { wrote = _; result = c.cut_zeros-cut.result; closed = c.cut_zeros-cut.ensures.reopen; cuts = c.cut_zeros-cut.ensures.answer } in
    let had = g.I.Read.remaining c.args.input.now in
    let written = g.O.Recipient.contents c.serve_recorded-ended.new.output in
    let first = first_account opened.world c.args.wanted.mode had store.disk in (
      record {
        opened = store;
        is_opened = opened;
        served = served;
        served_ended = c.serve_recorded-ended.result;
        serves = subst (λ (held : Option (List ℕ)). ServesWanted functions state c.args.wanted store served opened.world had
            (g.I.Read.remaining c.serve_recorded-ended.new.input) held written c.serve_recorded-ended.result)
            c.begin.ensures.unwritten (c.serve_recorded-ended.ensures.serves opened.world opened.known);
        closed = closed;
        cuts = tries;
        ended_is = c.after_cut.ensures;
        went = subst (λ (held : Option (List ℕ)). WentOut functions state first closed held written) c.begin.ensures.unwritten
            (went_further functions state served closed tries first _ written (c.serve_recorded-ended.ensures.went opened.world opened.known));
        disk_is = c.close-disk.ensures.disk;
      },
      record {
        begins = subst (λ (account : Option (Account g.row.D.Denot)). BeginsAccount c.args.wanted.mode had store account)
            (sym (c.serve_recorded-ended.ensures.first ∙ c.begin.ensures.first)) c.begin.ensures.begins;
        ends = ends_further functions state served closed tries _ c.serve_recorded-ended.ensures.under_way;
      },
    )
