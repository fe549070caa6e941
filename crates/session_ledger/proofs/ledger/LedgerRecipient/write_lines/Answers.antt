use Rattle.std.proofs.Common.{◌∙◌, ℕ, List, ap, subst, sym}
use Rattle.std.specs.Option.{option_map}
use Rattle.sessions.specs.Account.{with_forms}
use Rattle.prevalence_store.specs.calls.Store.{StoreView}
use Rattle.session_ledger.specs.Ledger.{Agrees, IsAccountOf, account_from}
use Rattle.session_ledger.proofs.Sending.{account_more, agrees_more, kept_more}
use Rattle.session_ledger.proofs.ledger.LedgerRecipient.write_lines.Goals as goal

pub write_lines-written-requires : goal.write_lines-written-requires
write_lines-written-requires g c = record {
  stored = λ kept is. c.requires.stored kept (ap (λ v. account_from g.B.Origin.first v.past) (sym c.self.view_is) ∙ c.self.invariant.1 kept is);
}

pub invariant_of-self : goal.invariant_of-self
invariant_of-self g c =
    let functions = g.M.Meaning.Meaning.functions in
    let state = g.D.Disk.state in
    let first = g.B.Origin.first in
    let inside = c.self.inside in
    let new = c.write_lines-written.new.self in
    let contents = g.O.Recipient.contents in (
      subst (λ (past : List (StoreView g.row.D.Denot g.row.M.Denot × ℕ)). IsAccountOf functions state first g.B.Origin.held (contents new) past) (sym c.and.ensures)
          (kept_more functions g.row.M.Denot state (c.sessions.ensures.further functions) first g.B.Origin.held (contents inside.output.now) (contents new) inside.past.items c.args.store.now c.args.lines.now c.args.forms
          c.write_lines-written.result c.write_lines-written.ensures.whole c.write_lines-written.ensures.part
          (λ kept is. c.requires.stored kept (ap (λ v. account_from first v.past) (sym c.self.view_is) ∙ is)) c.self.invariant.0),
      subst (λ (past : List (StoreView g.row.D.Denot g.row.M.Denot × ℕ)). Agrees (g.O.Recipient.account new) (account_from first past)) (sym c.and.ensures)
          (agrees_more first (g.O.Recipient.account inside.output.now) (g.O.Recipient.account new) inside.past.items c.args.store.now c.args.forms c.self.invariant.1 c.write_lines-written.ensures.kept),
      c.write_lines-written.ensures.first ∙ c.self.invariant.2,
    )

pub returns-clause-kept : goal.returns-clause-kept
returns-clause-kept g c = λ later is.
    ap (λ v. option_map (with_forms c.args.forms c.args.store.now) (account_from g.B.Origin.first v.past)) (sym c.self.view_is)
    ∙ account_more g.B.Origin.first c.self.inside.past.items c.args.store.now c.args.forms later (sym (ap (account_from g.B.Origin.first) c.and.ensures) ∙ is)
