use Rattle.std.proofs.Common.{◌∙◌, ℕ, List, [], ap, subst, sym}
use Rattle.sessions.specs.Account.{first_account}
use Rattle.sessions.specs.Serve.{ServesWanted}
use Rattle.prevalence_store.specs.calls.Store.{StoreView}
use Rattle.session_ledger.specs.Ledger.{Agrees, IsAccountOf, account_from}
use Rattle.session_ledger.specs.OutgoingLines.{WentOut}
use Rattle.session_ledger.proofs.Sending.{agrees_first, begins_so, kept_first, known_world, same_name, went_so}
use Rattle.session_ledger.proofs.ledger.serve_from.Goals as goal

pub invariant_of-ledger : goal.invariant_of-ledger
invariant_of-ledger g c =
    let functions = g.M.Meaning.Meaning.functions in
    let state = g.D.Disk.state in
    let first = g.B.Origin.first in
    let held = g.B.Origin.held in (
      subst (λ (past : List (StoreView g.row.D.Denot g.row.M.Denot × ℕ)). IsAccountOf functions state first held (g.O.Recipient.contents c.args.output.now) past) (sym c.new.ensures)
          (subst (λ written. IsAccountOf functions {R = g.row.M.Denot} state first held written []) c.requires.held (kept_first functions g.row.M.Denot state first held)),
      subst (λ (past : List (StoreView g.row.D.Denot g.row.M.Denot × ℕ)). Agrees (g.O.Recipient.account c.args.output.now) (account_from first past)) (sym c.new.ensures)
          (agrees_first g.row.M.Denot first (g.O.Recipient.account c.args.output.now) c.requires.agrees),
      sym c.requires.theirs,
    )

pub serve_wanted-ended-requires : goal.serve_wanted-ended-requires
serve_wanted-ended-requires g c = record {
  begins = λ world known kept is. begins_so g.row.M.Denot g.B.Origin.first _ kept (c.requires.begins world known) (ap (account_from g.B.Origin.first) (sym c.new.ensures) ∙ is);
}

-- In each of these the output is where it was as the session began (`name`), and so is what is known of it (`there`).

pub returns-clause-serves : goal.returns-clause-serves
returns-clause-serves g c = λ world known.
    let name = ap (λ v. v.name) c.ledger.view_is ∙ same_name g.B.Origin.first _ _ _ (c.requires.begins world known) c.serve_wanted-ended.ensures.first in
    let there = ap (λ v. v.output) (sym c.ledger.view_is) ∙ sym (c.output-1.given.1 (sym name)) in
    subst (λ (o : g.row.O.Denot). ServesWanted g.M.Meaning.Meaning.functions g.D.Disk.state c.args.wanted c.args.store.now c.serve_wanted-ended.new.store world
    (g.I.Read.remaining c.args.input.now) (g.I.Read.remaining c.serve_wanted-ended.new.reader) (g.O.Recipient.contents c.args.output.now) (g.O.Recipient.contents o) c.serve_wanted-ended.result)
    there (c.serve_wanted-ended.ensures.serves world known)

pub returns-clause-went : goal.returns-clause-went
returns-clause-went g c = λ world known.
    let functions = g.M.Meaning.Meaning.functions in
    let state = g.D.Disk.state in
    let first = g.B.Origin.first in
    let contents = g.O.Recipient.contents in
    let closed = c.serve_wanted-ended.new.store in
    let is = c.requires.begins world known in
    let begun = first_account world c.args.wanted.mode (g.I.Read.remaining c.args.input.now) c.args.store.now.disk in
    let name = ap (λ v. v.name) c.ledger.view_is ∙ same_name first _ _ _ is c.serve_wanted-ended.ensures.first in
    let there = sym (c.output-1.given.1 (sym name)) in
    let went = went_so functions g.row.M.Denot state first begun closed g.B.Origin.held (contents c.ledger.inside.output.now) c.ledger.inside.past.items is c.ledger.invariant.0
    (λ kept so. c.serve_wanted-ended.ensures.under_way c.requires.is_open kept (ap (λ v. account_from first v.past) (sym c.ledger.view_is) ∙ so)) in
    subst (λ (o : g.row.O.Denot). WentOut functions state begun closed (contents c.args.output.now) (contents o)) there
    (subst (λ held. WentOut functions state begun closed held (contents c.ledger.inside.output.now)) c.requires.held went)

pub returns-clause-under_way : goal.returns-clause-under_way
returns-clause-under_way g c = λ kept is.
    let first = g.B.Origin.first in
    let begun = known_world c.args.store.now.world c.requires.is_open in
    let name = ap (λ v. v.name) c.ledger.view_is ∙ same_name first _ _ _ (c.requires.begins begun.0 begun.1) c.serve_wanted-ended.ensures.first in
    let there = c.output-1.given.1 (sym name) in
    let theirs = ap g.O.Recipient.account (sym there) ∙ is in
    c.serve_wanted-ended.ensures.under_way c.requires.is_open kept (ap (λ v. account_from first v.past) (sym c.ledger.view_is) ∙ c.ledger.invariant.1 kept theirs)

pub returns-clause-first : goal.returns-clause-first
returns-clause-first g c =
    let begun = known_world c.args.store.now.world c.requires.is_open in
    let name = ap (λ v. v.name) c.ledger.view_is ∙ same_name g.B.Origin.first _ _ _ (c.requires.begins begun.0 begun.1) c.serve_wanted-ended.ensures.first in
    ap g.O.Recipient.first (c.output-1.given.1 (sym name)) ∙ c.ledger.invariant.2 ∙ c.requires.theirs
