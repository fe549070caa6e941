use Rattle.std.proofs.Common.{◌≡◌, ℕ, List, Option, Some, OnOk, OnErr, subst, sym, ◌∙◌}
use Rattle.std.specs.Option.{option_map}
use Rattle.sessions.specs.Account.{Account, AreStored, with_forms}
use Rattle.prevalence_store.specs.calls.Store.{StoreView}
use Rattle.sessions.specs.Streams.{Writes, WritesPart}
use Rattle.sessions.proofs.answer.hand_on.Goals as goal

pub write_lines-requires : goal.write_lines-requires
write_lines-requires g c = record {
  stored = λ kept is.
      let functions = g.R.Meaning.Meaning.functions in
      let there = c.requires.stored kept (sym c.tell_refusal.ensures.kept ∙ is) in
      subst (λ (s : StoreView g.row.D.Denot g.row.R.Denot). AreStored functions g.D.Disk.state kept s c.as_slice.result.now 1) (sym c.tell_refusal.ensures.same)
      (subst (λ (lines : List ℕ). AreStored functions g.D.Disk.state kept c.args.store.now lines 1) (sym c.as_slice.ensures.value) there);
}

pub returns-clause-whole : goal.returns-clause-whole
returns-clause-whole g c =
    let written = g.W.Recipient.contents c.write_lines.new.self in
    subst (λ (held : Option (List ℕ)). OnOk c.write_lines.result (Writes held written c.args.reply.now.line.items)) c.tell_refusal.ensures.unwritten
    (subst (λ (lines : List ℕ). OnOk c.write_lines.result (Writes (g.W.Recipient.contents c.tell_refusal.new.writer) written lines)) c.as_slice.ensures.value c.write_lines.ensures.whole)

pub returns-clause-part : goal.returns-clause-part
returns-clause-part g c =
    let written = g.W.Recipient.contents c.write_lines.new.self in
    subst (λ (held : Option (List ℕ)). OnErr c.write_lines.result (WritesPart held written c.args.reply.now.line.items)) c.tell_refusal.ensures.unwritten
    (subst (λ (lines : List ℕ). OnErr c.write_lines.result (WritesPart (g.W.Recipient.contents c.tell_refusal.new.writer) written lines)) c.as_slice.ensures.value c.write_lines.ensures.part)

pub returns-clause-kept : goal.returns-clause-kept
returns-clause-kept g c = λ later is.
    subst (λ (s : StoreView g.row.D.Denot g.row.R.Denot). option_map (with_forms 1 s) (g.W.Recipient.account c.args.writer.now) ≡ Some later) c.tell_refusal.ensures.same
    (subst (λ (told : Option (Account g.row.D.Denot)). option_map (with_forms 1 c.tell_refusal.new.store) told ≡ Some later) c.tell_refusal.ensures.kept (c.write_lines.ensures.kept later is))
