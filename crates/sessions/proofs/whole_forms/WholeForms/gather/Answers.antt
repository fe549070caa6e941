use Rattle.std.proofs.Common.{◌≡◌, ◌≤◌, drop, length, length-drop, refl, sym, ap, subst, ◌∙◌, arith}
use Rattle.std.proofs.lemmas.List.{drop-drop}
use Rattle.lisp_object.specs.Datum.{object_of}
use Rattle.plist_state.specs.State.{WorldState}
use Rattle.prevalence_store.specs.declared.batch.Batch.{Batch}
use Rattle.sessions.specs.declared.gather.GatheredForms.{GatheredForms}
use Rattle.sessions.specs.declared.gather.GroupLimit.{GroupLimit}
use Rattle.prevalence_store.specs.steps.Batch.{entries_in}
use Rattle.sessions.specs.steps.Gather.{AreWithinLimit, AreFormsGathered}
use Rattle.sessions.proofs.StreamLemmas.{behind_piece}
use Rattle.sessions.proofs.Gathering.{counted_by, first_gathered, more_gathered, text_at_most}
use Rattle.sessions.proofs.whole_forms.WholeForms.gather.Goals as goal
use Rattle.prevalence_store.proofs.steps.Taking.{none_in}

pub forms-init : goal.forms-init
forms-init g c =
    let functions = g.R.Meaning.Meaning.functions in
    let turn = c.args.self.now in
    let none = c.new-gathered.result in
    let begun = c.new-gathered.ensures.none in
    let new = c.add.new.self in
    let first = turn.first.now in
    let w = c.args.world.now.0 in
    let added = c.in_ok-add.ensures.added c.if-not-branch.false in
    let one : new.bytes ≡ first.next = omega (arith, added.bytes_are, begun.bytes) in
    record {
      gathers = λ text begins left. (
        first_gathered functions turn.wanted w text c.add.new.world.0 c.args.batch.now c.add.new.batch none new (object_of first.read.datum) first.own.items first.next c.requires.none begun begins added,
        ap (λ n. drop n text) one ∙ left,
      );
      marks = c.add.ensures.marks;
      some = omega (arith, added.forms);
      forms = omega (arith, added.forms, added.bytes_are, begun.forms, c.requires.may.some);
      first = omega (arith, added.bytes_are);
      bytes = omega (arith, added.bytes_are, begun.bytes);
      counted = added.counted;
      records = omega (arith, text_at_most functions turn.wanted (object_of first.read.datum) first.own.items first.next w c.add.new.world.0 c.args.batch.now c.add.new.batch none new added, added.counted, ap length (none_in c.args.batch.now c.requires.none), c.requires.may.most);
      record_bytes = subst (λ (l : GroupLimit). new.record_bytes ≤ l.bytes) (c.in_ok-add.ensures.limit ∙ c.new-gathered.ensures.limit) (c.in_ok-add.ensures.fits c.if-not-branch.false);
      limit = c.in_ok-add.ensures.limit ∙ c.new-gathered.ensures.limit;
    }

pub forms-preserved : goal.forms-preserved
forms-preserved g c =
    let functions = g.R.Meaning.Meaning.functions in
    let turn = c.args.self.now in
    let so_far = c.forms.invariant in
    let old = c.forms.gathered in
    let new = c.add_next.new.self in
    let had = c.forms.batch in
    let has = c.add_next.new.batch in
    let rest = c.forms.rest.now in
    let n = c.in-Some.count in
    let u = c.forms.world.0 in
    let v = c.add_next.new.world.0 in
    let next = rw c.in-Some.is at c.in_ok-count.ensures.next in
    let within = rw c.in-Some.is at c.in_ok-count.ensures.within in
    let still : new.limit ≡ old.limit = rw c.in-Some.is at c.in_ok-count.ensures.limit in
    record {
      gathers = λ text begins left.
          let before = so_far.gathers text begins left in (
            more_gathered functions turn.wanted c.args.world.now.0 text u v had has old new rest n before.0 before.1 next,
            ap (λ k. drop k text) next.added.bytes_are ∙ sym (drop-drop n old.bytes text) ∙ ap (drop n) before.1 ∙ sym (behind_piece rest n),
          );
      marks = λ worlds marked. c.add_next.ensures.marks worlds (so_far.marks worlds marked);
      some = omega (arith, next.added.forms);
      forms = omega (arith, next.added.forms, next.added.bytes_are, so_far.forms, within);
      first = omega (arith, next.added.bytes_are, so_far.first);
      bytes = omega (arith, next.added.bytes_are, so_far.bytes, within, ap length (behind_piece rest n), length-drop n rest);
      counted = next.added.counted;
      records = omega (arith, text_at_most functions turn.wanted next.object next.own n u v had has old new next.added, next.added.counted, so_far.counted, c.is_full.ensures c.if-is_full.false, ap (λ (l : GroupLimit). l.forms) so_far.limit);
      record_bytes = subst (λ (l : GroupLimit). new.record_bytes ≤ l.bytes) (still ∙ so_far.limit) (rw c.in-Some.is at c.in_ok-count.ensures.fits);
      limit = still ∙ so_far.limit;
    }

-- the first was left
pub returns-then-not-branch-clause-taken : goal.returns-then-not-branch-clause-taken
returns-then-not-branch-clause-taken g c =
    let same = c.in_ok-add.ensures.left c.if-not-branch.true in
    record { gathers = λ text begins left. tt; counts = tt; none = λ _. (same.0, ap entries_in same.1 ∙ none_in c.args.batch.now c.requires.none) }

-- enough of them
pub returns-then-is_full-clause-taken : goal.returns-then-is_full-clause-taken
returns-then-is_full-clause-taken g c =
    let so_far = c.forms.invariant in
    let turn = c.args.self.now in
    record {
      gathers = λ text begins left. (so_far.gathers text begins left).0;
      counts = counted_by turn.first.now.next (length turn.rest.now) turn.limit c.forms.gathered so_far.limit so_far.some so_far.forms so_far.first (omega (arith, so_far.bytes)) so_far.records so_far.record_bytes;
      none = λ is. absurd (cc);
    }

-- no other stands whole
pub returns-in-None-clause-taken : goal.returns-in-None-clause-taken
returns-in-None-clause-taken g c =
    let functions = g.R.Meaning.Meaning.functions in
    let so_far = c.forms.invariant in
    let turn = c.args.self.now in
    let w = c.args.world.now.0 in
    let same = c.in_ok-count.ensures.none c.in-None.is in
    record {
      gathers = λ text begins left.
          subst (λ (s : WorldState). AreFormsGathered functions turn.wanted w text s (entries_in c.add_next.new.batch) c.add_next.new.self) (sym same.0)
          (subst (λ (b : Batch). AreFormsGathered functions turn.wanted w text c.forms.world.0 (entries_in b) c.add_next.new.self) (sym same.1)
          (subst (λ (x : GatheredForms). AreFormsGathered functions turn.wanted w text c.forms.world.0 (entries_in c.forms.batch) x) (sym same.2) (so_far.gathers text begins left).0));
      counts = subst (AreWithinLimit turn.first.now.next (length turn.rest.now) turn.limit) (sym same.2)
          (counted_by turn.first.now.next (length turn.rest.now) turn.limit c.forms.gathered so_far.limit so_far.some so_far.forms so_far.first (omega (arith, so_far.bytes)) so_far.records so_far.record_bytes);
      none = λ is. absurd (cc);
    }

-- the piece ends
pub returns-clause-taken : goal.returns-clause-taken
returns-clause-taken g c =
    let so_far = c.forms.invariant in
    let turn = c.args.self.now in
    record {
      gathers = λ text begins left. (so_far.gathers text begins left).0;
      counts = counted_by turn.first.now.next (length turn.rest.now) turn.limit c.forms.gathered so_far.limit so_far.some so_far.forms so_far.first (omega (arith, so_far.bytes)) so_far.records so_far.record_bytes;
      none = λ is. absurd (cc);
    }
