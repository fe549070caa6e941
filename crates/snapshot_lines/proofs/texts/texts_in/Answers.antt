use Rattle.std.proofs.Common.{◌<◌, ◌++◌, map, length, inr, ap, subst, ◌∙◌, sym, arith}
use Rattle.canon_printer.specs.Written.{printed_text}
use Rattle.snapshot_lines.specs.declared.texts.Coming.{Coming}
use Rattle.snapshot_lines.specs.declared.texts.Coming.TheVariants.{Item, End}
use Rattle.snapshot_lines.specs.QuotedTexts.{unescaped, items_rest, IsNextItem, LeavesFewerBytes}
use Rattle.snapshot_lines.proofs.Quoted.{IsItem, next_item, one_more_read, all_read}
use Rattle.snapshot_lines.proofs.texts.texts_in.Goals as goal

pub returns-in-End-clause-texts : goal.returns-in-End-clause-texts
returns-in-End-clause-texts c = λ texts after e.
    let before = c.texts.invariant.items texts after e in
    let last : IsItem printed_text before.0 after (End c.in-End.after) =
    next_item printed_text before.0 after (End c.in-End.after) (subst (λ (x : Coming). IsNextItem (map printed_text before.0) after x) c.in-End.is (c.in_ok-after.ensures.item (map printed_text before.0) after before.2)) in
    (all_read (λ b. unescaped b.now) c.texts.texts.items before.0 texts before.1 last.0, last.1)

pub returns-in_err-written-in-Item-clause-texts : goal.returns-in_err-written-in-Item-clause-texts
returns-in_err-written-in-Item-clause-texts c = λ texts after e.
    let before = c.texts.invariant.items texts after e in
    let next : IsItem printed_text before.0 after (Item c.in-Item.item) =
    next_item printed_text before.0 after (Item c.in-Item.item) (subst (λ (x : Coming). IsNextItem (map printed_text before.0) after x) c.in-Item.is (c.in_ok-after.ensures.item (map printed_text before.0) after before.2)) in
    absurd (c.in_err-written-in-Item.ensures.text next.0 (items_rest (map printed_text next.1) ++ after) next.3)

pub texts-preserved : goal.texts-preserved
texts-preserved c = record {
  items = λ texts after e.
      let before = c.texts.invariant.items texts after e in
      let next : IsItem printed_text before.0 after (Item c.in-Item.item) =
      next_item printed_text before.0 after (Item c.in-Item.item) (subst (λ (x : Coming). IsNextItem (map printed_text before.0) after x) c.in-Item.is (c.in_ok-after.ensures.item (map printed_text before.0) after before.2)) in
      let read = c.in_ok-written-in-Item.ensures.text next.0 (items_rest (map printed_text next.1) ++ after) next.3 in (
        next.1,
        ap (λ xs. map (λ b. unescaped b.now) xs ++ next.1) c.in_ok-push_item-in-Item.ensures
            ∙ one_more_read (λ b. unescaped b.now) c.texts.texts.items c.in_ok-written-in-Item.written next.0 next.1 texts (ap (λ ys. map (λ b. unescaped b.now) c.texts.texts.items ++ ys) (sym next.2) ∙ before.1) read.0,
        inr read.1,
      );
  shorter =
      let less : length c.in-Item.item.now < length c.texts.rest.now = subst (λ (x : Coming). LeavesFewerBytes c.texts.rest.now x) c.in-Item.is c.in_ok-after.ensures.shorter in
      omega (arith, less, c.in_ok-written-in-Item.ensures.shorter, c.texts.invariant.shorter);
}
