use Rattle.std.proofs.Common.{◌<◌, ◌++◌, map, length, inr, ap, subst, ◌∙◌, sym, arith}
use Rattle.snapshot_lines.specs.declared.texts.Coming.{Coming}
use Rattle.snapshot_lines.specs.declared.texts.Coming.TheVariants.{Item, End}
use Rattle.snapshot_lines.specs.QuotedTexts.{unescaped_pair, pair_text, items_rest, IsNextItem, LeavesFewerBytes}
use Rattle.snapshot_lines.proofs.Quoted.{IsItem, next_item, one_more_read, all_read}
use Rattle.snapshot_lines.proofs.texts.pairs_in.Goals as goal

pub returns-in-End-clause-pairs : goal.returns-in-End-clause-pairs
returns-in-End-clause-pairs c = λ pairs after e.
    let before = c.pairs.invariant.items pairs after e in
    let last : IsItem pair_text before.0 after (End c.in-End.after) =
    next_item pair_text before.0 after (End c.in-End.after) (subst (λ (x : Coming). IsNextItem (map pair_text before.0) after x) c.in-End.is (c.in_ok-after.ensures.item (map pair_text before.0) after before.2)) in
    (all_read unescaped_pair c.pairs.pairs.items before.0 pairs before.1 last.0, last.1)

pub returns-in_err-pair-in-Item-clause-pairs : goal.returns-in_err-pair-in-Item-clause-pairs
returns-in_err-pair-in-Item-clause-pairs c = λ pairs after e.
    let before = c.pairs.invariant.items pairs after e in
    let next : IsItem pair_text before.0 after (Item c.in-Item.item) =
    next_item pair_text before.0 after (Item c.in-Item.item) (subst (λ (x : Coming). IsNextItem (map pair_text before.0) after x) c.in-Item.is (c.in_ok-after.ensures.item (map pair_text before.0) after before.2)) in
    absurd (c.in_err-pair-in-Item.ensures.pair next.0 (items_rest (map pair_text next.1) ++ after) next.3)

pub pairs-preserved : goal.pairs-preserved
pairs-preserved c = record {
  items = λ pairs after e.
      let before = c.pairs.invariant.items pairs after e in
      let next : IsItem pair_text before.0 after (Item c.in-Item.item) =
      next_item pair_text before.0 after (Item c.in-Item.item) (subst (λ (x : Coming). IsNextItem (map pair_text before.0) after x) c.in-Item.is (c.in_ok-after.ensures.item (map pair_text before.0) after before.2)) in
      let read = c.in_ok-pair-in-Item.ensures.pair next.0 (items_rest (map pair_text next.1) ++ after) next.3 in (
        next.1,
        ap (λ xs. map unescaped_pair xs ++ next.1) c.in_ok-push_item-in-Item.ensures
            ∙ one_more_read unescaped_pair c.pairs.pairs.items c.in_ok-pair-in-Item.pair next.0 next.1 pairs (ap (λ ys. map unescaped_pair c.pairs.pairs.items ++ ys) (sym next.2) ∙ before.1) read.0,
        inr read.1,
      );
  shorter =
      let less : length c.in-Item.item.now < length c.pairs.rest.now = subst (λ (x : Coming). LeavesFewerBytes c.pairs.rest.now x) c.in-Item.is c.in_ok-after.ensures.shorter in
      omega (arith, less, c.in_ok-pair-in-Item.ensures.shorter, c.pairs.invariant.shorter);
}
