use Rattle.std.proofs.Common.{ℕ, ◌+◌, ◌<◌, List, [], ◌++◌, map, length, drop, get_or, inl, inr, sym, ap, subst, ◌∙◌, arith}
use Rattle.package_table.specs.Table.{Name}
use Rattle.world_text.specs.Snapshot.{package_object}
use Rattle.world_text.specs.ObjectTexts.{object_text}
use Rattle.snapshot_lines.specs.declared.texts.Coming.{Coming}
use Rattle.snapshot_lines.specs.declared.texts.Coming.TheVariants.{Item, End}
use Rattle.snapshot_lines.specs.QuotedTexts.{items_rest, IsNextItem, LeavesFewerBytes}
use Rattle.snapshot_lines.proofs.Quoted.{IsItem, next_item}
use Rattle.snapshot_text.specs.declared.package_parts.PackageParts.{PackageParts}
use Rattle.snapshot_text.specs.Phases.{AreFirstRows, IsRowOf, other_packages}
use Rattle.snapshot_text.proofs.Gave.{refused_same}
use Rattle.snapshot_text.proofs.PackageRows.{listed_are, first_left, none_left}
use Rattle.snapshot_text.proofs.ReadRows.{no_rows, more_rows}
use Rattle.snapshot_text.proofs.package_parts.rows_in.Goals as goal

pub rows-init : goal.rows-init
rows-init c = record {
  rows = λ s after sound e. (
    0,
    omega arith,
    subst (λ (rows : List PackageParts). AreFirstRows s 0 rows) (sym c.new-rows.ensures.items) (no_rows s),
    inl (e ∙ ap (λ x. x ++ after) (listed_are s sound (package_object s) (other_packages s))),
  );
  shorter = omega arith;
}

pub returns-in_err-after : goal.returns-in_err-after
returns-in_err-after c = λ s after sound e.
    let before = c.rows.invariant.rows s after sound e in
    absurd (c.in_err-after.ensures.item (map (λ (p : Name). object_text s (package_object s p)) (drop before.0 (other_packages s))) after before.3)

pub returns-in-End : goal.returns-in-End
returns-in-End c = λ s after sound e.
    let before = c.rows.invariant.rows s after sound e in
    let row = λ (p : Name). object_text s (package_object s p) in
    let last : IsItem row (drop before.0 (other_packages s)) after (End c.in-End.after) =
    next_item row (drop before.0 (other_packages s)) after (End c.in-End.after)
    (subst (λ (x : Coming). IsNextItem (map row (drop before.0 (other_packages s))) after x) c.in-End.is (c.in_ok-after.ensures.item (map row (drop before.0 (other_packages s))) after before.3)) in
    (subst (λ (n : ℕ). AreFirstRows s n c.rows.rows.items) (none_left (other_packages s) before.0 before.1 last.0) before.2, last.1)

pub returns-in_err-parts-in-Item : goal.returns-in_err-parts-in-Item
returns-in_err-parts-in-Item c = λ s after sound e.
    let before = c.rows.invariant.rows s after sound e in
    let row = λ (p : Name). object_text s (package_object s p) in
    let next : IsItem row (drop before.0 (other_packages s)) after (Item c.in-Item.item) =
    next_item row (drop before.0 (other_packages s)) after (Item c.in-Item.item)
    (subst (λ (x : Coming). IsNextItem (map row (drop before.0 (other_packages s))) after x) c.in-Item.is (c.in_ok-after.ensures.item (map row (drop before.0 (other_packages s))) after before.3)) in
    refused_same _ c.in_err-parts-in-Item.field-0.0 (c.in_err-parts-in-Item.ensures.row s next.0 (items_rest (map row next.1) ++ after) sound next.3)
    c.from_residual-in_err-parts-in-Item.result c.from_residual-in_err-parts-in-Item.ensures.1

pub rows-preserved : goal.rows-preserved
rows-preserved c = record {
  rows = λ s after sound e.
      let before = c.rows.invariant.rows s after sound e in
      let row = λ (p : Name). object_text s (package_object s p) in
      let others = other_packages s in
      let next : IsItem row (drop before.0 others) after (Item c.in-Item.item) =
      next_item row (drop before.0 others) after (Item c.in-Item.item)
      (subst (λ (x : Coming). IsNextItem (map row (drop before.0 others)) after x) c.in-Item.is (c.in_ok-after.ensures.item (map row (drop before.0 others)) after before.3)) in
      let first = first_left others before.0 next.0 [] next.1 next.2 in
      let read = c.in_ok-parts-in-Item.ensures.row s next.0 (items_rest (map row next.1) ++ after) sound next.3 in
      let is : IsRowOf s (get_or others before.0 []) c.in_ok-parts-in-Item.parts = subst (λ (p : Name). IsRowOf s p c.in_ok-parts-in-Item.parts) first.1 read.0 in
      let within = first.0 in (
        before.0 + 1,
        omega (arith, within),
        subst (λ (rows : List PackageParts). AreFirstRows s (before.0 + 1) rows) (sym {A = List PackageParts} c.in_ok-push_parts-in-Item.ensures) (more_rows s c.rows.rows.items c.in_ok-parts-in-Item.parts before.0 before.2 is),
        inr (read.1 ∙ ap (λ (ps : List Name). items_rest (map row ps) ++ after) first.2),
      );
  shorter =
      let less : length c.in-Item.item.now < length c.rows.rest.now = subst (λ (x : Coming). LeavesFewerBytes c.rows.rest.now x) c.in-Item.is c.in_ok-after.ensures.shorter in
      omega (arith, less, c.in_ok-parts-in-Item.ensures.shorter, c.rows.invariant.shorter);
}
