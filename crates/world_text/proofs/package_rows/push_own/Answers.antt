use Rattle.std.proofs.Common.{◌≡◌, ◌++◌, codes, not, map, filter, ap, ◌∙◌}
use Rattle.package_table.specs.Table.{common_lisp_user}
use Rattle.package_table.specs.Lookup.{is_present}
use Rattle.package_table.specs.Readers.{own_names}
use Rattle.canon_printer.specs.Printed.{printed}
use Rattle.world_text.specs.KeptNames.{kept_names}
use Rattle.world_text.specs.Snapshot.{made_names, texts}
use Rattle.world_text.proofs.Ascii.{is_ascii_name, all_filtered, made_names_ascii}
use Rattle.world_text.proofs.RowsWritten.{images_pass}
use Rattle.world_text.proofs.package_rows.push_own.Goals as goal

pub push_texts-requires : goal.push_texts-requires
push_texts-requires g c =
    let t = c.args.packages.now.0 in
    let p = c.args.owner.now in
    let keeps = g.T.NameTest.keeps c.args.test.now in
    let made : map (λ n. n.now) c.leave_made.new.names.items ≡ made_names t p =
    c.leave_made.ensures
    ∙ ap (filter (λ n. not (is_present c.args.first.now.0 p n))) c.in_ok-names.ensures
    ∙ ap (λ i. filter (λ n. not (is_present i p n)) (own_names t p)) c.requires in
    let images : map (λ n. n.now) c.leave_kept.new.names.items ≡ kept_names keeps t p = c.leave_kept.ensures ∙ ap (filter (keeps p)) made in
    images_pass is_ascii_name c.as_slice.result.now c.leave_kept.new.names.items (λ n. n.now) c.as_slice.ensures.value images
    (all_filtered is_ascii_name (keeps p) (made_names t p) (made_names_ascii t c.soundness.ensures p))

pub returns : goal.returns
returns g c =
    let t = c.args.packages.now.0 in
    let p = c.args.owner.now in
    let keeps = g.T.NameTest.keeps c.args.test.now in
    let made : map (λ n. n.now) c.leave_made.new.names.items ≡ made_names t p =
    c.leave_made.ensures
    ∙ ap (filter (λ n. not (is_present c.args.first.now.0 p n))) c.in_ok-names.ensures
    ∙ ap (λ i. filter (λ n. not (is_present i p n)) (own_names t p)) c.requires in
    let images : map (λ n. n.now) c.leave_kept.new.names.items ≡ kept_names keeps t p = c.leave_kept.ensures ∙ ap (filter (keeps p)) made in
    c.in_ok-push_texts.ensures
    ∙ ap (λ ns. c.args.text.now.items ++ (codes " " ++ printed t common_lisp_user (texts ns))) (ap (map (λ n. n.now)) c.as_slice.ensures.value ∙ images)
