use Rattle.std.proofs.Common.{◌≡◌, ℕ, List, [], ◌++◌, drop, append_assoc, sym, ap, ◌∙◌}
use Rattle.std.proofs.lemmas.List.{append-nil}
use Rattle.lisp_object.specs.Object.{Object}
use Rattle.plist_state.specs.State.{WorldState}
use Rattle.world_text.specs.Snapshot.{packages_object, properties_object, snapshot_line, snapshot_with}
use Rattle.world_text.proofs.Versions.{text_with}
use Rattle.snapshot_text.proofs.Gave.{refused_same}
use Rattle.snapshot_text.proofs.reader.fill.Goals as goal

-- what stands after the first line, and after the second, where the third is of this object
abbrev third : WorldState → Object → List ℕ
third s x = snapshot_line s.packages x ++ []

abbrev second : WorldState → Object → List ℕ
second s x = snapshot_line s.packages (properties_object s) ++ third s x

three_lines : (a b c bytes : List ℕ) → (a ++ b) ++ c ≡ bytes → drop 0 bytes ≡ a ++ (b ++ (c ++ []))
three_lines a b c bytes e = sym e ∙ append_assoc a b c ∙ ap (λ x. a ++ (b ++ x)) (sym (append-nil c))

begins : (s : WorldState) (x : Object) (bytes : List ℕ) → snapshot_with s x ≡ bytes → drop 0 bytes ≡ snapshot_line s.packages (packages_object s.packages) ++ second s x
begins s x bytes e = three_lines (snapshot_line s.packages (packages_object s.packages)) (snapshot_line s.packages (properties_object s)) (snapshot_line s.packages x) bytes e

pub returns-in_err-at : goal.returns-in_err-at
returns-in_err-at g c = λ s sound fits e new.
    let parts = text_with c.args.version s c.args.source.now.bytes.now e in
    refused_same _ c.in_err-at.field-0.0
    (c.in_err-at.ensures s (second s parts.0) sound fits (begins s parts.0 c.args.source.now.bytes.now parts.2) new)
    c.from_residual.result c.from_residual.ensures.1

pub returns-in_err-at-2 : goal.returns-in_err-at-2
returns-in_err-at-2 g c = λ s sound fits e new.
    let parts = text_with c.args.version s c.args.source.now.bytes.now e in
    let packages = c.in_ok-at.ensures s (second s parts.0) sound fits (begins s parts.0 c.args.source.now.bytes.now parts.2) new in
    refused_same _ c.in_err-at-2.field-0.0
    (c.in_err-at-2.ensures s (third s parts.0) sound fits packages.1 packages.0)
    c.from_residual-in_err-at-2.result c.from_residual-in_err-at-2.ensures.1

pub returns-in_err-read_tables : goal.returns-in_err-read_tables
returns-in_err-read_tables g c = λ s sound fits e new.
    let parts = text_with c.args.version s c.args.source.now.bytes.now e in
    let packages = c.in_ok-at.ensures s (second s parts.0) sound fits (begins s parts.0 c.args.source.now.bytes.now parts.2) new in
    let properties = c.in_ok-at-2.ensures s (third s parts.0) sound fits packages.1 packages.0 in
    refused_same _ c.in_err-read_tables.field-0.0
    (c.in_err-read_tables.ensures s parts.0 [] sound fits parts.1 properties.1 properties.0)
    c.from_residual-in_err-read_tables.result c.from_residual-in_err-read_tables.ensures.1

pub returns : goal.returns
returns g c = λ s sound fits e new.
    let parts = text_with c.args.version s c.args.source.now.bytes.now e in
    let packages = c.in_ok-at.ensures s (second s parts.0) sound fits (begins s parts.0 c.args.source.now.bytes.now parts.2) new in
    let properties = c.in_ok-at-2.ensures s (third s parts.0) sound fits packages.1 packages.0 in
    c.in_ok-read_tables.ensures s parts.0 [] sound fits parts.1 properties.1 properties.0
