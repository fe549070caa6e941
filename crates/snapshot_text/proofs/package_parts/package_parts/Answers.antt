use Rattle.std.proofs.Common.{◌∷◌, ◌++◌, ◌∙◌}
use Rattle.package_table.specs.Readers.{used_names, imports}
use Rattle.canon_printer.specs.Written.{printed_text}
use Rattle.world_text.specs.Snapshot.{made_names, shown_names}
use Rattle.snapshot_lines.specs.QuotedTexts.{pairs_text}
use Rattle.snapshot_text.proofs.Gave.{refused_same}
use Rattle.snapshot_text.proofs.PackageRows.{row_apart, after_name, after_used, after_own, after_shown}
use Rattle.snapshot_text.proofs.package_parts.package_parts.Goals as goal

pub returns-in_err-after_byte-clause-row : goal.returns-in_err-after_byte-clause-row
returns-in_err-after_byte-clause-row c = λ s p after sound e.
    absurd (c.in_err-after_byte.ensures.after (printed_text p ++ after_name s p after) (e ∙ row_apart s sound p after))

pub returns-in_err-name-clause-row : goal.returns-in_err-name-clause-row
returns-in_err-name-clause-row c = λ s p after sound e.
    let begun = c.in_ok-after_byte.ensures.after (printed_text p ++ after_name s p after) (e ∙ row_apart s sound p after) in
    absurd (c.in_err-name.ensures.text p (after_name s p after) begun)

pub returns-in_err-used-clause-row : goal.returns-in_err-used-clause-row
returns-in_err-used-clause-row c = λ s p after sound e.
    let begun = c.in_ok-after_byte.ensures.after (printed_text p ++ after_name s p after) (e ∙ row_apart s sound p after) in
    let name = c.in_ok-name.ensures.text p (after_name s p after) begun in
    refused_same _ c.in_err-used.field-0.0 (c.in_err-used.ensures.texts (used_names s p) (after_used s p after) name.1) c.from_residual-in_err-used.result c.from_residual-in_err-used.ensures.1

pub returns-in_err-own-clause-row : goal.returns-in_err-own-clause-row
returns-in_err-own-clause-row c = λ s p after sound e.
    let begun = c.in_ok-after_byte.ensures.after (printed_text p ++ after_name s p after) (e ∙ row_apart s sound p after) in
    let name = c.in_ok-name.ensures.text p (after_name s p after) begun in
    let used = c.in_ok-used.ensures.texts (used_names s p) (after_used s p after) name.1 in
    refused_same _ c.in_err-own.field-0.0 (c.in_err-own.ensures.texts (made_names s p) (after_own s p after) used.1) c.from_residual-in_err-own.result c.from_residual-in_err-own.ensures.1

pub returns-in_err-shown-clause-row : goal.returns-in_err-shown-clause-row
returns-in_err-shown-clause-row c = λ s p after sound e.
    let begun = c.in_ok-after_byte.ensures.after (printed_text p ++ after_name s p after) (e ∙ row_apart s sound p after) in
    let name = c.in_ok-name.ensures.text p (after_name s p after) begun in
    let used = c.in_ok-used.ensures.texts (used_names s p) (after_used s p after) name.1 in
    let own = c.in_ok-own.ensures.texts (made_names s p) (after_own s p after) used.1 in
    refused_same _ c.in_err-shown.field-0.0 (c.in_err-shown.ensures.texts (shown_names s p) (after_shown s p after) own.1) c.from_residual-in_err-shown.result c.from_residual-in_err-shown.ensures.1

pub returns-in_err-after_byte-2-clause-row : goal.returns-in_err-after_byte-2-clause-row
returns-in_err-after_byte-2-clause-row c = λ s p after sound e.
    let begun = c.in_ok-after_byte.ensures.after (printed_text p ++ after_name s p after) (e ∙ row_apart s sound p after) in
    let name = c.in_ok-name.ensures.text p (after_name s p after) begun in
    let used = c.in_ok-used.ensures.texts (used_names s p) (after_used s p after) name.1 in
    let own = c.in_ok-own.ensures.texts (made_names s p) (after_own s p after) used.1 in
    let shown = c.in_ok-shown.ensures.texts (shown_names s p) (after_shown s p after) own.1 in
    absurd (c.in_err-after_byte-2.ensures.after (pairs_text (imports s p) ++ 41 ∷ after) shown.1)

pub returns-in_err-imported-clause-row : goal.returns-in_err-imported-clause-row
returns-in_err-imported-clause-row c = λ s p after sound e.
    let begun = c.in_ok-after_byte.ensures.after (printed_text p ++ after_name s p after) (e ∙ row_apart s sound p after) in
    let name = c.in_ok-name.ensures.text p (after_name s p after) begun in
    let used = c.in_ok-used.ensures.texts (used_names s p) (after_used s p after) name.1 in
    let own = c.in_ok-own.ensures.texts (made_names s p) (after_own s p after) used.1 in
    let shown = c.in_ok-shown.ensures.texts (shown_names s p) (after_shown s p after) own.1 in
    let last = c.in_ok-after_byte-2.ensures.after (pairs_text (imports s p) ++ 41 ∷ after) shown.1 in
    refused_same _ c.in_err-imported.field-0.0 (c.in_err-imported.ensures.pairs (imports s p) (41 ∷ after) last) c.from_residual-in_err-imported.result c.from_residual-in_err-imported.ensures.1

pub returns-in_err-after-clause-row : goal.returns-in_err-after-clause-row
returns-in_err-after-clause-row c = λ s p after sound e.
    let begun = c.in_ok-after_byte.ensures.after (printed_text p ++ after_name s p after) (e ∙ row_apart s sound p after) in
    let name = c.in_ok-name.ensures.text p (after_name s p after) begun in
    let used = c.in_ok-used.ensures.texts (used_names s p) (after_used s p after) name.1 in
    let own = c.in_ok-own.ensures.texts (made_names s p) (after_own s p after) used.1 in
    let shown = c.in_ok-shown.ensures.texts (shown_names s p) (after_shown s p after) own.1 in
    let last = c.in_ok-after_byte-2.ensures.after (pairs_text (imports s p) ++ 41 ∷ after) shown.1 in
    let imported = c.in_ok-imported.ensures.pairs (imports s p) (41 ∷ after) last in
    absurd (c.in_err-after.ensures.after after imported.1)

pub returns-clause-row : goal.returns-clause-row
returns-clause-row c = λ s p after sound e.
    let begun = c.in_ok-after_byte.ensures.after (printed_text p ++ after_name s p after) (e ∙ row_apart s sound p after) in
    let name = c.in_ok-name.ensures.text p (after_name s p after) begun in
    let used = c.in_ok-used.ensures.texts (used_names s p) (after_used s p after) name.1 in
    let own = c.in_ok-own.ensures.texts (made_names s p) (after_own s p after) used.1 in
    let shown = c.in_ok-shown.ensures.texts (shown_names s p) (after_shown s p after) own.1 in
    let last = c.in_ok-after_byte-2.ensures.after (pairs_text (imports s p) ++ 41 ∷ after) shown.1 in
    let imported = c.in_ok-imported.ensures.pairs (imports s p) (41 ∷ after) last in
    (record { name = name.0; used = used.0; own = own.0; shown = shown.0; imported = imported.0 }, c.in_ok-after.ensures.after after imported.1)
