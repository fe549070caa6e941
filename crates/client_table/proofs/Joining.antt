-- A text that is made piece by piece.
--     client_made      a symbol of the table, by its pieces
use Rattle.std.proofs.Common.{◌≡◌, ℕ, List, ◌++◌, codes, append_assoc, sym, ap, ◌∙◌}
use Rattle.canon_printer.specs.Written.{printed_text}
use Rattle.client_table.specs.Entries.{table_package}

pieces : (a q s t e : List ℕ) → (((a ++ q) ++ s) ++ t) ++ e ≡ a ++ (q ++ (s ++ (t ++ e)))
pieces a q s t e = append_assoc ((a ++ q) ++ s) t e ∙ append_assoc (a ++ q) s (t ++ e) ∙ append_assoc a q (s ++ (t ++ e))

pub client_made : (text name : List ℕ) → ((text ++ codes "(INTERN \"") ++ name) ++ codes "\" \"%CLIENTS\")"
    ≡ text ++ (codes "(INTERN " ++ (codes "\"" ++ name ++ codes "\"") ++ codes " " ++ printed_text table_package ++ codes ")")
client_made text name =
    append_assoc (text ++ codes "(INTERN \"") name (codes "\" \"%CLIENTS\")") ∙ append_assoc text (codes "(INTERN \"") (name ++ codes "\" \"%CLIENTS\")")
    ∙ ap (λ t. text ++ (codes "(INTERN \"" ++ t)) (sym (pieces name (codes "\"") (codes " ") (printed_text table_package) (codes ")")))
