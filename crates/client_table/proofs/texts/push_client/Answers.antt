use Rattle.std.proofs.Common.{codes, ◌++◌, ap, ◌∙◌}
use Rattle.canon_printer.specs.Names.{with_backslashes}
use Rattle.canon_printer.specs.Written.{is_escaped_in_text}
use Rattle.client_table.proofs.Joining.{client_made}
use Rattle.client_table.proofs.texts.push_client.Goals as goal

pub returns : goal.returns
returns c =
    c.in_ok-extend_from_slice-2.ensures.items
    ∙ ap (λ t. t ++ codes "\" \"%CLIENTS\")") (c.in_ok-push_escaped.ensures ∙ ap (λ t. t ++ with_backslashes is_escaped_in_text c.args.name.now) c.in_ok-extend_from_slice.ensures.items)
    ∙ client_made c.args.text.now.items (with_backslashes is_escaped_in_text c.args.name.now)
