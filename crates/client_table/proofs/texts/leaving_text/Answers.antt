use Rattle.std.proofs.Common.{◌-◌, ◌++◌, codes, ap, ◌∙◌}
use Rattle.std.specs.Prelude.{decimal}
use Rattle.client_table.specs.Entries.{client_count, client_count_text, client_text}
use Rattle.client_table.proofs.texts.leaving_text.Goals as goal

pub returns : goal.returns
returns c =
    let count = c.from-count.ensures ∙ c.saturating_sub.ensures ∙ ap (λ n. n - 1) c.client_count.ensures in
    c.in_ok-extend_from_slice-3.ensures.items
    ∙ ap (λ t. t ++ codes ")") (c.in_ok-push_count.ensures ∙ ap (λ n. c.extend_from_slice-2.new.self.items ++ client_count_text (decimal n)) count
    ∙ ap (λ t. t ++ client_count_text (decimal (client_count c.args.world.now.0 - 1))) (c.in_ok-extend_from_slice-2.ensures.items
    ∙ ap (λ t. t ++ codes ") (SETF ") (c.in_ok-push_client-2.ensures
    ∙ ap (λ t. t ++ client_text (codes "%MESSAGE")) (c.in_ok-extend_from_slice.ensures.items
    ∙ ap (λ t. t ++ codes " ") (c.in_ok-push_client.ensures
    ∙ ap (λ t. t ++ client_text c.args.name.now) c.in_ok-text.ensures.items)))))
