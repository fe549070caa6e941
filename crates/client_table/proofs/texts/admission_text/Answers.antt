use Rattle.std.proofs.Common.{◌+◌, ◌++◌, codes, ap, ◌∙◌}
use Rattle.std.specs.Prelude.{decimal}
use Rattle.std.specs.FinMap as finite
use Rattle.client_table.specs.Entries.{client_count, client_count_text, client_text, package_text, table_package}
use Rattle.client_table.proofs.texts.admission_text.Goals as goal

pub returns : goal.returns
returns c =
    let count = ap (λ n. n + 1) (c.from-count.ensures ∙ c.client_count.ensures) in
    let is_there = c.has_package.ensures ∙ ap (λ t. finite.contains_key t table_package) c.packages.ensures in
    c.in_ok-extend_from_slice-4.ensures.items
    ∙ ap (λ t. t ++ codes ") '(0 0 \"\")))") (c.in_ok-push_client-2.ensures
    ∙ ap (λ t. t ++ client_text (codes "%MESSAGE")) (c.in_ok-extend_from_slice-3.ensures.items
    ∙ ap (λ t. t ++ codes " ") (c.in_ok-push_client.ensures
    ∙ ap (λ t. t ++ client_text c.args.name.now) (c.in_ok-extend_from_slice-2.ensures.items
    ∙ ap (λ t. t ++ codes " (SETF (GET ") (c.in_ok-push_count.ensures
    ∙ ap (λ n. c.extend_from_slice.new.self.items ++ client_count_text (decimal n)) count
    ∙ ap (λ t. t ++ client_count_text (decimal (client_count c.args.world.now.0 + 1))) (c.in_ok-extend_from_slice.ensures.items
    ∙ ap (λ t. t ++ codes "(SETF ") (c.in_ok-push_package.ensures
    ∙ ap (λ b. c.in_ok-text.text.items ++ package_text b) is_there
    ∙ ap (λ t. t ++ package_text (finite.contains_key c.args.world.now.0.packages table_package)) c.in_ok-text.ensures.items)))))))
