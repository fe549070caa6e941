use Rattle.std.proofs.Common.{◌≡◌, ◌+◌, ℕ, length, min, ◌∙◌, ap, arith}
use Rattle.std.proofs.lemmas.List.{length-map}
use Rattle.package_table.specs.Readers.{names_of, own_names}
use Rattle.store_reports.proofs.Joined.{counted}
use Rattle.store_reports.proofs.figures.symbol_count.Goals as goal

pub loop-name-preserved : goal.loop-name-preserved
loop-name-preserved c =
    let same : c.len.result ≡ length (names_of c.in-Ok.names.items) = omega (arith, c.len.ensures, c.in-Ok.names.ok.0, length-map c.in-Ok.names.items (λ n. n.now)) in
    counted (λ n. n.now) (λ name. length (own_names c.args.packages.now.0 name)) c.as_slice-name-items.result.now c.loop-name.name-index c.loop-name.count c.saturating_add-count.result _
    c.loop-name-test.true c.loop-name.invariant
    (c.saturating_add-count.ensures ∙ ap (λ (n : ℕ). min (c.loop-name.count + n) 18446744073709551615) (same ∙ ap length c.in-Ok.ensures.list))
