use Rattle.std.proofs.Common.{◌≡◌, ◌++◌, ◌∷◌, [], sym, ap, ◌∙◌, map, position, if◌then◌else◌}
use Rattle.std.specs.Prelude.{bytes_eq, None}
use Rattle.package_sets.specs.declared.name.KeptName.{KeptName}
use Rattle.std.proofs.lemmas.List.{map-append}
use Rattle.package_sets.proofs.Places.{position-map, none_any}
use Rattle.package_sets.proofs.names.Names.push.Goals as goal

pub returns-clause-ok : goal.returns-clause-ok
returns-clause-ok c =
    let ks = c.self.inside.set.keys in
    let n : KeptName = record { bytes = c.in_ok-bytes.bytes } in
    let test = λ (k : KeptName). bytes_eq n.bytes k.bytes in
    let same : n.bytes ≡ c.args.name.now = c.in_ok-bytes.ensures in
    let none : position test ks ≡ None = sym (position-map (λ k. k.bytes) (bytes_eq n.bytes) ks) ∙ (λ i. position (bytes_eq (same i)) (c.self.view_is i)) ∙ c.requires in
    ap (map (λ k. k.bytes)) (c.in_default.ensures.keys ∙ ap (λ b. if b then ks else ks ++ n ∷ []) (none_any test ks none))
    ∙ map-append (λ k. k.bytes) ks (n ∷ [])
    ∙ (λ i. c.self.view_is i ++ same i ∷ [])
