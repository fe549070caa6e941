use Rattle.std.proofs.Common.{◌≡◌, ◌∙◌, Decides, List, ℕ, ap, length, map, subst, take}
use Rattle.std.specs.Char.{to_ascii_lowercase}
use Rattle.std.proofs.lemmas.Bool.Decides.{same_from_decides}
use Rattle.std.proofs.lemmas.List.{take_min}
use Rattle.std.proofs.lemmas.Slice.Eq.{bytes_eq-Decides}
use Rattle.name_patterns.proofs.patterns.begins_with.Goals as goal

pub returns : goal.returns
returns c =
    let part = c.args.part.now in
    let text = c.args.text.now in
    let front : take c.min.result text ≡ take (length part) text = ap (λ (n : ℕ). take n text) c.min.ensures ∙ take_min (length part) text in
    same_from_decides c.eq_ignore_ascii_case.result _
    (subst (λ (xs : List ℕ). Decides c.eq_ignore_ascii_case.result (map to_ascii_lowercase xs ≡ map to_ascii_lowercase part)) front c.eq_ignore_ascii_case.ensures.test)
    (bytes_eq-Decides _ _)
