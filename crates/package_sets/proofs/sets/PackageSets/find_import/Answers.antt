use Rattle.std.proofs.Common.{◌≡◌, ℕ, List, length, get_or, sym, ap, ◌∙◌, arith}
use Rattle.std.specs.Prelude.{option_map}
use Rattle.package_sets.specs.KeptSets.{Kept, positions_of}
use Rattle.package_sets.proofs.Namesakes.{no_imports}
use Rattle.package_sets.proofs.sets.PackageSets.find_import.Goals as goal

pub returns-then-is_empty : goal.returns-then-is_empty
returns-then-is_empty c =
    let none : length c.of.result.now ≡ 0 = grind arith in
    let so : length (positions_of c.args.owner c.args.self.now.imports) ≡ 0 = sym (ap (λ (l : List ℕ). length l) (c.of.ensures ∙ ap (λ (k : Kept). positions_of c.args.owner k.imports) c.self.view_is)) ∙ none in
    sym (ap (option_map (λ i. get_or c.args.self.now.imported i 0)) (no_imports c.args.owner c.args.name c.args.self.now.imports so))
