use Rattle.std.proofs.Common.{[], ◌∷◌, ◌++◌, ap, sym, subst, ◌∙◌}
use Rattle.refused_part.specs.PartPlaces.{HasPart}
use Rattle.refused_part.proofs.Searching.{item_there}
use Rattle.refused_part.proofs.placed.item_of.Goals as goal

pub returns-in_ok-longer-in-Some : goal.returns-in_ok-longer-in-Some
returns-in_ok-longer-in-Some c = λ form there.
    subst (λ way. HasPart way form c.in-Some.item.now) (sym (c.in_ok-longer-in-Some.ensures ∙ ap (λ way. way ++ c.args.index ∷ []) c.as_slice.ensures.value))
    (item_there c.args.part.now.place.items c.args.index form c.args.part.now.part.now c.in-Some.item.now there (sym c.in-Some.ensures))
