use Rattle.std.proofs.Common.{refl, ap, subst, ◌∙◌, map}
use Rattle.std.specs.List.{list_all}
use Rattle.lisp_object.specs.Object.{nil, pairs}
use Rattle.lisp_object.specs.Datum.{object_of, is_proper}
use Rattle.lisp_object.proofs.Sound.{sound_nil}
use Rattle.std_macros.specs.Results.{IsProperGathered}
use Rattle.std_macros.proofs.SoundData.{joined_sound}
use Rattle.std_macros.proofs.values.list.Goals as goal

pub returns-in-Many-clause-proper : goal.returns-in-Many-clause-proper
returns-in-Many-clause-proper c =
    let are = subst IsProperGathered c.in-Many.is c.requires in (
      c.in_ok-list-in-Many.ensures.proper (ap (list_all is_proper) c.into_vec.ensures ∙ are.0) refl,
      joined_sound c.in_ok-list-in-Many.field-0 c.in-Many.items nil
          (c.in_ok-list-in-Many.ensures.object ∙ ap (λ xs. pairs (map object_of xs) nil) c.into_vec.ensures) are.1 sound_nil,
    )

pub returns-in-Dotted-clause-proper : goal.returns-in-Dotted-clause-proper
returns-in-Dotted-clause-proper c =
    let are = subst IsProperGathered c.in-Dotted.is c.requires in
    let end = object_of c.in-Dotted.tail in (
      c.in_ok-list-in-Dotted.ensures.proper (ap (list_all is_proper) c.into_vec-in-Dotted.ensures ∙ are.0.0) are.1.0,
      joined_sound c.in_ok-list-in-Dotted.field-0 c.in-Dotted.items end
          (c.in_ok-list-in-Dotted.ensures.object ∙ ap (λ xs. pairs (map object_of xs) end) c.into_vec-in-Dotted.ensures) are.0.1 are.1.1,
    )
