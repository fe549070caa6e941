use Rattle.std.proofs.Common.{◌≡◌, ◌⊎◌, [], true}
use Rattle.lisp_object.specs.Datum.{object_of}
use Rattle.refused_part.specs.Part.{is_refused_at}
use Rattle.refused_part.specs.Search.{IsPlacedIn}
use Rattle.refused_part.proofs.trials.Trials.innermost.Given as goal

-- the world is as it was, and this is the form or a part that is refused
abbrev pub invariant-levels : goal.invariant-levels
invariant-levels g l = record {
  same : l.world ≡ l.fn.world;
  there : IsPlacedIn l.fn.self.form.now l.found;
  refused : (l.found.place.items ≡ [])
      ⊎ (is_refused_at g.M.Meaning.functions.names l.fn.world.0 l.fn.self.number (object_of l.fn.self.form.now) l.found.place.items (object_of l.found.part.now) ≡ true);
}
