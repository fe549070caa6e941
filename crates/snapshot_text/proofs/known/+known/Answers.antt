use Rattle.std.proofs.Common.{List, Option, Some, None, ◌≡◌, sym, ap, subst, ◌∙◌, refl, unwrap_or, option_map}
use Rattle.std.specs.Prelude.{All}
use Rattle.std.proofs.lemmas.Bool.{both_ways}
use Rattle.lisp_object.specs.declared.datum.Datum
use Rattle.lisp_object.specs.declared.datum.Datum.{Datum}
use Rattle.lisp_object.specs.Object.{Object, nil, AllAtoms}
use Rattle.lisp_object.specs.Datum.{object_of}
use Rattle.lisp_object.proofs.Objects.{object_of-List, object_of-dotted, object_of-Vector}
use Rattle.lisp_object.proofs.Atoms.{atoms_List, atoms_Vector, pairs_atoms}
use Rattle.canon_printer.proofs.Resolved.{nil_present}
use Rattle.plist_state.specs.Sound.{IsSymbolStorable}
use Rattle.snapshot_text.proofs.known.+known.Goals as goal

-- what holds of the atoms of a list holds of those of its items and of its end, and so of a vector
list_atoms : (P : Object → Type 0) (items : List Datum) (tail : Option Datum) (d : Datum) → d ≡ Datum.List items tail → AllAtoms P (object_of d)
    → All (λ x. AllAtoms P (object_of x)) items × AllAtoms P (unwrap_or (option_map object_of tail) nil)
list_atoms P items None d is all = pairs_atoms P items nil (subst (AllAtoms P) (ap object_of is ∙ object_of-List items) all)
list_atoms P items (Some t) d is all = pairs_atoms P items (object_of t) (subst (AllAtoms P) (ap object_of is ∙ object_of-dotted items t) all)

vector_atoms : (P : Object → Type 0) (items : List Datum) (d : Datum) → d ≡ Datum.Vector items → AllAtoms P (object_of d) → All (λ x. AllAtoms P (object_of x)) items
vector_atoms P items d is all = (pairs_atoms P items nil (subst (AllAtoms P) (ap object_of is ∙ object_of-Vector items) all)).0

pub are_known-returns-then-not-each_known : goal.are_known-returns-then-not-each_known
are_known-returns-then-not-each_known t c = (
  λ holds. absurd cc,
  λ all. absurd (both_ways c.each_known.result c.if-not-each_known.true
      (c.each_known.ensures.1 (list_atoms (IsSymbolStorable c.args.packages.now.0) c.in-List.items c.in-List.tail c.args.datum.now c.in-List.is all).0)),
)

pub are_known-returns-else-not-each_known : goal.are_known-returns-else-not-each_known
are_known-returns-else-not-each_known t c = (
  λ holds. atoms_List (IsSymbolStorable c.args.packages.now.0) c.in-List.items c.in-List.tail c.args.datum.now c.in-List.is
      (c.each_known.ensures.0 c.if-not-each_known.false) (c.end_known.ensures.0 holds),
  λ all. c.end_known.ensures.1 (list_atoms (IsSymbolStorable c.args.packages.now.0) c.in-List.items c.in-List.tail c.args.datum.now c.in-List.is all).1,
)

pub are_known-returns-in-Vector : goal.are_known-returns-in-Vector
are_known-returns-in-Vector t c = (
  λ holds. atoms_Vector (IsSymbolStorable c.args.packages.now.0) c.in-Vector.items c.args.datum.now c.in-Vector.is
      (c.each_known-in-Vector.ensures.0 holds) (nil_present c.args.packages.now.0 c.requires),
  λ all. c.each_known-in-Vector.ensures.1 (vector_atoms (IsSymbolStorable c.args.packages.now.0) c.in-Vector.items c.args.datum.now c.in-Vector.is all),
)

pub end_known-returns-in-None : goal.end_known-returns-in-None
end_known-returns-in-None t c = (
  λ _. subst (λ o. AllAtoms (IsSymbolStorable c.args.packages.now.0) (unwrap_or (option_map object_of o) nil)) (sym c.in-None.is)
      (nil_present c.args.packages.now.0 c.requires),
  λ _. refl,
)
