use Rattle.std.proofs.Common.{◌≡◌, Option, unwrap_or, sym, ap, ◌∙◌}
use Rattle.std.specs.Prelude.{codes}
use Rattle.std.specs.Option.{option_map}
use Rattle.std.proofs.lemmas.Result.{IfOk-weaker}
use Rattle.lisp_object.specs.declared.datum.Datum.{Datum}
use Rattle.lisp_object.specs.Object.{nil}
use Rattle.lisp_object.specs.Datum.{object_of, is_proper}
use Rattle.lisp_object.proofs.Objects.{object_of-Symbol}
use Rattle.plist_state.specs.Undoing.{without_first, element_count}
use Rattle.plist_state.proofs.Popped.{ended}
use Rattle.plist_state.proofs.first_items.end_of.Goals as goal

pub returns-in-Some-clause-end : goal.returns-in-Some-clause-end
returns-in-Some-clause-end c =
    IfOk-weaker c.copy.result (λ end. end ≡ c.in-Some.end) (λ end. object_of end ≡ without_first (object_of c.args.list.now)) (λ end is.
    ap object_of is
    ∙ sym (ap (λ d. without_first (object_of d)) c.in-List.is
    ∙ ended c.in-List.items c.in-List.tail (ap is_proper (sym c.in-List.is) ∙ c.requires.list) (ap (λ d. element_count (object_of d)) (sym c.in-List.is) ∙ c.requires.one)
    ∙ ap (λ (o : Option Datum). unwrap_or (option_map object_of o) nil) c.in-Some.is))
    (IfOk-weaker c.copy.result (λ end. end ≡ c.get.result.now) (λ end. end ≡ c.in-Some.end) (λ end is. is ∙ c.get.ensures) c.copy.ensures)

pub returns-in-None-clause-end : goal.returns-in-None-clause-end
returns-in-None-clause-end c =
    IfOk-weaker c.nil.result (λ end. end ≡ Datum.Symbol (codes "COMMON-LISP") (codes "NIL")) (λ end. object_of end ≡ without_first (object_of c.args.list.now)) (λ end is.
    ap object_of is ∙ object_of-Symbol (codes "COMMON-LISP") (codes "NIL")
    ∙ sym (ap (λ d. without_first (object_of d)) c.in-List.is
    ∙ ended c.in-List.items c.in-List.tail (ap is_proper (sym c.in-List.is) ∙ c.requires.list) (ap (λ d. element_count (object_of d)) (sym c.in-List.is) ∙ c.requires.one)
    ∙ ap (λ (o : Option Datum). unwrap_or (option_map object_of o) nil) c.in-None.is))
    c.nil.ensures
