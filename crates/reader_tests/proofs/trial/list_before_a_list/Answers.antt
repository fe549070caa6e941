use Rattle.std.proofs.Common.{◌≡◌, Bool, true, false, ◌&&◌, nat_lt, List, length, Some, refl, ap, ◌∙◌}
use Rattle.std.specs.List.{list_all}
use Rattle.lisp_object.specs.declared.datum.Datum
use Rattle.lisp_object.specs.declared.datum.Datum.{Datum}
use Rattle.lisp_object.specs.Datum.{is_proper, is_list}
use Rattle.lisp_object.proofs.Properness.{is_proper-dotted, is_list-List}
use Rattle.reader_tests.proofs.trial.list_before_a_list.Goals as goal

never : (a b p : Bool) → (a && b && (p && false)) ≡ false
never false b p = refl
never true false p = refl
never true true false = refl
never true true true = refl

before_a_list : (items : List Datum) (tail : Datum) → is_list tail ≡ true → is_proper (Datum.List items (Some tail)) ≡ false
before_a_list items tail is =
    is_proper-dotted items tail ∙ rw (is) (never (nat_lt 0 (length items)) (list_all is_proper items) (is_proper tail))

pub returns : goal.returns
returns c = rw (before_a_list _ c.in_ok-new.field-0 (ap is_list c.in_ok-new.ensures ∙ is_list-List _)) refl
