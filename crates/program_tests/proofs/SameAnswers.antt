-- Forms that are asked: two with the same value in each state have the same answer.
--     asked_same      where the symbols of any form are there
use Rattle.std.proofs.Common.{◌≡◌, Bool, List, Result, Ok, Err, refl}
use Rattle.lisp_object.specs.Object.{Object}
use Rattle.package_table.specs.Table.{Name, Table}
use Rattle.package_table.specs.declared.error.PackageError.{PackageError}
use Rattle.plist_state.specs.State.{WorldState}
use Rattle.plist_state.specs.Changes.{with_packages}
use Rattle.evaluator.specs.Value.{value}
use Rattle.form_eval.specs.Acceptance.{question_after_interning}

pub asked_same : (names : List Name) (s : WorldState) (r : Result (Table × Bool) PackageError) (x y : Object)
    → ((t : WorldState) → value names t x ≡ value names t y) → question_after_interning names s r x ≡ question_after_interning names s r y
asked_same names s (Ok p) x y same = same (with_packages s p.0)
asked_same names s (Err e) x y same = refl
