use Rattle.std.proofs.Common.{◌≡◌, ℤ, true, refl, subst}
use Rattle.lisp_object.specs.declared.datum.Datum.{Datum}
use Rattle.lisp_object.specs.Object.{Object, integer, rational, character, text, symbol, uninterned, pair, vector}
use Rattle.lisp_object.specs.Datum.{object_of, is_proper}
use Rattle.lisp_object.proofs.Restored.{from_integer}
use Rattle.user_macros.specs.Calls.{one, refused}
use Rattle.user_macros.specs.Sound.{IsProperMaterial}
use Rattle.examples.specs.Doubling.{doubled}
use Rattle.examples.proofs.function.double.Goals as goal

-- what is no integer is not doubled
by_object : (d : Datum) → is_proper d ≡ true → ((i : ℤ) → d ≡ Datum.Integer i → ⊥) → (o : Object) → object_of d ≡ o → refused 1 ≡ doubled (one o)
by_object d proper other (integer i) e = absurd (other i (from_integer d i proper e))
by_object d proper other (rational a b) e = refl
by_object d proper other (character c) e = refl
by_object d proper other (text bytes) e = refl
by_object d proper other (symbol home name) e = refl
by_object d proper other (uninterned name) e = refl
by_object d proper other (pair a b) e = refl
by_object d proper other (vector xs) e = refl

pub returns-in_default-datum : goal.returns-in_default-datum
returns-in_default-datum c =
    let proper = subst IsProperMaterial c.in-One.is c.requires.gathered in
    rw c.in-One.is (by_object _ proper c.in_default-datum.not-Integer _ refl)
