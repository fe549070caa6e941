-- Evaluations that count, one after the other.
--     or_false, wrote_wrote, wrote_false, wrote_then      what was written before
--     also_false      the same, without steps
--     then_here, then_known, then_then, then_each      one and then another
use Rattle.std.proofs.Common.{◌≡◌, Bool, true, false, ◌||◌, Ok, Err, refl, sym, ap}
use Rattle.lisp_operators.specs.Evaluation.{Evaluation, also}
use Rattle.kept_functions.specs.Counting.{Point, Counting, here, then_on, wrote_too}

pub or_false : (b : Bool) → (b || false) ≡ b
or_false true = refl
or_false false = refl

pub wrote_wrote : {A : Type 0} (a b : Bool) (o : Counting A) → wrote_too a (wrote_too b o) ≡ wrote_too (a || b) o
wrote_wrote true b (Ok d) = refl
wrote_wrote false b (Ok d) = refl
wrote_wrote a b (Err code) = refl

pub wrote_false : {A : Type 0} (o : Counting A) → wrote_too false o ≡ o
wrote_false (Ok d) = refl
wrote_false (Err code) = refl

pub also_false : {A : Type 0} (o : Evaluation A) → also false o ≡ o
also_false (Ok d) = refl
also_false (Err code) = refl

pub wrote_then : {A B : Type 0} (w : Bool) (o : Counting A) (f : A → Point → Counting B) → then_on (wrote_too w o) f ≡ wrote_too w (then_on o f)
wrote_then w (Ok d) f = sym (wrote_wrote w d.wrote (f d.value d.point))
wrote_then w (Err code) f = refl

pub then_here : {A : Type 0} (o : Counting A) → then_on o (λ x p. here x p) ≡ o
then_here (Ok d) = ap (λ b. Ok (record { value = d.value; point = d.point; wrote = b })) (or_false d.wrote)
then_here (Err code) = refl

pub then_known : {A B : Type 0} (x : A) (p : Point) (f : A → Point → Counting B) → then_on (here x p) f ≡ f x p
then_known x p f = wrote_false (f x p)

pub then_then : {A B C : Type 0} (o : Counting A) (f : A → Point → Counting B) (g : B → Point → Counting C)
    → then_on (then_on o f) g ≡ then_on o (λ x p. then_on (f x p) g)
then_then (Ok d) f g = wrote_then d.wrote (f d.value d.point) g
then_then (Err code) f g = refl

pub then_each : {A B : Type 0} (o : Counting A) (f g : A → Point → Counting B) → ((x : A) (p : Point) → f x p ≡ g x p) → then_on o f ≡ then_on o g
then_each (Ok d) f g same = ap (wrote_too d.wrote) (same d.value d.point)
then_each (Err code) f g same = refl
