-- Forms of which the last one's value is wanted.
--     sequence_none, sequence_one, sequence_more      by how many there are
use Rattle.std.proofs.Common.{◌≡◌, Bool, true, false, ◌||◌, List, [], ◌∷◌, Ok, Err, refl, ap}
use Rattle.lisp_object.specs.Object.{Object, pair, nil}
use Rattle.evaluator.specs.Value.{last}
use Rattle.kept_functions.specs.Environments.{Environment}
use Rattle.kept_functions.specs.Counting.{Point, Counting, here, then_on, wrote_too}
use Rattle.lexical_evaluation.specs.Values.{LexicalRules, last_counted, value_in, values_in}
use Rattle.lexical_evaluation.specs.Machine.{progn_in}
use Rattle.lexical_evaluation.proofs.Thens.{or_false}

alone : (b : Bool) → ((b || (false || false)) || false) ≡ b
alone true = refl
alone false = refl

one_value : (o : Counting Object) → last_counted (then_on o (λ y later. then_on (here [] later) (λ ys end'. here (y ∷ ys) end'))) ≡ o
one_value (Err code) = refl
one_value (Ok d) = ap (λ b. Ok (record { value = d.value; point = d.point; wrote = b })) (alone d.wrote)

pub sequence_none : (rules : LexicalRules) (around : Environment) (p : Point) → progn_in rules around nil p ≡ here nil p
unfolding value_in
sequence_none rules around p = refl

pub sequence_one : (rules : LexicalRules) (around : Environment) (p : Point) (x : Object) → progn_in rules around (pair x nil) p ≡ value_in rules around p x
unfolding value_in
sequence_one rules around p x = one_value (value_in rules around p x)

-- the values of two forms and more, where the first one's is let go
later_values : (v : Bool) (y z : Object) (o : Counting (List Object))
    → last_counted (wrote_too v (then_on (then_on o (λ zs end'. here (z ∷ zs) end')) (λ ys end'. here (y ∷ ys) end')))
    ≡ wrote_too v (last_counted (then_on o (λ zs end'. here (z ∷ zs) end')))
later_values v y z (Err code) = refl
later_values v y z (Ok e) = ap (λ b. Ok (record { value = last (z ∷ e.value); point = e.point; wrote = b })) (or_false (v || ((e.wrote || false) || false)))

module _ (y : Object) where
  others_first : (v : Bool) (o : Counting Object) (others : Point → Counting (List Object))
      → last_counted (wrote_too v (then_on (then_on o (λ z later. then_on (others later) (λ zs end'. here (z ∷ zs) end'))) (λ ys end'. here (y ∷ ys) end')))
      ≡ wrote_too v (last_counted (then_on o (λ z later. then_on (others later) (λ zs end'. here (z ∷ zs) end'))))
  others_first v (Err code) others = refl
  others_first v (Ok d) others = given d.value d.wrote (others d.point)
    where
      given : (z : Object) (w : Bool) (o : Counting (List Object))
          → last_counted (wrote_too v (then_on (wrote_too w (then_on o (λ zs end'. here (z ∷ zs) end'))) (λ ys end'. here (y ∷ ys) end')))
          ≡ wrote_too v (last_counted (wrote_too w (then_on o (λ zs end'. here (z ∷ zs) end'))))
      given z w (Err code) = refl
      given z w (Ok e) = ap (λ b. Ok (record { value = last (z ∷ e.value); point = e.point; wrote = b })) (or_false (v || ((w || (e.wrote || false)) || false)))

first_let_go : (o : Counting Object) (f : Point → Counting Object) (others : Point → Counting (List Object))
    → last_counted (then_on o (λ y later. then_on (then_on (f later) (λ z l. then_on (others l) (λ zs end'. here (z ∷ zs) end'))) (λ ys end'. here (y ∷ ys) end')))
    ≡ then_on o (λ _ later. last_counted (then_on (f later) (λ z l. then_on (others l) (λ zs end'. here (z ∷ zs) end'))))
first_let_go (Err code) f others = refl
first_let_go (Ok d) f others = others_first d.value d.wrote (f d.point) others

pub sequence_more : (rules : LexicalRules) (around : Environment) (p : Point) (x g rest : Object)
    → progn_in rules around (pair x (pair g rest)) p ≡ then_on (value_in rules around p x) (λ _ later. progn_in rules around (pair g rest) later)
unfolding value_in
sequence_more rules around p x g rest =
    first_let_go (value_in rules around p x) (λ later. value_in rules around later g) (λ later. values_in rules around later rest)
