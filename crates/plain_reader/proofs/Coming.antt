-- How `ReadsOnAs` is put together: one step after another, and the steps of plans.
--     here, onward      nothing, and one after the other
--     behind            a plan that goes on with another
--     taken, passed     a byte that is taken, and one that is not
use Rattle.std.proofs.Common.{◌≡◌, ℕ, ◌+◌, ◌-◌, ◌≤◌, Bool, true, false, List, ◌∷◌, ◌++◌, length, refl, sym, ap, ◌∙◌, arith}
use Rattle.std.specs.Prelude.{nat_le}
use Rattle.std.proofs.lemmas.Bool.{lt-leb}
use Rattle.lisp_reading.specs.Plans.{Plan, takes, then_plan, Read, within, run}
use Rattle.lisp_reading.specs.Setting.{Setting}
use Rattle.lisp_reading.proofs.Steps.{run_then, and_then}
use Rattle.plain_reader.specs.Coming.{ReadsOnAs}

module _ (setting : Setting) where
  -- the same plan at the same place, in another form
  pub here : {A : Type 0} (plan next : Plan A) (text : List ℕ)
      → ((at : ℕ) (cs : List ℕ) → at ≤ setting.limits.text → run setting.table setting.limits plan at cs ≡ run setting.table setting.limits next at cs)
      → ReadsOnAs setting plan text next text
  here plan next text same = record {
    within = omega arith;
    goes = λ at more le.
        same at (text ++ more) (omega arith)
        ∙ (let e : at ≡ at + (length text - length text) = omega arith in ap (λ n. run setting.table setting.limits next n (text ++ more)) e);
  }

  pub onward : {A : Type 0} (p q r : Plan A) (xs ys zs : List ℕ) → ReadsOnAs setting p xs q ys → ReadsOnAs setting q ys r zs → ReadsOnAs setting p xs r zs
  onward p q r xs ys zs first next =
      let low = first.within in
      let lower = next.within in
      record {
        within = omega arith;
        goes = λ at more le.
            first.goes at more le
            ∙ next.goes (at + (length xs - length ys)) more (omega arith)
            ∙ (let e : at + (length xs - length ys) + (length ys - length zs) ≡ at + (length xs - length zs) = omega arith in
            ap (λ n. run setting.table setting.limits r n (zs ++ more)) e);
      }

  pub behind : {A B : Type 0} (p q : Plan A) (then : A → Plan B) (xs ys : List ℕ) → ReadsOnAs setting p xs q ys
      → ReadsOnAs setting (then_plan p then) xs (then_plan q then) ys
  behind p q then xs ys comes = record {
    within = comes.within;
    goes = λ at more le.
        run_then setting.table setting.limits p then at (xs ++ more)
        ∙ ap (and_then setting.table setting.limits then) (comes.goes at more le)
        ∙ sym (run_then setting.table setting.limits q then (at + (length xs - length ys)) (ys ++ more));
  }

  -- a byte that is taken
  taken_by : {A : Type 0} (other : Plan A) (on : ℕ → Plan A) (at c : ℕ) (cs : List ℕ) (b full : Bool) → b ≡ true → full ≡ false
      → elim b [ true ↦ within full at (run setting.table setting.limits (on c) (at + 1) cs) | false ↦ run setting.table setting.limits other at (c ∷ cs) ]
      ≡ run setting.table setting.limits (on c) (at + 1) cs
  taken_by other on at c cs true false e f = refl
  taken_by other on at c cs true true e f = absurd cc
  taken_by other on at c cs false full e f = absurd cc

  pub taken : {A : Type 0} (other : Plan A) (test : ℕ → Bool) (on : ℕ → Plan A) (c : ℕ) (cs : List ℕ) → test c ≡ true
      → ReadsOnAs setting (takes other test on) (c ∷ cs) (on c) cs
  unfolding run
  taken other test on c cs e = record {
    within = omega arith;
    goes = λ at more le.
        taken_by other on at c (cs ++ more) (test c) (nat_le setting.limits.text at) e (lt-leb setting.limits.text at (omega arith))
        ∙ (let e : at + 1 ≡ at + (length (c ∷ cs) - length cs) = omega arith in ap (λ n. run setting.table setting.limits (on c) n (cs ++ more)) e);
  }

  passed_by : {A : Type 0} (b : Bool) (r s : Read A) → b ≡ false → elim b [ true ↦ r | false ↦ s ] ≡ s
  passed_by false r s e = refl
  passed_by true r s e = absurd cc

  pub passed : {A : Type 0} (other : Plan A) (test : ℕ → Bool) (on : ℕ → Plan A) (c : ℕ) (cs : List ℕ) → test c ≡ false
      → ReadsOnAs setting (takes other test on) (c ∷ cs) other (c ∷ cs)
  unfolding run
  passed other test on c cs e = record {
    within = omega arith;
    goes = λ at more le.
        passed_by (test c) (within (nat_le setting.limits.text at) at (run setting.table setting.limits (on c) (at + 1) (cs ++ more)))
        (run setting.table setting.limits other at (c ∷ (cs ++ more))) e
        ∙ (let e : at ≡ at + (length (c ∷ cs) - length (c ∷ cs)) = omega arith in ap (λ n. run setting.table setting.limits other n (c ∷ (cs ++ more))) e);
  }
