-- Functions that are called.
--     spent_so, spent_out, too_few, enough, not_cut      steps that are left, or not
--     too_deep, called_other, called_spent, called_begun      a function of the world
--     written_none, written_other, written_out, written_begun      one that is written down
use Rattle.std.proofs.Common.{◌≡◌, ◌<◌, ◌≤◌, ◌-◌, ◌^◌, ◌==◌, min, ℕ, suc, true, false, nat_le, if◌then◌else◌, List, [], length, Some, None, Err, sym, ap, ◌∙◌, arith}
use Rattle.std.proofs.lemmas.Bool.Decides.{nat_tests}
use Rattle.lisp_object.specs.Object.{Object, pair}
use Rattle.lisp_object.specs.declared.refusal.TheConstants.{ARGUMENT_COUNT, ARGUMENT_KIND}
use Rattle.plist_state.specs.Properties.{Symbol}
use Rattle.kept_functions.specs.declared.bounds.TheConstants.{CALLS_TOO_DEEP, TOO_MANY_STEPS}
use Rattle.kept_functions.specs.Environments.{Environment, binding, variables_of}
use Rattle.kept_functions.specs.Definitions.{Definition}
use Rattle.kept_functions.specs.Counting.{Point, Counting, spending, weight}
use Rattle.lexical_evaluation.specs.Values.{LexicalRules, written_call}
use Rattle.lexical_evaluation.specs.Calls.{body_value}
use Rattle.lexical_evaluation.specs.Machine.{Ways, IsCalling, progn_in, written_in, written_of}

-- ---- steps
pub spent_so : {A : Type 0} (n : ℕ) (p : Point) (on : Point → Counting A) → nat_le n p.left ≡ true → spending n p on ≡ on (record p { left = p.left - n })
spent_so n p on is = ap (λ b. if b then on (record p { left = p.left - n }) else Err TOO_MANY_STEPS) is

pub spent_out : {A : Type 0} (n : ℕ) (p : Point) (on : Point → Counting A) → nat_le n p.left ≡ false → spending n p on ≡ Err TOO_MANY_STEPS
spent_out n p on is = ap (λ b. if b then on (record p { left = p.left - n }) else Err TOO_MANY_STEPS) is

-- a number that is cut off at 2^64-1 passes the same tests, where it is held against one below 2^32
pub too_few : (n steps left : ℕ) → steps ≡ min n (2 ^ 64 - 1) → left < steps → nat_le n left ≡ false
too_few n steps left is few = grind (arith, nat_tests, is, few)

pub enough : (n steps left : ℕ) → steps ≡ min n (2 ^ 64 - 1) → left < 2 ^ 32 → steps ≤ left → nat_le n left ≡ true
enough n steps left is below left_over = grind (arith, nat_tests, is, below, left_over)

pub not_cut : (n steps left : ℕ) → steps ≡ min n (2 ^ 64 - 1) → left < 2 ^ 32 → steps ≤ left → steps ≡ n
not_cut n steps left is below left_over = grind (arith, is, below, left_over)

-- ---- a function of the world
module _ (w : Ways) (calling : IsCalling w) (definition : Definition) (xs : List Object) (p : Point) where
  pub too_deep : (n : ℕ) → n ≡ 0 → (w.rules n).call definition xs p ≡ Err CALLS_TOO_DEEP
  too_deep n is = ap (λ k. (w.rules k).call definition xs p) is ∙ calling.none definition xs p

  called_body : (n m : ℕ) → n ≡ suc m → (w.rules n).call definition xs p ≡ body_value (w.rules m) definition xs p
  called_body n m is = ap (λ k. (w.rules k).call definition xs p) is ∙ calling.more m definition xs p

  abbrev body_begun : ℕ → Counting Object
  body_begun m = spending (weight definition.body) p (λ begun. progn_in (w.rules m) (binding definition.variables xs []) definition.body begun)

  pub called_other : (n m : ℕ) → n ≡ suc m → (length definition.variables == length xs) ≡ false → (w.rules n).call definition xs p ≡ Err ARGUMENT_COUNT
  called_other n m is other = called_body n m is ∙ ap (λ b. if b then body_begun m else Err ARGUMENT_COUNT) other

  pub called_spent : (n m : ℕ) → n ≡ suc m → (length definition.variables == length xs) ≡ true → nat_le (weight definition.body) p.left ≡ false → (w.rules n).call definition xs p ≡ Err TOO_MANY_STEPS
  called_spent n m is same out =
      called_body n m is ∙ ap (λ b. if b then body_begun m else Err ARGUMENT_COUNT) same
      ∙ spent_out (weight definition.body) p (λ begun. progn_in (w.rules m) (binding definition.variables xs []) definition.body begun) out

  pub called_begun : (n m : ℕ) → n ≡ suc m → (length definition.variables == length xs) ≡ true → nat_le (weight definition.body) p.left ≡ true
      → (w.rules n).call definition xs p ≡ progn_in (w.rules m) (binding definition.variables xs []) definition.body (record p { left = p.left - weight definition.body })
  called_begun n m is same left =
      called_body n m is ∙ ap (λ b. if b then body_begun m else Err ARGUMENT_COUNT) same
      ∙ spent_so (weight definition.body) p (λ begun. progn_in (w.rules m) (binding definition.variables xs []) definition.body begun) left

-- ---- a function that is written down
module _ (rules : LexicalRules) (around : Environment) (written body : Object) (xs : List Object) (p : Point) where
  pub written_none : None ≡ variables_of written → written_in rules around (pair written body) xs p ≡ Err ARGUMENT_KIND
  written_none none = ap (λ o. written_of rules around (pair written body) body o xs p) (sym none)

  module _ (variables : List Symbol) (are : Some variables ≡ variables_of written) where
    abbrev inner : Environment → Point → Counting Object
    inner env later = progn_in rules env body later

    known : written_in rules around (pair written body) xs p ≡ written_call (pair written body) variables inner around xs p
    known = ap (λ o. written_of rules around (pair written body) body o xs p) (sym are)

    abbrev begun : Counting Object
    begun = spending (weight (pair written body)) p (inner (binding variables xs around))

    pub written_other : (length variables == length xs) ≡ false → written_in rules around (pair written body) xs p ≡ Err ARGUMENT_COUNT
    written_other other = known ∙ ap (λ b. if b then begun else Err ARGUMENT_COUNT) other

    pub written_out : (length variables == length xs) ≡ true → nat_le (weight (pair written body)) p.left ≡ false → written_in rules around (pair written body) xs p ≡ Err TOO_MANY_STEPS
    written_out same out =
        known ∙ ap (λ b. if b then begun else Err ARGUMENT_COUNT) same ∙ spent_out (weight (pair written body)) p (inner (binding variables xs around)) out

    pub written_begun : (length variables == length xs) ≡ true → nat_le (weight (pair written body)) p.left ≡ true
        → written_in rules around (pair written body) xs p ≡ progn_in rules (binding variables xs around) body (record p { left = p.left - weight (pair written body) })
    written_begun same left =
        known ∙ ap (λ b. if b then begun else Err ARGUMENT_COUNT) same ∙ spent_so (weight (pair written body)) p (inner (binding variables xs around)) left
