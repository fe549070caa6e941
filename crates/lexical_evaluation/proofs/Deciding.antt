-- The operators that decide, by how many forms are to come.
--     seek_one, seek_more, sought_so, sought_last, sought_on      AND and OR
--     guard_none, guard_some      WHEN and UNLESS
--     select_none, select_some, select_other, clause_false, clause_alone, clause_true      COND
use Rattle.std.proofs.Common.{◌≡◌, Bool, true, false, not, if◌then◌else◌, Err, refl, ap, ◌∙◌}
use Rattle.lisp_object.specs.Object.{Object, integer, rational, character, text, symbol, uninterned, pair, vector, nil, is_proper_list}
use Rattle.lisp_object.specs.declared.refusal.TheConstants.{ARGUMENT_COUNT, ARGUMENT_KIND}
use Rattle.lisp_operators.specs.ArgumentKinds.{is_pair, is_true}
use Rattle.evaluator.specs.Value.{has_truth, is_clause}
use Rattle.kept_functions.specs.Environments.{Environment}
use Rattle.kept_functions.specs.Counting.{Point, Counting, here, then_on}
use Rattle.lexical_evaluation.specs.Values.{LexicalRules, value_in, sought_value_in, guarded_in, selected_in}
use Rattle.lexical_evaluation.specs.Machine.{progn_in, guard_in, sought_after, clause_in}
use Rattle.lexical_evaluation.proofs.Thens.{then_each, then_here}

either_way : (b : Bool) (o : Counting Object) → (if b then o else o) ≡ o
either_way true o = refl
either_way false o = refl

module _ (rules : LexicalRules) (around : Environment) (truth : Bool) (p : Point) where
  pub seek_one : (x : Object) → sought_value_in rules around truth p (pair x nil) ≡ value_in rules around p x
  unfolding value_in
  seek_one x =
      then_each (value_in rules around p x) (λ y later. if has_truth truth y then here y later else here y later) (λ y later. here y later)
      (λ y later. either_way (has_truth truth y) (here y later))
      ∙ then_here (value_in rules around p x)

  pub seek_more : (x g rest : Object) → sought_value_in rules around truth p (pair x (pair g rest))
      ≡ then_on (value_in rules around p x) (λ y later. sought_after rules around truth y (pair g rest) later)
  unfolding value_in
  seek_more x g rest = refl

  -- a form has this value, and there are others
  pub sought_so : (y forms : Object) → has_truth truth y ≡ true → sought_after rules around truth y forms p ≡ here y p
  sought_so y forms is = ap (λ b. if b then here y p else (if is_pair forms then sought_value_in rules around truth p forms else here y p)) is

  pub sought_last : (y : Object) → has_truth truth y ≡ false → sought_after rules around truth y nil p ≡ here y p
  sought_last y is = ap (λ b. if b then here y p else here y p) is

  pub sought_on : (y g rest : Object) → has_truth truth y ≡ false → sought_after rules around truth y (pair g rest) p ≡ sought_value_in rules around truth p (pair g rest)
  sought_on y g rest is = ap (λ b. if b then here y p else sought_value_in rules around truth p (pair g rest)) is

  pub guard_none : guarded_in rules around truth p nil ≡ Err ARGUMENT_COUNT
  unfolding value_in
  guard_none = refl

  pub guard_some : (x rest : Object) → guarded_in rules around truth p (pair x rest)
      ≡ then_on (value_in rules around p x) (λ y later. guard_in rules around truth y rest later)
  unfolding value_in
  guard_some x rest = refl

-- ---- COND
module _ (rules : LexicalRules) (around : Environment) (p : Point) where
  pub select_none : selected_in rules around p nil ≡ here nil p
  unfolding value_in
  select_none = refl

  pub select_some : (test forms others : Object) → is_proper_list forms ≡ true
      → selected_in rules around p (pair (pair test forms) others) ≡ then_on (value_in rules around p test) (λ y later. clause_in rules around y forms others later)
  unfolding value_in
  select_some test forms others proper =
      ap (λ b. if not b then Err ARGUMENT_KIND else then_on (value_in rules around p test) (λ y later. clause_in rules around y forms others later)) proper

  pub select_other : (clause others : Object) → is_clause clause ≡ false → selected_in rules around p (pair clause others) ≡ Err ARGUMENT_KIND
  unfolding value_in
  select_other (pair test forms) others none =
      ap (λ b. if not b then Err ARGUMENT_KIND else then_on (value_in rules around p test) (λ y later. clause_in rules around y forms others later)) none
  select_other (integer n) others none = refl
  select_other (rational n d) others none = refl
  select_other (character c) others none = refl
  select_other (text b) others none = refl
  select_other (symbol h n) others none = refl
  select_other (uninterned n) others none = refl
  select_other (vector xs) others none = refl

  pub clause_false : (y forms others : Object) → is_true y ≡ false → clause_in rules around y forms others p ≡ selected_in rules around p others
  clause_false y forms others is = ap (λ b. if b then (if is_pair forms then progn_in rules around forms p else here y p) else selected_in rules around p others) is

  pub clause_alone : (y others : Object) → is_true y ≡ true → clause_in rules around y nil others p ≡ here y p
  clause_alone y others is = ap (λ b. if b then here y p else selected_in rules around p others) is

  pub clause_true : (y g rest others : Object) → is_true y ≡ true → clause_in rules around y (pair g rest) others p ≡ progn_in rules around (pair g rest) p
  clause_true y g rest others is = ap (λ b. if b then progn_in rules around (pair g rest) p else selected_in rules around p others) is
