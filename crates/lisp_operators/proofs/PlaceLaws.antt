-- What the laws ask of the operators that change a place.
--     change_silent, change_safe, change_numbered, change_keeps      each of them
--     parted_values      the parts of a list
use Rattle.std.proofs.Common.{◌≡◌, Bool, true, false, cond, List, [], ◌∷◌, None, Some, unwrap_or, subst, arith}
use Rattle.std.proofs.lemmas.List.Elements.{All-cons}
use Rattle.lisp_object.specs.Object.{Object, integer, rational, character, text, symbol, uninterned, pair, vector, nil, is_nil}
use Rattle.package_table.specs.Table as packages
use Rattle.package_table.proofs.Names.{same_some, none_some}
use Rattle.plist_state.specs.State.{WorldState}
use Rattle.plist_state.specs.Properties.{Symbol}
use Rattle.plist_state.specs.Changes.{property, with_property}
use Rattle.plist_state.specs.Sound.{IsValue, IsSoundWorldState}
use Rattle.lisp_operators.specs.declared.places.PlaceChange.{PlaceChange}
use Rattle.lisp_operators.specs.declared.places.PlaceChange.TheVariants.{Stepped, Popped}
use Rattle.lisp_operators.specs.declared.places.Direction.{Direction}
use Rattle.lisp_operators.specs.ArgumentKinds.{a_symbol, an_integer}
use Rattle.lisp_operators.specs.Properties.{amount, is_in_range}
use Rattle.lisp_operators.specs.PropertyPlaces.{stepped, take_step, parted, pop, with_nil, with_default, place_changed}
use Rattle.lisp_operators.proofs.Good.{goods_if, goods_kind, goods_state}
use Rattle.lisp_operators.proofs.Storable.{AreValues, nil_value, symbol_kind, value_parts}
use Rattle.lisp_operators.proofs.Silence.{written, keeps_if, keeps_kind}
use Rattle.lisp_operators.proofs.SilentOperators.{IsSilent}
use Rattle.lisp_operators.proofs.SoundProperties.{IsSafe, refused, first_of, rest_of, property_value, put_safe, range_fits}
use Rattle.lisp_operators.proofs.Numbered.{numbered_if, numbered_kind}
use Rattle.lisp_operators.proofs.NumberedOperators.{IsNumberedFunction}
use Rattle.lisp_operators.proofs.Keeping as keeping
use Rattle.plist_state.proofs.Soundness.{sound_put}
use Rattle.package_table.proofs.Growing.{grows_same}

-- ---- where they do not write the state is as it was
step_silent : (way : Direction) → IsSilent (take_step way)
step_silent way (x ∷ i ∷ d ∷ rest) s =
    keeps_kind s (a_symbol x) _ (λ x'. keeps_kind s (a_symbol i) _ (λ i'. keeps_kind s (amount rest) _ (λ n.
    keeps_kind s (an_integer (unwrap_or (property s x' i') d)) _ (λ m. keeps_if s (is_in_range (stepped way m n)) _ _ (record { same = written }) (record { same = tt })))))
step_silent way _ s = record { same = tt }

pop_silent : IsSilent pop
pop_silent (x ∷ i ∷ d ∷ []) s =
    keeps_kind s (a_symbol x) _ (λ x'. keeps_kind s (a_symbol i) _ (λ i'. keeps_kind s (parted (unwrap_or (property s x' i') d)) _ (λ p. record { same = written })))
pop_silent _ s = record { same = tt }

pub change_silent : (change : PlaceChange) (has_default : Bool) → IsSilent (place_changed change has_default)
change_silent (Stepped way) has_default xs s = step_silent way (with_default has_default xs) s
change_silent Popped has_default xs s = pop_silent (with_default has_default xs) s

-- ---- what they give and what they store may be stored
pub parted_values : (u : packages.Table) (x : Object) (p : Object × Object) → packages.AreSoundPackages u → IsValue u x → parted x ≡ Some p → IsValue u p.0 × IsValue u p.1
parted_values u (pair a b) p sound is e = subst (λ q. IsValue u q.0 × IsValue u q.1) (same_some (a, b) p e) (value_parts u a b is)
parted_values u (symbol h n) p sound is e =
    elim (is_nil h n) as (λ b. cond b (Some (nil, nil)) None ≡ Some p → IsValue u p.0 × IsValue u p.1) [
      | true ↦ λ there. subst (λ (q : Object × Object). IsValue u q.0 × IsValue u q.1) (same_some (nil, nil) p there) (nil_value u sound, nil_value u sound)
      | false ↦ λ no. absurd (none_some p no)
    ] e
parted_values u (integer n) p sound is e = absurd (none_some p e)
parted_values u (rational n d) p sound is e = absurd (none_some p e)
parted_values u (character c) p sound is e = absurd (none_some p e)
parted_values u (text b) p sound is e = absurd (none_some p e)
parted_values u (uninterned n) p sound is e = absurd (none_some p e)
parted_values u (vector xs) p sound is e = absurd (none_some p e)

step_safe : (way : Direction) → IsSafe (take_step way)
step_safe way [] s sound are = refused s _
step_safe way (x ∷ []) s sound are = refused s _
step_safe way (x ∷ i ∷ []) s sound are = refused s _
step_safe way (x ∷ i ∷ d ∷ rest) s sound are =
    goods_kind IsValue s (a_symbol x) _ (λ x' e. goods_kind IsValue s (a_symbol i) _ (λ i' f. goods_kind IsValue s (amount rest) _ (λ n _.
    goods_kind IsValue s (an_integer (unwrap_or (property s x' i') d)) _ (λ m _. goods_if IsValue s (is_in_range (stepped way m n)) _ _
    (λ fits. put_safe s x' i' (integer (stepped way m n)) sound (symbol_kind s.packages x x' e (first_of s x (i ∷ d ∷ rest) are))
    (symbol_kind s.packages i i' f (first_of s i (d ∷ rest) (rest_of s x (i ∷ d ∷ rest) are))) (record { object = range_fits (stepped way m n) fits; depth = omega arith; symbols = tt }))
    (λ _. refused s _)))))

pop_safe : IsSafe pop
pop_safe (x ∷ i ∷ d ∷ []) s sound are =
    let others = rest_of s x (i ∷ d ∷ []) are in
    goods_kind IsValue s (a_symbol x) _ (λ x' e. goods_kind IsValue s (a_symbol i) _ (λ i' f.
    goods_kind IsValue s (parted (unwrap_or (property s x' i') d)) _ (λ p g.
    let both = parted_values s.packages (unwrap_or (property s x' i') d) p sound.packages (property_value s x' i' d sound (first_of s d [] (rest_of s i (d ∷ []) others))) g in
    goods_state IsValue s p.0 (with_property s x' i' p.1) true
    (sound_put s x' i' p.1 sound (symbol_kind s.packages x x' e (first_of s x (i ∷ d ∷ []) are)) (symbol_kind s.packages i i' f (first_of s i (d ∷ []) others)) both.1)
    (grows_same s.packages) both.0)))
pop_safe _ s sound are = refused s _

nil_values : (s : WorldState) (xs : List Object) → IsSoundWorldState s → AreValues s.packages xs → AreValues s.packages (with_nil xs)
nil_values s [] sound are = are
nil_values s (x ∷ []) sound are = are
nil_values s (x ∷ i ∷ rest) sound are =
    let others = rest_of s x (i ∷ rest) are in
    All-cons (IsValue s.packages) x (i ∷ nil ∷ rest) (first_of s x (i ∷ rest) are)
    (All-cons (IsValue s.packages) i (nil ∷ rest) (first_of s i rest others)
    (All-cons (IsValue s.packages) nil rest (nil_value s.packages sound.packages) (rest_of s i rest others)))

default_values : (s : WorldState) (has_default : Bool) (xs : List Object) → IsSoundWorldState s → AreValues s.packages xs → AreValues s.packages (with_default has_default xs)
default_values s true xs sound are = are
default_values s false xs sound are = nil_values s xs sound are

pub change_safe : (change : PlaceChange) (has_default : Bool) → IsSafe (place_changed change has_default)
change_safe (Stepped way) has_default xs s sound are = step_safe way (with_default has_default xs) s sound (default_values s has_default xs sound are)
change_safe Popped has_default xs s sound are = pop_safe (with_default has_default xs) s sound (default_values s has_default xs sound are)

-- ---- they are refused under a number of evaluation
step_numbered : (way : Direction) → IsNumberedFunction (take_step way)
step_numbered way (x ∷ i ∷ d ∷ rest) s =
    numbered_kind (a_symbol x) _ (λ x'. numbered_kind (a_symbol i) _ (λ i'. numbered_kind (amount rest) _ (λ n.
    numbered_kind (an_integer (unwrap_or (property s x' i') d)) _ (λ m. numbered_if (is_in_range (stepped way m n)) _ _ (record { number = tt }) (record { number = (omega arith, omega arith) })))))
step_numbered way _ s = record { number = (omega arith, omega arith) }

pop_numbered : IsNumberedFunction pop
pop_numbered (x ∷ i ∷ d ∷ []) s =
    numbered_kind (a_symbol x) _ (λ x'. numbered_kind (a_symbol i) _ (λ i'. numbered_kind (parted (unwrap_or (property s x' i') d)) _ (λ p. record { number = tt })))
pop_numbered _ s = record { number = (omega arith, omega arith) }

pub change_numbered : (change : PlaceChange) (has_default : Bool) → IsNumberedFunction (place_changed change has_default)
change_numbered (Stepped way) has_default xs s = step_numbered way (with_default has_default xs) s
change_numbered Popped has_default xs s = pop_numbered (with_default has_default xs) s

-- ---- a relation that SETF of a property keeps is kept
module _ (Kept : WorldState → WorldState → Type 0) (put : (s : WorldState) (x i : Symbol) (v : Object) → Kept s (with_property s x i v)) where
  step_keeps : (way : Direction) (xs : List Object) (s : WorldState) → keeping.Keeps Kept s (take_step way xs s)
  step_keeps way (x ∷ i ∷ d ∷ rest) s =
      keeping.keeps_kind Kept s (a_symbol x) _ (λ x'. keeping.keeps_kind Kept s (a_symbol i) _ (λ i'. keeping.keeps_kind Kept s (amount rest) _ (λ n.
      keeping.keeps_kind Kept s (an_integer (unwrap_or (property s x' i') d)) _ (λ m.
      keeping.keeps_if Kept s (is_in_range (stepped way m n)) _ _ (record { kept = put s x' i' (integer (stepped way m n)) }) (record { kept = tt })))))
  step_keeps way _ s = record { kept = tt }

  pop_keeps : (xs : List Object) (s : WorldState) → keeping.Keeps Kept s (pop xs s)
  pop_keeps (x ∷ i ∷ d ∷ []) s =
      keeping.keeps_kind Kept s (a_symbol x) _ (λ x'. keeping.keeps_kind Kept s (a_symbol i) _ (λ i'.
      keeping.keeps_kind Kept s (parted (unwrap_or (property s x' i') d)) _ (λ p. record { kept = put s x' i' p.1 })))
  pop_keeps _ s = record { kept = tt }

  pub change_keeps : (change : PlaceChange) (has_default : Bool) (xs : List Object) (s : WorldState) → keeping.Keeps Kept s (place_changed change has_default xs s)
  change_keeps (Stepped way) has_default xs s = step_keeps way (with_default has_default xs) s
  change_keeps Popped has_default xs s = pop_keeps (with_default has_default xs) s
