-- That the operators on property lists and lists leave a sound state and give values that may be stored.
use Rattle.std.proofs.Common.{◌≡◌, ◌≤◌, ◌^◌, ℕ, ℤ, pos, negsuc, true, false, cond, List, [], ◌∷◌, All, Option, Some, None, Ok, Err, unwrap_or, FitsSigned, nat_lt, refl, sym, subst, arith}
use Rattle.std.specs.Prelude.{◌+ℤ◌}
use Rattle.std.specs.Int.{w128}
use Rattle.std.specs.FinMap as finite
use Rattle.std.proofs.lemmas.Bool.{ltb-false, ltb-true}
use Rattle.std.proofs.lemmas.List.Elements.{All-cons, All-nil, All-head, All-tail}
use Rattle.lisp_object.specs.Object.{Object, integer, symbol, pair, nil, list_of, object_depth, object_size}
use Rattle.package_table.specs.Table as packages
use Rattle.package_table.specs.Growth.{Grows}
use Rattle.package_table.proofs.Growing.{grows_same}
use Rattle.plist_state.specs.Properties.{Symbol, Plist, value_at, same_symbol}
use Rattle.plist_state.specs.State.{WorldState}
use Rattle.plist_state.specs.Changes.{plist, property, with_property, without_property}
use Rattle.plist_state.specs.Sound.{IsSymbol, IsValue, IsSoundWorldState}
use Rattle.plist_state.proofs.Soundness.{sound_put, sound_removed}
use Rattle.lisp_operators.specs.ArgumentKinds.{a_symbol, an_integer, given_or_nil}
use Rattle.lisp_operators.specs.Evaluation.{Evaluation, gives}
use Rattle.lisp_operators.specs.Properties.{t, if_within_limits, list, get, set, removed_property, remove, in_turn, symbol_plist, amount, is_in_range, increment, push}
use Rattle.lisp_operators.proofs.Good.{Goods, goods_here, goods_state, goods_if, goods_kind}
use Rattle.lisp_operators.proofs.Storable.{AreValues, symbol_is_value, t_value, nil_value, list_value, pair_value, symbol_kind}

-- of values that may be stored, in a sound state
abbrev pub IsSafe : (List Object → WorldState → Evaluation Object) → Type 0
IsSafe function = (xs : List Object) (s : WorldState) → IsSoundWorldState s → AreValues s.packages xs → Goods IsValue s (function xs s)

pub refused : (s : WorldState) (code : ℕ) → Goods {A = Object} IsValue s (Err code)
refused s code = record { good = tt }

-- ---- what a state holds
pub record HasValues (u : packages.Table) (ps : Plist) : Type 0 where
  pub indicators : All (λ p. IsSymbol u p.0) ps
  pub values : All (λ p. IsValue u p.1) ps

pub held : (s : WorldState) (x : Symbol) → IsSoundWorldState s → HasValues s.packages (plist s x)
held s x sound =
    elim (finite.get s.properties x) as (λ o. finite.get s.properties x ≡ o → HasValues s.packages (unwrap_or o [])) [
      | None ↦ λ _. record { indicators = All-nil (λ (p : Symbol × Object). IsSymbol s.packages p.0); values = All-nil (λ (p : Symbol × Object). IsValue s.packages p.1) }
      | Some ps ↦ λ e. record { indicators = (sound.properties x ps e).indicators; values = (sound.properties x ps e).values }
    ] refl

value_held : (u : packages.Table) (ps : Plist) (i : Symbol) (x : Object) → All (λ p. IsValue u p.1) ps → IsValue u x → IsValue u (unwrap_or (value_at ps i) x)
value_held u [] i x all is = is
value_held u (p ∷ ps) i x all is =
    elim (same_symbol i p.0) as (λ b. IsValue u (unwrap_or (cond b (Some p.1) (value_at ps i)) x)) [
      | true ↦ All-head (λ p. IsValue u p.1) p ps all
      | false ↦ value_held u ps i x (All-tail (λ p. IsValue u p.1) p ps all) is
    ]

pub property_value : (s : WorldState) (x i : Symbol) (other : Object) → IsSoundWorldState s → IsValue s.packages other → IsValue s.packages (unwrap_or (property s x i) other)
property_value s x i other sound is = value_held s.packages (plist s x) i other (held s x sound).values is

turn_values : (u : packages.Table) → packages.AreSoundPackages u → (ps : Plist) → All (λ p. IsSymbol u p.0) ps → All (λ p. IsValue u p.1) ps → AreValues u (in_turn ps)
turn_values u sound [] indicators values = All-nil (IsValue u)
turn_values u sound (p ∷ ps) indicators values =
    All-cons (IsValue u) (symbol p.0.0 p.0.1) (p.1 ∷ in_turn ps) (symbol_is_value u p.0.0 p.0.1 sound (All-head (λ p. IsSymbol u p.0) p ps indicators))
    (All-cons (IsValue u) p.1 (in_turn ps) (All-head (λ p. IsValue u p.1) p ps values)
    (turn_values u sound ps (All-tail (λ p. IsSymbol u p.0) p ps indicators) (All-tail (λ p. IsValue u p.1) p ps values)))

-- ---- the operators
built_safe : (s : WorldState) (x : Object) (on : Evaluation Object) → (object_depth x ≤ 100 → Goods IsValue s on) → Goods IsValue s (if_within_limits x on)
built_safe s x on safe =
    goods_if IsValue s (nat_lt 100 (object_depth x)) _ _ (λ _. refused s _)
    (λ shallow. goods_if IsValue s (nat_lt 1000000 (object_size x)) _ on (λ _. refused s _) (λ _. safe (ltb-false 100 (object_depth x) shallow)))

pub list_safe : IsSafe list
list_safe xs s sound are =
    built_safe s (list_of xs) (gives (list_of xs) s) (λ within. goods_here IsValue s (list_of xs) false sound (list_value s.packages sound.packages xs are within))

module _ (s : WorldState) where
  pub first_of : (x : Object) (xs : List Object) → AreValues s.packages (x ∷ xs) → IsValue s.packages x
  first_of x xs are = All-head (IsValue s.packages) x xs are

  pub rest_of : (x : Object) (xs : List Object) → AreValues s.packages (x ∷ xs) → AreValues s.packages xs
  rest_of x xs are = All-tail (IsValue s.packages) x xs are

  pub given_value : (xs : List Object) → IsSoundWorldState s → AreValues s.packages xs → IsValue s.packages (given_or_nil xs)
  given_value [] sound are = nil_value s.packages sound.packages
  given_value (x ∷ xs) sound are = first_of x xs are

pub get_safe : IsSafe get
get_safe [] s sound are = refused s _
get_safe (x ∷ []) s sound are = refused s _
get_safe (x ∷ i ∷ rest) s sound are =
    goods_kind IsValue s (a_symbol x) _ (λ x' _. goods_kind IsValue s (a_symbol i) _ (λ i' _.
    goods_here IsValue s (unwrap_or (property s x' i') (given_or_nil rest)) false sound
    (property_value s x' i' (given_or_nil rest) sound (given_value s rest sound (rest_of s i rest (rest_of s x (i ∷ rest) are))))))

pub put_safe : (s : WorldState) (x i : Symbol) (v : Object) → IsSoundWorldState s → IsSymbol s.packages x → IsSymbol s.packages i → IsValue s.packages v
    → Goods IsValue s (Ok (record { value = v; state = with_property s x i v; wrote = true }))
put_safe s x i v sound at_home indicator is = goods_state IsValue s v (with_property s x i v) true (sound_put s x i v sound at_home indicator is) (grows_same s.packages) is

pub set_safe : IsSafe set
set_safe (x ∷ i ∷ v ∷ []) s sound are =
    let rest = rest_of s x (i ∷ v ∷ []) are in
    goods_kind IsValue s (a_symbol x) _ (λ x' e. goods_kind IsValue s (a_symbol i) _ (λ i' f.
    put_safe s x' i' v sound (symbol_kind s.packages x x' e (first_of s x (i ∷ v ∷ []) are)) (symbol_kind s.packages i i' f (first_of s i (v ∷ []) rest)) (first_of s v [] (rest_of s i (v ∷ []) rest))))
set_safe _ s sound are = refused s _

removed_safe : (o : Option Object) (s later : WorldState) → IsSoundWorldState s → IsSoundWorldState later → later.packages ≡ s.packages → Goods IsValue s (removed_property o s later)
removed_safe None s later sound after same = goods_here IsValue s nil false sound (nil_value s.packages sound.packages)
removed_safe (Some v) s later sound after same =
    goods_state IsValue s t later true after (subst (λ u. packages_grow s.packages u) (sym same) (grows_same s.packages)) (t_value later.packages after.packages)
  where
    packages_grow : packages.Table → packages.Table → Type 0
    packages_grow = Grows

pub remove_safe : IsSafe remove
remove_safe (x ∷ i ∷ []) s sound are =
    goods_kind IsValue s (a_symbol x) _ (λ x' e. goods_kind IsValue s (a_symbol i) _ (λ i' _.
    removed_safe (property s x' i') s (without_property s x' i') sound (sound_removed s x' i' sound (symbol_kind s.packages x x' e (first_of s x (i ∷ []) are))) refl))
remove_safe _ s sound are = refused s _

pub symbol_plist_safe : IsSafe symbol_plist
symbol_plist_safe (x ∷ []) s sound are =
    goods_kind IsValue s (a_symbol x) _ (λ x' _. list_safe (in_turn (plist s x')) s sound (turn_values s.packages sound.packages (plist s x') (held s x' sound).indicators (held s x' sound).values))
symbol_plist_safe _ s sound are = refused s _

pub range_fits : (n : ℤ) → is_in_range n ≡ true → FitsSigned w128 n
range_fits (pos n) e = record { sfits = ltb-true n (2 ^ 127) e }
range_fits (negsuc n) e = record { sfits = ltb-true n (2 ^ 127) e }

pub increment_safe : IsSafe increment
increment_safe [] s sound are = refused s _
increment_safe (x ∷ []) s sound are = refused s _
increment_safe (x ∷ i ∷ rest) s sound are =
    goods_kind IsValue s (a_symbol x) _ (λ x' e. goods_kind IsValue s (a_symbol i) _ (λ i' f. goods_kind IsValue s (amount rest) _ (λ n _.
    goods_kind IsValue s (an_integer (unwrap_or (property s x' i') nil)) _ (λ m _. goods_if IsValue s (is_in_range (m +ℤ n)) _ _
    (λ fits. put_safe s x' i' (integer (m +ℤ n)) sound (symbol_kind s.packages x x' e (first_of s x (i ∷ rest) are))
    (symbol_kind s.packages i i' f (first_of s i rest (rest_of s x (i ∷ rest) are))) (record { object = range_fits (m +ℤ n) fits; depth = omega arith; symbols = tt }))
    (λ _. refused s _)))))

pub push_safe : IsSafe push
push_safe (v ∷ x ∷ i ∷ []) s sound are =
    let rest = rest_of s v (x ∷ i ∷ []) are in
    goods_kind IsValue s (a_symbol x) _ (λ x' e. goods_kind IsValue s (a_symbol i) _ (λ i' f.
    let old = unwrap_or (property s x' i') nil in
    built_safe s (pair v old) _ (λ within.
    put_safe s x' i' (pair v old) sound (symbol_kind s.packages x x' e (first_of s x (i ∷ []) rest)) (symbol_kind s.packages i i' f (first_of s i [] (rest_of s x (i ∷ []) rest)))
    (pair_value s.packages v old (first_of s v (x ∷ i ∷ []) are) (property_value s x' i' nil sound (nil_value s.packages sound.packages)) within))))
push_safe _ s sound are = refused s _
