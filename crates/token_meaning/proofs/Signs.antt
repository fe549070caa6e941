-- The sign of a number, and what comes after it.
use Rattle.std.proofs.Common.{◌≡◌, ℕ, Bool, true, false, ◌||◌, List, [], ◌∷◌, ◌++◌, refl, sym, subst}
use Rattle.std.specs.Prelude.{◌==◌}
use Rattle.std.proofs.lemmas.Bool.{eqb-true}
use Rattle.token_meaning.specs.Numerals.{is_sign, without_sign, is_negative}
use Rattle.token_meaning.specs.Grammar.{Sign, absent, plus, minus, sign_bytes, is_minus}

abbrev pub is_signed : List ℕ → Bool
is_signed [] = false
is_signed (c ∷ cs) = is_sign c

second : (x y : Bool) → (x || y) ≡ false → y ≡ false
second true y e = absurd cc
second false y e = e

unsigned : (body : List ℕ) → is_signed body ≡ false → (without_sign body ≡ body) × (is_negative body ≡ false)
unsigned [] e = (refl, refl)
unsigned (c ∷ cs) e = (rw e refl, second (c == 43) (c == 45) e)

pub behind_sign : (sign : Sign) (body : List ℕ) → is_signed body ≡ false → (without_sign (sign_bytes sign ++ body) ≡ body) × (is_negative (sign_bytes sign ++ body) ≡ is_minus sign)
behind_sign absent body e = unsigned body e
behind_sign plus body e = (refl, refl)
behind_sign minus body e = (refl, refl)

pub record HasSign (text : List ℕ) : Type 0 where
  pub sign : Sign
  pub joined : text ≡ sign_bytes sign ++ without_sign text
  pub below_zero : is_negative text ≡ is_minus sign

at_front : (c : ℕ) (cs : List ℕ) (is_plus is_dash : Bool) → (c == 43) ≡ is_plus → (c == 45) ≡ is_dash → HasSign (c ∷ cs)
at_front c cs true is_dash e f =
    let P : ℕ → Type 0 = λ n. HasSign (n ∷ cs) in
    subst P (sym (eqb-true c 43 e)) (record { sign = plus; joined = refl; below_zero = refl })
at_front c cs false true e f =
    let P : ℕ → Type 0 = λ n. HasSign (n ∷ cs) in
    subst P (sym (eqb-true c 45 f)) (record { sign = minus; joined = refl; below_zero = refl })
at_front c cs false false e f =
    let none : is_signed (c ∷ cs) ≡ false = rw (e, f) refl in
    record { sign = absent; joined = sym (unsigned (c ∷ cs) none).0; below_zero = (unsigned (c ∷ cs) none).1 }

pub has_sign : (text : List ℕ) → HasSign text
has_sign [] = record { sign = absent; joined = refl; below_zero = refl }
has_sign (c ∷ cs) = at_front c cs (c == 43) (c == 45) refl refl
