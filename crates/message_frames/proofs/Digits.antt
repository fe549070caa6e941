-- Digits, and where they end.
use Rattle.std.proofs.Common.{◌≡◌, ℕ, ◌<◌, ◌^◌, List, [], ◌∷◌, ◌++◌, refl, sym, ap, subst, ◌∙◌}
use Rattle.std.specs.Fmt.{decimal}
use Rattle.std.specs.Str.Parse.{AllDigits}
use Rattle.std.proofs.lemmas.Str.Parse.{digit_from_value}
use Rattle.std.proofs.lemmas.Fmt.{decimal_is_IsNumeral}
use Rattle.message_frames.specs.Numbers.{IsDigit}

-- each byte is a digit
abbrev pub AreDigits : List ℕ → Type 0
AreDigits [] = Unit {0}
AreDigits (c ∷ cs) = IsDigit c × AreDigits cs

are_digits : (ds : List ℕ) → AllDigits 10 ds → AreDigits ds
are_digits [] all = tt
are_digits (c ∷ cs) all = (digit_from_value c all.0, are_digits cs all.1)

pub decimal_has_digits : (n : ℕ) → n < 2 ^ 64 → AreDigits (decimal n)
decimal_has_digits n small = are_digits (decimal n) (decimal_is_IsNumeral n small).0.1

-- digits before a byte that is none end in one place
pub digits_end : (ds es xs ys : List ℕ) (c d : ℕ) → AreDigits ds → AreDigits es → (IsDigit c → ⊥) → (IsDigit d → ⊥)
    → ds ++ c ∷ xs ≡ es ++ d ∷ ys → (ds ≡ es) × (c ≡ d) × (xs ≡ ys)
digits_end [] [] xs ys c d all every end stop e = (refl, cc, cc)
digits_end [] (b ∷ es) xs ys c d all every end stop e =
    let same : c ≡ b = cc in absurd (end (subst IsDigit (sym same) every.0))
digits_end (a ∷ ds) [] xs ys c d all every end stop e =
    let same : a ≡ d = cc in absurd (stop (subst IsDigit same all.0))
digits_end (a ∷ ds) (b ∷ es) xs ys c d all every end stop e =
    let same : a ≡ b = cc in
    let rest : ds ++ c ∷ xs ≡ es ++ d ∷ ys = cc in
    let further = digits_end ds es xs ys c d all.1 every.1 end stop rest in
    (ap (λ z. z ∷ ds) same ∙ ap (λ zs. b ∷ zs) further.0, further.1, further.2)

-- digits that go on within others
pub digits_go_on : (ds es xs ys : List ℕ) (c d : ℕ) → AreDigits ds → IsDigit c → (IsDigit d → ⊥)
    → ds ++ c ∷ xs ≡ es ++ d ∷ ys → (more : List ℕ) × (es ≡ ds ++ c ∷ more)
digits_go_on [] [] xs ys c d all digit stop e =
    let same : c ≡ d = cc in absurd (stop (subst IsDigit same digit))
digits_go_on [] (b ∷ es) xs ys c d all digit stop e =
    let same : c ≡ b = cc in (es, ap (λ z. z ∷ es) (sym same))
digits_go_on (a ∷ ds) [] xs ys c d all digit stop e =
    let same : a ≡ d = cc in absurd (stop (subst IsDigit same all.0))
digits_go_on (a ∷ ds) (b ∷ es) xs ys c d all digit stop e =
    let same : a ≡ b = cc in
    let rest : ds ++ c ∷ xs ≡ es ++ d ∷ ys = cc in
    let further = digits_go_on ds es xs ys c d all.1 digit stop rest in
    (further.0, ap (λ z. z ∷ es) (sym same) ∙ ap (λ zs. a ∷ zs) further.1)
