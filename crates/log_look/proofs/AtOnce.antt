-- Bytes that are read at one moment.
use Rattle.std.proofs.Common.{◌≡◌, ℕ, zero, suc, ◌+◌, ◌<◌, ◌≤◌, List, [], ◌∷◌, length, take, drop, Some, get_or, sym, ◌∙◌, ap, arith}
use Rattle.std.proofs.lemmas.List.{drop_more, length-drop, length-take}
use Rattle.std.proofs.lemmas.Option.{slice_get-get_or}
use Rattle.log_look.specs.Live.{IsHead, IsPiece, IsRead}

one_more : (f : List ℕ) (at n : ℕ) (b : ℕ) (bs : List ℕ) → at < length f → b ∷ bs ≡ take (suc n) (drop at f) → (b ≡ get_or f at b) × (bs ≡ take n (drop (at + 1) f))
one_more f at n b bs within is =
    let there : drop at f ≡ get_or f at b ∷ drop (at + 1) f = drop_more f at b within in
    let all : b ∷ bs ≡ get_or f at b ∷ take n (drop (at + 1) f) = is ∙ ap (take (suc n)) there in
    (cc, cc)

pub read_at_once : (file : ℕ → List ℕ) (t at size : ℕ) (bytes : List ℕ) → bytes ≡ take size (drop at (file t)) → IsRead file at bytes t t
read_at_once file t at size [] is = omega arith
read_at_once file t at zero (b ∷ bs) is = let no : ⊥ = cc in absurd no
read_at_once file t at (suc n) (b ∷ bs) is =
    let within : at < length (file t) = omega (arith, ap length is, length-take (suc n) (drop at (file t)), length-drop at (file t)) in
    let more = one_more (file t) at n b bs within is in
    (t, omega arith, slice_get-get_or (file t) at b within ∙ ap Some (sym more.0), read_at_once file t (at + 1) n bs more.1)

pub piece_at_once : (file : ℕ → List ℕ) (t to at size : ℕ) (bytes : List ℕ) → t ≤ to → bytes ≡ take size (drop at (file t)) → IsPiece file at size bytes t to
piece_at_once file t to at size bytes later is = record {
  moment = t;
  read = read_at_once file t at size bytes is;
  not_after = later;
  ended = λ few. omega (arith, few, ap length is, length-take size (drop at (file t)), length-drop at (file t));
}

pub head_at_once : (file : ℕ → List ℕ) (t to size : ℕ) (bytes : List ℕ) → t ≤ to → bytes ≡ take size (drop 0 (file t)) → IsHead file size bytes t to
head_at_once file t to size bytes later is = record { moment = t; not_before = omega arith; not_after = later; is = is }
