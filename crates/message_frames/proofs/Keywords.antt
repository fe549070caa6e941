-- The first words of frames.
use Rattle.std.proofs.Common.{◌≡◌, ℕ, ◌<◌, true, false, inl, inr, List, ◌++◌, length, take, drop, refl, sym, ap, subst, ◌∙◌, arith}
use Rattle.std.specs.Prelude.{codes, nat_eq}
use Rattle.std.specs.Cmp.Lexicographic.{pointwise}
use Rattle.std.specs.List.{starts_with}
use Rattle.std.proofs.lemmas.Bool.{cases_lt}
use Rattle.std.proofs.lemmas.Bool.Decides.{Decides-eqb}
use Rattle.std.proofs.lemmas.List.{append-nil, drop_all, length-drop, take-append-drop, take-append-le, take_at}
use Rattle.std.proofs.lemmas.Slice.Eq.{starts_is}
use Rattle.message_frames.specs.declared.frame.Keyword.{Keyword}
use Rattle.message_frames.specs.declared.frame.Keyword.TheVariants as keyword
use Rattle.message_frames.specs.Reading.{keyword_bytes}
use Rattle.message_frames.specs.Words.{BeginsNone, IsPartOfWord}

-- a word that begins with these bytes and is not the beginning of them goes on after them
pub word_goes_on : (word bytes : List ℕ) → starts_with nat_eq word bytes ≡ true → pointwise nat_eq (take (length word) word) word ≡ true
    → pointwise nat_eq (take (length word) bytes) word ≡ false → (word ≡ bytes ++ drop (length bytes) word) × (0 < length (drop (length bytes) word))
word_goes_on word bytes starts itself none =
    let parts : word ≡ bytes ++ drop (length bytes) word = (starts_is Decides-eqb word bytes _ refl).0 starts in
    elim (cases_lt (length bytes) (length word)) [
      | inl less ↦ (parts, omega (arith, length-drop (length bytes) word))
      | inr all ↦
          let same : word ≡ bytes = parts ∙ ap (λ z. bytes ++ z) (drop_all (length bytes) word all) ∙ append-nil bytes in
          let no : pointwise nat_eq (take (length word) word) word ≡ false = subst (λ z. pointwise nat_eq (take (length word) z) word ≡ false) (sym same) none in
          absurd (cc (sym itself ∙ no))
    ]

pub do_is_part : (bytes : List ℕ) → starts_with nat_eq (codes "do ") bytes ≡ true → pointwise nat_eq (take 3 bytes) (codes "do ") ≡ false → IsPartOfWord keyword_bytes (λ _. Unit {0}) bytes
do_is_part bytes starts none =
    let on = word_goes_on (codes "do ") bytes starts refl none in
    record { x = keyword.Do; more = drop (length bytes) (codes "do "); wanted = tt; parts = on.0; some = on.1 }

pub ask_is_part : (bytes : List ℕ) → starts_with nat_eq (codes "ask ") bytes ≡ true → pointwise nat_eq (take 4 bytes) (codes "ask ") ≡ false → IsPartOfWord keyword_bytes (λ _. Unit {0}) bytes
ask_is_part bytes starts none =
    let on = word_goes_on (codes "ask ") bytes starts refl none in
    record { x = keyword.Ask; more = drop (length bytes) (codes "ask "); wanted = tt; parts = on.0; some = on.1 }

pub by_is_part : (bytes : List ℕ) → starts_with nat_eq (codes "by ") bytes ≡ true → pointwise nat_eq (take 3 bytes) (codes "by ") ≡ false → IsPartOfWord keyword_bytes (λ _. Unit {0}) bytes
by_is_part bytes starts none =
    let on = word_goes_on (codes "by ") bytes starts refl none in
    record { x = keyword.By; more = drop (length bytes) (codes "by "); wanted = tt; parts = on.0; some = on.1 }

-- bytes that are not stripped of a word, and do not begin it, begin with none
no_word : (word bytes : List ℕ) → pointwise nat_eq word word ≡ true → pointwise nat_eq (take (length word) bytes) word ≡ false → starts_with nat_eq word bytes ≡ false
    → (more rest : List ℕ) → bytes ++ more ≡ word ++ rest → ⊥
no_word word bytes itself none unbegun more rest e =
    elim (cases_lt (length bytes) (length word)) [
      | inl less ↦
          let front : take (length bytes) word ≡ bytes =
          sym (take-append-le (length bytes) word rest (omega (arith, less))) ∙ ap (take (length bytes)) (sym e) ∙ take_at bytes more (length bytes) refl in
          let parts : word ≡ bytes ++ drop (length bytes) word = sym (take-append-drop (length bytes) word) ∙ ap (λ z. z ++ drop (length bytes) word) front in
          let begun : starts_with nat_eq word bytes ≡ true = (starts_is Decides-eqb word bytes _ refl).1 (drop (length bytes) word) parts in
          absurd (cc (sym begun ∙ unbegun))
      | inr all ↦
          let front : take (length word) bytes ≡ word =
          sym (take-append-le (length word) bytes more all) ∙ ap (take (length word)) e ∙ take_at word rest (length word) refl in
          let stripped : pointwise nat_eq (take (length word) bytes) word ≡ true = ap (λ z. pointwise nat_eq z word) front ∙ itself in
          absurd (cc (sym stripped ∙ none))
    ]

module _ (bytes : List ℕ) (do_none : pointwise nat_eq (take 3 bytes) (codes "do ") ≡ false) (by_none : pointwise nat_eq (take 3 bytes) (codes "by ") ≡ false) (ask_none : pointwise nat_eq (take 4 bytes) (codes "ask ") ≡ false)
    (do_unbegun : starts_with nat_eq (codes "do ") bytes ≡ false) (by_unbegun : starts_with nat_eq (codes "by ") bytes ≡ false) (ask_unbegun : starts_with nat_eq (codes "ask ") bytes ≡ false) where
  pub no_keyword_begins : BeginsNone keyword_bytes (λ _. Unit {0}) bytes
  no_keyword_begins keyword.Do more rest wanted e = no_word (codes "do ") bytes refl do_none do_unbegun more rest e
  no_keyword_begins keyword.By more rest wanted e = no_word (codes "by ") bytes refl by_none by_unbegun more rest e
  no_keyword_begins keyword.Ask more rest wanted e = no_word (codes "ask ") bytes refl ask_none ask_unbegun more rest e
