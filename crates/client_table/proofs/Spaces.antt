-- The name and the form in a text.
--     name_step, form_step      a byte more, before a space
--     name_at_space, form_at_space      at a space
--     no_space      where there is none
use Rattle.std.proofs.Common.{◌≡◌, ◌≢◌, ℕ, ◌+◌, ◌-◌, ◌<◌, ◌≤◌, ◌==◌, Bool, true, false, if◌then◌else◌, List, [], ◌∷◌, ◌++◌, length, take, drop, get_or, None, Some, refl, sym, ap, ◌∙◌, append_assoc, arith}
use Rattle.std.proofs.lemmas.Bool.{eq-eqb, ne_eqb}
use Rattle.std.proofs.lemmas.List.{append-nil, drop_all, drop_more, length-drop, take_all, take_more}
use Rattle.client_table.specs.Names.{form_in, client_name_in}

name_cons : (byte : ℕ) (bytes : List ℕ) → client_name_in (byte ∷ bytes) ≡ (if byte == 32 then [] else byte ∷ client_name_in bytes)
unfolding client_name_in
name_cons byte bytes = refl

form_cons : (byte : ℕ) (bytes : List ℕ) → form_in (byte ∷ bytes) ≡ (if byte == 32 then Some bytes else form_in bytes)
unfolding form_in
form_cons byte bytes = refl

name_nil : client_name_in [] ≡ []
unfolding client_name_in
name_nil = refl

form_nil : form_in [] ≡ None
unfolding form_in
form_nil = refl

-- so many bytes were passed, and none is a space
pub record IsBeforeSpace (text : List ℕ) (count : ℕ) : Type 0 where
  pub name : client_name_in text ≡ take count text ++ client_name_in (drop count text)
  pub form : form_in text ≡ form_in (drop count text)

pub at_first : (text : List ℕ) → IsBeforeSpace text 0
at_first text = record { name = refl; form = refl }

module _ (text : List ℕ) (count : ℕ) (within : count < length text) (is : IsBeforeSpace text count) where
  pub at_space : get_or text count 0 ≡ 32 → (client_name_in text ≡ take count text) × (form_in text ≡ Some (drop (count + 1) text))
  at_space space =
      let parts = drop_more text count 0 within in
      let test : (get_or text count 0 == 32) ≡ true = eq-eqb (get_or text count 0) 32 space in (
        is.name ∙ ap (λ rest. take count text ++ client_name_in rest) parts
            ∙ ap (λ z. take count text ++ z) (name_cons (get_or text count 0) (drop (count + 1) text) ∙ ap (λ (b : Bool). if b then [] else get_or text count 0 ∷ client_name_in (drop (count + 1) text)) test)
            ∙ append-nil (take count text),
        is.form ∙ ap form_in parts ∙ form_cons (get_or text count 0) (drop (count + 1) text) ∙ ap (λ (b : Bool). if b then Some (drop (count + 1) text) else form_in (drop (count + 1) text)) test,
      )

  -- the rest of the text, as it is cut
  pub rest_at_space : get_or text count 0 ≡ 32 → Some (take (length text - (count + 1)) (drop (count + 1) text)) ≡ form_in text
  rest_at_space space =
      let short : length (drop (count + 1) text) ≤ length text - (count + 1) = omega (arith, length-drop (count + 1) text) in
      ap Some (take_all (length text - (count + 1)) (drop (count + 1) text) short) ∙ sym (at_space space).1

  pub at_next : get_or text count 0 ≢ 32 → IsBeforeSpace text (count + 1)
  at_next other =
      let parts = drop_more text count 0 within in
      let test : (get_or text count 0 == 32) ≡ false = ne_eqb (get_or text count 0) 32 other in
      record {
        name =
            is.name ∙ ap (λ rest. take count text ++ client_name_in rest) parts
            ∙ ap (λ z. take count text ++ z) (name_cons (get_or text count 0) (drop (count + 1) text) ∙ ap (λ (b : Bool). if b then [] else get_or text count 0 ∷ client_name_in (drop (count + 1) text)) test)
            ∙ sym (append_assoc (take count text) (get_or text count 0 ∷ []) (client_name_in (drop (count + 1) text)))
            ∙ ap (λ front. front ++ client_name_in (drop (count + 1) text)) (sym (take_more text count 0 within));
        form = is.form ∙ ap form_in parts ∙ form_cons (get_or text count 0) (drop (count + 1) text) ∙ ap (λ (b : Bool). if b then Some (drop (count + 1) text) else form_in (drop (count + 1) text)) test;
      }

pub no_space : (text : List ℕ) (count : ℕ) → length text ≤ count → IsBeforeSpace text count → (client_name_in text ≡ text) × (form_in text ≡ None)
no_space text count over is = (
  is.name ∙ ap (λ rest. take count text ++ client_name_in rest) (drop_all count text over) ∙ ap (λ z. take count text ++ z) name_nil ∙ append-nil (take count text) ∙ take_all count text over,
  is.form ∙ ap form_in (drop_all count text over) ∙ form_nil,
)
