-- An entry by the datum that it is.
--     no_entry      what is no list is none
--     other_count      nor is a list of fewer or more than three
--     other_end      nor is one that ends in another object
--     three_data      one of three is by its parts
--     no_text, by_number      what is kept by a datum that is no text
--     made_object, made_proper      an entry that is made
use Rattle.std.proofs.Common.{◌≡◌, ◌≢◌, ℕ, Bool, true, false, not, ◌&&◌, List, [], ◌∷◌, length, is_some, Option, None, Some, Err, pos, refl, sym, ap, ◌∙◌, arith}
use Rattle.std.specs.Prelude.{option_map}
use Rattle.std.proofs.lemmas.Bool.{and_parts}
use Rattle.lisp_object.specs.declared.datum.Datum
use Rattle.lisp_object.specs.declared.datum.Datum.{Datum, roll-Datum, out-Datum, roll-out-Datum, fold-roll-Datum}
use Rattle.lisp_object.specs.declared.datum.Datum.TheOpen.{Datum-F}
use Rattle.lisp_object.specs.declared.datum.Datum.TheVariants.{rolls-List, rolls-Text}
use Rattle.lisp_object.specs.Object.{Object, integer, rational, character, text, symbol, uninterned, pair, vector, list_of, object_is_list}
use Rattle.lisp_object.specs.Datum.{is_list, is_proper, object_of, object_step}
use Rattle.lisp_object.proofs.Lists.{proper_items}
use Rattle.lisp_object.proofs.Objects.{object_of-List, object_of-dotted}
use Rattle.lisp_object.proofs.ProperLists.{items_of_proper, no_list_object, tail_of_proper}
use Rattle.lisp_operators.proofs.Shapes.{pair_at}
use Rattle.messages.specs.Position.{number_of_object}
use Rattle.client_table.specs.Entries.{KeptMessage, entry_in, entry_list, entry_of_three, kept_in, kept_objects, whole_with}

-- ---- what is no list

no_entry-layer : (y : Datum-F Datum) → ((items : List Datum) (tail : Option Datum) → roll-Datum y ≢ Datum.List items tail) → None ≡ entry_in (object_of (roll-Datum y))
no_entry-layer (Datum-F.Integer n) _ = sym (ap entry_in (fold-roll-Datum Object object_step (Datum-F.Integer n)))
no_entry-layer (Datum-F.Rational r) _ = sym (ap entry_in (fold-roll-Datum Object object_step (Datum-F.Rational r)))
no_entry-layer (Datum-F.Char c) _ = sym (ap entry_in (fold-roll-Datum Object object_step (Datum-F.Char c)))
no_entry-layer (Datum-F.Text bytes) _ = sym (ap entry_in (fold-roll-Datum Object object_step (Datum-F.Text bytes)))
no_entry-layer (Datum-F.Symbol home name) _ = sym (ap entry_in (fold-roll-Datum Object object_step (Datum-F.Symbol home name)))
no_entry-layer (Datum-F.Uninterned name) _ = sym (ap entry_in (fold-roll-Datum Object object_step (Datum-F.Uninterned name)))
no_entry-layer (Datum-F.List items tail) not_list = absurd (not_list items tail (rolls-List items tail))
no_entry-layer (Datum-F.Vector items) _ = sym (ap entry_in (fold-roll-Datum Object object_step (Datum-F.Vector items)))

pub no_entry : (d : Datum) → ((items : List Datum) (tail : Option Datum) → d ≢ Datum.List items tail) → None ≡ entry_in (object_of d)
no_entry d not_list =
    let rolled : roll-Datum (out-Datum d) ≡ d = roll-out-Datum d in
    no_entry-layer (out-Datum d) (λ items tail e. not_list items tail (sym rolled ∙ e)) ∙ ap (λ x. entry_in (object_of x)) rolled

-- ---- a list of fewer or more, or with another end

-- an object that is no list, after one, two or three others
after_one : (a x : Object) → object_is_list x ≡ false → None ≡ entry_in (pair a x)
after_one a (integer n) e = refl
after_one a (rational n m) e = refl
after_one a (character c) e = refl
after_one a (text b) e = refl
after_one a (symbol h n) e = refl
after_one a (uninterned n) e = refl
after_one a (pair y z) e = absurd (cc)
after_one a (vector xs) e = refl

after_two : (a b x : Object) → object_is_list x ≡ false → None ≡ entry_in (pair a (pair b x))
after_two a b (integer n) e = refl
after_two a b (rational n m) e = refl
after_two a b (character c) e = refl
after_two a b (text t) e = refl
after_two a b (symbol h n) e = refl
after_two a b (uninterned n) e = refl
after_two a b (pair y z) e = absurd (cc)
after_two a b (vector xs) e = refl

after_three : (a b c x : Object) → object_is_list x ≡ false → None ≡ entry_in (pair a (pair b (pair c x)))
after_three a b c (integer n) e = refl
after_three a b c (rational n m) e = refl
after_three a b c (character k) e = refl
after_three a b c (text t) e = refl
after_three a b c (symbol h n) e = sym (ap (λ (is : Bool). entry_of_three is a b c) e)
after_three a b c (uninterned n) e = refl
after_three a b c (pair y z) e = absurd (cc)
after_three a b c (vector xs) e = refl

not_true : (b : Bool) → not b ≡ true → b ≡ false
not_true true e = sym e
not_true false e = refl

no_list_end : (items : List Datum) (end : Datum) → is_proper (Datum.List items (Some end)) ≡ true → object_is_list (object_of end) ≡ false
no_list_end items end proper =
    let both = and_parts (is_proper end) (not (is_list end)) (tail_of_proper items (Some end) proper) in
    no_list_object end both.0 (not_true (is_list end) both.1)

count_by : (items : List Datum) (tail : Option Datum) → is_proper (Datum.List items tail) ≡ true → (length items ≡ 3 → ⊥) → None ≡ entry_in (object_of (Datum.List items tail))
count_by [] tail proper other = absurd (omega (arith, (items_of_proper [] tail proper).0))
count_by (a ∷ []) None proper other = sym (ap entry_in (object_of-List (a ∷ [])))
count_by (a ∷ []) (Some end) proper other =
    after_one (object_of a) (object_of end) (no_list_end (a ∷ []) end proper) ∙ sym (ap entry_in (object_of-dotted (a ∷ []) end))
count_by (a ∷ b ∷ []) None proper other = sym (ap entry_in (object_of-List (a ∷ b ∷ [])))
count_by (a ∷ b ∷ []) (Some end) proper other =
    after_two (object_of a) (object_of b) (object_of end) (no_list_end (a ∷ b ∷ []) end proper) ∙ sym (ap entry_in (object_of-dotted (a ∷ b ∷ []) end))
count_by (a ∷ b ∷ c ∷ []) tail proper other = absurd (other (omega arith))
count_by (a ∷ b ∷ c ∷ d ∷ more) None proper other = sym (ap entry_in (object_of-List (a ∷ b ∷ c ∷ d ∷ more)))
count_by (a ∷ b ∷ c ∷ d ∷ more) (Some end) proper other = sym (ap entry_in (object_of-dotted (a ∷ b ∷ c ∷ d ∷ more) end))

pub other_count : (d : Datum) (items : List Datum) (tail : Option Datum) → d ≡ Datum.List items tail → is_proper d ≡ true → (length items ≡ 3 → ⊥) → None ≡ entry_in (object_of d)
other_count d items tail is proper other = count_by items tail (ap is_proper (sym is) ∙ proper) other ∙ ap (λ x. entry_in (object_of x)) (sym is)

end_by : (items : List Datum) (tail : Option Datum) → is_proper (Datum.List items tail) ≡ true → is_some tail ≡ true → length items ≡ 3 → None ≡ entry_in (object_of (Datum.List items tail))
end_by items None proper some three = absurd (cc)
end_by [] (Some end) proper some three = absurd (omega (arith, three))
end_by (a ∷ []) (Some end) proper some three = absurd (omega (arith, three))
end_by (a ∷ b ∷ []) (Some end) proper some three = absurd (omega (arith, three))
end_by (a ∷ b ∷ c ∷ []) (Some end) proper some three =
    after_three (object_of a) (object_of b) (object_of c) (object_of end) (no_list_end (a ∷ b ∷ c ∷ []) end proper) ∙ sym (ap entry_in (object_of-dotted (a ∷ b ∷ c ∷ []) end))
end_by (a ∷ b ∷ c ∷ d ∷ more) (Some end) proper some three = absurd (omega (arith, three))

pub other_end : (d : Datum) (items : List Datum) (tail : Option Datum) → d ≡ Datum.List items tail → is_proper d ≡ true → is_some tail ≡ true → length items ≡ 3 → None ≡ entry_in (object_of d)
other_end d items tail is proper some three = end_by items tail (ap is_proper (sym is) ∙ proper) some three ∙ ap (λ x. entry_in (object_of x)) (sym is)

-- ---- a list of three

pub three_data : (d a b c : Datum) → d ≡ Datum.List (a ∷ b ∷ c ∷ []) None → entry_in (object_of d) ≡ entry_of_three true (object_of a) (object_of b) (object_of c)
three_data d a b c is = ap (λ x. entry_in (object_of x)) is ∙ ap entry_in (object_of-List (a ∷ b ∷ c ∷ []))

-- ---- texts

no_text-layer : (form : List ℕ) (y : Datum-F Datum) → ((bytes : List ℕ) → roll-Datum y ≢ Datum.Text bytes) → is_proper (roll-Datum y) ≡ true → None ≡ whole_with form (object_of (roll-Datum y))
no_text-layer form (Datum-F.Integer n) _ _ = sym (ap (whole_with form) (fold-roll-Datum Object object_step (Datum-F.Integer n)))
no_text-layer form (Datum-F.Rational r) _ _ = sym (ap (whole_with form) (fold-roll-Datum Object object_step (Datum-F.Rational r)))
no_text-layer form (Datum-F.Char c) _ _ = sym (ap (whole_with form) (fold-roll-Datum Object object_step (Datum-F.Char c)))
no_text-layer form (Datum-F.Text bytes) not_text _ = absurd (not_text bytes (rolls-Text bytes))
no_text-layer form (Datum-F.Symbol home name) _ _ = sym (ap (whole_with form) (fold-roll-Datum Object object_step (Datum-F.Symbol home name)))
no_text-layer form (Datum-F.Uninterned name) _ _ = sym (ap (whole_with form) (fold-roll-Datum Object object_step (Datum-F.Uninterned name)))
no_text-layer form (Datum-F.List items tail) _ proper = pair_at (whole_with form) None (roll-Datum (Datum-F.List items tail)) items tail (λ _ _. refl) (rolls-List items tail) proper
no_text-layer form (Datum-F.Vector items) _ _ = sym (ap (whole_with form) (fold-roll-Datum Object object_step (Datum-F.Vector items)))

pub no_text : (form : List ℕ) (d : Datum) → ((bytes : List ℕ) → d ≢ Datum.Text bytes) → is_proper d ≡ true → None ≡ whole_with form (object_of d)
no_text form d not_text proper =
    let rolled : roll-Datum (out-Datum d) ≡ d = roll-out-Datum d in
    no_text-layer form (out-Datum d) (λ bytes e. not_text bytes (sym rolled ∙ e)) (ap is_proper rolled ∙ proper) ∙ ap (λ x. whole_with form (object_of x)) rolled

-- what is no text is kept by a number
abbrev pub by_count : Object → Option KeptMessage
by_count x = option_map (λ n. Err n) (number_of_object x)

by_number-layer : (answer : Object) (y : Datum-F Datum) → ((bytes : List ℕ) → roll-Datum y ≢ Datum.Text bytes) → is_proper (roll-Datum y) ≡ true
    → kept_in (object_of (roll-Datum y)) answer ≡ by_count (object_of (roll-Datum y))
by_number-layer answer y not_text proper = by (object_of (roll-Datum y)) refl
  where
    by : (x : Object) → object_of (roll-Datum y) ≡ x → kept_in (object_of (roll-Datum y)) answer ≡ by_count (object_of (roll-Datum y))
    by (text bytes) is =
        let none : None ≡ whole_with [] (text bytes) = no_text-layer [] y not_text proper ∙ ap (whole_with []) is in
        absurd (cc)
    by (integer n) is = ap (λ x. kept_in x answer) is ∙ sym (ap (λ x. by_count x) is)
    by (rational n m) is = ap (λ x. kept_in x answer) is ∙ sym (ap (λ x. by_count x) is)
    by (character c) is = ap (λ x. kept_in x answer) is ∙ sym (ap (λ x. by_count x) is)
    by (symbol h n) is = ap (λ x. kept_in x answer) is ∙ sym (ap (λ x. by_count x) is)
    by (uninterned n) is = ap (λ x. kept_in x answer) is ∙ sym (ap (λ x. by_count x) is)
    by (pair a b) is = ap (λ x. kept_in x answer) is ∙ sym (ap (λ x. by_count x) is)
    by (vector xs) is = ap (λ x. kept_in x answer) is ∙ sym (ap (λ x. by_count x) is)

pub by_number : (answer : Object) (d : Datum) → ((bytes : List ℕ) → d ≢ Datum.Text bytes) → is_proper d ≡ true
    → kept_in (object_of d) answer ≡ by_count (object_of d)
by_number answer d not_text proper =
    let rolled : roll-Datum (out-Datum d) ≡ d = roll-out-Datum d in
    ap (λ x. kept_in (object_of x) answer) (sym rolled)
    ∙ by_number-layer answer (out-Datum d) (λ bytes e. not_text bytes (sym rolled ∙ e)) (ap is_proper rolled ∙ proper)
    ∙ ap (λ x. by_count (object_of x)) rolled

-- ---- an entry that is made

module _ (items : List Datum) (n b c : Datum) (is : items ≡ n ∷ b ∷ c ∷ []) where
  pub made_object : (number : ℕ) (kept : KeptMessage) → object_of n ≡ integer (pos number) → object_of b ∷ object_of c ∷ [] ≡ kept_objects kept → object_of (Datum.List items None) ≡ entry_list number kept
  made_object number kept n_is both = ap (λ xs. object_of (Datum.List xs None)) is ∙ object_of-List (n ∷ b ∷ c ∷ []) ∙ (λ i. list_of (n_is i ∷ both i))

  pub made_proper : is_proper n ≡ true → is_proper b ≡ true → is_proper c ≡ true → is_proper (Datum.List items None) ≡ true
  made_proper n_is b_is c_is =
      ap (λ xs. is_proper (Datum.List xs None)) is ∙ proper_items (n ∷ b ∷ c ∷ []) (omega arith) (λ i. n_is i && (b_is i && (c_is i && true)))
