-- Texts between quotes, and lists of them: where each ends, and what it is.
use Rattle.std.proofs.Common.{◌≡◌, ◌≢◌, ℕ, ◌+◌, ◌-◌, ◌≤◌, ◌<◌, Bool, true, false, List, [], ◌∷◌, ◌++◌, map, length, take, drop, get_or, append_assoc, length-append, length-drop, inl, inr, refl, sym, ap, subst, ◌∙◌, arith}
use Rattle.std.specs.Prelude.{codes, if◌then◌else◌, ◌⊎◌}
use Rattle.std.proofs.lemmas.Bool.{false≢true, ne_eqb}
use Rattle.std.proofs.Math.Seq.{take-append_seam, take-length}
use Rattle.std.proofs.lemmas.List.{append-nil, drop_more}
use Rattle.package_table.specs.Table.{Name}
use Rattle.canon_printer.specs.Names.{with_backslashes}
use Rattle.canon_printer.specs.Written.{is_escaped_in_text, printed_text}
use Rattle.snapshot_lines.specs.declared.texts.Coming.{Coming}
use Rattle.snapshot_lines.specs.declared.texts.Coming.TheVariants.{Item, End}
use Rattle.snapshot_lines.specs.QuotedTexts.{unescaped, unescaped_first, items_rest, pair_text, IsAtItems, IsNextItem}

-- ---- what is left of a text

-- After a backslash a character comes that is taken as it is. Then come the characters of some text, its quote, and what stands
-- after it.
abbrev pub Left : Bool → List ℕ → List ℕ → Type 0
Left false bytes after = (name : List ℕ) × (bytes ≡ with_backslashes is_escaped_in_text name ++ 34 ∷ after)
Left true bytes after = (c : ℕ) × (name : List ℕ) × (bytes ≡ c ∷ (with_backslashes is_escaped_in_text name ++ 34 ∷ after))

pub after_escape : (x : ℕ) (xs after : List ℕ) → Left true (x ∷ xs) after → Left false xs after
after_escape x xs after left = (left.1, let e = left.2 in cc)

no_quote : (b : ℕ) → is_escaped_in_text b ≡ false → b ≢ 34
no_quote b plain is = false≢true (sym plain ∙ ap is_escaped_in_text is)

no_backslash : (b : ℕ) → is_escaped_in_text b ≡ false → b ≢ 92
no_backslash b plain is = false≢true (sym plain ∙ ap is_escaped_in_text is)

pub after_backslash : (x : ℕ) (xs after : List ℕ) → x ≡ 92 → Left false (x ∷ xs) after → Left true xs after
after_backslash x xs after is ([], e) = absurd (let head : x ≡ 34 = cc in omega arith)
after_backslash x xs after is (b ∷ bs, e) =
    elim (is_escaped_in_text b) as (λ t. is_escaped_in_text b ≡ t → x ∷ xs ≡ ((if t then codes "\\" ++ b ∷ [] else b ∷ []) ++ with_backslashes is_escaped_in_text bs) ++ 34 ∷ after → Left true xs after) [
      | true ↦ λ _ e. (b, bs, cc)
      | false ↦ λ plain e. absurd (no_backslash b plain (let head : x ≡ b = cc in sym head ∙ is))
    ] refl e

pub after_other : (x : ℕ) (xs after : List ℕ) → x ≢ 92 → x ≢ 34 → Left false (x ∷ xs) after → Left false xs after
after_other x xs after other quote ([], e) = absurd (quote (let head : x ≡ 34 = cc in head))
after_other x xs after other quote (b ∷ bs, e) =
    elim (is_escaped_in_text b) as (λ t. is_escaped_in_text b ≡ t → x ∷ xs ≡ ((if t then codes "\\" ++ b ∷ [] else b ∷ []) ++ with_backslashes is_escaped_in_text bs) ++ 34 ∷ after → Left false xs after) [
      | true ↦ λ _ e. absurd (other (let head : x ≡ 92 = cc in head))
      | false ↦ λ _ e. (bs, cc)
    ] refl e

pub after_quote : (x : ℕ) (xs after : List ℕ) → x ≡ 34 → Left false (x ∷ xs) after → xs ≡ after
after_quote x xs after is ([], e) = cc
after_quote x xs after is (b ∷ bs, e) =
    elim (is_escaped_in_text b) as (λ t. is_escaped_in_text b ≡ t → x ∷ xs ≡ ((if t then codes "\\" ++ b ∷ [] else b ∷ []) ++ with_backslashes is_escaped_in_text bs) ++ 34 ∷ after → xs ≡ after) [
      | true ↦ λ _ e. absurd (let head : x ≡ 92 = cc in omega arith)
      | false ↦ λ plain e. absurd (no_quote b plain (let head : x ≡ b = cc in sym head ∙ is))
    ] refl e

pub some_left : (escaped_one : Bool) (after : List ℕ) → Left escaped_one [] after → ⊥
some_left true after left = let e = left.2 in absurd cc
some_left false after ([], e) = absurd cc
some_left false after (b ∷ bs, e) =
    elim (is_escaped_in_text b) as (λ t. [] ≡ ((if t then codes "\\" ++ b ∷ [] else b ∷ []) ++ with_backslashes is_escaped_in_text bs) ++ 34 ∷ after → ⊥) [
      | true ↦ λ e. absurd cc
      | false ↦ λ e. absurd cc
    ] e

-- ---- character by character

module _ (text after : List ℕ) (i : ℕ) (within : i < length text) where
  here : (flag : Bool) → Left flag (drop i text) after → Left flag (get_or text i 0 ∷ drop (i + 1) text) after
  here flag left = subst (λ (xs : List ℕ). Left flag xs after) (drop_more text i 0 within) left

  pub escape_goes : (flag later : Bool) → flag ≡ true → later ≡ false → Left flag (drop i text) after → Left later (drop (i + 1) text) after
  escape_goes flag later was is left =
      subst (λ (b : Bool). Left b (drop (i + 1) text) after) (sym is)
      (after_escape (get_or text i 0) (drop (i + 1) text) after (subst (λ (b : Bool). Left b (get_or text i 0 ∷ drop (i + 1) text) after) was (here flag left)))

  pub backslash_goes : (flag later : Bool) → flag ≡ false → get_or text i 0 ≡ 92 → later ≡ true → Left flag (drop i text) after → Left later (drop (i + 1) text) after
  backslash_goes flag later was byte is left =
      subst (λ (b : Bool). Left b (drop (i + 1) text) after) (sym is)
      (after_backslash (get_or text i 0) (drop (i + 1) text) after byte (subst (λ (b : Bool). Left b (get_or text i 0 ∷ drop (i + 1) text) after) was (here flag left)))

  pub other_goes : (flag later : Bool) → flag ≡ false → get_or text i 0 ≢ 92 → get_or text i 0 ≢ 34 → later ≡ flag → Left flag (drop i text) after → Left later (drop (i + 1) text) after
  other_goes flag later was other quote is left =
      subst (λ (b : Bool). Left b (drop (i + 1) text) after) (sym (is ∙ was))
      (after_other (get_or text i 0) (drop (i + 1) text) after other quote (subst (λ (b : Bool). Left b (get_or text i 0 ∷ drop (i + 1) text) after) was (here flag left)))

  pub quote_ends : (flag : Bool) → flag ≡ false → get_or text i 0 ≡ 34 → Left flag (drop i text) after → drop (i + 1) text ≡ after
  quote_ends flag was byte left =
      after_quote (get_or text i 0) (drop (i + 1) text) after byte (subst (λ (b : Bool). Left b (get_or text i 0 ∷ drop (i + 1) text) after) was (here flag left))

  -- and the text is before it
  pub quote_there : (flag : Bool) → flag ≡ false → get_or text i 0 ≡ 34 → Left flag (drop i text) after → drop i text ≡ 34 ∷ after
  quote_there flag was byte left = drop_more text i 0 within ∙ (λ k. byte k ∷ quote_ends flag was byte left k)

  pub rest_whole : take (length text - (i + 1)) (drop (i + 1) text) ≡ drop (i + 1) text
  rest_whole = ap (λ n. take n (drop (i + 1) text)) (sym (length-drop (i + 1) text)) ∙ take-length (drop (i + 1) text)

-- ---- what a text is

-- an escaped character is taken as it is, and so is one that needs no backslash
pub unescaped_escaped : (name : List ℕ) → unescaped (with_backslashes is_escaped_in_text name) ≡ name
unescaped_escaped [] = refl
unescaped_escaped (b ∷ bs) =
    elim (is_escaped_in_text b) as (λ t. is_escaped_in_text b ≡ t → unescaped ((if t then codes "\\" ++ b ∷ [] else b ∷ []) ++ with_backslashes is_escaped_in_text bs) ≡ b ∷ bs) [
      | true ↦ λ _. ap (λ cs. b ∷ cs) (unescaped_escaped bs)
      | false ↦ λ none. plain b (with_backslashes is_escaped_in_text bs) (no_backslash b none) ∙ ap (λ cs. b ∷ cs) (unescaped_escaped bs)
    ] refl
  where
    plain : (c : ℕ) (cs : List ℕ) → c ≢ 92 → unescaped (c ∷ cs) ≡ c ∷ unescaped cs
    plain c cs other = ap (λ b. if b then unescaped_first cs else c ∷ unescaped cs) (ne_eqb c 92 other)

-- where the quote is found, the text is before it
pub text_before : (text name after : List ℕ) (i : ℕ) → text ≡ with_backslashes is_escaped_in_text name ++ 34 ∷ after → i < length text → drop i text ≡ 34 ∷ after → unescaped (take i text) ≡ name
text_before text name after i e within at =
    let front = with_backslashes is_escaped_in_text name in
    let whole : length text ≡ length front + length (34 ∷ after) = ap length e ∙ length-append front (34 ∷ after) in
    let rest : length (drop i text) ≡ length (34 ∷ after) = ap length at in
    let cut = length-drop i text in
    let is : i ≡ length front = omega arith in
    let same : take i text ≡ front = ap (take i) e ∙ ap (λ n. take n (front ++ 34 ∷ after)) is ∙ take-append_seam front (34 ∷ after) in
    ap unescaped same ∙ unescaped_escaped name

-- ---- lists

-- with which byte a list begins, or what comes after an item
abbrev pub IsFirst : ℕ → List ℕ → Type 0
IsFirst c rest = (c ≡ 40) ⊎ ((c ≡ 32) ⊎ ((c ≡ 41) ⊎ ((c ≡ 78) × (2 ≤ length rest))))

pub begins : (items : List (List ℕ)) (after bytes : List ℕ) → IsAtItems items after bytes → (c : ℕ) × (rest : List ℕ) × (bytes ≡ c ∷ rest) × IsFirst c rest
begins [] after bytes (inl e) = (78, 73 ∷ 76 ∷ after, e, inr (inr (inr (refl, omega arith))))
begins [] after bytes (inr e) = (41, after, e, inr (inr (inl refl)))
begins (x ∷ xs) after bytes (inl e) = (40, (x ++ items_rest xs) ++ after, e, inl refl)
begins (x ∷ xs) after bytes (inr e) = (32, (x ++ items_rest xs) ++ after, e, inr (inl refl))

pub none_left : (c : ℕ) (rest : List ℕ) → IsFirst c rest → c ≡ 78 → length rest < 2 → ⊥
none_left c rest (inl e) is short = omega (arith, e, is)
none_left c rest (inr (inl e)) is short = omega (arith, e, is)
none_left c rest (inr (inr (inl e))) is short = omega (arith, e, is)
none_left c rest (inr (inr (inr e))) is short = omega (arith, e.1, short)

pub not_first : (c : ℕ) (rest : List ℕ) → IsFirst c rest → c ≢ 40 → c ≢ 32 → c ≢ 41 → c ≢ 78 → ⊥
not_first c rest (inl e) a b d n = a e
not_first c rest (inr (inl e)) a b d n = b e
not_first c rest (inr (inr (inl e))) a b d n = d e
not_first c rest (inr (inr (inr e))) a b d n = n e.0

pub after_first : (bytes : List ℕ) (c : ℕ) (rest : List ℕ) → bytes ≡ c ∷ rest → length (take (length bytes - 1) (drop 1 bytes)) ≡ length rest
after_first bytes c rest e =
    ap (λ xs. length (take (length xs - 1) (drop 1 xs))) e
    ∙ ap (λ n. length (take n rest)) (let less : length (c ∷ rest) - 1 ≡ length rest = omega arith in less) ∙ ap length (take-length rest)

-- One of these comes next, and the others after it; or there are none, and what stands after the list comes.
abbrev pub IsItem : {A : Type 0} → (A → List ℕ) → List A → List ℕ → Coming → Type 0
IsItem {A = A} f later after (Item item) = (x : A) × (xs : List A) × (later ≡ x ∷ xs) × (item.now ≡ f x ++ (items_rest (map f xs) ++ after))
IsItem f later after (End rest) = (later ≡ []) × (rest.now ≡ after)

pub next_item : {A : Type 0} (f : A → List ℕ) (later : List A) (after : List ℕ) (item : Coming) → IsNextItem (map f later) after item → IsItem f later after item
next_item f [] after (Item item) is = absurd is
next_item f [] after (End rest) is = (refl, is)
next_item f (x ∷ xs) after (Item item) is = (x, xs, refl, is)
next_item f (x ∷ xs) after (End rest) is = absurd is

-- one more that was read
pub one_more_read : {A B : Type 0} (f : A → B) (read : List A) (x : A) (y : B) (later all : List B) → map f read ++ (y ∷ later) ≡ all → f x ≡ y
    → map f (read ++ x ∷ []) ++ later ≡ all
one_more_read f [] x y later all e is = ap (λ z. z ∷ later) is ∙ e
one_more_read f (r ∷ read) x y later [] e is = absurd cc
one_more_read f (r ∷ read) x y later (a ∷ all) e is =
    let head : f r ≡ a = cc in
    let tail : map f read ++ (y ∷ later) ≡ all = cc in
    (λ i. head i ∷ one_more_read f read x y later all tail is i)

-- all were read
pub all_read : {A B : Type 0} (f : A → B) (read : List A) (later all : List B) → map f read ++ later ≡ all → later ≡ [] → map f read ≡ all
all_read f read later all e none = sym (append-nil (map f read)) ∙ ap (λ xs. map f read ++ xs) (sym none) ∙ e

-- a pair, part by part
pub pair_apart : (pair : Name × Name) (after : List ℕ) → pair_text pair ++ after ≡ 40 ∷ (printed_text pair.0 ++ (32 ∷ (printed_text pair.1 ++ (41 ∷ after))))
pair_apart pair after =
    ap (λ xs. 40 ∷ xs) (append_assoc (printed_text pair.0) (32 ∷ (printed_text pair.1 ++ 41 ∷ [])) after
    ∙ ap (λ xs. printed_text pair.0 ++ (32 ∷ xs)) (append_assoc (printed_text pair.1) (41 ∷ []) after))
