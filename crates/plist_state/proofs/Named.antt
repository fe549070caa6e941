-- Property lists by the symbols of their numbers.
--     number_by, symbol_numbered, number_is      the symbol that a number is of
--     number_grown, symbol_kept, number_stays      packages in which no symbol is lost and each keeps its number
--     value_named, value_unnamed      the value beside an indicator
--     with_named, without_named      a change of the list by numbers is that of the list by symbols
--     named_grown, kept_named, some_named      the whole list
use Rattle.std.proofs.Common.{◌≡◌, ℕ, Bool, true, false, cond, Option, None, Some, List, [], ◌∷◌, All, map, is_some, unwrap_or, refl, sym, ap, subst, ◌∙◌}
use Rattle.std.specs.Prelude.{◌||◌}
use Rattle.std.specs.Option.{option_map, option_map_or}
use Rattle.std.specs.List.{find, list_any}
use Rattle.std.specs.Ordering.{eq_by_cmp}
use Rattle.std.proofs.lemmas.Bool.{false≢true, eqb-true, eqb-false, eq-eqb}
use Rattle.std.proofs.lemmas.List.Elements.{All-head, All-tail}
use Rattle.lisp_object.specs.Object.{Object}
use Rattle.package_table.specs.Numbers.{Numbered, number_of}
use Rattle.package_table.specs.Numbering.{AreSymbolsNumbered, KeepsNumbers}
use Rattle.package_table.specs.Growth.{Grows}
use Rattle.package_table.proofs.Names.{same_some}
use Rattle.package_table.proofs.Numbered.{number_there, number_apart, number_kept}
use Rattle.plist_state.specs.Properties.{Symbol, symbol_cmp, same_symbol, value_beside, with_value_by, without_value_by, value_at, with_value, without_value}
use Rattle.plist_state.specs.Lists.{NumberedPlist, same_number, symbols, has_number, numbered_symbol, IsNumber, named_plist}
use Rattle.plist_state.proofs.Orders.{one_symbol, symbol_tied}
use Rattle.plist_state.proofs.Lists.{kept}
use Rattle.plist_state.proofs.Soundness.{symbol_from}
use Rattle.plist_state.proofs.AllSymbols.{symbol_among}

-- ---- other keys, of which two are the same where those are that they stand for
module _ {K L : Type 0} (same : K → K → Bool) (other : L → L → Bool) (f : K → L) where
  abbrev with_keys : List (K × Object) → List (L × Object)
  with_keys ps = map (λ p. (f p.0, p.1)) ps

  module _ (i : K) where
    abbrev Agrees : List (K × Object) → Type 0
    Agrees [] = Unit {0}
    Agrees (p ∷ ps) = (other (f i) (f p.0) ≡ same i p.0) × Agrees ps

    value_mapped : (ps : List (K × Object)) → Agrees ps → value_beside other (with_keys ps) (f i) ≡ value_beside same ps i
    value_mapped [] agrees = refl
    value_mapped (p ∷ ps) agrees = λ k. cond (agrees.0 k) (Some p.1) (value_mapped ps agrees.1 k)

    with_mapped : (ps : List (K × Object)) (v : Object) → Agrees ps → with_keys (with_value_by same ps i v) ≡ with_value_by other (with_keys ps) (f i) v
    with_mapped [] v agrees = refl
    with_mapped (p ∷ ps) v agrees =
        elim (same i p.0) as (λ b. other (f i) (f p.0) ≡ b
        → with_keys (cond b ((p.0, v) ∷ ps) (p ∷ with_value_by same ps i v)) ≡ with_value_by other (with_keys (p ∷ ps)) (f i) v) [
          | true ↦ λ t. sym (ap (λ b. cond b ((f p.0, v) ∷ with_keys ps) ((f p.0, p.1) ∷ with_value_by other (with_keys ps) (f i) v)) t)
          | false ↦ λ t. ap (λ qs. (f p.0, p.1) ∷ qs) (with_mapped ps v agrees.1)
              ∙ sym (ap (λ b. cond b ((f p.0, v) ∷ with_keys ps) ((f p.0, p.1) ∷ with_value_by other (with_keys ps) (f i) v)) t)
        ] agrees.0

    without_mapped : (ps : List (K × Object)) → Agrees ps → with_keys (without_value_by same ps i) ≡ without_value_by other (with_keys ps) (f i)
    without_mapped [] agrees = refl
    without_mapped (p ∷ ps) agrees =
        elim (same i p.0) as (λ b. other (f i) (f p.0) ≡ b
        → with_keys (cond b ps (p ∷ without_value_by same ps i)) ≡ without_value_by other (with_keys (p ∷ ps)) (f i)) [
          | true ↦ λ t. sym (ap (λ b. cond b (with_keys ps) ((f p.0, p.1) ∷ without_value_by other (with_keys ps) (f i))) t)
          | false ↦ λ t. ap (λ qs. (f p.0, p.1) ∷ qs) (without_mapped ps agrees.1)
              ∙ sym (ap (λ b. cond b (with_keys ps) ((f p.0, p.1) ∷ without_value_by other (with_keys ps) (f i))) t)
        ] agrees.0

-- ---- the number of a symbol
module _ (s : Numbered) where
  -- of the same symbol
  pub number_by : (i : ℕ) {x y : Symbol} → y ≡ x → number_of s y.0 y.1 ≡ Some i → number_of s x.0 x.1 ≡ Some i
  number_by i same is = subst (λ (z : Symbol). number_of s z.0 z.1 ≡ Some i) same is

  number_has : (x : Symbol) (i : ℕ) → has_number s i x ≡ true → number_of s x.0 x.1 ≡ Some i
  number_has x i has =
      elim (number_of s x.0 x.1) as (λ o. option_map_or (same_number i) o false ≡ true → o ≡ Some i) [
        | None ↦ λ e. absurd (false≢true e)
        | Some j ↦ λ e. ap Some (sym (eqb-true i j e))
      ] has

  has_number_of : (x : Symbol) (i : ℕ) → number_of s x.0 x.1 ≡ Some i → has_number s i x ≡ true
  has_number_of x i is = ap (λ o. option_map_or (same_number i) o false) is ∙ eq-eqb i i refl

  -- two numbers of symbols are the same where their symbols are
  same_numbers : (i j : ℕ) → IsNumber s i → IsNumber s j → same_symbol (numbered_symbol s i) (numbered_symbol s j) ≡ same_number i j
  same_numbers i j one two =
      elim (same_number i j) as (λ b. same_number i j ≡ b → same_symbol (numbered_symbol s i) (numbered_symbol s j) ≡ b) [
        | true ↦ λ t. ap (λ k. same_symbol (numbered_symbol s i) (numbered_symbol s k)) (sym (eqb-true i j t)) ∙ symbol_tied (numbered_symbol s i)
        | false ↦ λ apart.
            elim (same_symbol (numbered_symbol s i) (numbered_symbol s j)) as (λ b. same_symbol (numbered_symbol s i) (numbered_symbol s j) ≡ b → b ≡ false) [
              | true ↦ λ t.
                  let both : ◌≡◌ {A = Option ℕ} (Some i) (Some j) = sym one ∙ ap (λ (x : Symbol). number_of s x.0 x.1) (one_symbol (numbered_symbol s i) (numbered_symbol s j) t) ∙ two in
                  absurd (eqb-false i j apart (same_some i j both))
              | false ↦ λ _. refl
            ] refl
      ] refl

  are_told_apart : (i : ℕ) → IsNumber s i → (ps : NumberedPlist) → All (λ p. IsNumber s p.0) ps → Agrees same_number same_symbol (numbered_symbol s) i ps
  are_told_apart i is [] all = tt
  are_told_apart i is (p ∷ ps) all = (
    same_numbers i p.0 is (All-head (λ (p : ℕ × Object). IsNumber s p.0) p ps all),
    are_told_apart i is ps (All-tail (λ (p : ℕ × Object). IsNumber s p.0) p ps all),
  )

  -- a symbol without a number is no indicator
  pub value_unnamed : (x : Symbol) → number_of s x.0 x.1 ≡ None → (ps : NumberedPlist) → All (λ p. IsNumber s p.0) ps → value_at (named_plist s ps) x ≡ None
  value_unnamed x none [] all = refl
  value_unnamed x none (p ∷ ps) all =
      elim (same_symbol x (numbered_symbol s p.0)) as (λ b. same_symbol x (numbered_symbol s p.0) ≡ b → cond b (Some p.1) (value_at (named_plist s ps) x) ≡ None) [
        | true ↦ λ t.
            let is : number_of s (numbered_symbol s p.0).0 (numbered_symbol s p.0).1 ≡ Some p.0 = All-head (λ (p : ℕ × Object). IsNumber s p.0) p ps all in
            absurd (false≢true (ap is_some (sym none ∙ ap (λ (y : Symbol). number_of s y.0 y.1) (one_symbol x (numbered_symbol s p.0) t) ∙ is)))
        | false ↦ λ _. value_unnamed x none ps (All-tail (λ (p : ℕ × Object). IsNumber s p.0) p ps all)
      ] refl

  pub kept_named : (ps : NumberedPlist) → option_map (named_plist s) (kept ps) ≡ kept (named_plist s ps)
  kept_named [] = refl
  kept_named (p ∷ ps) = refl

  pub some_named : (o : Option NumberedPlist) → is_some (option_map (named_plist s) o) ≡ is_some o
  some_named None = refl
  some_named (Some ps) = refl

  module _ (count : ℕ) (numbered : AreSymbolsNumbered s count) where
    found_at : (x : Symbol) (i : ℕ) → number_of s x.0 x.1 ≡ Some i → (xs : List Symbol) → list_any (eq_by_cmp symbol_cmp x) xs ≡ true → find (has_number s i) xs ≡ Some x
    found_at x i is [] among = absurd (false≢true among)
    found_at x i is (y ∷ ys) among =
        elim (has_number s i y) as (λ b. has_number s i y ≡ b → cond b (Some y) (find (has_number s i) ys) ≡ Some x) [
          | true ↦ λ t.
              let one : (y.0 ≡ x.0) × (y.1 ≡ x.1) = number_apart s count numbered y.0 y.1 x.0 x.1 i (number_has y i t) is in
              λ k. Some (one.0 k, one.1 k)
          | false ↦ λ other. found_at x i is ys (later other)
        ] refl
      where
        later : has_number s i y ≡ false → list_any (eq_by_cmp symbol_cmp x) ys ≡ true
        later other =
            elim (eq_by_cmp symbol_cmp x y) as (λ b. eq_by_cmp symbol_cmp x y ≡ b → (b || list_any (eq_by_cmp symbol_cmp x) ys) ≡ true → list_any (eq_by_cmp symbol_cmp x) ys ≡ true) [
              | true ↦ λ t _. absurd (false≢true (sym other ∙ ap (has_number s i) (sym (one_symbol x y t)) ∙ has_number_of x i is))
              | false ↦ λ _ rest. rest
            ] refl among

    pub symbol_numbered : (x : Symbol) (i : ℕ) → number_of s x.0 x.1 ≡ Some i → numbered_symbol s i ≡ x
    unfolding numbered_symbol
    symbol_numbered x i is =
        ap (λ o. unwrap_or o ([], []))
        (found_at x i is (symbols s.0) (symbol_among s.0 x (symbol_from s.0 x.0 x.1 (number_there s x.0 x.1 i is))))

    pub number_is : (x : Symbol) (i : ℕ) → number_of s x.0 x.1 ≡ Some i → IsNumber s i
    number_is x i is = subst (λ (y : Symbol). number_of s y.0 y.1 ≡ Some i) (sym (symbol_numbered x i is)) is

    -- ---- a change
    module _ (x : Symbol) (i : ℕ) (is : number_of s x.0 x.1 ≡ Some i) (ps : NumberedPlist) (all : All (λ p. IsNumber s p.0) ps) where
      pub value_named : value_at (named_plist s ps) x ≡ value_beside same_number ps i
      value_named =
          ap (value_at (named_plist s ps)) (sym (symbol_numbered x i is))
          ∙ value_mapped same_number same_symbol (numbered_symbol s) i ps (are_told_apart i (number_is x i is) ps all)

      pub with_named : (v : Object) → named_plist s (with_value_by same_number ps i v) ≡ with_value (named_plist s ps) x v
      with_named v =
          with_mapped same_number same_symbol (numbered_symbol s) i ps v (are_told_apart i (number_is x i is) ps all)
          ∙ ap (λ y. with_value (named_plist s ps) y v) (symbol_numbered x i is)

      pub without_named : named_plist s (without_value_by same_number ps i) ≡ without_value (named_plist s ps) x
      without_named =
          without_mapped same_number same_symbol (numbered_symbol s) i ps (are_told_apart i (number_is x i is) ps all)
          ∙ ap (without_value (named_plist s ps)) (symbol_numbered x i is)

-- ---- packages that grow
module _ (s u : Numbered) (count : ℕ) (numbered : AreSymbolsNumbered u count) (grows : Grows s.0 u.0) (keeps : KeepsNumbers s u) where
  pub number_grown : (i : ℕ) → IsNumber s i → number_of u (numbered_symbol s i).0 (numbered_symbol s i).1 ≡ Some i
  number_grown i is =
      let x : Symbol = numbered_symbol s i in
      let there = number_there s x.0 x.1 i is in
      number_kept s u keeps x.0 x.1 there (grows.homes x.0 x.1 x.0 there) ∙ is

  symbol_kept : (i : ℕ) → IsNumber s i → numbered_symbol u i ≡ numbered_symbol s i
  symbol_kept i is = symbol_numbered u count numbered (numbered_symbol s i) i (number_grown i is)

  pub number_stays : (i : ℕ) → IsNumber s i → IsNumber u i
  number_stays i is = number_is u count numbered (numbered_symbol s i) i (number_grown i is)

  pub named_grown : (ps : NumberedPlist) → All (λ p. IsNumber s p.0) ps → named_plist u ps ≡ named_plist s ps
  named_grown [] all = refl
  named_grown (p ∷ ps) all =
      let here : numbered_symbol u p.0 ≡ numbered_symbol s p.0 = symbol_kept p.0 (All-head (λ (p : ℕ × Object). IsNumber s p.0) p ps all) in
      let rest : named_plist u ps ≡ named_plist s ps = named_grown ps (All-tail (λ (p : ℕ × Object). IsNumber s p.0) p ps all) in
      λ k. (here k, p.1) ∷ rest k
