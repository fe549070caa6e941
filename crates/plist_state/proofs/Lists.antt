-- Property lists: values beside keys, and lists by symbols in a finite map.
--     all_with, all_without      what holds of each property, after a change
--     without-absent      a key that is not there, taken out
--     get-with_list, list-with_list, with_list_twice, with_list_same      one list replaced
use Rattle.std.proofs.Common.{◌≡◌, true, false, cond, Bool, Option, None, Some, unwrap_or, List, [], ◌∷◌, refl, sym, ap, ◌∙◌}
use Rattle.std.specs.Prelude.{is_some, All}
use Rattle.std.proofs.lemmas.List.Elements.{All-nil, All-cons, All-head, All-tail}
use Rattle.std.specs.Option.{option_map}
use Rattle.std.specs.Ordering.{eq_by_cmp}
use Rattle.std.specs.FinMap as finite
use Rattle.std.specs.FinMap.{get-insert, get-remove, same_map}
use Rattle.std.proofs.lemmas.Bool.{false≢true}
use Rattle.lisp_object.specs.Object.{Object}
use Rattle.plist_state.specs.Properties as properties
use Rattle.plist_state.specs.Properties.{Plist, Properties, symbol_cmp, value_beside, with_value_by, without_value_by, list_at, with_list}
use Rattle.plist_state.proofs.Orders.{symbol_total, symbol_exact, one_symbol, symbol_tied}

-- ---- values beside keys
module _ {K : Type 0} (same : K → K → Bool) (P : K × Object → Type 0) where
  pub all_with : (ps : List (K × Object)) (i : K) (v : Object) → P (i, v) → ((p : K × Object) → P p → P (p.0, v)) → All P ps → All P (with_value_by same ps i v)
  all_with [] i v new set e = All-cons P (i, v) [] new (All-nil P)
  all_with (p ∷ ps) i v new set e =
      elim (same i p.0) as (λ b. All P (cond b ((p.0, v) ∷ ps) (p ∷ with_value_by same ps i v))) [
        | true ↦ All-cons P (p.0, v) ps (set p (All-head P p ps e)) (All-tail P p ps e)
        | false ↦ All-cons P p (with_value_by same ps i v) (All-head P p ps e) (all_with ps i v new set (All-tail P p ps e))
      ]

  pub all_without : (ps : List (K × Object)) (i : K) → All P ps → All P (without_value_by same ps i)
  all_without [] i e = All-nil P
  all_without (p ∷ ps) i e =
      elim (same i p.0) as (λ b. All P (cond b ps (p ∷ without_value_by same ps i))) [
        | true ↦ All-tail P p ps e
        | false ↦ All-cons P p (without_value_by same ps i) (All-head P p ps e) (all_without ps i (All-tail P p ps e))
      ]

-- a key that is not there, taken out
pub without-absent : {K : Type 0} (same : K → K → Bool) (ps : List (K × Object)) (i : K) → value_beside same ps i ≡ None → without_value_by same ps i ≡ ps
without-absent same [] i absent = refl
without-absent same (p ∷ ps) i absent =
    elim (same i p.0) as (λ b. cond b (Some p.1) (value_beside same ps i) ≡ None → cond b ps (p ∷ without_value_by same ps i) ≡ p ∷ ps) [
      | true ↦ λ e. absurd (cc)
      | false ↦ λ e. ap (λ qs. p ∷ qs) (without-absent same ps i e)
    ] absent

-- a list that is kept: an empty one is not
abbrev pub kept : {A : Type 0} → List A → Option (List A)
kept [] = None
kept (p ∷ ps) = Some (p ∷ ps)

pub unwrap_kept : {A : Type 0} (ps : List A) → unwrap_or (kept ps) [] ≡ ps
unwrap_kept [] = refl
unwrap_kept (p ∷ ps) = refl

-- ---- lists by symbols

pub get-with_list : (m : Properties) (x : properties.Symbol) (ps : Plist) (q : properties.Symbol) → finite.get (with_list m x ps) q ≡ cond (eq_by_cmp symbol_cmp q x) (kept ps) (finite.get m q)
get-with_list m x [] q = get-remove symbol_total m x q
get-with_list m x (p ∷ ps) q = get-insert symbol_total m x (p ∷ ps) q

-- the list that was put is there
pub list-with_list : (m : Properties) (x : properties.Symbol) (ps : Plist) → list_at (with_list m x ps) x ≡ ps
list-with_list m x ps =
    ap (λ o. unwrap_or o []) (get-with_list m x ps x ∙ ap (λ b. cond b (kept ps) (finite.get m x)) (symbol_tied x)) ∙ unwrap_kept ps

-- of two lists that are put at one symbol the second stands
pub with_list_twice : (m : Properties) (x : properties.Symbol) (ps qs : Plist) → with_list (with_list m x ps) x qs ≡ with_list m x qs
with_list_twice m x ps qs = same_map symbol_total symbol_exact _ _ (λ q.
    get-with_list (with_list m x ps) x qs q ∙ ap (cond (eq_by_cmp symbol_cmp q x) (kept qs)) (get-with_list m x ps q)
    ∙ elim (eq_by_cmp symbol_cmp q x) as (λ b. cond b (kept qs) (cond b (kept ps) (finite.get m q)) ≡ cond b (kept qs) (finite.get m q)) [ true ↦ refl | false ↦ refl ]
    ∙ sym (get-with_list m x qs q))

-- a map in which no list is empty
abbrev pub AreSome : Properties → Type 0
AreSome m = (q : properties.Symbol) → finite.get m q ≡ kept (list_at m q)

-- the list that is there, put again
pub with_list_same : (m : Properties) (x : properties.Symbol) (ps : Plist) → AreSome m → ps ≡ list_at m x → with_list m x ps ≡ m
with_list_same m x ps some is = same_map symbol_total symbol_exact _ _ (λ q.
    get-with_list m x ps q
    ∙ elim (eq_by_cmp symbol_cmp q x) as (λ b. eq_by_cmp symbol_cmp q x ≡ b → cond b (kept ps) (finite.get m q) ≡ finite.get m q) [
      | true ↦ λ t. ap kept (is ∙ ap (list_at m) (sym (one_symbol q x t))) ∙ sym (some q)
      | false ↦ λ t. refl
    ] refl)

-- what is read of nothing
pub none_shown_as : {A B : Type 0} (f : A → B) (o : Option A) (p : Option B) → option_map f o ≡ p → is_some o ≡ false → p ≡ None
none_shown_as f None p e none = sym e
none_shown_as f (Some x) p e none = absurd (false≢true (sym none))
