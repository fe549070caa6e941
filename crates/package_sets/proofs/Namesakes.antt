-- A search for a symbol of a home and a name, from the last symbol of that name to those before it.
--     left_first, left_next      the places that are left
--     left_hit, left_none      where it ends
--     no_imports      what a package imports that imports nothing
use Rattle.std.proofs.Common.{◌≡◌, ◌+◌, ◌<◌, ◌≤◌, ◌&&◌, ◌||◌, inl, inr, ℕ, suc, Bool, true, false, cond, nat_eq, List, [], ◌∷◌, length, position, Some, None, refl, sym, ap, ◌∙◌, arith}
use Rattle.std.specs.List.{list_any}
use Rattle.std.proofs.lemmas.Bool.{false≢true}
use Rattle.std.proofs.lemmas.Bool.Decides.{Decides-eqb, Decides-and}
use Rattle.std.proofs.lemmas.Map.Keys.{apart_from_distinct}
use Rattle.package_sets.specs.KeptSets.{pair_at, pair_eq, positions_from, positions_of}
use Rattle.package_sets.specs.Consistent.{AreDistinctPairs}
use Rattle.package_sets.specs.SymbolChains.{second_of, last_below}
use Rattle.package_sets.proofs.Chaining.{below_or, last_is}
use Rattle.package_sets.proofs.Places.{any_none, position_is}

-- two pairs are one exactly where they pass the test
same_pair : (h j : ℕ) (p : ℕ × ℕ) → pair_eq (h, j) p ≡ true → (h ≡ p.0) × (j ≡ p.1)
same_pair h j p = (Decides-and (nat_eq h p.0) (nat_eq j p.1) (Decides-eqb h p.0) (Decides-eqb j p.1)).0

one_pair : (h j : ℕ) (p : ℕ × ℕ) → h ≡ p.0 → j ≡ p.1 → pair_eq (h, j) p ≡ true
one_pair h j p first second = (Decides-and (nat_eq h p.0) (nat_eq j p.1) (Decides-eqb h p.0) (Decides-eqb j p.1)).1 (first, second)

module _ (ps : List (ℕ × ℕ)) (h j : ℕ) where
  -- what is sought is below `last`, which has the name
  pub record IsLeft (last : ℕ) : Type 0 where
    pub all : (x : ℕ) → x < length ps → pair_eq (h, j) (pair_at ps x) ≡ true → x < last
    pub fits : last ≤ length ps
    pub named : (x : ℕ) → last ≡ suc x → second_of ps x ≡ j

  pub left_first : IsLeft (last_below (second_of ps) j (length ps))
  left_first =
      let last : ℕ = last_below (second_of ps) j (length ps) in
      let is = last_is (second_of ps) j (length ps) in
      record {
        all = λ x within same. elim (below_or x last) as (λ _. x < last) [
          | inl less ↦ less
          | inr more ↦ absurd (is.past x more within (sym (same_pair h j (pair_at ps x) same).1))
        ];
        fits = is.below;
        named = is.there;
      }

  pub left_none : IsLeft 0 → position (pair_eq (h, j)) ps ≡ None
  left_none left = any_none (pair_eq (h, j)) ps (nowhere ps (λ x within. differs x within (pair_eq (h, j) (pair_at ps x)) refl)) where
    differs : (x : ℕ) → x < length ps → (b : Bool) → pair_eq (h, j) (pair_at ps x) ≡ b → pair_eq (h, j) (pair_at ps x) ≡ false
    differs x within true is = let less = left.all x within is in absurd (omega (arith, less))
    differs x within false is = is

    nowhere : (qs : List (ℕ × ℕ)) → ((x : ℕ) → x < length qs → pair_eq (h, j) (pair_at qs x) ≡ false) → list_any (pair_eq (h, j)) qs ≡ false
    nowhere [] none = refl
    nowhere (q ∷ qs) none = ap (λ b. b || list_any (pair_eq (h, j)) qs) (none 0 (omega arith)) ∙ nowhere qs (λ x within. none (suc x) (omega (arith, within)))

  module _ (last place : ℕ) (left : IsLeft last) (is : last ≡ suc place) where
    pub left_hit : AreDistinctPairs ps → (pair_at ps place).0 ≡ h → position (pair_eq (h, j)) ps ≡ Some place
    left_hit distinct home =
        let within : place < length ps = (let fits = left.fits in omega (arith, fits, is)) in
        let here : pair_at ps place ≡ (h, j) = λ i. (home i, left.named place is i) in
        position_is (pair_eq (h, j)) ps place (0, 0) within
        (λ k before. apart k (apart_from_distinct pair_eq ps k place (0, 0) distinct before within))
        (one_pair h j (pair_at ps place) (sym home) (sym (left.named place is)))
      where
        apart : (k : ℕ) → pair_eq (pair_at ps k) (pair_at ps place) ≡ false → pair_eq (h, j) (pair_at ps k) ≡ false
        apart k differs = by (pair_eq (h, j) (pair_at ps k)) refl where
          by : (b : Bool) → pair_eq (h, j) (pair_at ps k) ≡ b → pair_eq (h, j) (pair_at ps k) ≡ false
          by true same =
              let one = same_pair h j (pair_at ps k) same in
              absurd (false≢true (sym differs ∙ one_pair (pair_at ps k).0 (pair_at ps k).1 (pair_at ps place) (sym one.0 ∙ sym home) (sym one.1 ∙ sym (left.named place is))))
          by false same = same

    pub left_next : ((pair_at ps place).0 ≡ h → ⊥) → IsLeft (last_below (second_of ps) (second_of ps place) place)
    left_next other =
        let next : ℕ = last_below (second_of ps) (second_of ps place) place in
        let here = last_is (second_of ps) (second_of ps place) place in
        record {
          all = λ x within same. elim (below_or x next) as (λ _. x < next) [
            | inl less ↦ less
            | inr more ↦ absurd (
                let below = left.all x within same in
                let one = same_pair h j (pair_at ps x) same in
                elim (below_or x place) as (λ _. ⊥) [
                  | inl less ↦ here.past x more less (sym one.1 ∙ sym (left.named place is))
                  | inr after ↦
                      let at : x ≡ place = omega (arith, after, below, is) in
                      other (ap (λ y. (pair_at ps y).0) (sym at) ∙ sym one.0)
                ]
                )
          ];
          fits = (let below = here.below in let fits = left.fits in omega (arith, below, fits, is));
          named = λ x same. here.there x same ∙ left.named place is;
        }

-- a number that begins no pair
no_first : (f i : ℕ) (ps : List (ℕ × ℕ)) (n : ℕ) → length (positions_from f i ps) ≡ 0 → list_any (pair_eq (f, n)) ps ≡ false
unfolding positions_from
no_first f i [] n none = refl
no_first f i (p ∷ ps) n none = by (nat_eq p.0 f) refl none (no_first f (i + 1) ps n) where
  by : (b : Bool) → nat_eq p.0 f ≡ b → length (cond b (i ∷ positions_from f (i + 1) ps) (positions_from f (i + 1) ps)) ≡ 0
      → (length (positions_from f (i + 1) ps) ≡ 0 → list_any (pair_eq (f, n)) ps ≡ false) → (pair_eq (f, n) p || list_any (pair_eq (f, n)) ps) ≡ false
  by true is none rest = absurd (omega (arith, none))
  by false is none rest =
      let differs : nat_eq f p.0 ≡ false = grind arith in
      ap (λ b. (b && nat_eq n p.1) || list_any (pair_eq (f, n)) ps) differs ∙ rest none

pub no_imports : (f n : ℕ) (ps : List (ℕ × ℕ)) → length (positions_of f ps) ≡ 0 → position (pair_eq (f, n)) ps ≡ None
no_imports f n ps none = any_none (pair_eq (f, n)) ps (no_first f 0 ps n none)
