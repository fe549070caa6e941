-- A search for an external symbol of a name, from the last one to those before it.
--     sought_first, sought_next      the places that are left
--     sought_hit, sought_end      where it ends
use Rattle.std.proofs.Common.{◌≡◌, ◌<◌, ◌≤◌, inl, inr, ℕ, suc, true, false, is_some, length, position, sym, ap, ◌∙◌, arith}
use Rattle.std.proofs.lemmas.Bool.{false≢true}
use Rattle.package_sets.specs.KeptSets.{Kept, pair_at, pair_eq}
use Rattle.package_sets.specs.SymbolChains.{external_name, last_below}
use Rattle.package_sets.specs.InheritedNames.{IsInheritedSymbol}
use Rattle.package_sets.proofs.Chaining.{below_or, last_is}

-- what is sought is below `last`, which has the name
pub record IsSought (k : Kept) (p j last : ℕ) : Type 0 where
  pub all : (x : ℕ) → IsInheritedSymbol k p j x → x < last
  pub fits : last ≤ length k.externals
  pub named : (x : ℕ) → last ≡ suc x → external_name k.symbols k.externals x ≡ j

module _ (k : Kept) (p j : ℕ) where
  pub sought_first : IsSought k p j (last_below (external_name k.symbols k.externals) j (length k.externals))
  sought_first =
      let last : ℕ = last_below (external_name k.symbols k.externals) j (length k.externals) in
      let is = last_is (external_name k.symbols k.externals) j (length k.externals) in
      record {
        all = λ x inherited. elim (below_or x last) as (λ _. x < last) [
          | inl less ↦ less
          | inr more ↦ absurd (is.past x more inherited.external inherited.named)
        ];
        fits = is.below;
        named = is.there;
      }

  pub sought_end : IsSought k p j 0 → (x : ℕ) → IsInheritedSymbol k p j x → ⊥
  sought_end sought x inherited = let less = sought.all x inherited in absurd (omega (arith, less))

  module _ (last place : ℕ) (sought : IsSought k p j last) (is : last ≡ suc place) where
    pub sought_hit : is_some (position (pair_eq (p, (pair_at k.externals place).0)) k.uses) ≡ true → IsInheritedSymbol k p j place
    sought_hit used = record {
      external = (let fits = sought.fits in omega (arith, fits, is));
      named = sought.named place is;
      used = used;
    }

    pub sought_next : is_some (position (pair_eq (p, (pair_at k.externals place).0)) k.uses) ≡ false
        → IsSought k p j (last_below (external_name k.symbols k.externals) (external_name k.symbols k.externals place) place)
    sought_next unused =
        let next : ℕ = last_below (external_name k.symbols k.externals) (external_name k.symbols k.externals place) place in
        let here = last_is (external_name k.symbols k.externals) (external_name k.symbols k.externals place) place in
        record {
          all = λ x inherited. elim (below_or x next) as (λ _. x < next) [
            | inl less ↦ less
            | inr more ↦ absurd (
                let below = sought.all x inherited in
                elim (below_or x place) as (λ _. ⊥) [
                  | inl less ↦ here.past x more less (inherited.named ∙ sym (sought.named place is))
                  | inr after ↦
                      let at : x ≡ place = omega (arith, after, below, is) in
                      false≢true (sym unused ∙ ap (λ y. is_some (position (pair_eq (p, (pair_at k.externals y).0)) k.uses)) (sym at) ∙ inherited.used)
                ]
                )
          ];
          fits = (let below = here.below in let fits = sought.fits in omega (arith, below, fits, is));
          named = λ x same. here.there x same ∙ sought.named place is;
        }
