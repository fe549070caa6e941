-- What a package inherits, looked for where a symbol of the name is external.
--     inherited_hit      an external symbol of a package that is used is what is inherited
--     inherited_none      where there is none, and COMMON-LISP and KEYWORD have none, nothing is inherited
use Rattle.std.proofs.Common.{◌≡◌, ◌<◌, ℕ, zero, suc, Bool, true, false, cond, ◌&&◌, ◌||◌, nat_lt, is_some, [], length, position, Option, None, Some, bytes_eq, refl, sym, ap, ◌∙◌, inr, arith}
use Rattle.std.proofs.lemmas.Bool.{false≢true, and_from}
use Rattle.std.proofs.lemmas.List.Quantifiers.{position-Some}
use Rattle.std.specs.List.{list_any}
use Rattle.package_sets.specs.KeptSets.{Kept, name_at, pair_at, pair_eq, positions_of}
use Rattle.package_sets.specs.Consistent.{IsGood}
use Rattle.package_sets.specs.InheritedNames.{IsInheritedSymbol}
use Rattle.package_sets.proofs.Growing.{pair_equiv}
use Rattle.package_table.specs.Table.{Name, Finds, AreUsesSound}
use Rattle.package_table.specs.Meaning.{number_in, is_shown_in, home_in, shown_number, first_shown, numbered_of}
use Rattle.package_table.proofs.Names.{same_some, none_some}
use Rattle.package_table.proofs.Meant.{known, home_fits, pair_there, same_pair}
use Rattle.package_table.proofs.FoundBy.{any_at, all_any, position_in, position_of, position_some, positions_have, positions_read, shows, first_is, first_none, shown_by, present_by, uses_by, finds_inherited}

some_there : (o : Option ℕ) → is_some o ≡ true → (x : ℕ) × (o ≡ Some x)
some_there None none = absurd (false≢true none)
some_there (Some x) some = (x, refl)

module _ (k : Kept) (good : IsGood k) where
  -- two symbols of one name and one home are one
  one_symbol : (i o j : ℕ) → i < length k.symbols → o < length k.symbols → (pair_at k.symbols i).1 ≡ j → (pair_at k.symbols o).1 ≡ j → home_in k i ≡ home_in k o → i ≡ o
  one_symbol i o j i_in o_in i_named o_named same =
      let h : ℕ = (pair_at k.symbols i).0 in
      let g : ℕ = (pair_at k.symbols o).0 in
      let homes : h ≡ g = same_some h g (
      sym (position_of k.packages good.distinct.packages h (home_fits k good i i_in))
      ∙ ap (λ (n : Name). position (bytes_eq n) k.packages) same
      ∙ position_of k.packages good.distinct.packages g (home_fits k good o o_in)
      ) in
      let pairs : pair_at k.symbols i ≡ pair_at k.symbols o = λ t. (homes t, (i_named ∙ sym o_named) t) in
      same_some i o (
      sym (position_in pair_equiv k.symbols (0, 0) good.distinct.symbols i i_in)
      ∙ ap (λ (p : ℕ × ℕ). position (pair_eq p) k.symbols) pairs
      ∙ position_in pair_equiv k.symbols (0, 0) good.distinct.symbols o o_in
      )

  module _ (p j : ℕ) where
    -- a package that is used, and what it has external
    record IsUsed (i : ℕ) : Type 0 where
      pub q : ℕ
      pub x : ℕ
      pub used : position (pair_eq (p, q)) k.uses ≡ Some x
      pub shown : shown_number k q j ≡ Some i

    first_used : (i : ℕ) → first_shown k j (positions_of p k.uses) ≡ Some i → IsUsed i
    first_used i is =
        let first = first_is k j (positions_of p k.uses) i is in
        let y : ℕ = first.0 in
        let q : ℕ = (pair_at k.uses y).1 in
        let at = all_any (λ x. (x < length k.uses) × ((pair_at k.uses x).0 ≡ p)) (positions_of p k.uses) (positions_read p k.uses [] k.uses 0 refl refl) y first.1 in
        let pair : pair_eq (p, q) (pair_at k.uses y) ≡ true = ap (λ (a : ℕ). pair_eq (a, q) (pair_at k.uses y)) (sym at.1) ∙ same_pair (pair_at k.uses y) in
        let taken = position_some (pair_eq (p, q)) k.uses y (0, 0) at.0 pair in
        record { q = q; x = taken.0; used = taken.1; shown = first.2 }

    -- what is shown is a symbol of that name
    shown_symbol_known : (i : ℕ) (u : IsUsed i) → (i < length k.symbols) × ((pair_at k.symbols i).1 ≡ j)
    shown_symbol_known i u = let at = known k good u.q j i (shows k u.q j i u.shown).0 in (at.symbol, at.named_so)

    module _ (joined : AreUsesSound (numbered_of k).0) (p_in : p < length k.packages) (j_in : j < length k.names) where
      finds_used : (i : ℕ) → IsUsed i → Finds (numbered_of k).0 (name_at k.packages p) (name_at k.names j) (home_in k i)
      finds_used i u =
          let here = position_of k.packages good.distinct.packages p p_in in
          let there = position_of k.names good.distinct.names j j_in in
          let Q : Name = name_at k.packages u.q in
          let at = pair_there (length k.packages) (length k.packages) k.uses good.within.uses (p, u.q) u.x u.used in
          let found_q = position_of k.packages good.distinct.packages u.q at.3 in
          let is = shows k u.q j i u.shown in
          inr (
            Q,
            uses_by k good (name_at k.packages p) Q p u.q u.x here found_q u.used,
            shown_by k good Q (name_at k.names j) u.q j found_q there i is.0 is.1,
            present_by k good Q (name_at k.names j) u.q j found_q there i is.0,
          )

      one_used : (i o : ℕ) → IsUsed i → IsUsed o → i ≡ o
      one_used i o u v =
          let a = shown_symbol_known i u in
          let b = shown_symbol_known o v in
          one_symbol i o j a.0 b.0 a.1 b.1
          (joined.one (name_at k.packages p) (name_at k.names j) (home_in k i) (home_in k o) (finds_used i u) (finds_used o v))

      pub inherited_hit : (q i : ℕ) → is_some (position (pair_eq (p, q)) k.uses) ≡ true → shown_number k q j ≡ Some i → first_shown k j (positions_of p k.uses) ≡ Some i
      inherited_hit q i used shown =
          let taken = some_there (position (pair_eq (p, q)) k.uses) used in
          let u : IsUsed i = record { q = q; x = taken.0; used = taken.1; shown = shown } in
          elim (first_shown k j (positions_of p k.uses)) as (λ o. first_shown k j (positions_of p k.uses) ≡ o → o ≡ Some i) [
            | None ↦ λ none. absurd (
                let at = position-Some (pair_eq (p, q)) k.uses taken.0 (0, 0) taken.1 in
                let among = any_at (pair_eq (p, q)) k.uses taken.0 (0, 0) at.0 at.1 in
                let has = positions_have p q k.uses [] k.uses 0 refl refl among in
                none_some i (sym (first_none k j (positions_of p k.uses) none has.0 has.1) ∙ ap (λ (u : ℕ × ℕ). shown_number k u.1 j) has.2 ∙ shown)
                )
            | Some o ↦ λ is. ap Some (one_used o i (first_used o is) u)
          ] refl

    locked_none : (is_some (position (pair_eq (p, 0)) k.uses) && is_some (number_in k 0 j)) ≡ false
        → (is_some (position (pair_eq (p, 1)) k.uses) && is_some (number_in k 1 j)) ≡ false
        → (q : ℕ) → q < 2 → (is_some (position (pair_eq (p, q)) k.uses) && is_some (number_in k q j)) ≡ false
    locked_none lisp keyword zero less = lisp
    locked_none lisp keyword (suc zero) less = keyword
    locked_none lisp keyword (suc (suc q)) less = absurd (omega (arith, less))

    pub inherited_none : ((x : ℕ) → IsInheritedSymbol k p j x → ⊥)
        → (is_some (position (pair_eq (p, 0)) k.uses) && is_some (number_in k 0 j)) ≡ false
        → (is_some (position (pair_eq (p, 1)) k.uses) && is_some (number_in k 1 j)) ≡ false
        → first_shown k j (positions_of p k.uses) ≡ None
    inherited_none none lisp keyword =
        elim (first_shown k j (positions_of p k.uses)) as (λ o. first_shown k j (positions_of p k.uses) ≡ o → o ≡ None) [
          | None ↦ λ _. refl
          | Some i ↦ λ is. absurd (no_use i (first_used i is))
        ] refl
      where
        no_use : (i : ℕ) → IsUsed i → ⊥
        no_use i u =
            let is = shows k u.q j i u.shown in
            elim (nat_lt u.q 2) as (λ b. nat_lt u.q 2 ≡ b → (b || is_some (position (pair_eq (u.q, i)) k.externals)) ≡ true → ⊥) [
              | true ↦ λ low _.
                  let less : u.q < 2 = grind arith in
                  false≢true (sym (locked_none lisp keyword u.q less) ∙ and_from _ _ (ap is_some u.used) (ap is_some is.0))
              | false ↦ λ _ shown.
                  let taken = some_there (position (pair_eq (u.q, i)) k.externals) shown in
                  let at = pair_there (length k.packages) (length k.symbols) k.externals good.within.externals (u.q, i) taken.0 taken.1 in
                  none taken.0 (record {
                    external = at.0;
                    named = ap (λ (e : ℕ × ℕ). (pair_at k.symbols e.1).1) (sym at.1) ∙ (shown_symbol_known i u).1;
                    used = ap (λ (e : ℕ × ℕ). is_some (position (pair_eq (p, e.0)) k.uses)) (sym at.1) ∙ ap is_some u.used;
                  })
            ] refl is.1
