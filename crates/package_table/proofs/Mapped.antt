-- Finite maps that are given by the positions of names.
--     got      what is at a name
--     same, put, more, more_put      where another function gives the same, or something else at one name, or there is a name more
use Rattle.std.proofs.Common.{◌≡◌, ◌≢◌, ◌+◌, ◌<◌, ℕ, suc, Bool, true, false, cond, not, nat_lt, List, [], ◌∷◌, ◌++◌, length, get_or, position, Option, None, Some, option_map, option_and_then, bytes_eq, refl, sym, ap, subst, ◌∙◌, is_some, one-add, add-one, arith}
use Rattle.std.proofs.lemmas.Bool.{false≢true}
use Rattle.std.specs.Option.{option_or}
use Rattle.std.specs.List.{position_or_len, IsDistinct, AllByRecursion, cons_option}
use Rattle.std.specs.Cmp.Lexicographic.{texts_ties, nat_list_eq_equiv}
use Rattle.std.proofs.lemmas.List.Quantifiers.{position-Some}
use Rattle.std.proofs.lemmas.Map.Keys.{IsDistinct-push}
use Rattle.std.specs.FinMap as finite
use Rattle.std.specs.FinMap.Entries.{find}
use Rattle.package_sets.proofs.Places.{none_any}
use Rattle.package_table.specs.Table.{Name, name_cmp}
use Rattle.package_table.specs.Meaning.{entries_by_position, map_by}
use Rattle.package_table.proofs.Names.{name_total, name_exact}
use Rattle.package_table.proofs.Frames.{equal_names, equal_itself}

-- ---- positions
module _ {X : Type 0} (p : X → Bool) where
  less_suc : (a b : ℕ) → nat_lt (1 + a) (suc b) ≡ nat_lt a b
  less_suc a b =
      elim (nat_lt a b) as (λ c. nat_lt a b ≡ c → nat_lt (1 + a) (suc b) ≡ c) [
        | true ↦ λ less. grind arith
        | false ↦ λ more. grind arith
      ] refl

  pub position_cons : (x : X) (xs : List X) → position p (x ∷ xs) ≡ cond (p x) (Some 0) (option_map (λ i. 1 + i) (position p xs))
  position_cons x xs =
      elim (p x) as (λ b. cond (nat_lt (cond (not b) (1 + position_or_len p xs) 0) (suc (length xs))) (Some (cond (not b) (1 + position_or_len p xs) 0)) None ≡ cond b (Some 0) (option_map (λ i. 1 + i) (position p xs))) [
        | true ↦ ap (λ b. cond b (Some 0) None) first
        | false ↦ ap (λ b. cond b (Some (1 + position_or_len p xs)) None) (less_suc (position_or_len p xs) (length xs)) ∙ chosen (nat_lt (position_or_len p xs) (length xs))
      ]
    where
      first : nat_lt 0 (suc (length xs)) ≡ true
      first = grind arith

      chosen : (b : Bool) → cond b (Some (1 + position_or_len p xs)) None ≡ option_map (λ i. 1 + i) (cond b (Some (position_or_len p xs)) None)
      chosen true = refl
      chosen false = refl

  pub position_push : (xs : List X) (y : X) → position p (xs ++ y ∷ []) ≡ option_or (position p xs) (cond (p y) (Some (length xs)) None)
  position_push [] y = position_cons y []
  position_push (x ∷ xs) y =
      position_cons x (xs ++ y ∷ [])
      ∙ ap (λ o. cond (p x) (Some 0) (option_map (λ i. 1 + i) o)) (position_push xs y)
      ∙ later (p x) (p y) (position p xs)
      ∙ sym (ap (λ o. option_or o (cond (p y) (Some (suc (length xs))) None)) (position_cons x xs))
    where
      later : (a b : Bool) (o : Option ℕ) → cond a (Some 0) (option_map (λ i. 1 + i) (option_or o (cond b (Some (length xs)) None)))
          ≡ option_or (cond a (Some 0) (option_map (λ i. 1 + i) o)) (cond b (Some (suc (length xs))) None)
      later true b o = refl
      later false b (Some i) = refl
      later false true None = ap Some (one-add (length xs))
      later false false None = refl

-- the name at the position that it was found at
pub named : (q : Name) (ns : List Name) (i : ℕ) → position (bytes_eq q) ns ≡ Some i → (i < length ns) × (q ≡ get_or ns i [])
named q ns i is = let at = position-Some (bytes_eq q) ns i [] is in (at.0, equal_names q (get_or ns i []) at.1)

module _ {X : Type 0} where
  -- a name that is none of these
  absent : (q : Name) (ns : List Name) (f : ℕ → Option X) → AllByRecursion (λ n. bytes_eq q n ≡ false) ns → find name_cmp q (entries_by_position ns f) ≡ None
  unfolding entries_by_position
  absent q [] f apart = refl
  absent q (n ∷ ns) f apart =
      elim (f 0) as (λ o. find name_cmp q (cons_option (option_map (λ x. (n, x)) o) (entries_by_position ns (λ i. f (1 + i)))) ≡ None) [
        | None ↦ absent q ns (λ i. f (1 + i)) apart.1
        | Some x ↦ ap (λ b. cond b (Some x) (find name_cmp q (entries_by_position ns (λ i. f (1 + i))))) (sym (texts_ties q n) ∙ apart.0) ∙ absent q ns (λ i. f (1 + i)) apart.1
      ]

  pub found_by : (q : Name) (ns : List Name) (f : ℕ → Option X) → IsDistinct bytes_eq ns → find name_cmp q (entries_by_position ns f) ≡ option_and_then f (position (bytes_eq q) ns)
  unfolding entries_by_position IsDistinct
  found_by q [] f distinct = refl
  found_by q (n ∷ ns) f distinct =
      elim (bytes_eq q n) as (λ b. bytes_eq q n ≡ b → find name_cmp q (entries_by_position (n ∷ ns) f) ≡ option_and_then f (cond b (Some 0) (option_map (λ i. 1 + i) (position (bytes_eq q) ns)))) [
        | true ↦ λ same. here same
        | false ↦ λ differs. skipped differs (f 0) ∙ found_by q ns (λ i. f (1 + i)) distinct.1 ∙ shifted (position (bytes_eq q) ns)
      ] refl
      ∙ sym (ap (option_and_then f) (position_cons (bytes_eq q) n ns))
    where
      here : bytes_eq q n ≡ true → find name_cmp q (cons_option (option_map (λ x. (n, x)) (f 0)) (entries_by_position ns (λ i. f (1 + i)))) ≡ f 0
      here same =
          elim (f 0) as (λ o. find name_cmp q (cons_option (option_map (λ x. (n, x)) o) (entries_by_position ns (λ i. f (1 + i)))) ≡ o) [
            | None ↦ absent q ns (λ i. f (1 + i)) (subst (λ r. AllByRecursion (λ n. bytes_eq r n ≡ false) ns) (sym (equal_names q n same)) distinct.0)
            | Some x ↦ ap (λ b. cond b (Some x) (find name_cmp q (entries_by_position ns (λ i. f (1 + i))))) (sym (texts_ties q n) ∙ same)
          ]

      skipped : bytes_eq q n ≡ false → (o : Option X) → find name_cmp q (cons_option (option_map (λ x. (n, x)) o) (entries_by_position ns (λ i. f (1 + i)))) ≡ find name_cmp q (entries_by_position ns (λ i. f (1 + i)))
      skipped differs None = refl
      skipped differs (Some x) = ap (λ b. cond b (Some x) (find name_cmp q (entries_by_position ns (λ i. f (1 + i))))) (sym (texts_ties q n) ∙ differs)

      shifted : (o : Option ℕ) → option_and_then (λ i. f (1 + i)) o ≡ option_and_then f (option_map (λ i. 1 + i) o)
      shifted None = refl
      shifted (Some i) = refl

  module _ (ns : List Name) (distinct : IsDistinct bytes_eq ns) where
    pub got : (f : ℕ → Option X) (q : Name) → finite.get (map_by ns f) q ≡ option_and_then f (position (bytes_eq q) ns)
    unfolding map_by
    got f q = finite.get-from_entries name_total (entries_by_position ns f) q ∙ found_by q ns f distinct

    pub got_at : (f : ℕ → Option X) (q : Name) (i : ℕ) → position (bytes_eq q) ns ≡ Some i → finite.get (map_by ns f) q ≡ f i
    got_at f q i is = got f q ∙ ap (option_and_then f) is

    pub got_none : (f : ℕ → Option X) (q : Name) → position (bytes_eq q) ns ≡ None → finite.get (map_by ns f) q ≡ None
    got_none f q none = got f q ∙ ap (option_and_then f) none

    module _ (f g : ℕ → Option X) where
      pub same : ((i : ℕ) → i < length ns → g i ≡ f i) → map_by ns g ≡ map_by ns f
      same alike = finite.same_map name_total name_exact (map_by ns g) (map_by ns f) (λ q.
          got g q
          ∙ elim (position (bytes_eq q) ns) as (λ o. position (bytes_eq q) ns ≡ o → option_and_then g o ≡ option_and_then f o) [
            | None ↦ λ _. refl
            | Some i ↦ λ is. alike i (named q ns i is).0
          ] refl
          ∙ sym (got f q))

      -- something else at one name
      pub put : (n : Name) (p : ℕ) (v : X) → position (bytes_eq n) ns ≡ Some p → ((i : ℕ) → i < length ns → i ≢ p → g i ≡ f i) → g p ≡ Some v → map_by ns g ≡ finite.insert (map_by ns f) n v
      put n p v here alike new = finite.same_map name_total name_exact (map_by ns g) (finite.insert (map_by ns f) n v) (λ q.
          elim (bytes_eq q n) as (λ b. bytes_eq q n ≡ b → finite.get (map_by ns g) q ≡ cond b (Some v) (finite.get (map_by ns f) q)) [
            | true ↦ λ is. got_at g q p (ap (λ r. position (bytes_eq r) ns) (equal_names q n is) ∙ here) ∙ new
            | false ↦ λ differs.
                got g q
                ∙ elim (position (bytes_eq q) ns) as (λ o. position (bytes_eq q) ns ≡ o → option_and_then g o ≡ option_and_then f o) [
                  | None ↦ λ _. refl
                  | Some i ↦ λ is.
                      alike i (named q ns i is).0
                      (λ (at : i ≡ p). false≢true (sym differs ∙ ap (λ r. bytes_eq r n) ((named q ns i is).1 ∙ ap (λ j. get_or ns j []) at ∙ sym (named n ns p here).1) ∙ equal_itself n))
                ] refl
                ∙ sym (got f q)
          ] refl
          ∙ ap (λ b. cond b (Some v) (finite.get (map_by ns f) q)) (texts_ties q n)
          ∙ sym (finite.get-insert name_total (map_by ns f) n v q))

-- one name more
pub distinct_push : (ns : List Name) → IsDistinct bytes_eq ns → (n : Name) → position (bytes_eq n) ns ≡ None → IsDistinct bytes_eq (ns ++ n ∷ [])
distinct_push ns distinct n new = IsDistinct-push nat_list_eq_equiv ns n distinct (none_any (bytes_eq n) ns new)

module _ {X : Type 0} (ns : List Name) (distinct : IsDistinct bytes_eq ns) (n : Name) (new : position (bytes_eq n) ns ≡ None) (f : ℕ → Option X) where
  got_more : (q : Name) → finite.get (map_by (ns ++ n ∷ []) f) q ≡ cond (bytes_eq q n) (f (length ns)) (finite.get (map_by ns f) q)
  got_more q =
      got (ns ++ n ∷ []) (distinct_push ns distinct n new) f q
      ∙ ap (option_and_then f) (position_push (bytes_eq q) ns n)
      ∙ elim (bytes_eq q n) as (λ b. bytes_eq q n ≡ b → option_and_then f (option_or (position (bytes_eq q) ns) (cond b (Some (length ns)) None)) ≡ cond b (f (length ns)) (option_and_then f (position (bytes_eq q) ns))) [
        | true ↦ λ is. ap (λ o. option_and_then f (option_or o (Some (length ns)))) (ap (λ r. position (bytes_eq r) ns) (equal_names q n is) ∙ new)
        | false ↦ λ _. or_none (position (bytes_eq q) ns)
      ] refl
      ∙ ap (cond (bytes_eq q n) (f (length ns))) (sym (got ns distinct f q))
    where
      or_none : (o : Option ℕ) → option_and_then f (option_or o None) ≡ option_and_then f o
      or_none None = refl
      or_none (Some i) = refl

  pub more : f (length ns) ≡ None → map_by (ns ++ n ∷ []) f ≡ map_by ns f
  more none = finite.same_map name_total name_exact (map_by (ns ++ n ∷ []) f) (map_by ns f) (λ q.
      got_more q ∙ ap (λ o. cond (bytes_eq q n) o (finite.get (map_by ns f) q)) none
      ∙ elim (bytes_eq q n) as (λ b. bytes_eq q n ≡ b → cond b None (finite.get (map_by ns f) q) ≡ finite.get (map_by ns f) q) [
        | true ↦ λ is. sym (got_none ns distinct f q (ap (λ r. position (bytes_eq r) ns) (equal_names q n is) ∙ new))
        | false ↦ λ _. refl
      ] refl)

  pub more_put : (v : X) → f (length ns) ≡ Some v → map_by (ns ++ n ∷ []) f ≡ finite.insert (map_by ns f) n v
  more_put v some = finite.same_map name_total name_exact (map_by (ns ++ n ∷ []) f) (finite.insert (map_by ns f) n v) (λ q.
      got_more q ∙ (λ i. cond (texts_ties q n i) (some i) (finite.get (map_by ns f) q))
      ∙ sym (finite.get-insert name_total (map_by ns f) n v q))

-- where nothing is given
pub none_by : {X : Type 0} (ns : List Name) → map_by {X = X} ns (λ _. None) ≡ finite.empty
unfolding map_by entries_by_position
none_by {X = X} ns = ap finite.from_entries (none_among ns)
  where
    none_among : (ns : List Name) → entries_by_position {X = X} ns (λ _. None) ≡ []
    none_among [] = refl
    none_among (n ∷ ns) = none_among ns

-- as many as there are names, where each has something
pub count_by : {X : Type 0} (ns : List Name) (f : ℕ → X) → IsDistinct bytes_eq ns → finite.len (map_by ns (λ i. Some (f i))) ≡ length ns
unfolding map_by IsDistinct entries_by_position
count_by {X = X} [] f distinct = finite.len-empty name_cmp X
count_by (n ∷ ns) f distinct =
    finite.len-insert name_total (finite.from_entries (entries_by_position ns (λ i. Some (f (1 + i))))) n (f 0)
    ∙ ap (λ o. cond (is_some o) (finite.len (finite.from_entries {R = name_cmp} (entries_by_position ns (λ i. Some (f (1 + i)))))) (finite.len (finite.from_entries {R = name_cmp} (entries_by_position ns (λ i. Some (f (1 + i))))) + 1))
    (finite.get-from_entries name_total (entries_by_position ns (λ i. Some (f (1 + i)))) n ∙ absent n ns (λ i. Some (f (1 + i))) distinct.0)
    ∙ ap (λ c. c + 1) (count_by ns (λ i. f (1 + i)) distinct.1) ∙ add-one (length ns)
