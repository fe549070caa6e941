-- Slots of rows, and the trees that count them.
--     there-append, gone-append, there_and_gone      slots after one another
--     counted-short, counted-lower, counted-higher      a tree of another depth
--     node, node-back      a slot of a tree, and the trees beside it
--     middle, gone_parts, gone_fits, tree_fits      the slot in the middle of a tree, and how many are gone
--     in_front, in_middle, behind      where a property is: before it, there, or after it
--     counted-any, tree-any, whole-half, tree-half, tree-join      a tree of any size that the slots fit
--     tree-nil, whole-double, next_middle, next_half, next_lower, after_long      one slot more
--     gone_under, place_behind      how many are gone before a place
--     slots-front      a slot less
use Rattle.std.proofs.Common.{◌≡◌, ℕ, zero, suc, ◌+◌, ◌/◌, ◌%◌, ◌≤◌, ◌<◌, ◌-◌, ◌*◌, true, false, cond, List, [], ◌∷◌, ◌++◌, length, take, drop, refl, sym, ap, subst, ◌∙◌, arith}
use Rattle.std.proofs.lemmas.Bool.Decides.{nat_tests}
use Rattle.std.proofs.Math.ListN.{drop_of_length-le}
use Rattle.std.proofs.Math.Seq.{take-append_seam, drop-append_seam, take-append-add}
use Rattle.std.proofs.lemmas.List.{take-append-drop, length-append, length-take-le, length-drop, length_push, append_assoc}
use Rattle.std.specs.List.{slice_index_or}
use Rattle.property_rows.specs.declared.slot.Slot.{Slot}
use Rattle.property_rows.specs.Slots.{is_gone, property_in, present_properties, gone_in, slot_at, whole_tree_length, IsNode, AreSlotsCounted, IsTree, IsTreeSize, IsSlots}

pub there-append : (a b : List Slot) → present_properties (a ++ b) ≡ present_properties a ++ present_properties b
there-append [] b = refl
there-append (s ∷ a) b =
    elim (is_gone s) as (λ g. cond g (present_properties (a ++ b)) (property_in s ∷ present_properties (a ++ b)) ≡ cond g (present_properties a) (property_in s ∷ present_properties a) ++ present_properties b) [
      | true ↦ there-append a b
      | false ↦ ap (λ ps. property_in s ∷ ps) (there-append a b)
    ]

pub gone-append : (a b : List Slot) → gone_in (a ++ b) ≡ gone_in a + gone_in b
gone-append [] b = omega arith
gone-append (s ∷ a) b = let e = gone-append a b in omega (arith, e)

pub there_and_gone : (slots : List Slot) → length (present_properties slots) + gone_in slots ≡ length slots
there_and_gone [] = refl
there_and_gone (s ∷ ss) =
    let e = there_and_gone ss in
    elim (is_gone s) as (λ g. is_gone s ≡ g → length (cond g (present_properties ss) (property_in s ∷ present_properties ss)) + (s.gone % 2 + gone_in ss) ≡ suc (length ss)) [
      | true ↦ λ t. grind (arith, nat_tests, t, e)
      | false ↦ λ t. grind (arith, nat_tests, t, e)
    ] refl

-- ---- trees of another depth
short_node : (d : ℕ) (before rest : List Slot) → ((slots : List Slot) → AreSlotsCounted d slots → length slots ≤ whole_tree_length d) → IsNode (AreSlotsCounted d) before rest → length rest ≤ suc (whole_tree_length d)
short_node d before [] short node = omega arith
short_node d before (s ∷ ss) short node = let e = short ss node.1 in omega (arith, e)

pub counted-short : (d : ℕ) (slots : List Slot) → AreSlotsCounted d slots → length slots ≤ whole_tree_length d
counted-short zero slots counted = let e = ap length counted in omega (arith, e)
counted-short (suc d) slots counted =
    let front = counted-short d (take (whole_tree_length d) slots) counted.0 in
    let back = short_node d (take (whole_tree_length d) slots) (drop (whole_tree_length d) slots) (counted-short d) counted.1 in
    let long = ap length (take-append-drop (whole_tree_length d) slots) in
    let both = length-append (take (whole_tree_length d) slots) (drop (whole_tree_length d) slots) in
    omega (arith, front, back, long, both)

-- all of a short list
take_all : (n : ℕ) (slots : List Slot) → length slots ≤ n → take n slots ≡ slots
take_all zero [] le = refl
take_all zero (s ∷ ss) le = absurd (omega (arith, le))
take_all (suc n) [] le = refl
take_all (suc n) (s ∷ ss) le = ap (λ ts. s ∷ ts) (take_all n ss (omega (arith, le)))

pub counted-lower : (d : ℕ) (slots : List Slot) → length slots ≤ whole_tree_length d → AreSlotsCounted (suc d) slots → AreSlotsCounted d slots
counted-lower d slots le counted = subst (AreSlotsCounted d) (take_all (whole_tree_length d) slots le) counted.0

pub counted-higher : (d : ℕ) (slots : List Slot) → AreSlotsCounted d slots → AreSlotsCounted (suc d) slots
counted-higher d slots counted =
    let le = counted-short d slots counted in (
      subst (AreSlotsCounted d) (sym (take_all (whole_tree_length d) slots le)) counted,
      subst (IsNode (AreSlotsCounted d) (take (whole_tree_length d) slots)) (sym (drop_of_length-le slots le)) tt,
    )

-- ---- a slot, and the trees beside it
pub node : (d : ℕ) (l : List Slot) (s : Slot) (r : List Slot) → length l ≡ whole_tree_length d → AreSlotsCounted (suc d) (l ++ s ∷ r)
    → AreSlotsCounted d l × (s.gone / 2 ≡ gone_in l) × AreSlotsCounted d r
node d l s r long counted =
    let front : take (whole_tree_length d) (l ++ s ∷ r) ≡ l = subst (λ n. take n (l ++ s ∷ r) ≡ l) long (take-append_seam l (s ∷ r)) in
    let back : drop (whole_tree_length d) (l ++ s ∷ r) ≡ s ∷ r = subst (λ n. drop n (l ++ s ∷ r) ≡ s ∷ r) long (drop-append_seam l (s ∷ r)) in
    let here : (s.gone / 2 ≡ gone_in l) × AreSlotsCounted d r = subst (λ (ts : List Slot × List Slot). IsNode (AreSlotsCounted d) ts.0 ts.1) (λ i. (front i, back i)) counted.1 in
    (subst (AreSlotsCounted d) front counted.0, here.0, here.1)

pub node-back : (d : ℕ) (l : List Slot) (s : Slot) (r : List Slot) → length l ≡ whole_tree_length d → AreSlotsCounted d l → s.gone / 2 ≡ gone_in l → AreSlotsCounted d r
    → AreSlotsCounted (suc d) (l ++ s ∷ r)
node-back d l s r long before count after =
    let front : take (whole_tree_length d) (l ++ s ∷ r) ≡ l = subst (λ n. take n (l ++ s ∷ r) ≡ l) long (take-append_seam l (s ∷ r)) in
    let back : drop (whole_tree_length d) (l ++ s ∷ r) ≡ s ∷ r = subst (λ n. drop n (l ++ s ∷ r) ≡ s ∷ r) long (drop-append_seam l (s ∷ r)) in (
      subst (AreSlotsCounted d) (sym front) before,
      subst (λ (ts : List Slot × List Slot). IsNode (AreSlotsCounted d) ts.0 ts.1) (λ i. (sym front i, sym back i)) (count, after),
    )

-- ---- where a property is
pub slot_at-front : (a b : List Slot) (i : ℕ) → suc i ≤ length (present_properties a) → slot_at (a ++ b) i ≡ slot_at a i
slot_at-front [] b i le = absurd (omega (arith, le))
slot_at-front (s ∷ a) b zero le =
    elim (is_gone s) as (λ g. suc zero ≤ length (cond g (present_properties a) (property_in s ∷ present_properties a)) → cond g (suc (slot_at (a ++ b) zero)) 0 ≡ cond g (suc (slot_at a zero)) 0) [
      | true ↦ λ le. ap suc (slot_at-front a b zero le)
      | false ↦ λ le. refl
    ] le
slot_at-front (s ∷ a) b (suc i) le =
    elim (is_gone s) as (λ g. suc (suc i) ≤ length (cond g (present_properties a) (property_in s ∷ present_properties a)) → suc (slot_at (a ++ b) (cond g (suc i) i)) ≡ suc (slot_at a (cond g (suc i) i))) [
      | true ↦ λ le. ap suc (slot_at-front a b (suc i) le)
      | false ↦ λ le. ap suc (slot_at-front a b i (omega (arith, le)))
    ] le

-- ---- the middle of a tree of a size
split_at : (slots : List Slot) (k : ℕ) (d : Slot) → suc k ≤ length slots → take k slots ++ slice_index_or slots k d ∷ drop (suc k) slots ≡ slots
split_at [] k d le = absurd (omega (arith, le))
split_at (s ∷ ss) zero d le = refl
split_at (s ∷ ss) (suc k) d le = ap (λ ts. s ∷ ts) (split_at ss k d (omega (arith, le)))

-- a slot of a tree, and what is before it and after it
pub record Parts (size : ℕ) (slots : List Slot) (s : Slot) (after : List Slot) : Type 0 where
  pub before : IsTree size (take size slots)
  pub count : s.gone / 2 ≡ gone_in (take size slots)
  pub later : IsTree size after
  pub whole : take size slots ++ s ∷ after ≡ slots

parts_of : (d size : ℕ) (slots : List Slot) (s : Slot) (after : List Slot) → size ≡ whole_tree_length d → suc size ≤ length slots → take size slots ++ s ∷ after ≡ slots → AreSlotsCounted (suc d) slots
    → Parts size slots s after
parts_of d size slots s after is le whole counted =
    let long : length (take size slots) ≡ whole_tree_length d = length-take-le size slots (omega (arith, le)) ∙ is in
    let at = node d (take size slots) s after long (subst (AreSlotsCounted (suc d)) (sym whole) counted) in
    record {
      before = record { depth = d; whole = is; counted = at.0 };
      count = at.1;
      later = record { depth = d; whole = is; counted = at.2 };
      whole = whole;
    }

pub parts : (size : ℕ) (slots : List Slot) (s : Slot) (after : List Slot) → (size ≡ 0 → ⊥) → suc (size / 2) ≤ length slots → take (size / 2) slots ++ s ∷ after ≡ slots → IsTree size slots
    → Parts (size / 2) slots s after
parts size slots s after some le whole tree =
    elim tree.depth as (λ d. size ≡ whole_tree_length d → AreSlotsCounted d slots → Parts (size / 2) slots s after) [
      | zero ↦ λ is counted. absurd (some is)
      | suc d ↦ λ is counted. parts_of d (size / 2) slots s after (omega (arith, is)) le whole counted
    ] tree.whole tree.counted

pub gone_parts : (size : ℕ) (slots : List Slot) (s : Slot) (after : List Slot) → Parts size slots s after → s.gone / 2 + s.gone % 2 + gone_in after ≡ gone_in slots
gone_parts size slots s after p =
    let e = ap gone_in p.whole in
    let f = gone-append (take size slots) (s ∷ after) in
    let g = p.count in
    omega (arith, e, f, g)

pub gone_short : (slots : List Slot) → gone_in slots ≤ length slots
gone_short slots = let e = there_and_gone slots in omega (arith, e)

after_is : (k : ℕ) (slots : List Slot) → take (length slots - (k + 1)) (drop (k + 1) slots) ≡ drop (suc k) slots
after_is k slots =
    let long = length-drop (k + 1) slots in
    take_all (length slots - (k + 1)) (drop (k + 1) slots) (omega (arith, long)) ∙ ap (λ n. drop n slots) (let e : k + 1 ≡ suc k = omega arith in e)

pub middle : (size : ℕ) (slots : List Slot) (d : Slot) → (size ≡ 0 → ⊥) → size / 2 < length slots → IsTree size slots
    → Parts (size / 2) slots (slice_index_or slots (size / 2) d) (take (length slots - (size / 2 + 1)) (drop (size / 2 + 1) slots))
middle size slots d some less tree =
    parts size slots (slice_index_or slots (size / 2) d) (take (length slots - (size / 2 + 1)) (drop (size / 2 + 1) slots)) some (omega (arith, less))
    (ap (λ ts. take (size / 2) slots ++ slice_index_or slots (size / 2) d ∷ ts) (after_is (size / 2) slots) ∙ split_at slots (size / 2) d (omega (arith, less))) tree

pub gone_fits : (size : ℕ) (slots : List Slot) → IsTree size slots → gone_in slots ≤ size
gone_fits size slots tree =
    let long = counted-short tree.depth slots tree.counted in
    let gone = there_and_gone slots in
    let is = tree.whole in
    omega (arith, long, gone, is)

-- ---- where a property is, past some slots
slot_at-past : (a b : List Slot) (i j : ℕ) → j ≡ length (present_properties a) + i → slot_at (a ++ b) j ≡ length a + slot_at b i
slot_at-past [] b i j e =
    let same : j ≡ i = omega (arith, e) in
    ap (slot_at b) same ∙ (let none : slot_at b i ≡ 0 + slot_at b i = omega arith in none)
slot_at-past (s ∷ a) b i zero e =
    elim (is_gone s) as (λ g. 0 ≡ length (cond g (present_properties a) (property_in s ∷ present_properties a)) + i → cond g (suc (slot_at (a ++ b) zero)) 0 ≡ suc (length a) + slot_at b i) [
      | true ↦ λ e. let h = slot_at-past a b i zero e in omega (arith, h)
      | false ↦ λ e. absurd (omega (arith, e))
    ] e
slot_at-past (s ∷ a) b i (suc j) e =
    elim (is_gone s) as (λ g. suc j ≡ length (cond g (present_properties a) (property_in s ∷ present_properties a)) + i → suc (slot_at (a ++ b) (cond g (suc j) j)) ≡ suc (length a) + slot_at b i) [
      | true ↦ λ e. let h = slot_at-past a b i (suc j) e in omega (arith, h)
      | false ↦ λ e. let h = slot_at-past a b i j (omega (arith, e)) in omega (arith, h)
    ] e

pub slot_short : (slots : List Slot) (i : ℕ) → slot_at slots i ≤ length slots
slot_short [] i = omega arith
slot_short (s ∷ ss) zero =
    elim (is_gone s) as (λ g. cond g (suc (slot_at ss zero)) 0 ≤ suc (length ss)) [
      | true ↦ let h = slot_short ss zero in omega (arith, h)
      | false ↦ omega arith
    ]
slot_short (s ∷ ss) (suc i) = let h = slot_short ss (cond (is_gone s) (suc i) i) in omega (arith, h)

module _ (size : ℕ) (slots : List Slot) (s : Slot) (after : List Slot) (p : Parts size slots s after) (le : size < length slots) where
  front_long : length (take size slots) ≡ size
  front_long = length-take-le size slots (omega (arith, le))

  pub half_gone : s.gone / 2 ≤ size
  half_gone = let a = gone_fits size (take size slots) p.before in let b = p.count in omega (arith, a, b)

  before_is : length (present_properties (take size slots)) + s.gone / 2 ≡ size
  before_is = let a = there_and_gone (take size slots) in let b = p.count in let c = front_long in omega (arith, a, b, c)

  pub in_front : (i : ℕ) → i < size - s.gone / 2 → slot_at (take size slots) i ≡ slot_at slots i
  in_front i less =
      let a = before_is in
      sym (slot_at-front (take size slots) (s ∷ after) i (omega (arith, a, less))) ∙ ap (λ ts. slot_at ts i) p.whole

  past : (i j : ℕ) → j ≡ size - s.gone / 2 + i → slot_at slots j ≡ size + slot_at (s ∷ after) i
  past i j e =
      let a = before_is in
      let b = front_long in
      let c = slot_at-past (take size slots) (s ∷ after) i j (omega (arith, a, e)) in
      let d = ap (λ ts. slot_at ts j) p.whole in
      omega (arith, b, c, d)

  pub in_middle : (i : ℕ) → i ≡ size - s.gone / 2 → s.gone % 2 ≡ 0 → size ≡ slot_at slots i
  in_middle i e there =
      let is : is_gone s ≡ false = grind (arith, nat_tests, there) in
      let h = past zero i (omega (arith, e)) in
      let z : slot_at (s ∷ after) zero ≡ 0 = ap (λ g. cond g (suc (slot_at after zero)) 0) is in
      omega (arith, h, z)

  gone_first : is_gone s ≡ true → (i : ℕ) → slot_at (s ∷ after) i ≡ suc (slot_at after i)
  gone_first is zero = ap (λ g. cond g (suc (slot_at after zero)) 0) is
  gone_first is (suc i) = ap (λ g. suc (slot_at after (cond g (suc i) i))) is

  there_first : is_gone s ≡ false → (i : ℕ) → slot_at (s ∷ after) (suc i) ≡ suc (slot_at after i)
  there_first is i = ap (λ g. suc (slot_at after (cond g (suc i) i))) is

  -- past the middle, which is gone, or is not what is asked for
  pub behind : (i : ℕ) → size - s.gone / 2 ≤ i → (i ≡ size - s.gone / 2 → s.gone % 2 ≡ 0 → ⊥)
      → size + 1 + slot_at after (i - (size - s.gone / 2) - (1 - s.gone % 2)) ≡ slot_at slots i
  behind i le other =
      elim (is_gone s) as (λ g. is_gone s ≡ g → size + 1 + slot_at after (i - (size - s.gone / 2) - (1 - s.gone % 2)) ≡ slot_at slots i) [
        | true ↦ λ is.
            let one : s.gone % 2 ≡ 1 = grind (arith, nat_tests, is) in
            let k : i - (size - s.gone / 2) - (1 - s.gone % 2) ≡ i - (size - s.gone / 2) = omega (arith, one) in
            let e = ap (slot_at after) k in
            let h = past (i - (size - s.gone / 2)) i (omega (arith, le)) in
            let f = gone_first is (i - (size - s.gone / 2)) in
            omega (arith, e, h, f)
        | false ↦ λ is.
            let none : s.gone % 2 ≡ 0 = grind (arith, nat_tests, is) in
            let k = i - (size - s.gone / 2) - (1 - s.gone % 2) in
            let more : i ≡ size - s.gone / 2 + suc k = grind (arith, le, none, other) in
            let h = past (suc k) i more in
            let f = there_first is k in
            omega (arith, h, f)
      ] refl

pub tree_fits : (size : ℕ) (slots : List Slot) → IsTree size slots → length slots ≤ size
tree_fits size slots tree = let long = counted-short tree.depth slots tree.counted in let is = tree.whole in omega (arith, long, is)

-- ---- a tree of any size that the slots fit
abbrev raise : ℕ → ℕ → ℕ
raise zero d = d
raise (suc k) d = suc (raise k d)

raise_is : (k d : ℕ) → raise k d ≡ k + d
raise_is zero d = omega arith
raise_is (suc k) d = let e = raise_is k d in omega (arith, e)

full_grows : (k d : ℕ) → whole_tree_length d ≤ whole_tree_length (raise k d)
full_grows zero d = omega arith
full_grows (suc k) d = let e = full_grows k d in omega (arith, e)

higher : (k d : ℕ) (slots : List Slot) → AreSlotsCounted d slots → AreSlotsCounted (raise k d) slots
higher zero d slots counted = counted
higher (suc k) d slots counted = counted-higher (raise k d) slots (higher k d slots counted)

lower : (k d : ℕ) (slots : List Slot) → length slots ≤ whole_tree_length d → AreSlotsCounted (raise k d) slots → AreSlotsCounted d slots
lower zero d slots le counted = counted
lower (suc k) d slots le counted =
    let more = full_grows k d in
    lower k d slots le (counted-lower (raise k d) slots (omega (arith, le, more)) counted)

pub counted-any : (d e : ℕ) (slots : List Slot) → length slots ≤ whole_tree_length e → AreSlotsCounted d slots → AreSlotsCounted e slots
counted-any d e slots le counted =
    let one = raise_is e d in
    let two = raise_is d e in
    let both : raise e d ≡ raise d e = omega (arith, one, two) in
    lower d e slots le (subst (λ n. AreSlotsCounted n slots) both (higher e d slots counted))

pub tree-any : (size other : ℕ) (slots : List Slot) → IsTreeSize other → length slots ≤ other → IsTree size slots → IsTree other slots
tree-any size other slots whole le tree =
    let is = whole.whole in
    record { depth = whole.depth; whole = is; counted = counted-any tree.depth whole.depth slots (omega (arith, le, is)) tree.counted }

pub tree-whole : (size : ℕ) (slots : List Slot) → IsTree size slots → IsTreeSize size
tree-whole size slots tree = record { depth = tree.depth; whole = tree.whole }

pub whole-half : (size : ℕ) → (size ≡ 0 → ⊥) → IsTreeSize size → IsTreeSize (size / 2)
whole-half size some whole =
    elim whole.depth as (λ d. size ≡ whole_tree_length d → IsTreeSize (size / 2)) [
      | zero ↦ λ is. absurd (some is)
      | suc d ↦ λ is. record { depth = d; whole = omega (arith, is) }
    ] whole.whole

pub tree-half : (size : ℕ) (slots : List Slot) → (size ≡ 0 → ⊥) → length slots ≤ size / 2 → IsTree size slots → IsTree (size / 2) slots
tree-half size slots some le tree = tree-any size (size / 2) slots (whole-half size some (tree-whole size slots tree)) le tree

-- a slot, and the trees beside it, are a tree
pub tree-join : (size : ℕ) (l : List Slot) (s : Slot) (r : List Slot) → (size ≡ 0 → ⊥) → IsTreeSize size → length l ≡ size / 2 → IsTree (size / 2) l → s.gone / 2 ≡ gone_in l → IsTree (size / 2) r
    → IsTree size (l ++ s ∷ r)
tree-join size l s r some whole long before count after =
    elim whole.depth as (λ d. size ≡ whole_tree_length d → IsTree size (l ++ s ∷ r)) [
      | zero ↦ λ is. absurd (some is)
      | suc d ↦ λ is.
          let half : size / 2 ≡ whole_tree_length d = omega (arith, is) in
          let short = tree_fits (size / 2) r after in
          record {
            depth = suc d;
            whole = is;
            counted = node-back d l s r (long ∙ half) (counted-any before.depth d l (omega (arith, long, half)) before.counted) count
                (counted-any after.depth d r (omega (arith, short, half)) after.counted);
          }
    ] whole.whole

pub tree-nil : (size : ℕ) → IsTreeSize size → IsTree size []
tree-nil size whole = record { depth = whole.depth; whole = whole.whole; counted = counted-any zero whole.depth [] (omega arith) refl }

pub whole-double : (size : ℕ) → IsTreeSize size → IsTreeSize (2 * size + 1)
whole-double size whole = let is = whole.whole in record { depth = suc whole.depth; whole = omega (arith, is) }

-- one slot more
pub next_middle : (size : ℕ) (slots : List Slot) (d s : Slot) → (size ≡ 0 → ⊥) → size / 2 < length slots → IsTree size slots
    → IsTree (size / 2) (take (length slots - (size / 2 + 1)) (drop (size / 2 + 1) slots) ++ s ∷ []) → IsTree size (slots ++ s ∷ [])
next_middle size slots d s some less tree next =
    let p = middle size slots d some less tree in
    let m : Slot = slice_index_or slots (size / 2) d in
    let after : List Slot = take (length slots - (size / 2 + 1)) (drop (size / 2 + 1) slots) in
    subst (IsTree size) (sym (append_assoc (take (size / 2) slots) (m ∷ after) (s ∷ [])) ∙ ap (λ ts. ts ++ s ∷ []) p.whole)
    (tree-join size (take (size / 2) slots) m (after ++ s ∷ []) some (tree-whole size slots tree) (length-take-le (size / 2) slots (omega (arith, less))) p.before p.count next)

pub next_half : (size : ℕ) (slots : List Slot) (s : Slot) → (size ≡ 0 → ⊥) → length slots ≡ size / 2 → IsTree size slots → s.gone ≡ 2 * gone_in slots → IsTree size (slots ++ s ∷ [])
next_half size slots s some long tree count =
    tree-join size slots s [] some (tree-whole size slots tree) long (tree-half size slots some (omega (arith, long)) tree) (omega (arith, count)) (tree-nil (size / 2) (whole-half size some (tree-whole size slots tree)))

pub next_lower : (size : ℕ) (slots : List Slot) (s : Slot) → length slots < size → IsTree size slots → IsTree (size / 2) (slots ++ s ∷ []) → IsTree size (slots ++ s ∷ [])
next_lower size slots s less tree next =
    let long = length_push slots s in
    tree-any (size / 2) size (slots ++ s ∷ []) (tree-whole size slots tree) (omega (arith, long, less)) next

pub after_long : (k : ℕ) (slots : List Slot) → length (take (length slots - (k + 1)) (drop (k + 1) slots)) ≡ length slots - suc k
after_long k slots = ap length (after_is k slots) ∙ length-drop (suc k) slots

-- ---- how many are gone before a place
pub gone_under : (slots : List Slot) (k : ℕ) → k ≤ length slots → length (present_properties (take k slots)) + gone_in (take k slots) ≡ k
gone_under slots k le = there_and_gone (take k slots) ∙ length-take-le k slots le

pub place_behind : (size : ℕ) (slots : List Slot) (s : Slot) (after : List Slot) → Parts size slots s after → size < length slots → (k j : ℕ) → k ≡ size + suc j
    → s.gone / 2 + s.gone % 2 + gone_in (take j after) ≡ gone_in (take k slots)
place_behind size slots s after p le k j e =
    let long = length-take-le size slots (omega (arith, le)) in
    let is : k ≡ length (take size slots) + suc j = omega (arith, e, long) in
    let whole : gone_in (take k slots) ≡ gone_in (take size slots ++ s ∷ take j after) =
    ap (λ ts. gone_in (take k ts)) (sym p.whole) ∙ ap (λ n. gone_in (take n (take size slots ++ s ∷ after))) is ∙ ap gone_in (take-append-add (take size slots) (s ∷ after) (suc j)) in
    let sum = gone-append (take size slots) (s ∷ take j after) in
    let count = p.count in
    omega (arith, whole, sum, count)

-- ---- a slot less
-- a part of the second list is cut off only where all of the first one is
record Cut (n : ℕ) (a b : List Slot) : Type 0 where
  pub more : List Slot
  pub rest : List Slot
  pub take_is : take n (a ++ b) ≡ take n a ++ more
  pub drop_is : drop n (a ++ b) ≡ drop n a ++ rest
  pub none : (length (drop n a) ≡ 0 → ⊥) → more ≡ []

cut : (n : ℕ) (a b : List Slot) → Cut n a b
cut zero a b = record { more = []; rest = b; take_is = refl; drop_is = refl; none = λ _. refl }
cut (suc n) [] b = record { more = take (suc n) b; rest = drop (suc n) b; take_is = refl; drop_is = refl; none = λ some. absurd (some refl) }
cut (suc n) (s ∷ a) b =
    let c = cut n a b in
    record { more = c.more; rest = c.rest; take_is = ap (λ ts. s ∷ ts) c.take_is; drop_is = c.drop_is; none = c.none }

node_front : (d : ℕ) (before more rest b : List Slot) → ((x y : List Slot) → AreSlotsCounted d (x ++ y) → AreSlotsCounted d x) → ((length rest ≡ 0 → ⊥) → more ≡ [])
    → IsNode (AreSlotsCounted d) (before ++ more) (rest ++ b) → IsNode (AreSlotsCounted d) before rest
node_front d before more [] b each none node = tt
node_front d before more (s ∷ ss) b each none node =
    let empty = ap gone_in (none (λ e. omega (arith, e))) in
    let count : s.gone / 2 ≡ gone_in (before ++ more) = node.0 in
    let sum = gone-append before more in
    (omega (arith, count, sum, empty), each ss b node.1)

counted-front : (d : ℕ) (a b : List Slot) → AreSlotsCounted d (a ++ b) → AreSlotsCounted d a
counted-front zero [] b counted = refl
counted-front zero (s ∷ a) b counted = absurd (let e = ap length counted in omega (arith, e))
counted-front (suc d) a b counted =
    let c = cut (whole_tree_length d) a b in (
      counted-front d (take (whole_tree_length d) a) c.more (subst (AreSlotsCounted d) c.take_is counted.0),
      node_front d (take (whole_tree_length d) a) c.more (drop (whole_tree_length d) a) c.rest (counted-front d) c.none
          (subst (λ (ts : List Slot × List Slot). IsNode (AreSlotsCounted d) ts.0 ts.1) (λ i. (c.take_is i, c.drop_is i)) counted.1),
    )

full_over : (d : ℕ) → d ≤ whole_tree_length d
full_over zero = omega arith
full_over (suc d) = let e = full_over d in omega (arith, e)

pub slots-front : (a b : List Slot) → IsSlots (a ++ b) → IsSlots a
slots-front a b are =
    let long = length-append a b in
    let few = are.few in
    let d = length (a ++ b) in
    record { counted = λ e le. counted-any d e a le (counted-front d a b (are.counted d (full_over d))); few = omega (arith, long, few) }
