-- Slots that are packed, and slots that are written.
--     packed-there, packed-long      what is there goes on, in slots that count nothing
--     uncounted-none, uncounted-there, uncounted-counted, uncounted-slots      slots that count nothing
--     slots-tree, tree-slots      trees of slots
--     gone-same, counted-same, slots-same, counts-set      slots of the same counts
--     map-insert      `map` over `insert`
--     placed, unplaced, all_there, search_there      `position`, and a search where none is gone
--     forgets_next      counts that are forgotten one by one
use Rattle.std.proofs.Common.{◌≡◌, ◌≢◌, ℕ, zero, suc, ◌+◌, ◌/◌, ◌%◌, ◌==◌, ◌≤◌, ◌<◌, true, false, not, cond, Some, None, List, [], ◌∷◌, ◌++◌, map, length, take, drop, get_or, set, refl, sym, ap, subst, ◌∙◌, arith}
use Rattle.std.specs.List.{insert, filter, position, position_from}
use Rattle.std.proofs.lemmas.Bool.Decides.{nat_tests}
use Rattle.std.proofs.lemmas.Iterator.Adapters.{position_from-zero}
use Rattle.std.proofs.lemmas.List.{length-map, length-take, length-drop, length-append}
use Rattle.property_rows.specs.declared.slot.Slot.{Slot}
use Rattle.property_rows.specs.declared.property.NumberedProperty.{NumberedProperty}
use Rattle.property_rows.specs.Slots.{is_gone, property_in, present_properties, gone_in, whole_tree_length, most_slots, IsNode, AreSlotsCounted, IsTree, IsTreeSize, IsSlots, uncounted_slot, slots_there, has, no_property}
use Rattle.property_rows.proofs.Counted.{counted-any}

pub packed-there : (slots : List Slot) → present_properties (slots_there slots) ≡ present_properties slots
packed-there [] = refl
packed-there (s ∷ ss) =
    elim (is_gone s) as (λ g. present_properties (map uncounted_slot (cond (not g) (s ∷ filter (λ s. not (is_gone s)) ss) (filter (λ s. not (is_gone s)) ss))) ≡ cond g (present_properties ss) (property_in s ∷ present_properties ss)) [
      | true ↦ packed-there ss
      | false ↦ ap (λ ps. property_in s ∷ ps) (packed-there ss)
    ]

pub packed-long : (slots : List Slot) → length (slots_there slots) ≡ length (present_properties slots)
packed-long [] = refl
packed-long (s ∷ ss) =
    elim (is_gone s) as (λ g. length (map uncounted_slot (cond (not g) (s ∷ filter (λ s. not (is_gone s)) ss) (filter (λ s. not (is_gone s)) ss))) ≡ length (cond g (present_properties ss) (property_in s ∷ present_properties ss))) [
      | true ↦ packed-long ss
      | false ↦ ap suc (packed-long ss)
    ]

pub uncounted-none : (slots : List Slot) → gone_in (map uncounted_slot slots) ≡ 0
uncounted-none [] = refl
uncounted-none (s ∷ ss) = let e = uncounted-none ss in omega (arith, e)

pub uncounted-there : (slots : List Slot) → present_properties (map uncounted_slot slots) ≡ map property_in slots
uncounted-there [] = refl
uncounted-there (s ∷ ss) = ap (λ ps. property_in s ∷ ps) (uncounted-there ss)

take-uncounted : (n : ℕ) (slots : List Slot) → map uncounted_slot (take n slots) ≡ take n (map uncounted_slot slots)
take-uncounted zero slots = refl
take-uncounted (suc n) [] = refl
take-uncounted (suc n) (s ∷ ss) = ap (λ ts. uncounted_slot s ∷ ts) (take-uncounted n ss)

drop-uncounted : (n : ℕ) (slots : List Slot) → map uncounted_slot (drop n slots) ≡ drop n (map uncounted_slot slots)
drop-uncounted zero slots = refl
drop-uncounted (suc n) [] = refl
drop-uncounted (suc n) (s ∷ ss) = drop-uncounted n ss

uncounted_node : (d : ℕ) (before rest : List Slot) → ((slots : List Slot) → length slots ≤ whole_tree_length d → AreSlotsCounted d (map uncounted_slot slots)) → gone_in before ≡ 0 → length rest ≤ suc (whole_tree_length d)
    → IsNode (AreSlotsCounted d) before (map uncounted_slot rest)
uncounted_node d before [] each none le = tt
uncounted_node d before (s ∷ ss) each none le = (sym none, each ss (omega (arith, le)))

pub uncounted-counted : (d : ℕ) (slots : List Slot) → length slots ≤ whole_tree_length d → AreSlotsCounted d (map uncounted_slot slots)
uncounted-counted zero [] le = refl
uncounted-counted zero (s ∷ ss) le = absurd (omega (arith, le))
uncounted-counted (suc d) slots le =
    let front = length-take (whole_tree_length d) slots in
    let back = length-drop (whole_tree_length d) slots in
    let none : gone_in (take (whole_tree_length d) (map uncounted_slot slots)) ≡ 0 = ap gone_in (sym (take-uncounted (whole_tree_length d) slots)) ∙ uncounted-none (take (whole_tree_length d) slots) in (
      subst (AreSlotsCounted d) (take-uncounted (whole_tree_length d) slots) (uncounted-counted d (take (whole_tree_length d) slots) (grind (arith, front))),
      subst (IsNode (AreSlotsCounted d) (take (whole_tree_length d) (map uncounted_slot slots))) (drop-uncounted (whole_tree_length d) slots)
          (uncounted_node d (take (whole_tree_length d) (map uncounted_slot slots)) (drop (whole_tree_length d) slots) (uncounted-counted d) none (omega (arith, back, le))),
    )

pub uncounted-slots : (slots : List Slot) → length slots ≤ most_slots → IsSlots (map uncounted_slot slots)
uncounted-slots slots few =
    let long = length-map slots uncounted_slot in
    record { counted = λ d le. uncounted-counted d slots (omega (arith, le, long)); few = omega (arith, few, long) }

-- ---- trees of slots
pub slots-tree : (size : ℕ) (slots : List Slot) → IsTreeSize size → length slots ≤ size → IsSlots slots → IsTree size slots
slots-tree size slots whole le slots_are =
    let is = whole.whole in
    record { depth = whole.depth; whole = is; counted = slots_are.counted whole.depth (omega (arith, le, is)) }

pub tree-slots : (size : ℕ) (slots : List Slot) → length slots ≤ most_slots → IsTree size slots → IsSlots slots
tree-slots size slots few tree = record { counted = λ d le. counted-any tree.depth d slots le tree.counted; few = few }

-- ---- slots of the same counts
abbrev pub counts : List Slot → List ℕ
counts slots = map (λ (s : Slot). s.gone) slots

counts-take : (n : ℕ) (slots : List Slot) → counts (take n slots) ≡ take n (counts slots)
counts-take zero slots = refl
counts-take (suc n) [] = refl
counts-take (suc n) (s ∷ ss) = ap (λ ns. s.gone ∷ ns) (counts-take n ss)

counts-drop : (n : ℕ) (slots : List Slot) → counts (drop n slots) ≡ drop n (counts slots)
counts-drop zero slots = refl
counts-drop (suc n) [] = refl
counts-drop (suc n) (s ∷ ss) = counts-drop n ss

abbrev gone_sum : List ℕ → ℕ
gone_sum [] = 0
gone_sum (n ∷ ns) = n % 2 + gone_sum ns

gone_sum-is : (slots : List Slot) → gone_in slots ≡ gone_sum (counts slots)
gone_sum-is [] = refl
gone_sum-is (s ∷ ss) = let e = gone_sum-is ss in omega (arith, e)

pub gone-same : (a b : List Slot) → counts a ≡ counts b → gone_in a ≡ gone_in b
gone-same a b e = gone_sum-is a ∙ ap gone_sum e ∙ sym (gone_sum-is b)

node-same : (d : ℕ) (before before_too rest rest_too : List Slot) → gone_in before ≡ gone_in before_too → counts rest ≡ counts rest_too
    → ((x y : List Slot) → counts x ≡ counts y → AreSlotsCounted d x → AreSlotsCounted d y) → IsNode (AreSlotsCounted d) before rest → IsNode (AreSlotsCounted d) before_too rest_too
node-same d before before_too [] [] gone e each node = tt
node-same d before before_too [] (t ∷ ts) gone e each node = absurd (let l = ap length e in omega (arith, l))
node-same d before before_too (s ∷ ss) [] gone e each node = tt
node-same d before before_too (s ∷ ss) (t ∷ ts) gone e each node =
    let first : s.gone ≡ t.gone = ap (λ ns. get_or ns zero zero) e in
    let count : s.gone / 2 ≡ gone_in before = node.0 in
    (omega (arith, first, count, gone), each ss ts (ap (drop (suc zero)) e) node.1)

pub counted-same : (d : ℕ) (a b : List Slot) → counts a ≡ counts b → AreSlotsCounted d a → AreSlotsCounted d b
counted-same zero a [] e counted = refl
counted-same zero a (t ∷ ts) e counted = absurd (let l : length (counts []) ≡ length (counts (t ∷ ts)) = ap (λ ss. length (counts ss)) (sym counted) ∙ ap length e in omega (arith, l))
counted-same (suc d) a b e counted =
    let front : counts (take (whole_tree_length d) a) ≡ counts (take (whole_tree_length d) b) = counts-take (whole_tree_length d) a ∙ ap (take (whole_tree_length d)) e ∙ sym (counts-take (whole_tree_length d) b) in
    let back : counts (drop (whole_tree_length d) a) ≡ counts (drop (whole_tree_length d) b) = counts-drop (whole_tree_length d) a ∙ ap (drop (whole_tree_length d)) e ∙ sym (counts-drop (whole_tree_length d) b) in (
      counted-same d (take (whole_tree_length d) a) (take (whole_tree_length d) b) front counted.0,
      node-same d (take (whole_tree_length d) a) (take (whole_tree_length d) b) (drop (whole_tree_length d) a) (drop (whole_tree_length d) b) (gone-same (take (whole_tree_length d) a) (take (whole_tree_length d) b) front) back (counted-same d) counted.1,
    )

pub slots-same : (a b : List Slot) → counts a ≡ counts b → IsSlots a → IsSlots b
slots-same a b e slots =
    let long : length a ≡ length b = sym (length-map a (λ (s : Slot). s.gone)) ∙ ap length e ∙ length-map b (λ (s : Slot). s.gone) in
    record { counted = λ d le. counted-same d a b e (slots.counted d (omega (arith, le, long))); few = (let few = slots.few in omega (arith, few, long)) }

pub counts-set : (slots : List Slot) (k : ℕ) (s t : Slot) → k < length slots → s ≡ get_or slots k s → t.gone ≡ s.gone → counts slots ≡ counts (set slots k t)
counts-set [] k s t le is same = absurd (omega (arith, le))
counts-set (u ∷ us) zero s t le is same = ap (λ n. n ∷ counts us) (sym (ap (λ (v : Slot). v.gone) is) ∙ sym same)
counts-set (u ∷ us) (suc k) s t le is same = ap (λ ns. u.gone ∷ ns) (counts-set us k s t (omega (arith, le)) is same)

pub map-insert : {A B : Type 0} (f : A → B) (xs : List A) (i : ℕ) (x : A) → map f (insert xs i x) ≡ insert (map f xs) i (f x)
map-insert f xs zero x = refl
map-insert f [] (suc i) x = refl
map-insert f (y ∷ ys) (suc i) x = ap (λ l. f y ∷ l) (map-insert f ys i x)

-- the properties of an index and of a search
abbrev pub indicator_at : List NumberedProperty → ℕ → ℕ
indicator_at items k = (get_or items k no_property).indicator

placed_from : (items : List NumberedProperty) (i k n : ℕ) → k < length items → indicator_at items k ≡ i → ((j : ℕ) → j < k → indicator_at items j ≢ i) → position_from (has i) n items ≡ Some (n + k)
placed_from [] i k n less is none = absurd (omega (arith, less))
placed_from (p ∷ ps) i zero n less is none =
    let here : has i p ≡ true = grind (arith, nat_tests, is) in
    ap (λ b. cond b (Some n) (position_from (has i) (n + 1) ps)) here ∙ ap Some (omega arith)
placed_from (p ∷ ps) i (suc k) n less is none =
    let other : has i p ≡ false = grind (arith, nat_tests, none 0 (omega arith)) in
    ap (λ b. cond b (Some n) (position_from (has i) (n + 1) ps)) other
    ∙ placed_from ps i k (n + 1) (omega (arith, less)) is (λ j lt. none (suc j) (omega (arith, lt)))
    ∙ ap Some (omega arith)

pub placed : (items : List NumberedProperty) (i k : ℕ) → k < length items → indicator_at items k ≡ i → ((j : ℕ) → j < k → indicator_at items j ≢ i) → position (has i) items ≡ Some k
placed items i k less is none = position_from-zero (has i) items ∙ placed_from items i k 0 less is none ∙ ap Some (omega arith)

unplaced_from : (items : List NumberedProperty) (i n : ℕ) → ((k : ℕ) → k < length items → indicator_at items k ≢ i) → position_from (has i) n items ≡ None
unplaced_from [] i n none = refl
unplaced_from (p ∷ ps) i n none =
    let other : has i p ≡ false = grind (arith, nat_tests, none 0 (omega arith)) in
    ap (λ b. cond b (Some n) (position_from (has i) (n + 1) ps)) other
    ∙ unplaced_from ps i (n + 1) (λ k lt. none (suc k) (omega (arith, lt)))

pub unplaced : (items : List NumberedProperty) (i : ℕ) → ((k : ℕ) → k < length items → indicator_at items k ≢ i) → position (has i) items ≡ None
unplaced items i none = position_from-zero (has i) items ∙ unplaced_from items i 0 none

-- none is gone
pub all_there : (slots : List Slot) → gone_in slots ≡ 0 → present_properties slots ≡ map property_in slots
all_there [] none = refl
all_there (s ∷ ss) none =
    let is : is_gone s ≡ false = grind (arith, nat_tests, none) in
    ap (λ g. cond g (present_properties ss) (property_in s ∷ present_properties ss)) is ∙ ap (λ ps. property_in s ∷ ps) (all_there ss (omega (arith, none)))

search_from : (slots : List Slot) (i n : ℕ) → position_from (λ (s : Slot). i == s.indicator) n slots ≡ position_from (has i) n (map property_in slots)
search_from [] i n = refl
search_from (s ∷ ss) i n = ap (cond (i == s.indicator) (Some n)) (search_from ss i (n + 1))

pub search_there : (slots : List Slot) (i : ℕ) → gone_in slots ≡ 0 → position (λ (s : Slot). i == s.indicator) slots ≡ position (has i) (present_properties slots)
search_there slots i none =
    position_from-zero (λ (s : Slot). i == s.indicator) slots ∙ search_from slots i 0 ∙ sym (position_from-zero (has i) (map property_in slots)) ∙ ap (position (has i)) (sym (all_there slots none))

-- ---- counts that are forgotten one by one
pub forgets : (slots : List Slot) (k : ℕ) (d : Slot) → k < length slots → set (map uncounted_slot (take k slots) ++ drop k slots) k (uncounted_slot (get_or slots k d)) ≡ map uncounted_slot (take (suc k) slots) ++ drop (suc k) slots
forgets [] k d le = absurd (omega (arith, le))
forgets (s ∷ ss) zero d le = refl
forgets (s ∷ ss) (suc k) d le = ap (λ ts. uncounted_slot s ∷ ts) (forgets ss k d (omega (arith, le)))

reads : (slots : List Slot) (k : ℕ) (d : Slot) → get_or (map uncounted_slot (take k slots) ++ drop k slots) k d ≡ get_or slots k d
reads [] zero d = refl
reads [] (suc k) d = refl
reads (s ∷ ss) zero d = refl
reads (s ∷ ss) (suc k) d = reads ss k d

pub forgets_next : (slots later : List Slot) (k : ℕ) (s : Slot) → later ≡ map uncounted_slot (take k slots) ++ drop k slots → k < length later → s ≡ get_or later k s
    → set later k (uncounted_slot s) ≡ map uncounted_slot (take (k + 1) slots) ++ drop (k + 1) slots
forgets_next slots later k s e le read =
    let long = ap length e in
    let parts = length-append (map uncounted_slot (take k slots)) (drop k slots) in
    let front = length-map (take k slots) uncounted_slot in
    let short = length-take k slots in
    let rest = length-drop k slots in
    let within : k < length slots = grind (arith, long, parts, front, short, rest, le) in
    let one : suc k ≡ k + 1 = omega arith in
    ap (λ l. set l k (uncounted_slot s)) e ∙ ap (λ t. set (map uncounted_slot (take k slots) ++ drop k slots) k (uncounted_slot t)) (read ∙ ap (λ l. get_or l k s) e ∙ reads slots k s)
    ∙ forgets slots k s within ∙ ap (λ n. map uncounted_slot (take n slots) ++ drop n slots) one
