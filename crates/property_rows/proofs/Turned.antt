-- A slot of a tree that leaves, or comes back.
--     there_of, gones, there_shown, gone_shown, shown_at      what is there and what is gone, by what slots show
--     set-front, set-mid, set-back, get-front, get-mid, get-back      lists of two parts
--     gone-left, gone-back, gone-some, shown-length      how many are gone, and how many there are
--     in_front_turned, here_turned, behind_turned      the tree afterwards
use Rattle.std.proofs.Common.{◌≡◌, ℕ, zero, suc, ◌+◌, ◌/◌, ◌%◌, ◌==◌, ◌≤◌, ◌<◌, Bool, true, false, not, cond, List, [], ◌∷◌, ◌++◌, map, length, take, get_or, set, refl, sym, ap, subst, ◌∙◌, arith}
use Rattle.std.proofs.lemmas.Bool.Decides.{nat_tests}
use Rattle.std.proofs.Math.Seq.{take-append_seam}
use Rattle.std.proofs.lemmas.List.{length-append, length-map, map-append}
use Rattle.property_rows.specs.declared.slot.Slot.{Slot}
use Rattle.property_rows.specs.declared.property.NumberedProperty.{NumberedProperty}
use Rattle.property_rows.specs.Slots.{is_gone, property_in, present_properties, gone_in, slot_shown, blank, IsTree}
use Rattle.property_rows.proofs.Counted.{Parts, parts, tree-join, tree-whole, tree_fits, gone_short}

abbrev pub Shown : Type 0
Shown = Bool × NumberedProperty

abbrev pub there_of : List Shown → List NumberedProperty
there_of [] = []
there_of (e ∷ es) = cond e.0 (there_of es) (e.1 ∷ there_of es)

abbrev pub gones : List Shown → ℕ
gones [] = 0
gones (e ∷ es) = cond e.0 1 0 + gones es

pub there_shown : (slots : List Slot) → present_properties slots ≡ there_of (map slot_shown slots)
there_shown [] = refl
there_shown (s ∷ ss) =
    elim (is_gone s) as (λ g. cond g (present_properties ss) (property_in s ∷ present_properties ss) ≡ cond g (there_of (map slot_shown ss)) (property_in s ∷ there_of (map slot_shown ss))) [
      | true ↦ there_shown ss
      | false ↦ ap (λ ps. property_in s ∷ ps) (there_shown ss)
    ]

pub gone_shown : (slots : List Slot) → gone_in slots ≡ gones (map slot_shown slots)
gone_shown [] = refl
gone_shown (s ∷ ss) =
    let e = gone_shown ss in
    elim (is_gone s) as (λ g. is_gone s ≡ g → s.gone % 2 + gone_in ss ≡ cond g 1 0 + gones (map slot_shown ss)) [
      | true ↦ λ t. grind (arith, nat_tests, t, e)
      | false ↦ λ t. grind (arith, nat_tests, t, e)
    ] refl

pub shown_at : (slots : List Slot) (k : ℕ) (d : Slot) → get_or (map slot_shown slots) k (slot_shown d) ≡ slot_shown (get_or slots k d)
shown_at [] k d = refl
shown_at (s ∷ ss) zero d = refl
shown_at (s ∷ ss) (suc k) d = shown_at ss k d

-- ---- lists of two parts
module _ {A : Type 0} where
  pub set-front : (a b : List A) (k : ℕ) (x : A) → k < length a → set (a ++ b) k x ≡ set a k x ++ b
  set-front [] b k x h = absurd (omega (arith, h))
  set-front (y ∷ a) b zero x h = refl
  set-front (y ∷ a) b (suc k) x h = ap (λ l. y ∷ l) (set-front a b k x (omega (arith, h)))

  pub set-mid : (a : List A) (y : A) (b : List A) (k : ℕ) (x : A) → k ≡ length a → set (a ++ y ∷ b) k x ≡ a ++ x ∷ b
  set-mid [] y b zero x h = refl
  set-mid [] y b (suc k) x h = absurd (omega (arith, h))
  set-mid (z ∷ a) y b zero x h = absurd (omega (arith, h))
  set-mid (z ∷ a) y b (suc k) x h = ap (λ l. z ∷ l) (set-mid a y b k x (omega (arith, h)))

  pub set-back : (a : List A) (y : A) (b : List A) (k j : ℕ) (x : A) → k ≡ suc (length a) + j → set (a ++ y ∷ b) k x ≡ a ++ y ∷ set b j x
  set-back [] y b zero j x h = absurd (omega (arith, h))
  set-back [] y b (suc k) j x h = let e : k ≡ j = omega (arith, h) in ap (λ n. y ∷ set b n x) e
  set-back (z ∷ a) y b zero j x h = absurd (omega (arith, h))
  set-back (z ∷ a) y b (suc k) j x h = ap (λ l. z ∷ l) (set-back a y b k j x (omega (arith, h)))

  pub get-front : (a b : List A) (k : ℕ) (d : A) → k < length a → get_or (a ++ b) k d ≡ get_or a k d
  get-front [] b k d h = absurd (omega (arith, h))
  get-front (y ∷ a) b zero d h = refl
  get-front (y ∷ a) b (suc k) d h = get-front a b k d (omega (arith, h))

  pub get-mid : (a : List A) (y : A) (b : List A) (k : ℕ) (d : A) → k ≡ length a → get_or (a ++ y ∷ b) k d ≡ y
  get-mid [] y b zero d h = refl
  get-mid [] y b (suc k) d h = absurd (omega (arith, h))
  get-mid (z ∷ a) y b zero d h = absurd (omega (arith, h))
  get-mid (z ∷ a) y b (suc k) d h = get-mid a y b k d (omega (arith, h))

  pub get-back : (a : List A) (y : A) (b : List A) (k j : ℕ) (d : A) → k ≡ suc (length a) + j → get_or (a ++ y ∷ b) k d ≡ get_or b j d
  get-back [] y b zero j d h = absurd (omega (arith, h))
  get-back [] y b (suc k) j d h = let e : k ≡ j = omega (arith, h) in ap (λ n. get_or b n d) e
  get-back (z ∷ a) y b zero j d h = absurd (omega (arith, h))
  get-back (z ∷ a) y b (suc k) j d h = get-back a y b k j d (omega (arith, h))

-- ---- how many are gone
gones-left : (es : List Shown) (k : ℕ) (d : Shown) (q : NumberedProperty) → k < length es → (get_or es k d).0 ≡ false → gones (set es k (true, q)) ≡ suc (gones es)
gones-left [] k d q le is = absurd (omega (arith, le))
gones-left (e ∷ es) zero d q le is = let one : ℕ = 1 in let c : cond e.0 one 0 ≡ 0 = ap (λ b. cond b one 0) is in omega (arith, c)
gones-left (e ∷ es) (suc k) d q le is = let h = gones-left es k d q (omega (arith, le)) is in omega (arith, h)

gones-back : (es : List Shown) (k : ℕ) (d : Shown) (q : NumberedProperty) → k < length es → (get_or es k d).0 ≡ true → suc (gones (set es k (false, q))) ≡ gones es
gones-back [] k d q le is = absurd (omega (arith, le))
gones-back (e ∷ es) zero d q le is = let one : ℕ = 1 in let c : cond e.0 one 0 ≡ 1 = ap (λ b. cond b one 0) is in omega (arith, c)
gones-back (e ∷ es) (suc k) d q le is = let h = gones-back es k d q (omega (arith, le)) is in omega (arith, h)

shown_long : (slots : List Slot) (k : ℕ) → k < length slots → k < length (map slot_shown slots)
shown_long slots k le = let e = length-map slots slot_shown in omega (arith, le, e)

gone_at : (slots : List Slot) (k : ℕ) (b : Bool) → is_gone (get_or slots k blank) ≡ b → (get_or (map slot_shown slots) k (slot_shown blank)).0 ≡ b
gone_at slots k b is = ap (λ (e : Shown). e.0) (shown_at slots k blank) ∙ is

pub gone-left : (a b : List Slot) (k : ℕ) (q : NumberedProperty) → k < length a → is_gone (get_or a k blank) ≡ false → map slot_shown b ≡ set (map slot_shown a) k (true, q) → gone_in b ≡ suc (gone_in a)
gone-left a b k q le is e =
    gone_shown b ∙ ap gones e ∙ gones-left (map slot_shown a) k (slot_shown blank) q (shown_long a k le) (gone_at a k false is) ∙ ap suc (sym (gone_shown a))

pub gone-back : (a b : List Slot) (k : ℕ) (q : NumberedProperty) → k < length a → is_gone (get_or a k blank) ≡ true → map slot_shown b ≡ set (map slot_shown a) k (false, q) → suc (gone_in b) ≡ gone_in a
gone-back a b k q le is e =
    ap suc (gone_shown b ∙ ap gones e) ∙ gones-back (map slot_shown a) k (slot_shown blank) q (shown_long a k le) (gone_at a k true is) ∙ sym (gone_shown a)

pub gone-some : (a : List Slot) (k : ℕ) → k < length a → is_gone (get_or a k blank) ≡ true → 1 ≤ gone_in a
gone-some a k le is =
    let e = gones-back (map slot_shown a) k (slot_shown blank) (property_in blank) (shown_long a k le) (gone_at a k true is) in
    let f = gone_shown a in
    omega (arith, e, f)

length_set : (es : List Shown) (k : ℕ) (x : Shown) → length (set es k x) ≡ length es
length_set [] k x = refl
length_set (e ∷ es) zero x = refl
length_set (e ∷ es) (suc k) x = ap suc (length_set es k x)

pub shown-length : (a b : List Slot) (k : ℕ) (x : Shown) → map slot_shown b ≡ set (map slot_shown a) k x → length b ≡ length a
shown-length a b k x e = sym (length-map b slot_shown) ∙ ap length e ∙ length_set (map slot_shown a) k x ∙ length-map a slot_shown

-- ---- a tree of which a slot is turned
abbrev pub with_gone : Slot → ℕ → Slot
with_gone s g = record { indicator = s.indicator; gone = g; order = s.order; value = s.value }

-- what a count becomes
abbrev pub IsChanged : ℕ → ℕ → ℕ → Bool → Type 0
IsChanged old by new leaves = (leaves ≡ true → new ≡ old + by) × (leaves ≡ false → new + by ≡ old)

abbrev pub Turns : ℕ → List Slot → List Slot → ℕ → Bool → NumberedProperty → Type 0
Turns size old new k leaves q = IsTree size new × (map slot_shown new ≡ set (map slot_shown old) k (leaves, q))

module _ (size : ℕ) (slots front : List Slot) (s : Slot) (after : List Slot) (long : length front ≡ size / 2) (is : slots ≡ front ++ s ∷ after) (tree : IsTree size slots) where
  take_is : take (size / 2) slots ≡ front
  take_is = ap (take (size / 2)) is ∙ subst (λ n. take n (front ++ s ∷ after) ≡ front) long (take-append_seam front (s ∷ after))

  pub lengths : length slots ≡ size / 2 + suc (length after)
  lengths = let e = ap length is in let f = length-append front (s ∷ after) in omega (arith, e, f, long)

  some : size ≡ 0 → ⊥
  some none = let e = lengths in let f = tree_fits size slots tree in omega (arith, e, f, none)

  here : Parts (size / 2) slots s after
  here = let e = lengths in parts size slots s after some (omega (arith, e)) (ap (λ l. l ++ s ∷ after) take_is ∙ sym is) tree

  pub before : IsTree (size / 2) front
  before = subst (IsTree (size / 2)) take_is here.before

  pub count : s.gone / 2 ≡ gone_in front
  count = here.count ∙ ap gone_in take_is

  pub later : IsTree (size / 2) after
  later = here.later

  -- the counts fit
  pub count_fits : length slots ≤ 2147483647 → s.gone + 2 < 4294967296
  count_fits few = let e = lengths in let f = count in let g = gone_short front in omega (arith, e, f, g, few, long)

  pub count_some : (k : ℕ) → k < length front → is_gone (get_or front k blank) ≡ true → 2 ≤ s.gone
  count_some k le gone = let e = gone-some front k le gone in let f = count in omega (arith, e, f)

  pub front_at : (k : ℕ) → k < size / 2 → get_or slots k blank ≡ get_or front k blank
  front_at k le = ap (λ l. get_or l k blank) is ∙ get-front front (s ∷ after) k blank (omega (arith, le, long))

  pub here_at : (k : ℕ) → k ≡ size / 2 → get_or slots k blank ≡ s
  here_at k e = ap (λ l. get_or l k blank) is ∙ get-mid front s after k blank (omega (arith, e, long))

  pub after_at : (k j : ℕ) → k ≡ suc (size / 2) + j → get_or slots k blank ≡ get_or after j blank
  after_at k j e = ap (λ l. get_or l k blank) is ∙ get-back front s after k j blank (omega (arith, e, long))

  shown_long_front : length (map slot_shown front) ≡ size / 2
  shown_long_front = length-map front slot_shown ∙ long

  parted : map slot_shown slots ≡ map slot_shown front ++ slot_shown s ∷ map slot_shown after
  parted = ap (map slot_shown) is ∙ map-append slot_shown front (s ∷ after)

  same_shown : (g : ℕ) → g % 2 ≡ s.gone % 2 → slot_shown (with_gone s g) ≡ slot_shown s
  same_shown g e = ap (λ n. (n == 1, property_in s)) e

  -- the slot is before the middle
  pub in_front_turned : (later_front : List Slot) (g k : ℕ) (leaves : Bool) (q : NumberedProperty) → k < size / 2 → Turns (size / 2) front later_front k leaves q
      → is_gone (get_or front k blank) ≡ not leaves → IsChanged s.gone 2 g leaves → Turns size slots (later_front ++ with_gone s g ∷ after) k leaves q
  in_front_turned later_front g k leaves q le turned at changed =
      let long_now : length later_front ≡ size / 2 = shown-length front later_front k (leaves, q) turned.1 ∙ long in
      let counts : (g % 2 ≡ s.gone % 2) × (g / 2 ≡ gone_in later_front) =
      elim leaves as (λ b. map slot_shown later_front ≡ set (map slot_shown front) k (b, q) → is_gone (get_or front k blank) ≡ not b → IsChanged s.gone 2 g b → (g % 2 ≡ s.gone % 2) × (g / 2 ≡ gone_in later_front)) [
        | true ↦ λ t a c. let e = c.0 refl in let f = gone-left front later_front k q (omega (arith, le, long)) a t in let n = count in (omega (arith, e), omega (arith, e, f, n))
        | false ↦ λ t a c. let e = c.1 refl in let f = gone-back front later_front k q (omega (arith, le, long)) a t in let n = count in (omega (arith, e), omega (arith, e, f, n))
      ] turned.1 at changed in (
        tree-join size later_front (with_gone s g) after some (tree-whole size slots tree) long_now turned.0 counts.1 later,
        map-append slot_shown later_front (with_gone s g ∷ after) ∙ ap (λ e. map slot_shown later_front ++ e ∷ map slot_shown after) (same_shown g counts.0) ∙ ap (λ es. es ++ slot_shown s ∷ map slot_shown after) turned.1
            ∙ sym (ap (λ es. set es k (leaves, q)) parted ∙ set-front (map slot_shown front) (slot_shown s ∷ map slot_shown after) k (leaves, q) (let e = shown_long_front in omega (arith, e, le))),
      )

  -- it is the middle
  pub here_turned : (g k : ℕ) (leaves : Bool) → k ≡ size / 2 → is_gone s ≡ not leaves → IsChanged s.gone 1 g leaves → Turns size slots (front ++ with_gone s g ∷ after) k leaves (property_in s)
  here_turned g k leaves e at changed =
      let counts : (g / 2 ≡ s.gone / 2) × ((g % 2 == 1) ≡ leaves) =
      elim leaves as (λ b. is_gone s ≡ not b → IsChanged s.gone 1 g b → (g / 2 ≡ s.gone / 2) × ((g % 2 == 1) ≡ b)) [
        | true ↦ λ a c.
            let f = c.0 refl in
            let even : s.gone % 2 ≡ 0 = grind (arith, nat_tests, a) in
            let odd : g % 2 ≡ 1 = omega (arith, f, even) in
            (omega (arith, f, even), ap (λ n. n == 1) odd)
        | false ↦ λ a c.
            let f = c.1 refl in
            let odd : s.gone % 2 ≡ 1 = grind (arith, nat_tests, a) in
            let even : g % 2 ≡ 0 = omega (arith, f, odd) in
            (omega (arith, f, odd), ap (λ n. n == 1) even)
      ] at changed in (
        tree-join size front (with_gone s g) after some (tree-whole size slots tree) long before (counts.0 ∙ count) later,
        map-append slot_shown front (with_gone s g ∷ after) ∙ ap (λ b. map slot_shown front ++ (b, property_in s) ∷ map slot_shown after) counts.1
            ∙ sym (ap (λ es. set es k (leaves, property_in s)) parted ∙ set-mid (map slot_shown front) (slot_shown s) (map slot_shown after) k (leaves, property_in s) (let l = shown_long_front in omega (arith, l, e))),
      )

  -- it is after the middle
  pub behind_turned : (later_after : List Slot) (k j : ℕ) (leaves : Bool) (q : NumberedProperty) → k ≡ suc (size / 2) + j → Turns (size / 2) after later_after j leaves q
      → Turns size slots (front ++ s ∷ later_after) k leaves q
  behind_turned later_after k j leaves q e turned = (
    tree-join size front s later_after some (tree-whole size slots tree) long before count turned.0,
    map-append slot_shown front (s ∷ later_after) ∙ ap (λ es. map slot_shown front ++ slot_shown s ∷ es) turned.1
        ∙ sym (ap (λ es. set es k (leaves, q)) parted ∙ set-back (map slot_shown front) (slot_shown s) (map slot_shown after) k j (leaves, q) (let l = shown_long_front in omega (arith, l, e))),
  )
