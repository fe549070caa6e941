-- The groups of pairs: the positions of those that begin with one number, where a pair is added last or taken away.
use Rattle.std.proofs.Common.{◌≡◌, ◌+◌, ◌-◌, ◌<◌, ◌≤◌, ℕ, suc, Bool, true, false, cond, nat_eq, nat_lt, List, [], ◌∷◌, ◌++◌, map, length, take, set, get_or, refl, sym, ap, ◌∙◌, zero-add, add-zero, true≢false, arith}
use Rattle.std.specs.Global.{Vec}
use Rattle.std.proofs.Math.Seq.{take-append_seam}
use Rattle.std.proofs.lemmas.List.{length-map, length_push, map-set, get_or-map, get_or-set_same, get_or-set_other, get_or_past}
use Rattle.std.proofs.lemmas.Bool.Decides.{Decides-eqb}
use Rattle.package_sets.specs.KeptSets.{positions_from, positions_of}
use Rattle.package_sets.specs.Groups.{group_at, ArePositionsGrouped, IsInGroup}

pub take_last : {X : Type 0} (xs : List X) (x : X) → take (length (xs ++ x ∷ []) - 1) (xs ++ x ∷ []) ≡ xs
take_last xs x = ap (λ n. take (n - 1) (xs ++ x ∷ [])) (length_push xs x) ∙ ap (λ n. take n (xs ++ x ∷ [])) (less (length xs)) ∙ take-append_seam xs (x ∷ [])
  where
    less : (n : ℕ) → (n + 1) - 1 ≡ n
    less n = omega arith

split : (b c : Bool) (x : ℕ) (rest more : List ℕ) (n m : ℕ) → more ≡ cond c (rest ++ n ∷ []) rest → n ≡ m
    → cond b (x ∷ more) more ≡ cond c (cond b (x ∷ rest) rest ++ m ∷ []) (cond b (x ∷ rest) rest)
split true true x rest more n m h e = ap (λ l. x ∷ l) h ∙ ap (λ o. x ∷ (rest ++ o ∷ [])) e
split true false x rest more n m h e = ap (λ l. x ∷ l) h
split false true x rest more n m h e = h ∙ ap (λ o. rest ++ o ∷ []) e
split false false x rest more n m h e = h

module _ (f : ℕ) where
  from_push : (i : ℕ) (ps : List (ℕ × ℕ)) (p : ℕ × ℕ)
      → positions_from f i (ps ++ p ∷ []) ≡ cond (nat_eq p.0 f) (positions_from f i ps ++ (i + length ps) ∷ []) (positions_from f i ps)
  unfolding positions_from
  from_push i [] p = ap (λ n. cond (nat_eq p.0 f) (n ∷ []) []) (sym (add-zero i))
  from_push i (q ∷ qs) p =
      split (nat_eq q.0 f) (nat_eq p.0 f) i (positions_from f (i + 1) qs) (positions_from f (i + 1) (qs ++ p ∷ [])) ((i + 1) + length qs) (i + suc (length qs)) (from_push (i + 1) qs p) (omega arith)

  -- the positions with a pair more
  pub positions_push : (ps : List (ℕ × ℕ)) (p : ℕ × ℕ)
      → positions_of f (ps ++ p ∷ []) ≡ cond (nat_eq p.0 f) (positions_of f ps ++ length ps ∷ []) (positions_of f ps)
  positions_push ps p = from_push 0 ps p ∙ ap (λ n. cond (nat_eq p.0 f) (positions_of f ps ++ n ∷ []) (positions_of f ps)) (zero-add (length ps))

-- ---- groups
-- the groups with one of them changed
pub group_set : (gs : List (Vec ℕ)) (a : ℕ) (g : Vec ℕ) (f : ℕ) → a < length gs → group_at (set gs a g) f ≡ cond (nat_eq a f) g.items (group_at gs f)
group_set gs a g f within =
    ap (λ (l : List (List ℕ)). get_or l f []) (map-set (λ (v : Vec ℕ). v.items) gs a g) ∙ by (nat_eq a f) refl
  where
    items : List (List ℕ)
    items = map (λ (v : Vec ℕ). v.items) gs

    by : (b : Bool) → nat_eq a f ≡ b → get_or (set (map (λ (v : Vec ℕ). v.items) gs) a g.items) f [] ≡ cond b g.items (group_at gs f)
    by true e =
        let is : a ≡ f = (Decides-eqb a f).0 e in
        let fits : a < length (map (λ (v : Vec ℕ). v.items) gs) = omega (arith, within, length-map gs (λ (v : Vec ℕ). v.items)) in
        ap (λ j. get_or (set (map (λ (v : Vec ℕ). v.items) gs) a g.items) j []) (sym is) ∙ get_or-set_same (map (λ (v : Vec ℕ). v.items) gs) a g.items [] fits
    by false e =
        get_or-set_other (map (λ (v : Vec ℕ). v.items) gs) a f g.items [] (λ is. true≢false (sym ((Decides-eqb a f).1 (sym is)) ∙ e))

-- the groups where one was read and written
pub group_changed : (gs : List (Vec ℕ)) (a : ℕ) (v w : Vec ℕ) (change : List ℕ → List ℕ) → a < length gs → v ≡ get_or gs a v → w.items ≡ change v.items
    → (f : ℕ) → group_at (set gs a w) f ≡ cond (nat_eq a f) (change (group_at gs f)) (group_at gs f)
group_changed gs a v w change within read written f = group_set gs a w f within ∙ by (nat_eq a f) refl
  where
    was : v.items ≡ group_at gs a
    was = ap (λ (u : Vec ℕ). u.items) read ∙ sym (get_or-map (λ (u : Vec ℕ). u.items) gs a v [] within)

    by : (b : Bool) → nat_eq a f ≡ b → cond b w.items (group_at gs f) ≡ cond b (change (group_at gs f)) (group_at gs f)
    by true e = written ∙ ap change (was ∙ ap (group_at gs) ((Decides-eqb a f).0 e))
    by false e = refl

-- a group that is not empty is there
pub group_there : (gs : List (Vec ℕ)) (f : ℕ) → 0 < length (group_at gs f) → f < length gs
group_there gs f some =
    by (nat_lt f (length gs)) refl
  where
    by : (b : Bool) → nat_lt f (length gs) ≡ b → f < length gs
    by true e = grind arith
    by false e =
        let past : length (map (λ (v : Vec ℕ). v.items) gs) ≤ f = (let h : length gs ≤ f = grind arith in omega (arith, h, length-map gs (λ (v : Vec ℕ). v.items))) in
        let none : group_at gs f ≡ [] = get_or_past (map (λ (v : Vec ℕ). v.items) gs) f [] past in
        absurd (omega (arith, some, ap length none))

-- after a pair is added
pub grouped_push : (gs hs : List (Vec ℕ)) (ps : List (ℕ × ℕ)) (p : ℕ × ℕ) → ArePositionsGrouped gs ps
    → IsInGroup p.0 (length ps) gs hs → ArePositionsGrouped hs (ps ++ p ∷ [])
grouped_push gs hs ps p grouped noted f =
    noted f ∙ ap (λ (l : List ℕ). cond (nat_eq p.0 f) (l ++ length ps ∷ []) l) (grouped f) ∙ sym (positions_push f ps p)

-- the group of the last pair is not empty
pub last_there : (gs : List (Vec ℕ)) (ps : List (ℕ × ℕ)) (p : ℕ × ℕ) → ArePositionsGrouped gs (ps ++ p ∷ []) → p.0 < length gs
last_there gs ps p grouped =
    let is : group_at gs p.0 ≡ positions_of p.0 ps ++ length ps ∷ [] =
    grouped p.0 ∙ positions_push p.0 ps p ∙ ap (λ b. cond b (positions_of p.0 ps ++ length ps ∷ []) (positions_of p.0 ps)) ((Decides-eqb p.0 p.0).1 refl) in
    group_there gs p.0 (omega (arith, ap length is, length_push (positions_of p.0 ps) (length ps)))

-- after the last pair is taken away
pub grouped_pop : (gs hs : List (Vec ℕ)) (ps : List (ℕ × ℕ)) (p : ℕ × ℕ) → ArePositionsGrouped gs (ps ++ p ∷ [])
    → ((f : ℕ) → group_at hs f ≡ cond (nat_eq p.0 f) (take (length (group_at gs f) - 1) (group_at gs f)) (group_at gs f)) → ArePositionsGrouped hs ps
grouped_pop gs hs ps p grouped taken f =
    taken f ∙ ap (λ (l : List ℕ). cond (nat_eq p.0 f) (take (length l - 1) l) l) (grouped f ∙ positions_push f ps p) ∙ by (nat_eq p.0 f)
  where
    by : (b : Bool)
        → (let l = cond b (positions_of f ps ++ length ps ∷ []) (positions_of f ps) in cond b (take (length l - 1) l) l ≡ positions_of f ps)
    by true = take_last (positions_of f ps) (length ps)
    by false = refl

pub no_positions : (f : ℕ) → positions_of f [] ≡ []
unfolding positions_from
no_positions f = refl
