-- Symbols and external symbols by their names, where one is added last or taken away.
--     chained_same      the same names at the places that are there
--     chained_kept      the same places, kept elsewhere
--     chained_push, chained_pop, name_there      the last place
--     last_is      what a place says of those below it
--     chained_symbol, chained_external, chained_second, chained_cut, chained_front      where a symbol or an external one is added, and where what was added goes
use Rattle.std.proofs.Common.{◌≡◌, ◌<◌, ◌≤◌, ◌⊎◌, inl, inr, ℕ, zero, suc, Bool, true, false, cond, nat_eq, List, [], ◌∷◌, ◌++◌, length, get_or, refl, sym, ap, subst, ◌∙◌, take, arith}
use Rattle.std.proofs.lemmas.Bool.{false≢true}
use Rattle.std.proofs.lemmas.Bool.Decides.{Decides-eqb}
use Rattle.std.proofs.lemmas.List.{length_push, get_or_append_left, get_or_push, get_or_past, get_or-take}
use Rattle.package_sets.specs.declared.chains.Chains.{Chains}
use Rattle.package_sets.specs.KeptSets.{pair_at}
use Rattle.package_sets.specs.Consistent.{AreWithin}
use Rattle.package_sets.specs.SymbolChains.{external_name, second_of, last_below, AreChainsOfNames}
use Rattle.package_sets.proofs.Places.{all_at}

-- a number is below another, or it is not
pub below_or : (x n : ℕ) → (x < n) ⊎ (n ≤ x)
below_or x zero = inr (omega arith)
below_or zero (suc n) = inl (omega arith)
below_or (suc x) (suc n) = elim (below_or x n) as (λ _. (suc x < suc n) ⊎ (suc n ≤ suc x)) [ inl less ↦ inl (omega (arith, less)) | inr more ↦ inr (omega (arith, more)) ]

pub last_same : (f g : ℕ → ℕ) (j n : ℕ) → ((x : ℕ) → x < n → f x ≡ g x) → last_below f j n ≡ last_below g j n
unfolding last_below
last_same f g j zero same = refl
last_same f g j (suc n) same = λ i. cond (nat_eq (same n (omega arith) i) j) (suc n) (last_same f g j n (λ x less. same x (omega (arith, less))) i)

pub last_step : (f : ℕ → ℕ) (j n : ℕ) → last_below f j (suc n) ≡ cond (nat_eq (f n) j) (suc n) (last_below f j n)
unfolding last_below
last_step f j n = refl

-- the last place below n that has the name j
pub record IsLast (f : ℕ → ℕ) (j n last : ℕ) : Type 0 where
  pub below : last ≤ n
  pub there : (x : ℕ) → last ≡ suc x → f x ≡ j
  pub past : (x : ℕ) → last ≤ x → x < n → f x ≡ j → ⊥

pub last_is : (f : ℕ → ℕ) (j n : ℕ) → IsLast f j n (last_below f j n)
unfolding last_below
last_is f j zero = record { below = omega arith; there = λ x is. absurd (omega (arith, is)); past = λ x from less _. absurd (omega (arith, less)) }
last_is f j (suc n) = by (last_is f j n) (nat_eq (f n) j) refl
  where
    by : IsLast f j n (last_below f j n) → (b : Bool) → nat_eq (f n) j ≡ b → IsLast f j (suc n) (cond b (suc n) (last_below f j n))
    by rest true is = record {
      below = omega arith;
      there = λ x same. (let at : n ≡ x = omega (arith, same) in ap f (sym at) ∙ (Decides-eqb (f n) j).0 is);
      past = λ x from less _. absurd (omega (arith, from, less));
    }
    by rest false differs = record {
      below = (let less = rest.below in omega (arith, less));
      there = rest.there;
      past = λ x from less same. elim (below_or x n) as (λ _. ⊥) [
        | inl before ↦ rest.past x from before same
        | inr after ↦
            let at : x ≡ n = omega (arith, after, less) in
            false≢true (sym differs ∙ ap (λ y. nat_eq (f y) j) (sym at) ∙ (Decides-eqb (f x) j).1 same)
      ];
    }

pub chained_same : (f g : ℕ → ℕ) (n : ℕ) (c : Chains) → ((x : ℕ) → x < n → f x ≡ g x) → AreChainsOfNames f n c → AreChainsOfNames g n c
chained_same f g n c same all = record {
  lasts = λ j. all.lasts j ∙ last_same f g j n same;
  as_many = all.as_many;
  befores = λ x less. all.befores x less ∙ last_same f g (f x) x (λ y before. same y (omega (arith, before, less))) ∙ ap (λ j. last_below g j x) (same x less);
}

pub chained_kept : (f : ℕ → ℕ) (n : ℕ) (c d : Chains) → ((j : ℕ) → get_or d.lasts.items j 0 ≡ get_or c.lasts.items j 0) → d.befores.items ≡ c.befores.items → AreChainsOfNames f n c → AreChainsOfNames f n d
chained_kept f n c d lasts befores all = record {
  lasts = λ j. lasts j ∙ all.lasts j;
  as_many = ap length befores ∙ all.as_many;
  befores = λ x less. ap (λ (l : List ℕ). get_or l x 0) befores ∙ all.befores x less;
}

pub chained_push : (f : ℕ → ℕ) (n name : ℕ) (c d : Chains) → f n ≡ name
    → ((j : ℕ) → get_or d.lasts.items j 0 ≡ cond (nat_eq name j) (suc n) (get_or c.lasts.items j 0))
    → d.befores.items ≡ c.befores.items ++ get_or c.lasts.items name 0 ∷ []
    → AreChainsOfNames f n c → AreChainsOfNames f (suc n) d
chained_push f n name c d is lasts befores all = record {
  lasts = λ j. lasts j ∙ (λ i. cond (nat_eq (sym is i) j) (suc n) (all.lasts j i)) ∙ sym (last_step f j n);
  as_many = (let size = ap length befores ∙ length_push c.befores.items (get_or c.lasts.items name 0) in let many = all.as_many in omega (arith, size, many));
  befores = λ x less. ap (λ (l : List ℕ). get_or l x 0) befores ∙ at x less (below_or x n);
}
  where
    at : (x : ℕ) → x < suc n → (x < n) ⊎ (n ≤ x) → get_or (c.befores.items ++ get_or c.lasts.items name 0 ∷ []) x 0 ≡ last_below f (f x) x
    at x less (inl within) =
        let many = all.as_many in
        get_or_append_left c.befores.items (get_or c.lasts.items name 0 ∷ []) 0 x (omega (arith, within, many)) ∙ all.befores x within
    at x less (inr more) =
        let here : n ≡ x = omega (arith, more, less) in
        get_or_push c.befores.items (get_or c.lasts.items name 0) 0 x (all.as_many ∙ here)
        ∙ all.lasts name ∙ (λ i. last_below f (sym is i) n) ∙ ap (λ y. last_below f (f y) y) here

-- the last place has a name that is there
pub name_there : (f : ℕ → ℕ) (n : ℕ) (c : Chains) → AreChainsOfNames f (suc n) c → f n < length c.lasts.items
name_there f n c all = by (below_or (f n) (length c.lasts.items))
  where
    by : (f n < length c.lasts.items) ⊎ (length c.lasts.items ≤ f n) → f n < length c.lasts.items
    by (inl less) = less
    by (inr past) =
        let none : suc n ≡ 0 = sym (ap (λ b. cond b (suc n) (last_below f (f n) n)) ((Decides-eqb (f n) (f n)).1 refl)) ∙ sym (last_step f (f n) n) ∙ sym (all.lasts (f n)) ∙ get_or_past c.lasts.items (f n) 0 past in
        absurd (omega (arith, none))

pub chained_pop : (f : ℕ → ℕ) (n : ℕ) (c d : Chains)
    → c.befores.items ≡ d.befores.items ++ get_or c.befores.items (length d.befores.items) 0 ∷ []
    → ((j : ℕ) → get_or d.lasts.items j 0 ≡ cond (nat_eq (f n) j) (get_or c.befores.items (length d.befores.items) 0) (get_or c.lasts.items j 0))
    → AreChainsOfNames f (suc n) c → AreChainsOfNames f n d
chained_pop f n c d befores lasts all = record {
  lasts = λ j. lasts j ∙ last j (nat_eq (f n) j) refl;
  as_many = size;
  befores = λ x less.
      sym (get_or_append_left d.befores.items (get_or c.befores.items (length d.befores.items) 0 ∷ []) 0 x (omega (arith, less, size)))
      ∙ ap (λ (l : List ℕ). get_or l x 0) (sym befores) ∙ all.befores x (omega (arith, less));
}
  where
    size : length d.befores.items ≡ n
    size = let more = sym (ap length befores ∙ length_push d.befores.items (get_or c.befores.items (length d.befores.items) 0)) ∙ all.as_many in omega (arith, more)

    last : (j : ℕ) (b : Bool) → nat_eq (f n) j ≡ b → cond b (get_or c.befores.items (length d.befores.items) 0) (get_or c.lasts.items j 0) ≡ last_below f j n
    last j true is = ap (λ x. get_or c.befores.items x 0) size ∙ all.befores n (omega arith) ∙ ap (λ i. last_below f i n) ((Decides-eqb (f n) j).0 is)
    last j false differs = all.lasts j ∙ last_step f j n ∙ ap (λ b. cond b (suc n) (last_below f j n)) differs

-- ---- symbols, and those that are external
module _ (symbols externals : List (ℕ × ℕ)) (packages : ℕ) (within : AreWithin packages (length symbols) externals) where
  symbol_there : (x : ℕ) → x < length externals → (pair_at externals x).1 < length symbols
  symbol_there x less = (all_at (λ (e : ℕ × ℕ). (e.0 < packages) × (e.1 < length symbols)) externals within x (0, 0) less).1

  pub chained_symbol : (s : ℕ × ℕ) (c : Chains) → AreChainsOfNames (external_name symbols externals) (length externals) c → AreChainsOfNames (external_name (symbols ++ s ∷ []) externals) (length externals) c
  chained_symbol s c = chained_same (external_name symbols externals) (external_name (symbols ++ s ∷ []) externals) (length externals) c
      (λ x less. sym (ap (λ (q : ℕ × ℕ). q.1) (get_or_append_left symbols (s ∷ []) (0, 0) (pair_at externals x).1 (symbol_there x less))))

pub chained_external : (symbols externals : List (ℕ × ℕ)) (e : ℕ × ℕ) (name number : ℕ) (c d : Chains) → name ≡ (pair_at symbols e.1).1 → number ≡ length (externals ++ e ∷ [])
    → ((j : ℕ) → get_or d.lasts.items j 0 ≡ cond (nat_eq name j) number (get_or c.lasts.items j 0))
    → d.befores.items ≡ c.befores.items ++ get_or c.lasts.items name 0 ∷ []
    → AreChainsOfNames (external_name symbols externals) (length externals) c → AreChainsOfNames (external_name symbols (externals ++ e ∷ [])) (length (externals ++ e ∷ [])) d
chained_external symbols externals e name number c d is last lasts befores all =
    let size : length (externals ++ e ∷ []) ≡ suc (length externals) = (let more = length_push externals e in omega (arith, more)) in
    let f : ℕ → ℕ = external_name symbols (externals ++ e ∷ []) in
    let before = chained_same (external_name symbols externals) (external_name symbols (externals ++ e ∷ [])) (length externals) c
    (λ x less. sym (ap (λ (q : ℕ × ℕ). (pair_at symbols q.1).1) (get_or_append_left externals (e ∷ []) (0, 0) x less))) all in
    subst (λ (n : ℕ). AreChainsOfNames (external_name symbols (externals ++ e ∷ [])) n d) (sym size)
    (chained_push (external_name symbols (externals ++ e ∷ [])) (length externals) name c d
    (ap (λ (q : ℕ × ℕ). (pair_at symbols q.1).1) (get_or_push externals e (0, 0) (length externals) refl) ∙ sym is)
    (λ j. lasts j ∙ ap (λ n. cond (nat_eq name j) n (get_or c.lasts.items j 0)) (last ∙ size)) befores before)

-- where a pair is added, whose second number is the name
pub chained_second : (ps : List (ℕ × ℕ)) (e : ℕ × ℕ) (last : ℕ) (c d : Chains) → last ≡ length (ps ++ e ∷ [])
    → ((j : ℕ) → get_or d.lasts.items j 0 ≡ cond (nat_eq e.1 j) last (get_or c.lasts.items j 0))
    → d.befores.items ≡ c.befores.items ++ get_or c.lasts.items e.1 0 ∷ []
    → AreChainsOfNames (second_of ps) (length ps) c → AreChainsOfNames (second_of (ps ++ e ∷ [])) (length (ps ++ e ∷ [])) d
chained_second ps e last c d is lasts befores all =
    let size : length (ps ++ e ∷ []) ≡ suc (length ps) = (let more = length_push ps e in omega (arith, more)) in
    let before = chained_same (second_of ps) (second_of (ps ++ e ∷ [])) (length ps) c
    (λ x less. sym (ap (λ (q : ℕ × ℕ). q.1) (get_or_append_left ps (e ∷ []) (0, 0) x less))) all in
    subst (λ n. AreChainsOfNames (second_of (ps ++ e ∷ [])) n d) (sym size)
    (chained_push (second_of (ps ++ e ∷ [])) (length ps) e.1 c d
    (ap (λ (q : ℕ × ℕ). q.1) (get_or_push ps e (0, 0) (length ps) refl))
    (λ j. lasts j ∙ ap (λ n. cond (nat_eq e.1 j) n (get_or c.lasts.items j 0)) (is ∙ size)) befores before)

-- how long a front is
pub take_within : (n : ℕ) (ps : List (ℕ × ℕ)) → length (take n ps) ≤ length ps
take_within zero ps = omega arith
take_within (suc n) [] = omega arith
take_within (suc n) (p ∷ ps) = let rest = take_within n ps in omega (arith, rest)

pub take_holds : (n : ℕ) (ps : List (ℕ × ℕ)) (m : ℕ) → m ≤ n → m ≤ length ps → m ≤ length (take n ps)
take_holds zero ps m less fits = omega (arith, less)
take_holds (suc n) [] m less fits = fits
take_holds (suc n) (p ∷ ps) zero less fits = omega arith
take_holds (suc n) (p ∷ ps) (suc m) less fits = let rest = take_holds n ps m (omega (arith, less)) (omega (arith, fits)) in omega (arith, rest)

pub take_fits : (n : ℕ) (ps : List (ℕ × ℕ)) → length (take n ps) ≤ n
take_fits zero ps = omega arith
take_fits (suc n) [] = omega arith
take_fits (suc n) (p ∷ ps) = let rest = take_fits n ps in omega (arith, rest)

pub chained_cut : (symbols externals : List (ℕ × ℕ)) (packages n m : ℕ) (c : Chains) → AreWithin packages (length (take m symbols)) (take n externals)
    → AreChainsOfNames (external_name symbols externals) (length (take n externals)) c → AreChainsOfNames (external_name (take m symbols) (take n externals)) (length (take n externals)) c
chained_cut symbols externals packages n m c within =
    chained_same (external_name symbols externals) (external_name (take m symbols) (take n externals)) (length (take n externals)) c
    (λ x less.
    let there = symbol_there (take m symbols) (take n externals) packages within x less in
    let first : x < n = omega (arith, less, take_fits n externals) in
    let second : (pair_at (take n externals) x).1 < m = omega (arith, there, take_fits m symbols) in
    ap (λ (q : ℕ × ℕ). (pair_at symbols q.1).1) (sym (get_or-take n externals x (0, 0) first))
    ∙ ap (λ (q : ℕ × ℕ). q.1) (sym (get_or-take m symbols (pair_at (take n externals) x).1 (0, 0) second)))

-- where only the first pairs stay
pub chained_front : (ps : List (ℕ × ℕ)) (n : ℕ) (c : Chains) → AreChainsOfNames (second_of ps) (length (take n ps)) c → AreChainsOfNames (second_of (take n ps)) (length (take n ps)) c
chained_front ps n c =
    chained_same (second_of ps) (second_of (take n ps)) (length (take n ps)) c
    (λ x less. let first : x < n = omega (arith, less, take_fits n ps) in ap (λ (q : ℕ × ℕ). q.1) (sym (get_or-take n ps x (0, 0) first)))
