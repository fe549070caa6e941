-- Packages that are a part of each other are the same; and the first packages are a part of all sound ones.
--     same_parts, first_part, where_first
use Rattle.std.proofs.Common.{◌≡◌, ◌⊎◌, Bool, true, false, cond, Option, None, Some, [], ◌∷◌, is_some, refl, sym, ap, subst, ◌∙◌, inl, inr}
use Rattle.std.specs.Prelude.{IsTrue, codes, bytes_eq}
use Rattle.std.specs.List.{list_any}
use Rattle.std.specs.Option.{option_map, option_and_then}
use Rattle.std.specs.Ordering.{eq_by_cmp}
use Rattle.std.specs.FinMap as finite
use Rattle.std.specs.FinMap.{same_map, get-empty, get-from_entries}
use Rattle.std.proofs.lemmas.Bool.{false≢true}
use Rattle.package_table.specs.Table.{Name, name_cmp, Present, Package, Table, entry_at, IsPackage, IsExternal, Uses, HasFirst, common_lisp, common_lisp_user, keyword, common_lisp_package, user_package, keyword_package, keyword_names, initial}
use Rattle.package_table.proofs.Names.{name_total, name_exact, tied_same, same_some, none_some}
use Rattle.package_table.proofs.Frames.{package_there}
use Rattle.package_table.proofs.KeptSound.{used_is_package}
use Rattle.package_table.proofs.First as first
use Rattle.snapshot_text.specs.Part.{IsAsFar, IsPartOf}
use Rattle.world_text.proofs.PackageEntries.{initial_at, keyword_first}
use Rattle.snapshot_text.proofs.PartFinds.{present_entry, present_package}

-- ---- a part of each other

both_ways : {A : Type 0} (a b : Option A) → ((x : A) → a ≡ Some x → b ≡ Some x) → ((y : A) → b ≡ Some y → a ≡ Some y) → a ≡ b
both_ways None None f g = refl
both_ways None (Some y) f g = g y refl
both_ways (Some x) b f g = sym (f x refl)

same_truth : (a b : Bool) → (a ≡ true → b ≡ true) → (b ≡ true → a ≡ true) → a ≡ b
same_truth true b f g = sym (f refl)
same_truth false true f g = g refl
same_truth false false f g = refl

same_entry : (e f : Present) → IsAsFar e f → IsAsFar f e → e ≡ f
same_entry e f a b = let external = same_truth e.external f.external a.external b.external in λ i. record { home = a.home i; external = external i }

same_unit : (a b : Option (Unit {0})) → is_some a ≡ is_some b → a ≡ b
same_unit None None e = refl
same_unit None (Some y) e = absurd (false≢true e)
same_unit (Some x) None e = absurd (false≢true (sym e))
same_unit (Some x) (Some y) e = refl

module _ (t s : Table) (a : IsPartOf t s) (b : IsPartOf s t) (p : Name) (k l : Package) (here : finite.get t p ≡ Some k) (there : finite.get s p ≡ Some l) where
  entry_in : (u : Table) (m : Package) (n : Name) → finite.get u p ≡ Some m → entry_at u p n ≡ finite.get m.symbols n
  entry_in u m n is = ap (option_and_then (λ (k : Package). finite.get k.symbols n)) is

  use_in : (u : Table) (m : Package) (q : Name) → finite.get u p ≡ Some m → option_map (λ (k : Package). finite.contains_key k.uses q) (finite.get u p) ≡ Some (finite.contains_key m.uses q)
  use_in u m q is = ap (option_map (λ (k : Package). finite.contains_key k.uses q)) is

  same_symbols : k.symbols ≡ l.symbols
  same_symbols = same_map name_total name_exact k.symbols l.symbols (λ n.
      both_ways (finite.get k.symbols n) (finite.get l.symbols n)
      (λ e is.
      let f = a.symbols p n e (entry_in t k n here ∙ is) in
      let g = b.symbols p n f.0 f.1 in
      let again : g.0 ≡ e = same_some g.0 e (sym g.1 ∙ entry_in t k n here ∙ is) in
      sym (entry_in s l n there) ∙ f.1 ∙ ap (λ x. Some x) (sym (same_entry e f.0 f.2 (subst (λ (x : Present). IsAsFar f.0 x) again g.2))))
      (λ e is.
      let f = b.symbols p n e (entry_in s l n there ∙ is) in
      let g = a.symbols p n f.0 f.1 in
      let again : g.0 ≡ e = same_some g.0 e (sym g.1 ∙ entry_in s l n there ∙ is) in
      sym (entry_in t k n here) ∙ f.1 ∙ ap (λ x. Some x) (sym (same_entry e f.0 f.2 (subst (λ (x : Present). IsAsFar f.0 x) again g.2)))))

  same_uses : k.uses ≡ l.uses
  same_uses = same_map name_total name_exact k.uses l.uses (λ q.
      same_unit (finite.get k.uses q) (finite.get l.uses q)
      (same_truth (finite.contains_key k.uses q) (finite.contains_key l.uses q)
      (λ used. same_some (finite.contains_key l.uses q) true (sym (use_in s l q there) ∙ a.uses p q (use_in t k q here ∙ ap (λ b. Some b) used)))
      (λ used. same_some (finite.contains_key k.uses q) true (sym (use_in t k q here) ∙ b.uses p q (use_in s l q there ∙ ap (λ b. Some b) used)))))

  same_package : k ≡ l
  same_package = λ i. record { symbols = same_symbols i; uses = same_uses i }

pub same_parts : (t s : Table) → IsPartOf t s → IsPartOf s t → t ≡ s
same_parts t s a b = same_map name_total name_exact t s (λ p.
    both_ways (finite.get t p) (finite.get s p)
    (λ k here. let l = package_there s p (a.packages p (ap is_some here)) in l.1 ∙ ap (λ x. Some x) (sym (same_package t s a b p k l.0 here l.1)))
    (λ l there. let k = package_there t p (b.packages p (ap is_some there)) in k.1 ∙ ap (λ x. Some x) (same_package t s a b p k.0 l k.1 there)))

-- ---- the first packages

one_of_three : (a b d : Bool) (x y z k : Package) → cond a (Some x) (cond b (Some y) (cond d (Some z) None)) ≡ Some k → (a ≡ true) ⊎ (((b ≡ true) × (k ≡ y)) ⊎ (d ≡ true))
one_of_three true b d x y z k e = inl refl
one_of_three false true d x y z k e = inr (inl (refl, sym (same_some y k e)))
one_of_three false false true x y z k e = inr (inr refl)
one_of_three false false false x y z k e = absurd (none_some k e)

pub where_first : (p : Name) (k : Package) → finite.get initial p ≡ Some k → (p ≡ common_lisp) ⊎ (((p ≡ common_lisp_user) × (k ≡ user_package)) ⊎ (p ≡ keyword))
where_first p k e =
    elim (one_of_three (eq_by_cmp name_cmp p common_lisp) (eq_by_cmp name_cmp p common_lisp_user) (eq_by_cmp name_cmp p keyword) common_lisp_package user_package keyword_package k (sym (initial_at p) ∙ e)) [
      | inl is ↦ inl (tied_same p common_lisp is)
      | inr other ↦ elim other [
        | inl (is, user) ↦ inr (inl (tied_same p common_lisp_user is, user))
        | inr is ↦ inr (inr (tied_same p keyword is))
      ]
    ]

no_user_symbols : (n : Name) (e : Present) → finite.get user_package.symbols n ≡ Some e → ⊥
unfolding user_package
no_user_symbols n e is = none_some e (sym (get-empty name_cmp n) ∙ is)

one_used : (b : Bool) → is_some (cond b (Some (tt {0})) None) ≡ true → b ≡ true
one_used true e = refl
one_used false e = absurd (false≢true e)

user_uses : (q : Name) → finite.contains_key user_package.uses q ≡ true → q ≡ common_lisp
unfolding user_package
user_uses q used = tied_same q common_lisp (one_used (eq_by_cmp name_cmp q common_lisp) (sym (ap is_some (get-from_entries name_total ((common_lisp, tt {0}) ∷ []) q)) ∙ used))

package_at : (t : Table) (p n : Name) (e : Present) → entry_at t p n ≡ Some e → (k : Package) × (finite.get t p ≡ Some k)
package_at t p n e is = package_there t p (present_package t p n e.home (ap (option_map (λ (e : Present). e.home)) is))

user_keyword : IsTrue (list_any (bytes_eq (codes "USER")) keyword_names)
unfolding keyword_names
user_keyword = refl

module _ (s : Table) (first_s : HasFirst s) where
  same_lisp : finite.get s common_lisp ≡ finite.get initial common_lisp
  same_lisp = first_s.fixed ∙ sym first.sound.first.fixed

  keyword_too : (n : Name) (e : Present) → entry_at initial keyword n ≡ Some e → (f : Present) × (entry_at s keyword n ≡ Some f) × IsAsFar e f
  keyword_too n e is =
      let f = present_entry s keyword n keyword (first_s.keywords n (keyword_first n (ap is_some is))) in
      let shown : IsExternal s keyword n = first_s.shown n keyword (ap (option_map (λ (e : Present). e.home)) f.1 ∙ ap (λ h. Some h) f.2) in
      let home : e.home ≡ keyword = first.sound.first.own n e.home (ap (option_map (λ (e : Present). e.home)) is) in
      (f.0, f.1, record { home = home ∙ sym f.2; external = λ _. same_some f.0.external true (sym (ap (option_map (λ (e : Present). e.external)) f.1) ∙ shown) })

  pub first_part : IsPartOf initial s
  first_part = record {
    packages = λ p here.
        let k = package_there initial p here in
        elim (where_first p k.0 k.1) [
          | inl is ↦ ap is_some (ap (finite.get s) is ∙ first_s.fixed)
          | inr other ↦ elim other [
            | inl (is, _) ↦ subst (λ (x : Name). IsPackage s x) (sym is) (used_is_package s common_lisp_user common_lisp first_s.user)
            | inr is ↦ subst (λ (x : Name). IsPackage s x) (sym is) keyword_there
          ]
        ];
    symbols = λ p n e here.
        let k = package_at initial p n e here in
        elim (where_first p k.0 k.1) [
          | inl is ↦ (e, ap (option_and_then (λ (k : Package). finite.get k.symbols n)) (ap (finite.get s) is ∙ same_lisp ∙ ap (finite.get initial) (sym is)) ∙ here, record { home = refl; external = λ b. b })
          | inr other ↦ elim other [
            | inl (_, user) ↦ absurd (no_user_symbols n e (ap (λ (k : Package). finite.get k.symbols n) (sym user) ∙ sym (ap (option_and_then (λ (k : Package). finite.get k.symbols n)) k.1) ∙ here))
            | inr is ↦
                let f = keyword_too n e (subst (λ (x : Name). entry_at initial x n ≡ Some e) is here) in
                (f.0, subst (λ (x : Name). entry_at s x n ≡ Some f.0) (sym is) f.1, f.2)
          ]
        ];
    uses = λ p q here.
        let k = package_there initial p (used_is_package initial p q here) in
        elim (where_first p k.0 k.1) [
          | inl is ↦ ap (option_map (λ (k : Package). finite.contains_key k.uses q)) (ap (finite.get s) is ∙ same_lisp ∙ ap (finite.get initial) (sym is)) ∙ here
          | inr other ↦ elim other [
            | inl (is, user) ↦
                let used : finite.contains_key k.0.uses q ≡ true = same_some _ true (sym (ap (option_map (λ (k : Package). finite.contains_key k.uses q)) k.1) ∙ here) in
                let lisp : q ≡ common_lisp = user_uses q (ap (λ (k : Package). finite.contains_key k.uses q) (sym user) ∙ used) in
                subst (λ (x : Name). Uses s x q) (sym is) (subst (λ (x : Name). Uses s common_lisp_user x) (sym lisp) first_s.user)
            | inr is ↦ absurd (first.sound.first.unusing q (subst (λ (x : Name). Uses initial x q) is here))
          ]
        ];
  }
    where
      keyword_there : IsPackage s keyword
      keyword_there = present_package s keyword (codes "USER") keyword (first_s.keywords (codes "USER") user_keyword)
