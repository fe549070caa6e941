-- The first packages: how their tree is made.
use Rattle.std.proofs.Common.{◌≡◌, Bool, true, false, cond, Some, List, [], ◌∷◌, ◌++◌, map, refl, sym, ap, ◌∙◌}
use Rattle.std.specs.Ordering.{eq_by_cmp}
use Rattle.std.specs.FinMap as finite
use Rattle.std.specs.FinMap.{find, same_map, get-insert, get-from_entries}
use Rattle.package_table.specs.Table.{Name, name_cmp}
use Rattle.package_table.proofs.Names.{name_total, name_exact}

either_first : {Y : Type 0} (a b : Bool) (x y : Y) → cond a x (cond b x y) ≡ cond b x (cond a x y)
either_first true true x y = refl
either_first true false x y = refl
either_first false b x y = refl

module _ {A V : Type 0} (name : A → Name) (v : V) where
  abbrev pub alike : List A → List (Name × V)
  alike xs = map (λ x. (name x, v)) xs

  find_pushed : (q : Name) (xs : List A) (x : A) → find name_cmp q (alike (xs ++ x ∷ [])) ≡ cond (eq_by_cmp name_cmp q (name x)) (Some v) (find name_cmp q (alike xs))
  find_pushed q [] x = refl
  find_pushed q (y ∷ xs) x =
      ap (cond (eq_by_cmp name_cmp q (name y)) (Some v)) (find_pushed q xs x) ∙ either_first (eq_by_cmp name_cmp q (name y)) (eq_by_cmp name_cmp q (name x)) (Some v) (find name_cmp q (alike xs))

  -- the same value at one name more
  pub alike_pushed : (xs : List A) (x : A) → finite.from_entries {R = name_cmp} (alike (xs ++ x ∷ [])) ≡ finite.insert (finite.from_entries (alike xs)) (name x) v
  alike_pushed xs x = same_map name_total name_exact _ _ (λ q.
      get-from_entries name_total (alike (xs ++ x ∷ [])) q ∙ find_pushed q xs x
      ∙ sym (get-insert name_total (finite.from_entries (alike xs)) (name x) v q ∙ ap (cond (eq_by_cmp name_cmp q (name x)) (Some v)) (get-from_entries name_total (alike xs) q)))

  pub alike_map : (xs : List A) → alike xs ≡ map (λ n. (n, v)) (map name xs)
  alike_map [] = refl
  alike_map (x ∷ xs) = ap (λ es. (name x, v) ∷ es) (alike_map xs)
