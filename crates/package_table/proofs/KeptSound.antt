-- That each call that writes keeps the packages sound.
--     first_with_entry, first_with_used, first_with_new      the first packages stay as `HasFirst` says
--     sound_interned, sound_imported, sound_exported, sound_used, sound_made      after each call
--     count_imported, count_exported      the number of symbols then
use Rattle.std.proofs.Common.{◌≡◌, ◌≢◌, ◌<◌, ◌≤◌, true, false, Option, None, Some, IsTrue, is_some, bytes_eq, refl, sym, ap, subst, ◌∙◌, inl, inr, arith}
use Rattle.std.proofs.lemmas.Bool.{false≢true}
use Rattle.std.specs.Option.{option_map}
use Rattle.std.specs.FinMap as finite
use Rattle.package_table.specs.Limits.{most_packages, most_symbols}
use Rattle.package_table.specs.Table.{Name, Present, Package, Table, entry_at, IsPackage, IsPresent, IsExternal, Uses, Finds, FindsNone, HasFirst, IsWithin, AreSoundPackages, IsPackageName, IsSymbolName, common_lisp, common_lisp_user, keyword, symbol_count, with_entry, with_used, with_new_package, empty_package}
use Rattle.package_table.proofs.Frames.{place_cases, name_cases, equal_names, get_with_other, get_kept, entry_new, entry_other, uses_with_entry, package_with_entry, entry_with_used, uses_either, uses_still, package_with_used, entry_with_new, uses_with_new, uses_beside_new, other_than_new}
use Rattle.package_table.proofs.Keeping.{present_at_home, present_either, present_kept, uses_kept, joined_with_entry, joined_with_used, joined_with_new}
use Rattle.package_table.proofs.Counting.{symbols_new, symbols_from_elsewhere, symbols_again, symbols_with_used, symbols_with_new, len_with_package, len_with_new}

module _ (t : Table) (p n : Name) (e : Present)
    (there : IsPackage t p)
    (open_to : p ≢ common_lisp)
    (finds : (g : Name) → Finds t p n g → g ≡ e.home)
    (keyword_home : p ≡ keyword → e.home ≡ keyword)
    (keyword_shown : p ≡ keyword → e.external ≡ true) where
  first_with_entry : HasFirst t → HasFirst (with_entry t p n e)
  first_with_entry first = record {
    fixed = get_with_other t p (λ k. record k { symbols = finite.insert k.symbols n e }) common_lisp (λ (is : common_lisp ≡ p). open_to (sym is)) ∙ first.fixed;
    user = uses_with_entry t p n e common_lisp_user common_lisp ∙ first.user;
    keywords = λ m among. present_kept t p n e there finds keyword m keyword (first.keywords m among);
    own = λ m h found.
        elim (present_either t p n e there keyword m h found) [
          | inl (same, alike, is) ↦ is ∙ keyword_home (sym same)
          | inr old ↦ first.own m h old
        ];
    shown = λ m h found.
        elim (place_cases keyword m p n) [
          | inl (same, alike) ↦
              subst (λ (x : Name). IsExternal (with_entry t p n e) x m) (sym same)
              (subst (λ (x : Name). IsExternal (with_entry t p n e) p x) (sym alike)
              (ap (option_map (λ (e : Present). e.external)) (entry_new t p n e there) ∙ ap Some (keyword_shown (sym same))))
          | inr differ ↦
              let same_entry = entry_other t p n e keyword m differ in
              ap (option_map (λ (e : Present). e.external)) same_entry ∙ first.shown m h (sym (ap (option_map (λ (e : Present). e.home)) same_entry) ∙ found)
        ];
    unusing = λ q used. first.unusing q (uses_kept t p n e there keyword q used);
    unused = λ q used. first.unused q (uses_kept t p n e there q keyword used);
  }

module _ (t : Table) (p q : Name) (there : IsPackage t p) (open_to : p ≢ common_lisp) (no_keyword : p ≢ keyword) (other : q ≢ keyword) where
  first_with_used : HasFirst t → HasFirst (with_used t p q)
  first_with_used first = record {
    fixed = get_with_other t p (λ k. record k { uses = finite.insert k.uses q tt }) common_lisp (λ (is : common_lisp ≡ p). open_to (sym is)) ∙ first.fixed;
    user = uses_still t p q there common_lisp_user common_lisp first.user;
    keywords = λ m among. ap (option_map (λ (e : Present). e.home)) (entry_with_used t p q keyword m) ∙ first.keywords m among;
    own = λ m h found. first.own m h (sym (ap (option_map (λ (e : Present). e.home)) (entry_with_used t p q keyword m)) ∙ found);
    shown = λ m h found. ap (option_map (λ (e : Present). e.external)) (entry_with_used t p q keyword m) ∙ first.shown m h (sym (ap (option_map (λ (e : Present). e.home)) (entry_with_used t p q keyword m)) ∙ found);
    unusing = λ r used. elim (uses_either t p q keyword r used) [ inl old ↦ first.unusing r old | inr (same, _) ↦ no_keyword (sym same) ];
    unused = λ r used. elim (uses_either t p q r keyword used) [ inl old ↦ first.unused r old | inr (_, same) ↦ other (sym same) ];
  }

pub used_is_package : (t : Table) (p q : Name) → Uses t p q → IsPackage t p
used_is_package t p q used =
    elim (finite.get t p) as (λ o. option_map (λ (k : Package). finite.contains_key k.uses q) o ≡ Some true → IsTrue (is_some o)) [
      | None ↦ λ used. absurd (let none : None ≡ Some true = used in cc)
      | Some k ↦ λ _. refl
    ] used

module _ (t : Table) (p : Name) (absent : finite.get t p ≡ None) where
  first_with_new : HasFirst t → HasFirst (with_new_package t p)
  first_with_new first = record {
    fixed = get_kept t p empty_package common_lisp (other_than_new t p absent common_lisp (ap is_some first.fixed)) ∙ first.fixed;
    user = uses_beside_new t p absent common_lisp_user common_lisp first.user;
    keywords = λ m among. ap (option_map (λ (e : Present). e.home)) (entry_with_new t p absent keyword m) ∙ first.keywords m among;
    own = λ m h found. first.own m h (sym (ap (option_map (λ (e : Present). e.home)) (entry_with_new t p absent keyword m)) ∙ found);
    shown = λ m h found. ap (option_map (λ (e : Present). e.external)) (entry_with_new t p absent keyword m) ∙ first.shown m h (sym (ap (option_map (λ (e : Present). e.home)) (entry_with_new t p absent keyword m)) ∙ found);
    unusing = λ r used. first.unusing r (uses_with_new t p absent keyword r used);
    unused = λ r used. first.unused r (uses_with_new t p absent r keyword used);
  }

-- no entry where nothing is found
pub no_entry : (t : Table) (p n : Name) → FindsNone t p n → entry_at t p n ≡ None
no_entry t p n none =
    elim (entry_at t p n) as (λ o. entry_at t p n ≡ o → o ≡ None) [
      | None ↦ λ e. refl
      | Some old ↦ λ e. absurd (none old.home (inl (ap (option_map (λ (e : Present). e.home)) e)))
    ] refl

within_with_entry : (t : Table) (p n : Name) (e : Present) → IsPackage t p → IsSymbolName n → symbol_count (with_entry t p n e) ≤ most_symbols → IsWithin t → IsWithin (with_entry t p n e)
within_with_entry t p n e there good count within = record {
  package_names = λ q found. within.package_names q (sym (package_with_entry t p n e q) ∙ found);
  symbol_names = λ q m h found.
      elim (present_either t p n e there q m h found) [
        | inl (same, alike, is) ↦ subst (λ (x : Name). IsSymbolName x) (sym alike) good
        | inr old ↦ within.symbol_names q m h old
      ];
  packages = (let same = len_with_package t p (λ k. record k { symbols = finite.insert k.symbols n e }) in let few = within.packages in omega (arith, same, few));
  symbols = count;
}

module _ (t : Table) (p n : Name) (sound : AreSoundPackages t) (there : IsPackage t p) (open_to : p ≢ common_lisp) where
  pub sound_interned : FindsNone t p n → IsSymbolName n → symbol_count t < most_symbols → AreSoundPackages (with_entry t p n (record { home = p; external = bytes_eq p keyword }))
  sound_interned none good few =
      let e : Present = record { home = p; external = bytes_eq p keyword } in
      let finds : (g : Name) → Finds t p n g → g ≡ e.home = λ g found. absurd (none g found) in
      let keyword_shown : p ≡ keyword → e.external ≡ true = λ is. equal_keyword p is in
      record {
        joined = joined_with_entry t p n e there (inl refl) finds
            (λ shown q g used found. absurd (sound.first.unused q (subst (λ (x : Name). Uses t q x) (equal_names p keyword shown) used))) sound.joined;
        first = first_with_entry t p n e there open_to finds (λ is. is) keyword_shown sound.first;
        within = within_with_entry t p n e there good (let more = symbols_new t p n e there (no_entry t p n none) refl in omega (arith, more, few)) sound.within;
      }
    where
      equal_keyword : (p : Name) → p ≡ keyword → bytes_eq p keyword ≡ true
      equal_keyword p is = ap (λ x. bytes_eq x keyword) is

  module _ (h : Name) (no_keyword : p ≢ keyword) (at_home : IsPresent t h n h) where
    pub count_imported : entry_at t p n ≡ None → symbol_count (with_entry t p n (record { home = h; external = false })) ≡ symbol_count t
    count_imported none =
        let elsewhere : h ≢ p = λ (is : h ≡ p). (let there_too : Some h ≡ None = sym (subst (λ (x : Name). IsPresent t x n h) is at_home) ∙ ap (option_map (λ (e : Present). e.home)) none in cc) in
        symbols_from_elsewhere t p n (record { home = h; external = false }) there none elsewhere

    pub sound_imported : ((g : Name) → Finds t p n g → g ≡ h) → entry_at t p n ≡ None → AreSoundPackages (with_entry t p n (record { home = h; external = false }))
    sound_imported finds none =
        let e : Present = record { home = h; external = false } in
        record {
          joined = joined_with_entry t p n e there (inr at_home) finds (λ shown q g used found. absurd (false≢true shown)) sound.joined;
          first = first_with_entry t p n e there open_to finds (λ is. absurd (no_keyword is)) (λ is. absurd (no_keyword is)) sound.first;
          within = within_with_entry t p n e there (sound.within.symbol_names h n h at_home) (let same = count_imported none in let few = sound.within.symbols in omega (arith, same, few)) sound.within;
        }

  module _ (h : Name) (no_keyword : p ≢ keyword) (finds : Finds t p n h) (users : (q g : Name) → Uses t q p → Finds t q n g → g ≡ h) where
    at_its_home : IsPresent t h n h
    at_its_home = present_at_home t p n h sound.joined finds

    same_count : (o : Option Present) → entry_at t p n ≡ o → symbol_count (with_entry t p n (record { home = h; external = true })) ≡ symbol_count t
    same_count None is =
        symbols_from_elsewhere t p n (record { home = h; external = true }) there is
        (λ (e : h ≡ p). (let there_too : Some h ≡ None = sym (subst (λ (x : Name). IsPresent t x n h) e at_its_home) ∙ ap (option_map (λ (e : Present). e.home)) is in cc))
    same_count (Some old) is =
        symbols_again t p n (record { home = h; external = true }) there old is (sound.joined.one p n old.home h (inl (ap (option_map (λ (e : Present). e.home)) is)) finds)

    pub count_exported : symbol_count (with_entry t p n (record { home = h; external = true })) ≡ symbol_count t
    count_exported = same_count (entry_at t p n) refl

    pub sound_exported : AreSoundPackages (with_entry t p n (record { home = h; external = true }))
    sound_exported =
        let e : Present = record { home = h; external = true } in
        let only : (g : Name) → Finds t p n g → g ≡ h = λ g found. sound.joined.one p n g h found finds in
        record {
          joined = joined_with_entry t p n e there (inr at_its_home) only (λ _. users) sound.joined;
          first = first_with_entry t p n e there open_to only (λ is. absurd (no_keyword is)) (λ is. absurd (no_keyword is)) sound.first;
          within = within_with_entry t p n e there (sound.within.symbol_names h n h at_its_home) (let same = count_exported in let few = sound.within.symbols in omega (arith, same, few)) sound.within;
        }

module _ (t : Table) (p q : Name) (sound : AreSoundPackages t) (there : IsPackage t p) (open_to : p ≢ common_lisp) (no_keyword : p ≢ keyword) where
  pub sound_used : IsPackage t q → q ≢ keyword → q ≢ p → ((n g h : Name) → Finds t p n g → IsExternal t q n → IsPresent t q n h → g ≡ h) → AreSoundPackages (with_used t p q)
  sound_used used_there no_keyword_used other agree = record {
    joined = joined_with_used t p q used_there other agree sound.joined;
    first = first_with_used t p q there open_to no_keyword no_keyword_used sound.first;
    within = record {
      package_names = λ r found. sound.within.package_names r (sym (package_with_used t p q r) ∙ found);
      symbol_names = λ r m h found. sound.within.symbol_names r m h (sym (ap (option_map (λ (e : Present). e.home)) (entry_with_used t p q r m)) ∙ found);
      packages = (let same = len_with_package t p (λ k. record k { uses = finite.insert k.uses q tt }) in let few = sound.within.packages in omega (arith, same, few));
      symbols = (let same = symbols_with_used t p q there in let few = sound.within.symbols in omega (arith, same, few));
    };
  }

pub sound_made : (t : Table) (p : Name) → AreSoundPackages t → finite.get t p ≡ None → IsPackageName p → finite.len t < most_packages → AreSoundPackages (with_new_package t p)
sound_made t p sound absent good few = record {
  joined = joined_with_new t p absent sound.joined;
  first = first_with_new t p absent sound.first;
  within = record {
    package_names = λ q found.
        elim (name_cases q p) [
          | inl same ↦ subst (λ (x : Name). IsPackageName x) (sym same) good
          | inr differ ↦ sound.within.package_names q (sym (ap is_some (get_kept t p empty_package q differ)) ∙ found)
        ];
    symbol_names = λ q m h found. sound.within.symbol_names q m h (sym (ap (option_map (λ (e : Present). e.home)) (entry_with_new t p absent q m)) ∙ found);
    packages = (let more = len_with_new t p absent in omega (arith, more, few));
    symbols = (let same = symbols_with_new t p absent in let few = sound.within.symbols in omega (arith, same, few));
  };
}
