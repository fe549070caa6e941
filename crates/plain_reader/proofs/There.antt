-- Objects whose symbols are all there.
--     symbol_there, found_there      a symbol that is present in its home, and one that a name stands for
--     list_there, headed_there      lists of such objects, and quoted ones
--     more_there      one more such object
--     still_list, still_more      after a call that closes a list, after two calls
--     one_put, list_put, quoted_put      an object, a list and a quoted object that are put to items
use Rattle.std.proofs.Common.{◌≡◌, Bool, true, false, cond, Option, None, Some, Result, Ok, Err, IfSome, List, [], ◌∷◌, ◌++◌, codes, bytes_eq, refl, sym, ap, subst, ◌∙◌}
use Rattle.std.specs.Prelude.{◌&&◌}
use Rattle.std.specs.List.{list_all}
use Rattle.std.specs.Option.{option_map, option_map_or}
use Rattle.std.proofs.lemmas.Bool.{and_parts}
use Rattle.std.proofs.lemmas.List.Folds.{list_all-append}
use Rattle.lisp_object.specs.Object.{Object, symbol, pair, list_of}
use Rattle.package_table.specs.declared.error.PackageError.{PackageError}
use Rattle.package_table.specs.declared.error.PackageError.TheVariants.{LockedPackage}
use Rattle.package_table.specs.Table.{Name, Table, Present, IsPresent, AreSoundPackages, common_lisp, common_lisp_names, entry_at}
use Rattle.package_table.specs.Lookup.{home_by_name, is_symbol}
use Rattle.package_table.specs.Resolving.{Resolution, found_at, new_in, resolution}
use Rattle.package_table.specs.Symbols.{symbols, are_there}
use Rattle.package_table.proofs.Found.{found_finds}
use Rattle.package_table.proofs.FirstNames.{lisp_present, nil_present}
use Rattle.package_table.proofs.Frames.{equal_itself}
use Rattle.package_table.proofs.Names.{same_some, none_some}
use Rattle.package_table.proofs.Keeping.{present_at_home}
use Rattle.std_macros.specs.Values.{headed}
use Rattle.plain_reader.specs.declared.context.PlainContext.{PlainContext}
use Rattle.plain_reader.specs.declared.objects.ClosedList.{ClosedList}
use Rattle.plain_reader.specs.Plain.{AreSymbolsThere, AllAreThere, IfStill}

-- both of two tests
both : (a b : Bool) → a ≡ true → b ≡ true → (a && b) ≡ true
both true true _ _ = refl
both true false _ e = e
both false b e _ = e

test_of : (o : Option Present) (h : Name) → option_map (λ (e : Present). e.home) o ≡ Some h → option_map_or (λ (e : Present). bytes_eq e.home h) o false ≡ true
test_of None h none = absurd (none_some h none)
test_of (Some e) h home = ap (λ x. bytes_eq x h) (same_some e.home h home) ∙ equal_itself h

pub symbol_there : (t : Table) (h n : Name) → IsPresent t h n h → are_there t (symbol h n) ≡ true
symbol_there t h n there = both (is_symbol t h n) true (test_of (entry_at t h n) h there) refl

-- the home of what was found
abbrev home_found : Result Resolution PackageError → Option Name
home_found (Ok (found_at h)) = Some h
home_found (Ok (new_in p)) = None
home_found (Err e) = None

new_or_locked : (b : Bool) (p : Name) → home_found (cond b (Err LockedPackage) (Ok (new_in p))) ≡ None
new_or_locked true p = refl
new_or_locked false p = refl

home_is : (o : Option Name) (b : Bool) (p : Name) → home_found (option_map_or (λ h. Ok (found_at h)) o (cond b (Err LockedPackage) (Ok (new_in p)))) ≡ o
home_is None b p = new_or_locked b p
home_is (Some h) b p = refl

pub found_there : (t : Table) (p n h : Name) → AreSoundPackages t → resolution t p n ≡ Ok (found_at h) → are_there t (symbol h n) ≡ true
found_there t p n h sound is =
    let finds : home_by_name t p n ≡ Some h = sym (home_is (home_by_name t p n) (bytes_eq p common_lisp) p) ∙ ap home_found is in
    symbol_there t h n (present_at_home t p n h sound.joined (found_finds t n p h finds))

pair_there : (t : Table) (x xs : Object) → are_there t x ≡ true → are_there t xs ≡ true → are_there t (pair x xs) ≡ true
pair_there t x xs a b = list_all-append (λ s. is_symbol t s.0 s.1) (symbols x) (symbols xs) ∙ both (are_there t x) (are_there t xs) a b

pub list_there : (t : Table) (xs : List Object) → AreSoundPackages t → list_all (are_there t) xs ≡ true → are_there t (list_of xs) ≡ true
list_there t [] sound all = symbol_there t common_lisp (codes "NIL") (nil_present t sound)
list_there t (x ∷ xs) sound all =
    let each = and_parts (are_there t x) (list_all (are_there t) xs) all in
    pair_there t x (list_of xs) each.0 (list_there t xs sound each.1)

quote_there : (t : Table) → AreSoundPackages t → are_there t (symbol common_lisp (codes "QUOTE")) ≡ true
unfolding common_lisp_names
quote_there t sound = symbol_there t common_lisp (codes "QUOTE") (lisp_present t sound (codes "QUOTE") refl)

pub headed_there : (t : Table) (x : Object) → AreSoundPackages t → are_there t x ≡ true → are_there t (headed (codes "QUOTE") x) ≡ true
headed_there t x sound there =
    list_there t (symbol common_lisp (codes "QUOTE") ∷ x ∷ []) sound
    (both (are_there t (symbol common_lisp (codes "QUOTE"))) (are_there t x && true) (quote_there t sound) (both (are_there t x) true there refl))

pub more_there : (t : Table) (xs : List Object) (x : Object) → list_all (are_there t) xs ≡ true → are_there t x ≡ true → list_all (are_there t) (xs ++ x ∷ []) ≡ true
more_there t xs x all there = list_all-append (are_there t) xs (x ∷ []) ∙ both (list_all (are_there t) xs) (are_there t x && true) all (both (are_there t x) true there refl)

pub still_list : (with : PlainContext) (xs : List Object) (before after : Bool) (result : Option ClosedList)
    → IfSome result (λ g. g.items ≡ xs) → IfStill before after (AllAreThere with xs) → IfStill before after (IfSome result (λ g. AllAreThere with g.items))
still_list with xs before after None items still = λ e. ((still e).0, tt)
still_list with xs before after (Some g) items still = λ e. ((still e).0, subst (λ (ys : List Object). AllAreThere with ys) (sym items) (still e).1)

-- a quoted object is there, and it is put to items that are
pub quoted_put : (with : PlainContext) (xs ys pair_of : List Object) (x : Object) (before after : Bool) → AreSoundPackages with.packages.now.0 → x ≡ list_of pair_of → ys ≡ xs ++ x ∷ []
    → IfStill before after (AllAreThere with (symbol common_lisp (codes "QUOTE") ∷ []) → AllAreThere with pair_of)
    → IfStill before after (AllAreThere with xs → AllAreThere with ys)
quoted_put with xs ys pair_of x before after sound is items still = λ e. (
  (still e).0,
  λ all.
      let t = with.packages.now.0 in
      let quote : AllAreThere with (symbol common_lisp (codes "QUOTE") ∷ []) = both (are_there t (symbol common_lisp (codes "QUOTE"))) true (quote_there t sound) refl in
      subst (λ (zs : List Object). AllAreThere with zs) (sym items)
      (more_there t xs x all (subst (λ (x : Object). are_there t x ≡ true) (sym is) (list_there t pair_of sound ((still e).1 quote)))),
)

-- one more object that is there is put to items
pub one_put : (with : PlainContext) (xs ys : List Object) (x : Object) (before after : Bool) → ys ≡ xs ++ x ∷ [] → IfStill before after (AreSymbolsThere with x)
    → IfStill before after (AllAreThere with xs → AllAreThere with ys)
one_put with xs ys x before after items still = λ e. (
  (still e).0,
  λ all. subst (λ (zs : List Object). AllAreThere with zs) (sym items) (more_there with.packages.now.0 xs x all (still e).1),
)

-- a list of objects that are there is put to items
pub list_put : (with : PlainContext) (xs ys inner : List Object) (x : Object) (before after : Bool) → AreSoundPackages with.packages.now.0 → x ≡ list_of inner → ys ≡ xs ++ x ∷ []
    → IfStill before after (AllAreThere with inner) → IfStill before after (AllAreThere with xs → AllAreThere with ys)
list_put with xs ys inner x before after sound is items still =
    one_put with xs ys x before after items
    (λ e. ((still e).0, subst (λ (x : Object). are_there with.packages.now.0 x ≡ true) (sym is) (list_there with.packages.now.0 inner sound (still e).1)))

-- an object that alone is put to no items is there
pub only_there : (with : PlainContext) (xs ys : List Object) (x : Object) (before after : Bool) → xs ≡ [] → ys ≡ x ∷ []
    → IfStill before after (AllAreThere with xs → AllAreThere with ys) → IfStill before after (AreSymbolsThere with x)
only_there with xs ys x before after none is still = λ e. (
  (still e).0,
  (and_parts (are_there with.packages.now.0 x) true
      (subst (λ (l : List Object). AllAreThere with l) is ((still e).1 (subst (λ (l : List Object). AllAreThere with l) (sym none) refl)))).0,
)

pub still_more : {a b c : Bool} {P Q : Type 0} → IfStill a b P → IfStill b c (P → Q) → IfStill a c Q
still_more first then known =
    let later = then known in
    let before = first later.0 in
    (before.0, later.1 before.1)
