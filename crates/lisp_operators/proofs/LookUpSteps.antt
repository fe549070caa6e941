-- What the look-ups read, name after name.
--     found_by      a symbol that a package finds, as it is resolved
--     name_at, packages_ascii      names of characters below 128
--     texts_more, one_more_proper, owners_more      a loop over names: one more text, one more symbol that has a property
--     some_mapped, owner_ascii      a symbol that has a property
use Rattle.std.proofs.Common.{◌≡◌, ◌<◌, ◌+◌, ℕ, Bool, Bor, true, false, cond, List, [], ◌∷◌, ◌++◌, All, map, filter, length, take, get_or, Option, Some, None, is_some, Ok, Err, bytes_eq, refl, sym, ap, subst, ◌∙◌}
use Rattle.std.specs.List.{list_all}
use Rattle.std.specs.Option.{option_map, option_map_or}
use Rattle.std.proofs.lemmas.Bool.{and_from}
use Rattle.std.proofs.lemmas.List.{take_more, map-append, append-nil}
use Rattle.std.proofs.lemmas.List.Folds.{list_all-append}
use Rattle.std.proofs.lemmas.List.Elements.{All-head, All-tail, All-nil, All-cons, All-get_or, All-weaker, filter-append}
use Rattle.lisp_object.specs.declared.datum.Datum.{Datum}
use Rattle.lisp_object.specs.Object.{Object, text, symbol}
use Rattle.lisp_object.specs.Datum.{object_of, is_proper}
use Rattle.lisp_object.proofs.Sound.{all_ascii}
use Rattle.package_table.specs.declared.error.PackageError.TheVariants.{LockedPackage}
use Rattle.package_table.specs.Table.{Name, Table, IsPackage, common_lisp}
use Rattle.package_table.specs.Lookup.{home_by_name}
use Rattle.package_table.specs.Readers.{package_names, names_of}
use Rattle.package_table.specs.Resolving.{found_at, new_in, resolution}
use Rattle.plist_state.specs.Properties.{Symbol}
use Rattle.plist_state.specs.State.{WorldState}
use Rattle.plist_state.specs.Changes.{property}
use Rattle.plist_state.specs.Sound.{IsSoundWorldState}
use Rattle.lisp_operators.specs.EvaluationAnswers.{IsAscii}
use Rattle.lisp_operators.proofs.LookUpLaws.{owner_there, package_there}
use Rattle.lisp_operators.proofs.PropertyRows.{ascii_home, ascii_name}
use Rattle.lisp_operators.proofs.Storable.{symbol_is_value}

-- ---- a symbol that a package finds
not_new : (b : Bool) (p h : Name) → cond b (Err LockedPackage) (Ok (new_in p)) ≡ Ok (found_at h) → ⊥
not_new true p h e = cc
not_new false p h e = cc

pub found_by : (t : Table) (p n h : Name) → resolution t p n ≡ Ok (found_at h) → home_by_name t p n ≡ Some h
found_by t p n h e =
    elim (home_by_name t p n) as (λ (o : Option Name). option_map_or (λ g. Ok (found_at g)) o (cond (bytes_eq p common_lisp) (Err LockedPackage) (Ok (new_in p))) ≡ Ok (found_at h) → o ≡ Some h) [
      | Some g ↦ λ same. cc
      | None ↦ λ new. absurd (not_new (bytes_eq p common_lisp) p h new)
    ] e

-- ---- the names of the packages
all_mapped : {X Y : Type 0} (P : Y → Type 0) (f : X → Y) (xs : List X) → All P (map f xs) → All (λ x. P (f x)) xs
all_mapped P f [] all = All-nil (λ x. P (f x))
all_mapped P f (x ∷ xs) all = All-cons (λ y. P (f y)) x xs (All-head P (f x) (map f xs) all) (all_mapped P f xs (All-tail P (f x) (map f xs) all))

pub name_at : (ns : List (Bor Name)) (i : ℕ) (e : Bor Name) → i < length ns → All IsAscii (names_of ns) → IsAscii (get_or ns i e).now
name_at ns i e within all = All-get_or (λ (b : Bor Name). IsAscii b.now) ns i e within (all_mapped IsAscii (λ (b : Bor Name). b.now) ns all)

pub packages_ascii : (s : WorldState) (t : Table) (ns : List Name) → IsSoundWorldState s → t ≡ s.packages → ns ≡ package_names t → All IsAscii ns
packages_ascii s t ns sound same are =
    subst (All IsAscii) (sym (are ∙ ap package_names same))
    (All-weaker (IsPackage s.packages) IsAscii (λ p there. all_ascii p (sound.packages.within.package_names p there).ascii) (package_names s.packages) (package_there s))

names_more : (ns : List (Bor Name)) (i : ℕ) (e : Bor Name) → i < length ns → names_of (take i ns) ++ (get_or ns i e).now ∷ [] ≡ names_of (take (i + 1) ns)
names_more ns i e within = sym (map-append (λ (b : Bor Name). b.now) (take i ns) (get_or ns i e ∷ [])) ∙ ap names_of (sym (take_more ns i e within))

pub texts_more : (ns : List (Bor Name)) (i : ℕ) (e : Bor Name) (vs : List Datum) (d : Datum) → i < length ns → map object_of vs ≡ map text (names_of (take i ns)) → object_of d ≡ text (get_or ns i e).now
    → map object_of (vs ++ d ∷ []) ≡ map text (names_of (take (i + 1) ns))
texts_more ns i e vs d within before here =
    map-append object_of vs (d ∷ []) ∙ ap (λ xs. xs ++ object_of d ∷ []) before ∙ ap (λ o. map text (names_of (take i ns)) ++ o ∷ []) here
    ∙ sym (map-append text (names_of (take i ns)) ((get_or ns i e).now ∷ []))
    ∙ ap (map text) (names_more ns i e within)

pub one_more_proper : (vs : List Datum) (d : Datum) → list_all is_proper vs ≡ true → is_proper d ≡ true → list_all is_proper (vs ++ d ∷ []) ≡ true
one_more_proper vs d all is = list_all-append is_proper vs (d ∷ []) ∙ and_from (list_all is_proper vs) (list_all is_proper (d ∷ [])) all (and_from (is_proper d) true is refl)

-- ---- the symbols that have a property
joined : (b : Bool) (h n : Name) (ns : List Name) (os : List Object) → os ≡ map (symbol h) ns → cond b (os ++ symbol h n ∷ []) os ≡ map (symbol h) (ns ++ cond b (n ∷ []) [])
joined true h n ns os are = ap (λ xs. xs ++ symbol h n ∷ []) are ∙ sym (map-append (symbol h) ns (n ∷ []))
joined false h n ns os are = are ∙ ap (map (symbol h)) (sym (append-nil ns))

pub owners_more : (has : Name → Bool) (h : Name) (ns : List (Bor Name)) (i : ℕ) (e : Bor Name) (vs ws : List Datum) → i < length ns
    → map object_of vs ≡ map (symbol h) (filter has (names_of (take i ns)))
    → map object_of ws ≡ cond (has (get_or ns i e).now) (map object_of vs ++ symbol h (get_or ns i e).now ∷ []) (map object_of vs)
    → map object_of ws ≡ map (symbol h) (filter has (names_of (take (i + 1) ns)))
owners_more has h ns i e vs ws within before now =
    let n = (get_or ns i e).now in
    now ∙ joined (has n) h n (filter has (names_of (take i ns))) (map object_of vs) before
    ∙ ap (map (symbol h)) (sym (filter-append has (names_of (take i ns)) (n ∷ [])))
    ∙ ap (λ xs. map (symbol h) (filter has xs)) (names_more ns i e within)

pub some_mapped : {X Y : Type 0} (f : X → Y) (o : Option X) → is_some o ≡ is_some (option_map f o)
some_mapped f (Some x) = refl
some_mapped f None = refl

pub owner_ascii : (s : WorldState) (h n : Name) (i : Symbol) → IsSoundWorldState s → is_some (property s (h, n) i) ≡ true → IsAscii h × IsAscii n
owner_ascii s h n i sound has =
    let object = (symbol_is_value s.packages h n sound.packages (owner_there s (h, n) i sound has)).object in
    (ascii_home h n object, ascii_name h n object)
