-- Objects of texts, numbers and NIL: they are sound, and printed alike with all sound packages.
use Rattle.std.proofs.Common.{◌≡◌, ℕ, ◌<◌, true, List, [], ◌∷◌, ◌++◌, map, inr, refl, sym, ap, subst, ◌∙◌}
use Rattle.std.specs.Prelude.{All, ◌&&◌, codes, FitsSigned, Some, Option, option_map, option_and_then}
use Rattle.std.specs.Int.{w128}
use Rattle.std.specs.FinMap as finite
use Rattle.std.specs.FinMap.{get-from_entries}
use Rattle.std.proofs.lemmas.Bool.{and_parts}
use Rattle.lisp_object.specs.Object as o
use Rattle.lisp_object.specs.Object.{Object, AllAtoms, IsSound, nil, list_of}
use Rattle.lisp_object.proofs.Sound.{all_below}
use Rattle.package_table.specs.Table as packages
use Rattle.package_table.specs.Table.{Name, Table, Present, Package, IsExternal, common_lisp, common_lisp_user, common_lisp_names, common_lisp_package}
use Rattle.package_table.specs.Lookup.{home_by_name}
use Rattle.package_table.proofs.Names.{name_total}
use Rattle.package_table.proofs.Found.{found_is}
use Rattle.canon_printer.specs.Printed.{printed, printed_prefix, is_accessible, has_home}
use Rattle.canon_printer.specs.Written.{written, written_rest}
use Rattle.plist_state.specs.Sound.{IsSymbolStorable}
use Rattle.canon_printer.proofs.Resolved.{nil_present}
use Rattle.world_text.specs.Snapshot.{texts, imported_name}
use Rattle.world_text.proofs.Ascii.{are_ascii_names, are_ascii_imports, is_ascii_name}

abbrev pub IsPlain : Object → Type 0
IsPlain (o.integer n) = FitsSigned w128 n
IsPlain (o.text bytes) = All (λ b. b < 128) bytes
IsPlain (o.symbol home name) = (home ≡ common_lisp) × (name ≡ codes "NIL")
IsPlain (o.pair a b) = IsPlain a × IsPlain b
IsPlain _ = ⊥

pub plain_sound : (x : Object) → IsPlain x → IsSound x
plain_sound (o.integer n) p = p
plain_sound (o.text bytes) p = p
plain_sound (o.symbol home name) p = (subst (All (λ b. b < 128)) (sym p.0) (all_below common_lisp refl), subst (All (λ b. b < 128)) (sym p.1) (all_below (codes "NIL") refl))
plain_sound (o.pair a b) p = (plain_sound a p.0, plain_sound b p.1)
plain_sound (o.rational n d) p = absurd p
plain_sound (o.character c) p = absurd p
plain_sound (o.uninterned name) p = absurd p
plain_sound (o.vector xs) p = absurd p

pub plain_known : (t : Table) → packages.AreSoundPackages t → (x : Object) → IsPlain x → AllAtoms (IsSymbolStorable t) x
plain_known t sound (o.integer n) p = tt
plain_known t sound (o.text bytes) p = tt
plain_known t sound (o.symbol home name) p =
    subst (λ h. packages.IsPresent t h name h) (sym p.0) (subst (λ n. packages.IsPresent t common_lisp n common_lisp) (sym p.1) (nil_present t sound))
plain_known t sound (o.pair a b) p = (plain_known t sound a p.0, plain_known t sound b p.1)
plain_known t sound (o.rational n d) p = absurd p
plain_known t sound (o.character c) p = absurd p
plain_known t sound (o.uninterned name) p = absurd p
plain_known t sound (o.vector xs) p = absurd p

-- ---- NIL is written alike

module _ (f g : Name → Name → List ℕ) (same : f common_lisp (codes "NIL") ≡ g common_lisp (codes "NIL")) where
  is_nil_object : (home name : Name) → IsPlain (o.symbol home name) → o.symbol home name ≡ o.symbol common_lisp (codes "NIL")
  is_nil_object home name p i = o.symbol (p.0 i) (p.1 i)

  mutual
    pub written_alike : (x : Object) → IsPlain x → written f x ≡ written g x
    written_alike (o.integer n) p = refl
    written_alike (o.text bytes) p = refl
    written_alike (o.symbol home name) p =
        let nil_here : written f (o.symbol common_lisp (codes "NIL")) ≡ written g (o.symbol common_lisp (codes "NIL")) = ap (λ prefix. prefix ++ codes "NIL") same in
        ap (written f) (is_nil_object home name p) ∙ nil_here ∙ sym (ap (written g) (is_nil_object home name p))
    written_alike (o.pair a b) p = λ i. codes "(" ++ written_alike a p.0 i ++ rest_alike b p.1 i
    written_alike (o.rational n d) p = absurd p
    written_alike (o.character c) p = absurd p
    written_alike (o.uninterned name) p = absurd p
    written_alike (o.vector xs) p = absurd p

    rest_alike : (x : Object) → IsPlain x → written_rest f x ≡ written_rest g x
    rest_alike (o.integer n) p = refl
    rest_alike (o.text bytes) p = refl
    rest_alike (o.symbol home name) p =
        ap (written_rest f) (is_nil_object home name p) ∙ sym (ap (written_rest g) (is_nil_object home name p))
    rest_alike (o.pair a b) p = λ i. codes " " ++ written_alike a p.0 i ++ rest_alike b p.1 i
    rest_alike (o.rational n d) p = absurd p
    rest_alike (o.character c) p = absurd p
    rest_alike (o.uninterned name) p = absurd p
    rest_alike (o.vector xs) p = absurd p

nil_external : (t : Table) → packages.AreSoundPackages t → IsExternal t common_lisp (codes "NIL")
unfolding common_lisp_package common_lisp_names
nil_external t sound =
    ap (λ (k : Option Package). option_map (λ (e : Present). e.external) (option_and_then (λ (k : Package). finite.get k.symbols (codes "NIL")) k)) sound.first.fixed
    ∙ ap (option_map (λ (e : Present). e.external)) (get-from_entries name_total (map (λ n. (n, record { home = common_lisp; external = true })) common_lisp_names) (codes "NIL"))

-- COMMON-LISP-USER finds it
nil_accessible : (t : Table) → packages.AreSoundPackages t → is_accessible t common_lisp_user common_lisp (codes "NIL") ≡ true
nil_accessible t sound =
    let there : home_by_name t common_lisp_user (codes "NIL") ≡ Some common_lisp =
    found_is t (codes "NIL") sound.joined common_lisp_user common_lisp (inr (common_lisp, sound.first.user, nil_external t sound, nil_present t sound)) in
    ap (λ h. has_home h common_lisp) there

pub no_prefix : (t : Table) → packages.AreSoundPackages t → printed_prefix t common_lisp_user common_lisp (codes "NIL") ≡ []
no_prefix t sound = rw (nil_accessible t sound) refl

pub plain_printed : (t u : Table) → packages.AreSoundPackages t → packages.AreSoundPackages u → (x : Object) → IsPlain x → printed t common_lisp_user x ≡ printed u common_lisp_user x
plain_printed t u sound_t sound_u x p =
    written_alike (printed_prefix t common_lisp_user) (printed_prefix u common_lisp_user) (no_prefix t sound_t ∙ sym (no_prefix u sound_u)) x p

-- ---- lists

abbrev pub ArePlain : List Object → Type 0
ArePlain [] = Unit {0}
ArePlain (x ∷ xs) = IsPlain x × ArePlain xs

pub plain_nil : IsPlain nil
plain_nil = (refl, refl)

pub plain_list : (xs : List Object) → ArePlain xs → IsPlain (list_of xs)
plain_list [] p = plain_nil
plain_list (x ∷ xs) p = (p.0, plain_list xs p.1)

pub plain_text : (bytes : Name) → is_ascii_name bytes ≡ true → IsPlain (o.text bytes)
plain_text bytes e = all_below bytes e

plain_each_text : (ns : List Name) → are_ascii_names ns ≡ true → ArePlain (map (λ n. o.text n) ns)
plain_each_text [] e = tt
plain_each_text (n ∷ ns) e =
    let both = and_parts (is_ascii_name n) (are_ascii_names ns) e in
    (plain_text n both.0, plain_each_text ns both.1)

pub plain_texts : (ns : List Name) → are_ascii_names ns ≡ true → IsPlain (texts ns)
plain_texts ns e = plain_list (map (λ n. o.text n) ns) (plain_each_text ns e)

pub plain_imports : (rows : List (Name × Name)) → are_ascii_imports rows ≡ true → ArePlain (map imported_name rows)
plain_imports [] e = tt
plain_imports (r ∷ rows) e =
    let both = and_parts (is_ascii_name r.0 && is_ascii_name r.1) (are_ascii_imports rows) e in
    let names = and_parts (is_ascii_name r.0) (is_ascii_name r.1) both.0 in
    ((plain_text r.0 names.0, (plain_text r.1 names.1, plain_nil)), plain_imports rows both.1)
