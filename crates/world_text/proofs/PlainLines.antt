-- The first and the third object of a snapshot are of texts, numbers and NIL.
use Rattle.std.proofs.Common.{◌≡◌, ℕ, zero, suc, ◌+◌, ◌≤◌, ◌<◌, Bool, true, false, not, List, [], ◌∷◌, ◌++◌, map, filter, get_or, Some, None, IsTrue, refl, sym, subst, inl, inr, arith, unwrap_or}
use Rattle.std.specs.Prelude.{length, nat_le, Option, if◌then◌else◌}
use Rattle.std.specs.List.{flat_map, range_with_len}
use Rattle.std.specs.Str.{bytes_eq}
use Rattle.std.specs.FinMap as finite
use Rattle.std.proofs.lemmas.Bool.{and_parts}
use Rattle.lisp_object.specs.Object as o
use Rattle.lisp_object.specs.Object.{Object, list_of}
use Rattle.readtable_core.specs.declared.characters.Syntax.{Syntax}
use Rattle.readtable_core.specs.declared.characters.Syntax.TheVariants.{Whitespace, Constituent, TerminatingMacro, NonTerminatingMacro, SingleEscape, MultipleEscape, Invalid}
use Rattle.readtable_core.specs.declared.table.Case.{Case}
use Rattle.readtable_core.specs.declared.table.Case.TheVariants.{Upcase, Downcase, Preserve, Invert}
use Rattle.readtable_core.specs.Characters.{syntax_number}
use Rattle.readtable_core.specs.Cases.{case_name}
use Rattle.readtable_core.specs.Names.{is_function_name}
use Rattle.readtable_core.specs.Tables as readtable
use Rattle.readtable_core.specs.Tables.{CharacterEntry, entry_at, standard}
use Rattle.readtable_core.specs.Sound.{IsCharacterEntry, IsReadtable, is_none_or_name}
use Rattle.readtable_core.specs.NamedFunctions.{same_entry}
use Rattle.readtable_core.proofs.Sound.{standard_sound}
use Rattle.package_table.specs.Table as packages
use Rattle.package_table.specs.Table.{Name, Table, common_lisp}
use Rattle.package_table.specs.Readers.{package_names, used_names, imports}
use Rattle.plist_state.specs.State.{WorldState, standard_name}
use Rattle.plist_state.specs.Sound.{IsSoundWorldState}
use Rattle.plist_state.specs.Readers.{readtable_names}
use Rattle.world_text.specs.Snapshot.{made_names, shown_names, imported_name, package_object, packages_object, number, dispatch_object, dispatch_objects, entry_object, entry_objects, readtable_object, snapshot_readtable, readtables_object, tables_object_in}
use Rattle.world_text.proofs.Ascii.{is_ascii_name, are_ascii_names, all_filtered, package_names_ascii, used_names_ascii, made_names_ascii, shown_names_ascii, imports_ascii}
use Rattle.world_text.proofs.Worlds.{readtable_names_ascii, current_package_ascii, current_readtable_ascii}
use Rattle.world_text.proofs.Versions.{third_by}
use Rattle.world_text.proofs.PlainObjects.{IsPlain, ArePlain, plain_nil, plain_list, plain_text, plain_texts, plain_imports}

-- ---- packages

module _ (t : Table) (sound : packages.AreSoundPackages t) where
  plain_package : (p : Name) → is_ascii_name p ≡ true → IsPlain (package_object t p)
  plain_package p e =
      let used = plain_texts (used_names t p) (used_names_ascii t sound p) in
      let made = plain_texts (made_names t p) (made_names_ascii t sound p) in
      let shown = plain_texts (shown_names t p) (shown_names_ascii t sound p) in
      let imported = plain_list (map imported_name (imports t p)) (plain_imports (imports t p) (imports_ascii t sound p)) in
      (plain_text p e, (used, (made, (shown, (imported, plain_nil)))))

  plain_rows : (ps : List Name) → are_ascii_names ps ≡ true → ArePlain (map (package_object t) ps)
  plain_rows [] e = tt
  plain_rows (p ∷ ps) e =
      let both = and_parts (is_ascii_name p) (are_ascii_names ps) e in
      (plain_package p both.0, plain_rows ps both.1)

  pub plain_packages : IsPlain (packages_object t)
  plain_packages =
      let names = filter (λ p. not (bytes_eq p common_lisp)) (package_names t) in
      plain_list (map (package_object t) names) (plain_rows names (all_filtered is_ascii_name (λ p. not (bytes_eq p common_lisp)) (package_names t) (package_names_ascii t sound)))

-- ---- readtables

plain_number : (n : ℕ) → n < 128 → IsPlain (number n)
plain_number n few = omega arith

type_small : (s : Syntax) → syntax_number s < 128
type_small Whitespace = omega arith
type_small Constituent = omega arith
type_small TerminatingMacro = omega arith
type_small NonTerminatingMacro = omega arith
type_small SingleEscape = omega arith
type_small MultipleEscape = omega arith
type_small Invalid = omega arith

plain_function : (f : Name) → IsTrue (is_function_name f) → IsPlain (o.text f)
plain_function f named = plain_text f (and_parts (nat_le (length f) 32) (is_ascii_name f) named).1

plain_case : (k : Case) → IsPlain (o.text (case_name k))
plain_case Upcase = plain_text (case_name Upcase) refl
plain_case Downcase = plain_text (case_name Downcase) refl
plain_case Preserve = plain_text (case_name Preserve) refl
plain_case Invert = plain_text (case_name Invert) refl

plain_both : (xs ys : List Object) → ArePlain xs → ArePlain ys → ArePlain (xs ++ ys)
plain_both [] ys p q = q
plain_both (x ∷ xs) ys p q = (p.0, plain_both xs ys p.1 q)

plain_pair : (f : Option Name) (sub : ℕ) → sub < 128 → IsTrue (is_none_or_name f) → ArePlain (dispatch_object f sub)
plain_pair None sub few named = tt
plain_pair (Some f) sub few named = ((plain_number sub few, (plain_function f named, plain_nil)), tt)

plain_pairs : (e : CharacterEntry) → IsCharacterEntry e → (a n : ℕ) → a + n ≤ 128 → ArePlain (flat_map (λ sub. dispatch_object (get_or e.dispatch sub None) sub) (range_with_len a n))
plain_pairs e sound a zero few = tt
plain_pairs e sound a (suc n) few =
    plain_both (dispatch_object (get_or e.dispatch a None) a) (flat_map (λ sub. dispatch_object (get_or e.dispatch sub None) sub) (range_with_len (a + 1) n))
    (plain_pair (get_or e.dispatch a None) a (omega arith) (sound.names a)) (plain_pairs e sound (a + 1) n (omega arith))

plain_dispatch : (e : CharacterEntry) → IsCharacterEntry e → ArePlain (dispatch_objects e)
unfolding dispatch_objects
plain_dispatch e sound = plain_pairs e sound 0 128 (omega arith)

plain_name : (f : Option Name) → IsTrue (is_none_or_name f) → IsPlain (o.text (unwrap_or f []))
plain_name None named = plain_text [] refl
plain_name (Some f) named = plain_function f named

plain_entry : (c : ℕ) (e : CharacterEntry) → c < 128 → IsCharacterEntry e → IsPlain (entry_object c e)
plain_entry c e few sound =
    (plain_number c few, (plain_number (syntax_number e.syntax) (type_small e.syntax), (plain_name e.function sound.name, (plain_list (dispatch_objects e) (plain_dispatch e sound), plain_nil))))

plain_among : (t : readtable.Table) → IsReadtable t → (p : ℕ → Bool) (a n : ℕ) → a + n ≤ 128 → ArePlain (map (λ c. entry_object c (entry_at t c)) (filter p (range_with_len a n)))
plain_among t sound p a zero few = tt
plain_among t sound p a (suc n) few =
    let later = plain_among t sound p (a + 1) n (omega arith) in
    elim (p a) as (λ b. ArePlain (map (λ c. entry_object c (entry_at t c)) (if b then a ∷ filter p (range_with_len (a + 1) n) else filter p (range_with_len (a + 1) n)))) [
      | true ↦ (plain_entry a (entry_at t a) (omega arith) (sound.each a), later)
      | false ↦ later
    ]

plain_entries : (t : readtable.Table) → IsReadtable t → ArePlain (entry_objects t)
unfolding entry_objects
plain_entries t sound = plain_among t sound (λ c. not (same_entry (entry_at t c) (entry_at standard c))) 0 128 (omega arith)

plain_readtable : (n : Name) (t : readtable.Table) → is_ascii_name n ≡ true → IsReadtable t → IsPlain (readtable_object n t)
plain_readtable n t e sound = (plain_text n e, (plain_case t.letters, (plain_list (entry_objects t) (plain_entries t sound), plain_nil)))

module _ (s : WorldState) (sound : IsSoundWorldState s) where
  named_sound : (n : Name) → IsReadtable (snapshot_readtable s n)
  named_sound n =
      elim (finite.get s.readtables n) as (λ t. finite.get s.readtables n ≡ t → IsReadtable (unwrap_or t standard)) [
        | None ↦ λ _. standard_sound
        | Some t ↦ λ got. (sound.readtables.each n t got).readtable
      ] refl

  plain_tables : (ns : List Name) → are_ascii_names ns ≡ true → ArePlain (map (λ n. readtable_object n (snapshot_readtable s n)) ns)
  plain_tables [] e = tt
  plain_tables (n ∷ ns) e =
      let both = and_parts (is_ascii_name n) (are_ascii_names ns) e in
      (plain_readtable n (snapshot_readtable s n) both.0 (named_sound n), plain_tables ns both.1)

  plain_readtables : IsPlain (readtables_object s)
  plain_readtables =
      let names = filter (λ n. not (bytes_eq n standard_name)) (readtable_names s) in
      plain_list (map (λ n. readtable_object n (snapshot_readtable s n)) names)
      (plain_tables names (all_filtered is_ascii_name (λ n. not (bytes_eq n standard_name)) (readtable_names s) (readtable_names_ascii s sound)))

  plain_package_name : IsPlain (o.text s.current_package)
  plain_package_name = plain_text s.current_package (current_package_ascii s sound)

  plain_readtable_name : IsPlain (o.text s.current_readtable)
  plain_readtable_name = plain_text s.current_readtable (current_readtable_ascii s sound)

  plain_base : IsPlain (number s.read_base)
  plain_base = let highest = sound.highest_base in plain_number s.read_base (omega arith)

  pub plain_third : (version : ℕ) (x : Object) → tables_object_in version s ≡ Some x → IsPlain x
  plain_third version x is =
      elim (third_by version s x is) [
        | inl second ↦ subst IsPlain (sym second.1) (plain_package_name, (plain_readtable_name, (plain_base, (plain_readtables, plain_nil))))
        | inr first ↦ subst IsPlain (sym first.2) (plain_package_name, (plain_readtable_name, (plain_readtables, plain_nil)))
      ]
