-- What the operators on property lists build.
--     pushed_value      a pair that PUSH stores
--     indicators_sound      the indicators of a symbol
--     in_turn_more, turn_proper      one more property of a list in turn
--     all_ascii, ascii_home, ascii_name, package_ascii, readtable_ascii      names of characters below 128
use Rattle.std.proofs.Common.{◌≡◌, ◌<◌, ◌+◌, ℕ, true, false, List, [], ◌∷◌, ◌++◌, All, map, length, take, nat_lt, unwrap_or, Some, refl, sym, ap, subst, ◌∙◌}
use Rattle.std.specs.List.{list_all, slice_get}
use Rattle.std.proofs.lemmas.Bool.{ltb-false, and_from}
use Rattle.std.proofs.lemmas.List.{take_more, map-append}
use Rattle.std.proofs.lemmas.List.Folds.{list_all-append}
use Rattle.std.proofs.lemmas.Option.{get_or_from_slice_get}
use Rattle.std.proofs.lemmas.List.Elements.{All-weaker}
use Rattle.lisp_object.specs.Ascii.{is_ascii}
use Rattle.lisp_object.specs.declared.datum.Datum.{Datum}
use Rattle.lisp_object.specs.Object as object
use Rattle.lisp_object.specs.Object.{Object, symbol, pair, nil, object_depth}
use Rattle.lisp_object.specs.Datum.{object_of, is_proper}
use Rattle.lisp_object.proofs.Sound.{all_ascii}
use Rattle.package_table.specs.Table.{Table, keyword, IsPackage}
use Rattle.package_table.specs.Lookup.{home_by_name}
use Rattle.package_table.proofs.Found.{found_finds}
use Rattle.package_table.proofs.Keeping.{present_at_home}
use Rattle.lisp_operators.specs.ArgumentKinds.{a_name, a_text}
use Rattle.plist_state.specs.Properties.{Symbol, Plist}
use Rattle.plist_state.specs.State.{WorldState}
use Rattle.plist_state.specs.Changes.{plist, property}
use Rattle.plist_state.specs.Sound.{IsSymbol, IsValue, IsSoundWorldState}
use Rattle.lisp_operators.specs.Properties.{in_turn}
use Rattle.lisp_operators.specs.EvaluationAnswers.{object_of_symbol}
use Rattle.lisp_operators.proofs.Storable.{name_kind, text_kind, symbol_is_value, nil_value, pair_value}
use Rattle.lisp_operators.proofs.SoundProperties.{property_value, held}

pub pushed_value : (s : WorldState) (x i : Symbol) (v o : Object) → IsSoundWorldState s → IsValue s.packages v → o ≡ pair v (unwrap_or (property s x i) nil)
    → nat_lt 100 (object_depth (pair v (unwrap_or (property s x i) nil))) ≡ false → IsValue s.packages o
pushed_value s x i v o sound value is shallow =
    subst (IsValue s.packages) (sym is)
    (pair_value s.packages v (unwrap_or (property s x i) nil) value (property_value s x i nil sound (nil_value s.packages sound.packages))
    (ltb-false 100 (object_depth (pair v (unwrap_or (property s x i) nil))) shallow))

pub indicators_sound : (s : WorldState) (x : Symbol) → IsSoundWorldState s → All (λ p. object.IsSound (object_of_symbol p.0)) (plist s x)
indicators_sound s x sound =
    All-weaker (λ (p : Symbol × Object). IsSymbol s.packages p.0) (λ p. object.IsSound (object_of_symbol p.0)) (λ p there. (symbol_is_value s.packages p.0.0 p.0.1 sound.packages there).object) (plist s x)
    (held s x sound).indicators

in_turn_push : (ps : Plist) (p : Symbol × Object) → in_turn (ps ++ p ∷ []) ≡ in_turn ps ++ (symbol p.0.0 p.0.1 ∷ p.1 ∷ [])
in_turn_push [] p = refl
in_turn_push (q ∷ ps) p = ap (λ rest. symbol q.0.0 q.0.1 ∷ q.1 ∷ rest) (in_turn_push ps p)

pub in_turn_more : (ps : Plist) (i : ℕ) (p : Symbol × Object) (vs : List Datum) (k v : Datum) → i < length ps → slice_get ps i ≡ Some p → map object_of vs ≡ in_turn (take i ps)
    → object_of k ≡ object_of_symbol p.0 → object_of v ≡ p.1 → map object_of ((vs ++ k ∷ []) ++ v ∷ []) ≡ in_turn (take (i + 1) ps)
in_turn_more ps i p vs k v within is before key value =
    map-append object_of (vs ++ k ∷ []) (v ∷ []) ∙ ap (λ xs. xs ++ object_of v ∷ []) (map-append object_of vs (k ∷ []))
    ∙ (ap (λ xs. (xs ++ object_of k ∷ []) ++ object_of v ∷ []) before ∙ (ap (λ x. (in_turn (take i ps) ++ x ∷ []) ++ object_of v ∷ []) key ∙ ap (λ x. (in_turn (take i ps) ++ object_of_symbol p.0 ∷ []) ++ x ∷ []) value))
    ∙ two (in_turn (take i ps)) (object_of_symbol p.0) p.1
    ∙ sym (in_turn_push (take i ps) p)
    ∙ ap (λ q. in_turn (take i ps ++ q ∷ [])) (sym (get_or_from_slice_get ps i p p is))
    ∙ ap in_turn (sym (take_more ps i p within))
  where
    two : (xs : List Object) (x y : Object) → (xs ++ x ∷ []) ++ y ∷ [] ≡ xs ++ (x ∷ y ∷ [])
    two [] x y = refl
    two (z ∷ zs) x y = ap (λ r. z ∷ r) (two zs x y)

pub ascii_home : (h n : List ℕ) → object.IsSound (symbol h n) → list_all is_ascii h ≡ true
ascii_home h n sound = all_ascii h sound.0

pub ascii_name : (h n : List ℕ) → object.IsSound (symbol h n) → list_all is_ascii n ≡ true
ascii_name h n sound = all_ascii n sound.1

pub turn_proper : (vs : List Datum) (k v : Datum) → list_all is_proper vs ≡ true → is_proper k ≡ true → is_proper v ≡ true → list_all is_proper ((vs ++ k ∷ []) ++ v ∷ []) ≡ true
turn_proper vs k v all key value =
    let one : list_all is_proper (vs ++ k ∷ []) ≡ true = list_all-append is_proper vs (k ∷ []) ∙ and_from (list_all is_proper vs) (list_all is_proper (k ∷ [])) all (and_from (is_proper k) true key refl) in
    list_all-append is_proper (vs ++ k ∷ []) (v ∷ []) ∙ and_from (list_all is_proper (vs ++ k ∷ [])) (list_all is_proper (v ∷ [])) one (and_from (is_proper v) true value refl)

pub package_ascii : (s : WorldState) (n : List ℕ) → IsSoundWorldState s → n ≡ s.current_package → list_all is_ascii n ≡ true
package_ascii s n sound is = ap (list_all is_ascii) is ∙ all_ascii s.current_package (sound.packages.within.package_names s.current_package sound.current_package).ascii

pub readtable_ascii : (s : WorldState) (n : List ℕ) → IsSoundWorldState s → n ≡ s.current_readtable → list_all is_ascii n ≡ true
readtable_ascii s n sound is =
    ap (list_all is_ascii) is ∙ ascii_name keyword s.current_readtable (symbol_is_value s.packages keyword s.current_readtable sound.packages (sound.readtables.names s.current_readtable sound.current_readtable)).object

-- a package that is there
pub package_name_ascii : (s : WorldState) (u : Table) (n : List ℕ) → IsSoundWorldState s → u ≡ s.packages → IsPackage u n → list_all is_ascii n ≡ true
package_name_ascii s u n sound is there = all_ascii n (sound.packages.within.package_names n (subst (λ t. IsPackage t n) is there)).ascii

-- arguments
pub name_ascii : (u : Table) (x : Object) (n : List ℕ) → Some n ≡ a_name x → IsValue u x → list_all is_ascii n ≡ true
name_ascii u x n e is = all_ascii n (name_kind u x n (sym e) is)

pub text_ascii : (u : Table) (x : Object) (n : List ℕ) → Some n ≡ a_text x → IsValue u x → list_all is_ascii n ≡ true
text_ascii u x n e is = all_ascii n (text_kind u x n (sym e) is)

-- the home of a symbol that a package finds
pub home_ascii : (s : WorldState) (p n h : List ℕ) → IsSoundWorldState s → home_by_name s.packages p n ≡ Some h → list_all is_ascii h ≡ true
home_ascii s p n h sound e =
    all_ascii h ((symbol_is_value s.packages h n sound.packages (present_at_home s.packages p n h sound.packages.joined (found_finds s.packages n p h e))).object.0)
