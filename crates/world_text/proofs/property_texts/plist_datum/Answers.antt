use Rattle.std.proofs.Common.{◌≡◌, ◌<◌, ◌+◌, ◌++◌, ℕ, Bool, zero, suc, true, Some, List, [], ◌∷◌, map, length, take, refl, sym, ap, ◌∙◌}
use Rattle.std.specs.Prelude.{◌&&◌}
use Rattle.std.specs.List.{list_all, flat_map, slice_get}
use Rattle.std.proofs.lemmas.Bool.{and_parts, and_from}
use Rattle.std.proofs.lemmas.List.{take_more, map-append}
use Rattle.std.proofs.lemmas.List.Folds.{list_all-append}
use Rattle.std.proofs.lemmas.Option.{slice_get_within, get_or_from_slice_get}
use Rattle.lisp_object.specs.Ascii.{is_ascii}
use Rattle.lisp_object.specs.declared.datum.Datum.{Datum}
use Rattle.lisp_object.specs.Object.{Object}
use Rattle.lisp_object.specs.Datum.{object_of, is_proper}
use Rattle.lisp_object.proofs.Objects.{object_of-Symbol}
use Rattle.lisp_object.proofs.Properness.{is_proper-Symbol}
use Rattle.package_table.proofs.Names.{same_some}
use Rattle.plist_state.specs.Properties.{Symbol, Plist}
use Rattle.plist_state.specs.Views.{property_of}
use Rattle.world_text.specs.Snapshot.{symbol_object}
use Rattle.world_text.proofs.property_texts.plist_datum.Goals as goal

abbrev parts : Symbol × Object → List Object
parts p = symbol_object p.0 ∷ p.1 ∷ []

abbrev is_ascii_key : Symbol × Object → Bool
is_ascii_key p = list_all is_ascii p.0.0 && list_all is_ascii p.0.1

parts_push : (ps : Plist) (p : Symbol × Object) → flat_map parts (ps ++ p ∷ []) ≡ flat_map parts ps ++ parts p
parts_push [] p = refl
parts_push (q ∷ ps) p = ap (λ rest. symbol_object q.0 ∷ q.1 ∷ rest) (parts_push ps p)

two : (xs : List Object) (x y : Object) → (xs ++ x ∷ []) ++ y ∷ [] ≡ xs ++ (x ∷ y ∷ [])
two [] x y = refl
two (z ∷ zs) x y = ap (λ r. z ∷ r) (two zs x y)

one_more : (first : Object) (ps : Plist) (i : ℕ) (p : Symbol × Object) (vs : List Datum) (k v : Datum) → i < length ps → slice_get ps i ≡ Some p
    → map object_of vs ≡ first ∷ flat_map parts (take i ps) → object_of k ≡ symbol_object p.0 → object_of v ≡ p.1
    → map object_of ((vs ++ k ∷ []) ++ v ∷ []) ≡ first ∷ flat_map parts (take (i + 1) ps)
one_more first ps i p vs k v within is before key value =
    map-append object_of (vs ++ k ∷ []) (v ∷ []) ∙ ap (λ xs. xs ++ object_of v ∷ []) (map-append object_of vs (k ∷ []))
    ∙ (λ t. (before t ++ key t ∷ []) ++ value t ∷ [])
    ∙ ap (λ xs. first ∷ xs) (
    two (flat_map parts (take i ps)) (symbol_object p.0) p.1
    ∙ sym (parts_push (take i ps) p)
    ∙ ap (λ q. flat_map parts (take i ps ++ q ∷ [])) (sym (get_or_from_slice_get ps i p p is))
    ∙ ap (flat_map parts) (sym (take_more ps i p within)))

key_at : (ps : Plist) (i : ℕ) (p : Symbol × Object) → list_all is_ascii_key ps ≡ true → slice_get ps i ≡ Some p → is_ascii_key p ≡ true
key_at [] i p all is = absurd (cc)
key_at (q ∷ ps) zero p all is = ap is_ascii_key (sym (same_some q p is)) ∙ (and_parts (is_ascii_key q) (list_all is_ascii_key ps) all).0
key_at (q ∷ ps) (suc i) p all is = key_at ps i p (and_parts (is_ascii_key q) (list_all is_ascii_key ps) all).1 is

both_proper : (vs : List Datum) (k v : Datum) → list_all is_proper vs ≡ true → is_proper k ≡ true → is_proper v ≡ true → list_all is_proper ((vs ++ k ∷ []) ++ v ∷ []) ≡ true
both_proper vs k v all key value =
    let one : list_all is_proper (vs ++ k ∷ []) ≡ true = list_all-append is_proper vs (k ∷ []) ∙ and_from (list_all is_proper vs) (list_all is_proper (k ∷ [])) all (and_from (is_proper k) true key refl) in
    list_all-append is_proper (vs ++ k ∷ []) (v ∷ []) ∙ and_from (list_all is_proper (vs ++ k ∷ [])) (list_all is_proper (v ∷ [])) one (and_from (is_proper v) true value refl)

pub loop-index-preserved : goal.loop-index-preserved
loop-index-preserved c =
    let ps : Plist = c.args.properties.now in
    let i = c.loop-index.index in
    let vs = c.loop-index.items.items in
    let p : Symbol × Object = property_of c.at-property.result in
    let k = c.in_ok-symbol_datum-2.field-0 in
    let v = c.in_ok-copy.field-0 in
    let is : slice_get ps i ≡ Some p = c.at-property.ensures.property in
    let same : c.push-in-loop-index-2.new.self.items ≡ (vs ++ k ∷ []) ++ v ∷ [] = c.in_ok-push-3.ensures.items ∙ ap (λ xs. xs ++ v ∷ []) c.in_ok-push-2.ensures.items in
    record {
      objects = ap (map object_of) same
          ∙ one_more _ ps i p vs k v (slice_get_within ps i p is) is c.loop-index.invariant.objects (ap object_of c.in_ok-symbol_datum-2.ensures ∙ object_of-Symbol p.0.0 p.0.1) (ap object_of c.in_ok-copy.ensures);
      proper = λ ascii keys. ap (list_all is_proper) same
          ∙ both_proper vs k v (c.loop-index.invariant.proper ascii keys) (ap is_proper c.in_ok-symbol_datum-2.ensures ∙ is_proper-Symbol p.0.0 p.0.1 ∙ key_at ps i p keys is) (ap is_proper c.in_ok-copy.ensures ∙ c.at-property.ensures.proper);
    }
