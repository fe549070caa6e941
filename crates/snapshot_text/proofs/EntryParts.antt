-- The entries of a readtable, as they are made: of a character that is no macro character, the one of a standard character.
use Rattle.std.proofs.Common.{◌≡◌, ℕ, List, [], ◌∷◌, length, map, get_or, Option, Some, None, true, false, refl, sym, ap, ◌∙◌, arith, ◌<◌, ◌≤◌}
use Rattle.std.specs.Prelude.{is_some, unwrap_or}
use Rattle.std.specs.List.{list_all}
use Rattle.lisp_object.specs.declared.datum.Datum.{Datum}
use Rattle.lisp_object.specs.Object.{Object, text, list_of}
use Rattle.lisp_object.specs.Datum.{object_of, is_proper}
use Rattle.readtable_core.specs.declared.characters.Syntax.{Syntax}
use Rattle.readtable_core.specs.Characters.{standard_syntax, syntax_number}
use Rattle.readtable_core.specs.Tables.{CharacterEntry, entry_at, standard}
use Rattle.readtable_core.specs.Sound.{IsCharacterEntry, is_macro, dispatches}
use Rattle.readtable_core.proofs.Sound.{standard_sound}
use Rattle.readtable_core.proofs.Standard.{standard_syntax_at}
use Rattle.readtable_core.proofs.Named.{number_known}
use Rattle.std.proofs.lemmas.Bool.{leb-true}
use Rattle.world_text.specs.Snapshot.{number, dispatch_objects}
use Rattle.snapshot_text.proofs.ReadParts.{item_at, item_count}
use Rattle.snapshot_text.proofs.MacroParts.{no_places}

no_function : (o : Option (List ℕ)) → is_some o ≡ false → o ≡ None
no_function None e = refl
no_function (Some f) e = absurd cc

plain : (e : CharacterEntry) → IsCharacterEntry e → is_macro e.syntax ≡ false → (e.function ≡ None) × (e.dispatch ≡ [])
plain e sound other =
    let function = no_function e.function (sound.function ∙ other) in
    (function, no_places e sound (ap dispatches function))

pub standard_is : (e : CharacterEntry) (syntax : Syntax) (c : ℕ) → IsCharacterEntry e → e.syntax ≡ syntax → standard_syntax c ≡ syntax → is_macro syntax ≡ false → entry_at standard c ≡ e
standard_is e syntax c sound is at_c other =
    let f = entry_at standard c in
    let typed : f.syntax ≡ syntax = standard_syntax_at c ∙ at_c in
    let here = plain e sound (ap is_macro is ∙ other) in
    let there = plain f (standard_sound.each c) (ap is_macro typed ∙ other) in
    λ i. record { syntax = (typed ∙ sym is) i; function = (there.0 ∙ sym here.0) i; dispatch = (there.1 ∙ sym here.1) i }

-- a list of four
pub record AreFour (x y z v : Object) (a b c d : Datum) : Type 0 where
  pub first_proper : is_proper a ≡ true
  pub first : object_of a ≡ x
  pub second_proper : is_proper b ≡ true
  pub second : object_of b ≡ y
  pub third_proper : is_proper c ≡ true
  pub third : object_of c ≡ z
  pub fourth_proper : is_proper d ≡ true
  pub fourth : object_of d ≡ v

pub four_items : (items : List Datum) (a b c d : Datum) (x y z v : Object) → map object_of items ≡ x ∷ y ∷ z ∷ v ∷ [] → list_all is_proper items ≡ true
    → a ≡ get_or items 0 a → b ≡ get_or items 1 b → c ≡ get_or items 2 c → d ≡ get_or items 3 d → AreFour x y z v a b c d
four_items items a b c d x y z v e proper is_a is_b is_c is_d =
    let count : length items ≡ 4 = item_count items (x ∷ y ∷ z ∷ v ∷ []) e in
    let first = item_at items 0 a (x ∷ y ∷ z ∷ v ∷ []) e proper (omega arith) is_a in
    let second = item_at items 1 b (x ∷ y ∷ z ∷ v ∷ []) e proper (omega arith) is_b in
    let third = item_at items 2 c (x ∷ y ∷ z ∷ v ∷ []) e proper (omega arith) is_c in
    let fourth = item_at items 3 d (x ∷ y ∷ z ∷ v ∷ []) e proper (omega arith) is_d in
    record {
      first_proper = first.0;
      first = first.1;
      second_proper = second.0;
      second = second.1;
      third_proper = third.0;
      third = third.1;
      fourth_proper = fourth.0;
      fourth = fourth.1;
    }

-- the parts of an entry
abbrev pub entry_items : ℕ → CharacterEntry → List Object
entry_items c e = number c ∷ number (syntax_number e.syntax) ∷ text (unwrap_or e.function []) ∷ list_of (dispatch_objects e) ∷ []

pub syntax_small : (s : Syntax) → syntax_number s < 128
syntax_small s = let small : syntax_number s ≤ 6 = leb-true (syntax_number s) 6 (number_known s) in omega arith
