-- What is kept of a message, as an entry.
--     entry_again, entry_there      an entry is found as what it was made of
--     kept_stands, kept_is_short      what is kept may stand in a form
--     entry_is_value      an entry may be stored
use Rattle.std.proofs.Common.{◌≡◌, ℕ, ◌+◌, ◌<◌, ◌≤◌, ◌^◌, nat_le, Bool, true, false, ◌&&◌, cond, if◌then◌else◌, List, [], ◌∷◌, length, codes, pos, Option, None, Some, Ok, Err, refl, sym, ap, subst, ◌∙◌, arith}
use Rattle.std.specs.Prelude.{All, option_and_then, option_map}
use Rattle.std.specs.List.{list_all}
use Rattle.std.proofs.lemmas.Bool.{and_parts, leb-true, lt-ltb}
use Rattle.lisp_object.specs.Ascii.{is_ascii}
use Rattle.lisp_object.specs.Object as object
use Rattle.lisp_object.specs.Object.{Object, integer, list_of, nil, pair, text}
use Rattle.lisp_object.proofs.Sound.{all_below}
use Rattle.messages.specs.Position.{number_of_object}
use Rattle.package_table.specs.Table as packages
use Rattle.package_table.specs.Table.{Table, common_lisp, common_lisp_names}
use Rattle.package_table.proofs.FirstNames.{lisp_present}
use Rattle.plist_state.specs.Changes.{plist, property, with_property}
use Rattle.plist_state.specs.Properties.{Plist, Symbol, same_symbol, value_at, with_value}
use Rattle.plist_state.specs.Sound.{IsSymbolStorable, IsValue}
use Rattle.plist_state.specs.State.{WorldState}
use Rattle.plist_state.proofs.Lists.{list-with_list}
use Rattle.plist_state.proofs.Orders.{symbol_tied}
use Rattle.client_table.specs.Entries.{KeptMessage, MayStand, message_symbol, entry, entry_in, entry_list, kept_in, kept_objects, kept_message, may_be_kept, table_package}
use Rattle.client_table.proofs.EntryMade.{IsShort}

-- ---- found again

-- what was put last
value_put : (i : Symbol) (v : Object) (ps : Plist) → value_at (with_value ps i v) i ≡ Some v
value_put i v [] = ap (λ b. cond b (Some v) None) (symbol_tied i)
value_put i v (p ∷ ps) =
    elim (same_symbol i p.0) as (λ b. same_symbol i p.0 ≡ b → value_at (cond b ((p.0, v) ∷ ps) (p ∷ with_value ps i v)) i ≡ Some v) [
      | true ↦ λ same. ap (λ b. cond b (Some v) (value_at ps i)) same
      | false ↦ λ other. ap (λ b. cond b (Some p.1) (value_at (with_value ps i v) i)) other ∙ value_put i v ps
    ] refl

property_put : (w : WorldState) (x i : Symbol) (v : Object) → property (with_property w x i v) x i ≡ Some v
property_put w x i v = ap (λ ps. value_at ps i) (list-with_list w.properties x (with_value (plist w x) i v)) ∙ value_put i v (plist w x)

number_again : (n : ℕ) → n < 2 ^ 64 → number_of_object (integer (pos n)) ≡ Some n
number_again n fits = ap (λ (b : Bool). if b then Some n else None) (lt-ltb n (2 ^ 64) fits)

abbrev of_number : Option KeptMessage → ℕ → Option (ℕ × KeptMessage)
of_number kept n = option_map (λ k. (n, k)) kept

pub entry_again : (number : ℕ) (kept : KeptMessage) → number < 2 ^ 64 → MayStand kept → entry_in (entry_list number kept) ≡ Some (number, kept)
entry_again number (Ok whole) fits stands = ap (option_and_then (of_number (Some (Ok whole)))) (number_again number fits)
entry_again number (Err count) fits stands = λ i. option_and_then (of_number (option_map (λ n. Err n) (number_again count stands i))) (number_again number fits i)

pub entry_there : (w : WorldState) (name : List ℕ) (number : ℕ) (kept : KeptMessage) → number < 2 ^ 64 → MayStand kept
    → entry (with_property w (table_package, name) message_symbol (entry_list number kept)) name ≡ Some (number, kept)
entry_there w name number kept fits stands =
    ap (option_and_then entry_in) (property_put w (table_package, name) message_symbol (entry_list number kept)) ∙ entry_again number kept fits stands

-- ---- what is kept

module _ (form answer : List ℕ) (fits : length form < 2 ^ 64) where
  stands_by : (a b : Bool) → may_be_kept form ≡ a → may_be_kept answer ≡ b → MayStand (if a && b then Ok (form, answer) else Err (length form))
  stands_by true true first second =
      let one = and_parts (nat_le (length form) 65536) (list_all is_ascii form) first in
      let two = and_parts (nat_le (length answer) 65536) (list_all is_ascii answer) second in
      (all_below form one.1, all_below answer two.1)
  stands_by true false first second = fits
  stands_by false b first second = fits

  pub kept_stands : MayStand (kept_message form answer)
  kept_stands = stands_by (may_be_kept form) (may_be_kept answer) refl refl

  short_by : (a b : Bool) → may_be_kept form ≡ a → may_be_kept answer ≡ b → IsShort (if a && b then Ok (form, answer) else Err (length form))
  short_by true true first second =
      let one = and_parts (nat_le (length form) 65536) (list_all is_ascii form) first in
      let two = and_parts (nat_le (length answer) 65536) (list_all is_ascii answer) second in
      (leb-true (length form) 65536 one.0, leb-true (length answer) 65536 two.0)
  short_by true false first second = fits
  short_by false b first second = fits

  pub kept_is_short : IsShort (kept_message form answer)
  kept_is_short = short_by (may_be_kept form) (may_be_kept answer) refl refl

-- ---- it may be stored

module _ (t : Table) (sound : packages.AreSoundPackages t) where
  nil_known : IsSymbolStorable t nil
  unfolding common_lisp_names
  nil_known = lisp_present t sound (codes "NIL") refl

  pub entry_is_value : (number : ℕ) (kept : KeptMessage) → number < 2 ^ 64 → MayStand kept → IsValue t (entry_list number kept)
  entry_is_value number (Ok whole) fits stands = record {
    object = (record { sfits = omega (arith, fits) }, (stands.0, (stands.1, (all_below common_lisp refl, all_below (codes "NIL") refl))));
    depth = omega arith;
    symbols = (tt, (tt, (tt, nil_known)));
  }
  entry_is_value number (Err count) fits stands = record {
    object = (record { sfits = omega (arith, fits) }, (record { sfits = omega (arith, stands) }, (all_below [] refl, (all_below common_lisp refl, all_below (codes "NIL") refl))));
    depth = omega arith;
    symbols = (tt, (tt, (tt, nil_known)));
  }
