-- The store's own form that puts an entry in does just that.
--     entry_short      its text is no longer than a form may be
--     entry_made      what the text of an entry gives
use Rattle.std.proofs.Common.{◌≡◌, ℕ, zero, suc, ◌+◌, ◌*◌, ◌-◌, ◌<◌, ◌≤◌, ◌^◌, ◌==◌, nat_le, Bool, true, false, ◌&&◌, if◌then◌else◌, List, [], ◌∷◌, ◌++◌, length, take, drop, codes, pos, Option, None, Some, Ok, Err, refl, sym, ap, subst, ◌∙◌, arith}
use Rattle.std.specs.Prelude.{All, decimal, option_and_then, option_map}
use Rattle.std.specs.List.{flat_map, list_all}
use Rattle.std.proofs.lemmas.Bool.{and_parts, eq-eqb, leb-true, lt-ltb}
use Rattle.std.proofs.lemmas.Fmt.{length-decimal-le}
use Rattle.std.proofs.lemmas.List.{length-append, take_all}
use Rattle.canon_printer.specs.Names.{with_backslashes}
use Rattle.canon_printer.specs.Written.{is_escaped_in_text, printed_text}
use Rattle.lisp_object.specs.Ascii.{is_ascii}
use Rattle.lisp_object.specs.Object.{Object, integer, list_of, nil, pair, symbol, text}
use Rattle.lisp_object.specs.declared.refusal.TheConstants.{TEXT_LEFT_OVER}
use Rattle.lisp_object.proofs.Sound.{all_below}
use Rattle.lisp_operators.specs.Evaluation.{also, and_then, gives, writes}
use Rattle.lisp_operators.specs.Properties.{set}
use Rattle.package_table.specs.Symbols.{are_there, symbols}
use Rattle.package_table.specs.Table as packages
use Rattle.package_table.specs.Table.{Name, Table, common_lisp, common_lisp_names}
use Rattle.package_table.proofs.FirstNames.{lisp_present}
use Rattle.evaluator.specs.Value.{value_by, values_by, value_over}
use Rattle.form_eval.specs.Acceptance.{accept, accepted_by}
use Rattle.form_eval.proofs.KnownSymbols.{known_symbols}
use Rattle.plist_state.specs.Changes.{property, with_property}
use Rattle.plist_state.specs.Sound.{IsSymbol, IsValue}
use Rattle.plist_state.specs.State.{WorldState}
use Rattle.prevalence_store.specs.meaning.Acceptance.{Acceptance, acceptance_of, accepted_of, accepts, between, read_in, transaction_value}
use Rattle.prevalence_store.proofs.meaning.Transactions.{not_forgetting}
use Rattle.session_words.specs.declared.mode.Mode.TheVariants.{Rescue}
use Rattle.user_macros.specs.Functions.{Functions}
use Rattle.text_laws.specs.Objects.{call}
use Rattle.text_laws.proofs.There.{lisp_there, nil_there, pair_there}
use Rattle.text_laws.proofs.One.{interned_value, two_values}
use Rattle.client_table.specs.Entries.{HasEntrySymbols, KeptMessage, MayStand, message_symbol, client_text, entry, entry_in, entry_list, entry_property, entry_text, kept_objects, kept_message, kept_text, may_be_kept, table_package}
use Rattle.client_table.proofs.EntryRead.{entry_form, entry_read, interned, place_form, quoted_entry}
use Rattle.world_text.proofs.Spelling.{IsAscii}

-- ---- how long the text is

escape_short : (b : Bool) (c : ℕ) → length (if b then codes "\\" ++ c ∷ [] else c ∷ []) ≤ 2
escape_short true c = omega arith
escape_short false c = omega arith

escaped_short : (bytes : List ℕ) → length (with_backslashes is_escaped_in_text bytes) ≤ 2 * length bytes
escaped_short [] = omega arith
escaped_short (c ∷ cs) =
    let one = escape_short (is_escaped_in_text c) c in
    let rest = escaped_short cs in
    let parts = length-append (if is_escaped_in_text c then codes "\\" ++ c ∷ [] else c ∷ []) (with_backslashes is_escaped_in_text cs) in
    omega (arith, one, rest, parts)

three : (a b c : List ℕ) → length (a ++ b ++ c) ≡ length a + length b + length c
three a b c = omega (arith, length-append (a ++ b) c, length-append a b)

four : (a b c d : List ℕ) → length (a ++ b ++ c ++ d) ≡ length a + length b + length c + length d
four a b c d = omega (arith, length-append (a ++ b ++ c) d, three a b c)

five : (a b c d e : List ℕ) → length (a ++ b ++ c ++ d ++ e) ≡ length a + length b + length c + length d + length e
five a b c d e = omega (arith, length-append (a ++ b ++ c ++ d) e, four a b c d)

eight : (a b c d e f g h : List ℕ) → length (a ++ b ++ c ++ d ++ e ++ f ++ g ++ h) ≡ length a + length b + length c + length d + length e + length f + length g + length h
eight a b c d e f g h = omega (arith, length-append (a ++ b ++ c ++ d ++ e ++ f ++ g) h, length-append (a ++ b ++ c ++ d ++ e ++ f) g, length-append (a ++ b ++ c ++ d ++ e) f, five a b c d e)

printed_short : (bytes : List ℕ) → length (printed_text bytes) ≤ 2 * length bytes + 2
printed_short bytes =
    let inner = escaped_short bytes in
    let parts = three (codes "\"") (with_backslashes is_escaped_in_text bytes) (codes "\"") in
    let one : length (codes "\"") ≡ 1 = refl in
    omega (arith, inner, parts, one)

digits_short : (n : ℕ) → n < 2 ^ 64 → length (decimal n) ≤ 20
digits_short n fits = length-decimal-le 20 n (omega arith) (omega (arith, fits)) fits

-- what is kept is short
abbrev pub IsShort : KeptMessage → Type 0
IsShort (Ok kept) = (length kept.0 ≤ 65536) × (length kept.1 ≤ 65536)
IsShort (Err count) = count < 2 ^ 64

kept_short : (kept : KeptMessage) → IsShort kept → length (kept_text kept) ≤ 262150
kept_short (Ok kept) short =
    let first = printed_short kept.0 in
    let second = printed_short kept.1 in
    let parts = four (codes " ") (printed_text kept.0) (codes " ") (printed_text kept.1) in
    let one : length (codes " ") ≡ 1 = refl in
    omega (arith, first, second, parts, one, short.0, short.1)
kept_short (Err count) short =
    let first = digits_short count short in
    let second = printed_short [] in
    let parts = four (codes " ") (decimal count) (codes " ") (printed_text []) in
    let one : length (codes " ") ≡ 1 = refl in
    omega (arith, first, second, parts, one)

client_short : (name : Name) → length (client_text name) ≤ 2 * length name + 40
client_short name =
    let inner = printed_short name in
    let table = printed_short table_package in
    let parts = five (codes "(INTERN ") (printed_text name) (codes " ") (printed_text table_package) (codes ")") in
    let head : length (codes "(INTERN ") ≡ 8 = refl in
    let space : length (codes " ") ≡ 1 = refl in
    let close : length (codes ")") ≡ 1 = refl in
    let named : length table_package ≡ 8 = refl in
    omega (arith, inner, table, parts, head, space, close, named)

pub entry_short : (name : Name) (number : ℕ) (kept : KeptMessage) → length name ≤ 100 → number < 2 ^ 64 → IsShort kept → length (entry_text name number kept) ≤ 1048576
entry_short name number kept few fits short =
    let owner = client_short name in
    let indicator = client_short (codes "%MESSAGE") in
    let digits = digits_short number fits in
    let rest = kept_short kept short in
    let parts = eight (codes "(SETF (GET ") (client_text name) (codes " ") (client_text (codes "%MESSAGE")) (codes ") '(") (decimal number) (kept_text kept) (codes "))") in
    let head : length (codes "(SETF (GET ") ≡ 11 = refl in
    let space : length (codes " ") ≡ 1 = refl in
    let middle : length (codes ") '(") ≡ 4 = refl in
    let close : length (codes "))") ≡ 2 = refl in
    let named : length (codes "%MESSAGE") ≡ 8 = refl in
    omega (arith, owner, indicator, digits, rest, parts, head, space, middle, close, named, few)

-- ---- what it gives

module _ (functions : Functions) (s : WorldState) (sound : packages.AreSoundPackages s.packages) (name : Name) (has : HasEntrySymbols s name) (number : ℕ) (kept : KeptMessage) where
  abbrev t : Table
  t = s.packages

  abbrev v : Object
  v = entry_list number kept

  abbrev after : WorldState
  after = with_property s (table_package, name) message_symbol v

  set_value : value_by true functions.names s (entry_form name number kept) ≡ writes v after
  unfolding value_over
  set_value = λ i.
      and_then (and_then (two_values functions.names s sound (interned name) (interned (codes "%MESSAGE")) (symbol table_package name) (symbol table_package (codes "%MESSAGE"))
      (interned_value functions.names s sound table_package name has.0) (interned_value functions.names s sound table_package (codes "%MESSAGE") has.1) i)
      (λ xs later. and_then (values_by true functions.names later (pair (quoted_entry number kept) nil)) (λ ys end'. gives (xs ++ ys) end'))) set

  interned_there : (n : Name) → are_there t (interned n) ≡ true
  unfolding common_lisp_names
  interned_there n =
      pair_there t (symbol common_lisp (codes "INTERN")) (pair (text n) (pair (text table_package) nil)) (lisp_there t sound (codes "INTERN") refl)
      (pair_there t (text n) (pair (text table_package) nil) refl (pair_there t (text table_package) nil refl (nil_there t sound)))

  objects_there : (kept : KeptMessage) → are_there t (list_of (kept_objects kept)) ≡ true
  objects_there (Ok whole) = pair_there t (text whole.0) (pair (text whole.1) nil) refl (pair_there t (text whole.1) nil refl (nil_there t sound))
  objects_there (Err count) = pair_there t (integer (pos count)) (pair (text []) nil) refl (pair_there t (text []) nil refl (nil_there t sound))

  form_there : are_there t (entry_form name number kept) ≡ true
  unfolding common_lisp_names
  form_there =
      pair_there t (symbol common_lisp (codes "SETF")) (pair (place_form name) (pair (quoted_entry number kept) nil)) (lisp_there t sound (codes "SETF") refl)
      (pair_there t (place_form name) (pair (quoted_entry number kept) nil)
      (pair_there t (symbol common_lisp (codes "GET")) (pair (interned name) (pair (interned (codes "%MESSAGE")) nil)) (lisp_there t sound (codes "GET") refl)
      (pair_there t (interned name) (pair (interned (codes "%MESSAGE")) nil) (interned_there name)
      (pair_there t (interned (codes "%MESSAGE")) nil (interned_there (codes "%MESSAGE")) (nil_there t sound))))
      (pair_there t (quoted_entry number kept) nil
      (pair_there t (symbol common_lisp (codes "QUOTE")) (pair v nil) (lisp_there t sound (codes "QUOTE") refl)
      (pair_there t v nil (pair_there t (integer (pos number)) (list_of (kept_objects kept)) refl (objects_there kept)) (nil_there t sound)))
      (nil_there t sound)))

  transacted_is : transaction_value functions.names s (entry_form name number kept) ≡ writes v after
  transacted_is =
      not_forgetting functions.names s (entry_form name number kept) refl
      ∙ ap (λ r. accepted_by true functions.names s r (entry_form name number kept)) (known_symbols t (symbols (entry_form name number kept)) form_there)
      ∙ ap (also false) set_value

  abbrev given : Acceptance
  given = record { value = v; world = after; wrote = true; text = entry_text name number kept }

  pub entry_made : IsAscii name → number < 2 ^ 64 → MayStand kept → length (entry_text name number kept) ≤ 1048576
      → accepts functions s Rescue (entry_text name number kept) ≡ Ok given
  entry_made ascii fits stands short =
      let own = entry_text name number kept in
      let n = length own in
      ap (accepted_of functions s own) (entry_read functions t sound name ascii number fits kept stands short)
      ∙ ap (λ (b : Bool). if b then acceptance_of (between 0 n own) (transaction_value functions.names s (entry_form name number kept)) else Err TEXT_LEFT_OVER) (eq-eqb n n refl)
      ∙ ap (λ cs. acceptance_of cs (transaction_value functions.names s (entry_form name number kept))) (take_all (n - 0) own (omega arith))
      ∙ ap (acceptance_of own) transacted_is
