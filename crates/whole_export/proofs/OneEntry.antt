-- The lines of a character of a readtable give it its entry.
--     entry_made
use Rattle.std.proofs.Common.{◌≡◌, ℕ, zero, suc, ◌+◌, ◌<◌, ◌≤◌, Bool, true, false, List, [], ◌∷◌, ◌++◌, length, get_or, set, replicate, append_assoc, codes, Option, Some, None, inl, inr, IsTrue, refl, sym, ap, subst, ◌∙◌, arith, length-set}
use Rattle.std.specs.Prelude.{if◌then◌else◌, is_some, option_map, ◌||◌}
use Rattle.std.specs.List.{flat_map, list_all, range_with_len}
use Rattle.std.specs.Option.{option_map_or}
use Rattle.std.proofs.lemmas.Bool.{and_parts, both_ways, cases_lt}
use Rattle.std.proofs.lemmas.List.{get_or-replicate, get_or_past, length-replicate}
use Rattle.std.specs.Cmp.Lexicographic.{bytes_decides}
use Rattle.readtable_core.specs.declared.characters.Syntax.{Syntax}
use Rattle.readtable_core.specs.declared.characters.Syntax.TheVariants.{Whitespace, Constituent, TerminatingMacro, NonTerminatingMacro, SingleEscape, MultipleEscape, Invalid}
use Rattle.readtable_core.specs.Changes.{dispatching_entry, macro_syntax, with_character_entry, with_dispatch_function}
use Rattle.readtable_core.specs.Characters.{is_digit, is_lower_case, standard_syntax}
use Rattle.readtable_core.specs.NamedFunctions.{functions_at}
use Rattle.readtable_core.specs.Names.{dispatch_name, is_dispatch_name}
use Rattle.readtable_core.specs.Sound.{IsCharacterEntry, dispatches, is_dispatching, is_macro, is_none_or_name}
use Rattle.readtable_core.specs.Tables.{CharacterEntry, Table, entry_at, standard}
use Rattle.readtable_core.proofs.Named.{all_named, passes}
use Rattle.package_table.specs.Lookup.{is_symbol}
use Rattle.package_table.specs.Table as packages
use Rattle.package_table.specs.Table.{Name, keyword}
use Rattle.user_macros.specs.Functions.{Functions}
use Rattle.user_macros.specs.Registry.{is_covered}
use Rattle.plist_state.specs.Sound.{IsSymbol}
use Rattle.plist_state.specs.State.{WorldState}
use Rattle.canon_printer.specs.Written.{printed_character}
use Rattle.snapshot_text.specs.BuiltWorlds.{CanBeMade, IsNamedEntry, IsSubFunction}
use Rattle.snapshot_text.proofs.EntryParts.{standard_is}
use Rattle.snapshot_text.proofs.Filling.{filled, put_all, updates}
use Rattle.snapshot_text.proofs.MacroParts.{function_name, function_named, function_of, has_function, macro_is_entry, sub_update, with_places}
use Rattle.snapshot_text.proofs.ReadRows.{passing_item}
use Rattle.snapshot_text.proofs.TableParts.{entry_there, entry_twice, symbol_is, upper_same}
use Rattle.world_forms.specs.Readtables.{character_of_type, dispatch_lines, entry_lines, kind_argument, like_line, macro_line, sub_line, syntax_line, table_end}
use Rattle.whole_export.specs.Standard.{ReadsStandard}
use Rattle.whole_export.proofs.Operators.{function_may}
use Rattle.whole_export.proofs.Steps.{MadeTable, dispatching_made, like_made, macro_made, sub_made}

-- ---- the standard character of a syntax type

record IsLike (y : Syntax) : Type 0 where
  character : ℕ
  found : character_of_type y ≡ Some character
  below : character < 128
  typed : standard_syntax character ≡ y

like_of : (y : Syntax) → is_macro y ≡ false → IsLike y
unfolding character_of_type standard
like_of Whitespace other = record { character = 9; found = refl; below = omega arith; typed = refl }
like_of Constituent other = record { character = 8; found = refl; below = omega arith; typed = refl }
like_of TerminatingMacro other = absurd cc
like_of NonTerminatingMacro other = absurd cc
like_of SingleEscape other = record { character = 92; found = refl; below = omega arith; typed = refl }
like_of MultipleEscape other = record { character = 124; found = refl; below = omega arith; typed = refl }
like_of Invalid other = record { character = 0; found = refl; below = omega arith; typed = refl }

kind_of : (y : Syntax) → is_macro y ≡ true → (b : Bool) × (y ≡ macro_syntax b)
kind_of TerminatingMacro is = (false, refl)
kind_of NonTerminatingMacro is = (true, refl)
kind_of Whitespace is = absurd cc
kind_of Constituent is = absurd cc
kind_of SingleEscape is = absurd cc
kind_of MultipleEscape is = absurd cc
kind_of Invalid is = absurd cc

no_function : (o : Option Name) → is_some o ≡ false → o ≡ None
no_function None e = refl
no_function (Some f) e = absurd cc

-- ---- what the sub-characters of an entry are given

no_key : (a : Bool) (o : Option Name) → is_some o ≡ true → (IsTrue a → o ≡ None) → a ≡ false
no_key true o some nothing = absurd (let e : o ≡ None = nothing refl in both_ways (is_some o) (ap is_some e) some)
no_key false o some nothing = refl

dispatching_is : (e : CharacterEntry) (b : Bool) → IsCharacterEntry e → e.syntax ≡ macro_syntax b → is_dispatch_name (function_of e) ≡ true → dispatching_entry b ≡ with_places e (replicate 128 None)
dispatching_is e b sound is named =
    let function : Some dispatch_name ≡ e.function = ap Some ((bytes_decides dispatch_name (function_of e)).0 named) ∙ sym (has_function e b sound is) in
    λ i. record { syntax = sym is i; function = function i; dispatch = replicate 128 None }

many_places : (e : CharacterEntry) (b : Bool) → IsCharacterEntry e → e.syntax ≡ macro_syntax b → is_dispatch_name (function_of e) ≡ true → length e.dispatch ≡ 128
many_places e b sound is named = sound.places ∙ ap (λ b. if b then 128 else 0) (ap dispatches (has_function e b sound is) ∙ named)

all_given : (e : CharacterEntry) (b : Bool) → IsCharacterEntry e → e.syntax ≡ macro_syntax b → is_dispatch_name (function_of e) ≡ true
    → put_all (replicate 128 None) (updates (sub_update e.dispatch) (range_with_len 0 128)) ≡ e.dispatch
all_given e b sound is named =
    filled (sub_update e.dispatch) None e.dispatch (replicate 128 None) 0 128 refl (many_places e b sound is named) (λ q small. absurd (omega arith))
    (λ q past nothing. blank q ∙ sym (unset (get_or e.dispatch q None) nothing))
    (λ q x some. set_to (get_or e.dispatch q None) x some)
  where
    blank : (q : ℕ) → let no : Option Name = None in get_or (replicate 128 no) q no ≡ no
    blank q =
        let no : Option Name = None in
        elim (cases_lt q 128) [ inl below ↦ get_or-replicate 128 q no no below | inr past ↦ get_or_past (replicate 128 no) q no (rw length-replicate past) ]

    unset : (o : Option Name) → option_map (λ f. Some f) o ≡ None → o ≡ None
    unset None e = refl
    unset (Some f) e = absurd cc

    set_to : (o x : Option Name) → option_map (λ f. Some f) o ≡ Some x → x ≡ o
    set_to None x e = absurd cc
    set_to (Some f) x e = let same : Some f ≡ x = cc in sym same

module _ (functions : Functions) (first : WorldState) (whole : List ℕ) (base : WorldState) (sound : packages.AreSoundPackages base.packages) (reads : ReadsStandard base)
    (n : Name) (there : IsSymbol base.packages (keyword, n)) (can : CanBeMade base.readtables n) (c : ℕ) (below : c < 128) (e : CharacterEntry)
    (named : IsNamedEntry base.packages e) (covered : list_all (is_covered functions.names) (functions_at e) ≡ true) where
  abbrev Made : Table → List ℕ → Type 0
  Made = MadeTable functions first whole base sound reads n there can

  covered_parts : (passes (is_covered functions.names) e.function ≡ true) × (list_all (passes (is_covered functions.names)) e.dispatch ≡ true)
  covered_parts =
      and_parts (passes (is_covered functions.names) e.function) (list_all (passes (is_covered functions.names)) e.dispatch)
      (sym (all_named (is_covered functions.names) (e.function ∷ e.dispatch)) ∙ covered)

  named_parts : list_all (passes (is_symbol base.packages keyword)) e.dispatch ≡ true
  named_parts =
      (and_parts (passes (is_symbol base.packages keyword) e.function) (list_all (passes (is_symbol base.packages keyword)) e.dispatch)
      (sym (all_named (is_symbol base.packages keyword) (e.function ∷ e.dispatch)) ∙ named.functions)).1

  -- ---- without a function

  plain_made : (t : Table) (rest : List ℕ) → length t.entries ≡ 128 → is_macro e.syntax ≡ false → Made t (syntax_line n c e.syntax ++ rest) → Made (with_character_entry t c e) rest
  unfolding syntax_line
  plain_made t rest many other made =
      let like = like_of e.syntax other in
      subst (λ x. Made (with_character_entry t c x) rest) (standard_is e e.syntax like.character named.entry refl like.typed other)
      (like_made functions first whole base sound reads n there can t many c like.character rest below like.below
      (subst (λ o. Made t (option_map_or (like_line n c) o [] ++ rest)) like.found made))

  -- ---- with one

  module _ (b : Bool) (is : e.syntax ≡ macro_syntax b) where
    abbrev f : Name
    f = function_of e

    function_covered : is_covered functions.names f ≡ true
    function_covered = ap (passes (is_covered functions.names)) (sym (has_function e b named.entry is)) ∙ covered_parts.0

    one_function_made : (t : Table) (rest : List ℕ) → length t.entries ≡ 128 → is_dispatch_name f ≡ false → Made t (macro_line n c f e.syntax ++ rest) → Made (with_character_entry t c e) rest
    one_function_made t rest many other made =
        subst (λ x. Made (with_character_entry t c x) rest) (macro_is_entry e b named.entry is other)
        (macro_made functions first whole base sound reads n there can t many c f b rest below (function_name e b named.entry is) (function_named base.packages e b named is)
        (function_may functions.names f function_covered other) (subst (λ y. Made t (macro_line n c f y ++ rest)) is made))

    -- the function of a sub-character
    abbrev sub_function : ℕ → Option Name
    sub_function sub = get_or e.dispatch sub None

    module _ (t : Table) (many : length t.entries ≡ 128) (dispatches_here : is_dispatch_name f ≡ true) where
      abbrev with_these : List (Option Name) → Table
      with_these places = with_character_entry t c (with_places e places)

      these_many : (places : List (Option Name)) → length (with_these places).entries ≡ 128
      these_many places = length-set t.entries c (with_places e places) ∙ many

      at_c : (places : List (Option Name)) → entry_at (with_these places) c ≡ with_places e places
      at_c places = entry_there t c (with_places e places) (omega (arith, below, many))

      one_sub_made : (places : List (Option Name)) (sub : ℕ) (g : Name) (rest : List ℕ) → sub < 128 → sub_function sub ≡ Some g
          → Made (with_these places) (sub_line n c sub (Some g) ++ rest) → Made (with_these (set places sub (Some g))) rest
      one_sub_made places sub g rest small is_g made =
          let there_sub : sub < length e.dispatch = omega (arith, small, many_places e b named.entry is dispatches_here) in
          let may : IsSubFunction base.packages sub g = record {
            character = small;
            upper = no_key (is_lower_case sub || is_digit sub) (sub_function sub) (ap is_some is_g) (named.entry.keys sub);
            name = ap is_none_or_name (sym is_g) ∙ named.entry.names sub;
            other = ap dispatches (sym is_g) ∙ named.entry.values sub;
            named = symbol_is base.packages keyword g (ap (passes (is_symbol base.packages keyword)) (sym is_g) ∙ passing_item (passes (is_symbol base.packages keyword)) e.dispatch named_parts sub None there_sub);
          } in
          let g_covered : is_covered functions.names g ≡ true
          = ap (passes (is_covered functions.names)) (sym is_g) ∙ passing_item (passes (is_covered functions.names)) e.dispatch covered_parts.1 sub None there_sub in
          let here = with_these places in
          let same : with_character_entry here c (with_dispatch_function (entry_at here c) sub g) ≡ with_these (set places sub (Some g))
          = entry_twice t c (with_places e places) (with_dispatch_function (entry_at here c) sub g)
          ∙ ap (λ x. with_character_entry t c (with_dispatch_function x sub g)) (at_c places)
          ∙ ap (λ i. with_character_entry t c (with_places e (set places i (Some g)))) (upper_same base.packages sub g may) in
          subst (λ u. Made u rest) same
          (sub_made functions first whole base sound reads n there can here (these_many places) c sub g rest below may (function_may functions.names g g_covered may.other)
          (ap is_dispatching (at_c places) ∙ ap dispatches (has_function e b named.entry is) ∙ dispatches_here) made)

      subs_made : (count from : ℕ) (places : List (Option Name)) (rest : List ℕ) → from + count ≤ 128
          → Made (with_these places) (flat_map (λ sub. sub_line n c sub (sub_function sub)) (range_with_len from count) ++ rest)
          → Made (with_these (put_all places (updates (sub_update e.dispatch) (range_with_len from count)))) rest
      unfolding sub_line
      subs_made zero from places rest within made = made
      subs_made (suc count) from places rest within made =
          let subs = range_with_len (from + 1) count in
          let more = flat_map (λ sub. sub_line n c sub (sub_function sub)) subs ++ rest in
          let small : from < 128 = omega (arith, within) in
          let later : (places : List (Option Name)) → Made (with_these places) more → Made (with_these (put_all places (updates (sub_update e.dispatch) subs))) rest
          = λ places. subs_made count (from + 1) places rest (omega (arith, within)) in
          elim (sub_function from) as (λ o. sub_function from ≡ o → Made (with_these places) (sub_line n c from o ++ more)
          → Made (with_these (put_all places (option_map_or (λ y. (from, y) ∷ updates (sub_update e.dispatch) subs) (option_map (λ f. Some f) o) (updates (sub_update e.dispatch) subs)))) rest) [
            | None ↦ λ is_none made. later places made
            | Some g ↦ λ is_g made. later (set places from (Some g)) (one_sub_made places from g more small is_g made)
          ] refl (subst (λ cs. Made (with_these places) cs) (append_assoc (sub_line n c from (sub_function from)) (flat_map (λ sub. sub_line n c sub (sub_function sub)) subs) rest) made)

      dispatch_made : (rest : List ℕ) → Made t (dispatch_lines n c e ++ rest) → Made (with_character_entry t c e) rest
      unfolding dispatch_lines
      dispatch_made rest made =
          let subs = flat_map (λ sub. sub_line n c sub (sub_function sub)) (range_with_len 0 128) in
          let head = codes "(MAKE-DISPATCH-MACRO-CHARACTER" ++ (32 ∷ printed_character c) ++ kind_argument e.syntax ++ table_end n in
          let same : dispatch_lines n c e ++ rest ≡ head ++ (subs ++ rest) = append_assoc head subs rest in
          subst (λ places. Made (with_these places) rest) (all_given e b named.entry is dispatches_here)
          (subs_made 128 0 (replicate 128 None) rest (omega arith)
          (subst (λ x. Made (with_character_entry t c x) (subs ++ rest)) (dispatching_is e b named.entry is dispatches_here)
          (dispatching_made functions first whole base sound reads n there can t many c b (subs ++ rest) below
          (subst (λ y. Made t ((codes "(MAKE-DISPATCH-MACRO-CHARACTER" ++ (32 ∷ printed_character c) ++ kind_argument y ++ table_end n) ++ (subs ++ rest))) is
          (subst (λ cs. Made t cs) same made)))))

  -- the lines of an entry with a function
  abbrev of_function : Name → List ℕ
  of_function function = if is_dispatch_name function then dispatch_lines n c e else macro_line n c function e.syntax

  pub entry_made : (t : Table) (rest : List ℕ) → length t.entries ≡ 128 → Made t (entry_lines n c e ++ rest) → Made (with_character_entry t c e) rest
  entry_made t rest many made =
      elim (is_macro e.syntax) as (λ b. is_macro e.syntax ≡ b → Made (with_character_entry t c e) rest) [
        | false ↦ λ other. plain_made t rest many other (subst (λ o. Made t (option_map_or of_function o (syntax_line n c e.syntax) ++ rest)) (no_function e.function (named.entry.function ∙ other)) made)
        | true ↦ λ is_one. let kind = kind_of e.syntax is_one in
            by_name kind.0 kind.1 (is_dispatch_name (function_of e)) refl (subst (λ o. Made t (option_map_or of_function o (syntax_line n c e.syntax) ++ rest)) (has_function e kind.0 named.entry kind.1) made)
      ] refl
    where
      by_name : (b : Bool) → e.syntax ≡ macro_syntax b → (d : Bool) → is_dispatch_name (function_of e) ≡ d
          → Made t ((if d then dispatch_lines n c e else macro_line n c (function_of e) e.syntax) ++ rest) → Made (with_character_entry t c e) rest
      by_name b is true dispatches_here made = dispatch_made b is t many dispatches_here rest made
      by_name b is false other made = one_function_made b is t rest many other made
