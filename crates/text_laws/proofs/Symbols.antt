-- What is read of the tokens of symbols, as the forms of a world have them.
--     symbol_is_read      the token of a symbol
--     lisp_is_read      a name of COMMON-LISP alone
--     call_is_read      a call of an operator with texts
--     quoted_symbol_is_read      what evaluates to a symbol
use Rattle.std.proofs.Common.{◌≡◌, ℕ, ◌+◌, ◌<◌, ◌≤◌, Bool, true, false, List, [], ◌∷◌, ◌++◌, length, map, bytes_eq, append_assoc, append-nil, codes, cond, Option, Some, None, Ok, inl, inr, refl, sym, ap, subst, ◌∙◌, arith}
use Rattle.std.specs.Prelude.{if◌then◌else◌, All, IsTrue, option_map, option_and_then}
use Rattle.std.specs.List.{flat_map, list_all, list_any}
use Rattle.std.specs.Char.{is_ascii_uppercase}
use Rattle.std.specs.FinMap as finite
use Rattle.std.proofs.lemmas.Bool.{and_from, and_parts, ltb-false}
use Rattle.std.proofs.lemmas.List.Elements.{All-cons, All-head, All-nil, All-tail}
use Rattle.std.proofs.lemmas.Slice.Eq.{bytes_eq-Decides}
use Rattle.lisp_object.specs.Object.{Object, symbol, text}
use Rattle.token_scan.specs.declared.mark.Mark.{Mark}
use Rattle.token_scan.specs.declared.mark.Mark.TheVariants.{Plain, Bar}
use Rattle.token_scan.specs.Marks.{character_count}
use Rattle.token_scan.proofs.Spelled.{plain_counts}
use Rattle.package_table.specs.Table.{Name, Table as Packages, Package, Present, AreSoundPackages, IsPackage, IsPackageName, IsPresent, IsExternal, common_lisp, common_lisp_names, common_lisp_package, common_lisp_user, full_name, keyword}
use Rattle.package_table.specs.Lookup.{home_by_name}
use Rattle.package_table.proofs.First.{among_has, at_home, symbol_first}
use Rattle.package_table.proofs.FirstNames.{lisp_present}
use Rattle.package_table.specs.Resolving.{found_at, internal_resolution, resolution}
use Rattle.package_table.proofs.Found.{found_finds, found_is, present_found}
use Rattle.canon_printer.proofs.Resolved.{home_there}
use Rattle.plist_state.specs.Properties.{Symbol}
use Rattle.user_macros.specs.Functions.{Functions}
use Rattle.canon_printer.specs.Names as names
use Rattle.canon_printer.specs.Names.{with_backslashes, is_escaped_in_bars, printed_name}
use Rattle.canon_printer.specs.Written.{printed_text}
use Rattle.lisp_reading.specs.declared.limits.Limits.{Limits}
use Rattle.world_text.proofs.Atoms.{ReadsAs, IsNameText, as_keyword, barred_text, home_ascii, internal, own_ascii, printed_text as printed_name_text, unqualified}
use Rattle.world_text.proofs.Characters.{by_table}
use Rattle.world_text.proofs.Marked.{name_marks, plain_marks, quoted_marks}
use Rattle.world_text.proofs.Sizes.{barred_count, count_both, name_count, plain_count}
use Rattle.world_text.proofs.Spelling.{IsAscii, first, others}
use Rattle.world_forms.specs.NameTokens.{call_text, is_portable_name, is_plain_after, is_too_long, name_text, token_prefix_length, quoted_text, symbol_text, text_argument, value_text}
use Rattle.text_laws.specs.Objects.{call, symbol_form}
use Rattle.text_laws.proofs.PartsRead.{AreRead, IsRead, listed_is_read, no_more, object_is_read, one_more, quoted_is_read, token_is_read}

-- ---- names

-- a name that every Lisp reads as it stands is printed so
after_plain : (c : ℕ) → c < 128 → is_plain_after c ≡ true → names.goes_on_plain c ≡ true
after_plain = by_table is_plain_after names.goes_on_plain refl

first_plain : (c : ℕ) → c < 128 → is_ascii_uppercase c ≡ true → names.begins_plain c ≡ true
first_plain = by_table is_ascii_uppercase names.begins_plain refl

all_plain : (cs : List ℕ) → IsAscii cs → list_all is_plain_after cs ≡ true → list_all names.goes_on_plain cs ≡ true
all_plain [] ascii e = refl
all_plain (c ∷ cs) ascii e =
    let both = and_parts (is_plain_after c) (list_all is_plain_after cs) e in
    and_from (names.goes_on_plain c) (list_all names.goes_on_plain cs) (after_plain c (first c cs ascii) both.0) (all_plain cs (others c cs ascii) both.1)

plain_printed : (name : Name) → IsAscii name → is_portable_name name ≡ true → names.is_plain name ≡ true
plain_printed [] ascii e = absurd cc
plain_printed (c ∷ cs) ascii e =
    let both = and_parts (is_ascii_uppercase c) (list_all is_plain_after cs) e in
    and_from (names.begins_plain c) (list_all names.goes_on_plain cs) (first_plain c (first c cs ascii) both.0) (all_plain cs (others c cs ascii) both.1)

-- the marks of a name in the token of a symbol
abbrev text_marks : Name → List Mark
text_marks name = if is_portable_name name then plain_marks name else Bar ∷ (quoted_marks name ++ Bar ∷ [])

name_is_text : (name : Name) → IsAscii name → IsNameText name (name_text name) (text_marks name)
name_is_text name ascii =
    elim (is_portable_name name)
    as (λ b. is_portable_name name ≡ b → IsNameText name (if b then name else codes "|" ++ with_backslashes is_escaped_in_bars name ++ codes "|") (if b then plain_marks name else Bar ∷ (quoted_marks name ++ Bar ∷ []))) [
      | true ↦ λ e. subst (λ b. IsNameText name (if b then name else codes "|" ++ with_backslashes is_escaped_in_bars name ++ codes "|") (if b then plain_marks name else Bar ∷ (quoted_marks name ++ Bar ∷ [])))
          (plain_printed name ascii e) (printed_name_text name ascii)
      | false ↦ λ _. barred_text name ascii
    ] refl

text_count : (name : Name) → character_count (text_marks name) ≡ length name
text_count name =
    elim (is_portable_name name) as (λ b. character_count (if b then plain_marks name else Bar ∷ (quoted_marks name ++ Bar ∷ [])) ≡ length name) [
      | true ↦ plain_count name
      | false ↦ barred_count name
    ]

module _ (limits : Limits) (packages : Packages) (functions : Functions) (sound : AreSoundPackages packages) (room : 0 < limits.token) where
  abbrev Read : ℕ → List ℕ → Object → Type 0
  Read = IsRead limits packages functions sound room

  -- ---- the token of a symbol

  -- a keyword is at home in KEYWORD
  keyword_home : (own home : Name) → home_by_name packages keyword own ≡ Some home → home ≡ keyword
  keyword_home own home is =
      elim (found_finds packages own keyword home is) [
        | inl present ↦ sound.first.own own home present
        | inr (q, uses, _, _) ↦ absurd (sound.first.unusing q uses)
      ]

  -- The name stands after that of a package: for a keyword, for a symbol of COMMON-LISP-USER, and for any other. The package finds it,
  -- and it is at home here or there.
  module _ (prefix own home : Name) (there : IsPackage packages prefix) (finds : home_by_name packages prefix own ≡ Some home) (ascii : IsAscii own) where
    abbrev Token : List ℕ → ℕ → Type 0
    Token its_text size = (marks : List Mark) × ReadsAs packages common_lisp_user its_text marks (symbol home own) × (character_count marks ≡ size)

    good : IsPackageName prefix
    good = sound.within.package_names prefix there

    abbrev its_name : IsNameText own (name_text own) (text_marks own)
    its_name = name_is_text own ascii

    resolved : (p : Name) → home_by_name packages p own ≡ Some home → resolution packages p own ≡ Ok (found_at home)
    resolved p is = rw is refl

    inside : internal_resolution packages prefix own ≡ Ok (found_at home)
    inside =
        let full : full_name prefix ≡ prefix = good.full in
        let here : finite.contains_key packages prefix ≡ true = there in
        rw (full, here, finds) refl

    by_package : (k u : Bool) → bytes_eq prefix keyword ≡ k → bytes_eq prefix common_lisp_user ≡ u
        → Token ((if k then codes ":" else (if u then [] else name_text prefix ++ codes "::")) ++ name_text own) ((if k then 1 else (if u then 0 else length prefix + 2)) + length own)
    by_package true u e f =
        let same : prefix ≡ keyword = (bytes_eq-Decides prefix keyword).0 e in
        let at_home : home ≡ keyword = keyword_home own home (subst (λ p. home_by_name packages p own ≡ Some home) same finds) in (
          Plain 58 ∷ text_marks own,
          subst (λ h. ReadsAs packages common_lisp_user (codes ":" ++ name_text own) (Plain 58 ∷ text_marks own) (symbol h own)) (sym at_home)
              (as_keyword packages common_lisp_user own (name_text own) (text_marks own) its_name),
          plain_counts 58 (text_marks own) ∙ ap (λ n. 1 + n) (text_count own),
        )
    by_package false true e f =
        let same : prefix ≡ common_lisp_user = (bytes_eq-Decides prefix common_lisp_user).0 f in (
          text_marks own,
          unqualified packages common_lisp_user own (name_text own) (text_marks own) its_name home
              (resolved common_lisp_user (subst (λ p. home_by_name packages p own ≡ Some home) same finds)),
          omega (arith, text_count own),
        )
    by_package false false e f =
        let colons : character_count (Plain 58 ∷ Plain 58 ∷ []) ≡ 2 = refl in (
          (text_marks prefix ++ Plain 58 ∷ Plain 58 ∷ []) ++ text_marks own,
          internal packages common_lisp_user own (name_text own) (text_marks own) its_name prefix (name_text prefix) (text_marks prefix) (name_is_text prefix good.ascii) home inside,
          omega (arith, colons, count_both (text_marks prefix ++ Plain 58 ∷ Plain 58 ∷ []) (text_marks own), count_both (text_marks prefix) (Plain 58 ∷ Plain 58 ∷ []), text_count prefix, text_count own),
        )

    pub found_is_read : 4096 ≤ limits.token → is_too_long prefix own ≡ false → Read 0 (symbol_text prefix own) (symbol home own)
    unfolding symbol_text is_too_long
    found_is_read long short =
        let token = by_package (bytes_eq prefix keyword) (bytes_eq prefix common_lisp_user) refl refl in
        token_is_read limits packages functions sound room (symbol_text prefix own) token.0 (symbol home own) token.1
        (omega (arith, long, token.2, ltb-false 4096 (token_prefix_length prefix + length own) short))

  -- a symbol that is present in its home
  pub symbol_is_read : (home own : Name) → IsPresent packages home own home → 4096 ≤ limits.token → is_too_long home own ≡ false → Read 0 (symbol_text home own) (symbol home own)
  symbol_is_read home own present long short =
      found_is_read home own home (home_there packages home own sound present) (present_found packages own home home present)
      (own_ascii packages common_lisp_user sound home own present) long short

  -- ---- operators of COMMON-LISP

  lisp_external : (n : Name) → IsTrue (list_any (bytes_eq n) common_lisp_names) → IsExternal packages common_lisp n
  unfolding common_lisp_package
  lisp_external n listed =
      ap (λ (o : Option Package). option_map (λ (e : Present). e.external) (option_and_then (λ (k : Package). finite.get k.symbols n) o)) sound.first.fixed
      ∙ ap (option_map (λ (e : Present). e.external)) (symbol_first common_lisp common_lisp_names n ∙ ap (λ b. cond b (Some (at_home common_lisp)) None) (among_has common_lisp_names n listed))

  lisp_resolved : (n : Name) → IsTrue (list_any (bytes_eq n) common_lisp_names) → resolution packages common_lisp_user n ≡ Ok (found_at common_lisp)
  lisp_resolved n listed =
      let is : home_by_name packages common_lisp_user n ≡ Some common_lisp
      = found_is packages n sound.joined common_lisp_user common_lisp (inr (common_lisp, sound.first.user, lisp_external n listed, lisp_present packages sound n listed)) in
      rw is refl

  pub lisp_is_read : (n : Name) → IsTrue (list_any (bytes_eq n) common_lisp_names) → names.is_plain n ≡ true → length n ≤ limits.token → Read 0 n (symbol common_lisp n)
  lisp_is_read n listed plain short =
      let present = lisp_present packages sound n listed in
      let own = printed_name_text n (own_ascii packages common_lisp_user sound common_lisp n present) in
      subst (λ t. Read 0 t (symbol common_lisp n)) (ap (λ b. if b then n else codes "|" ++ with_backslashes is_escaped_in_bars n ++ codes "|") plain)
      (token_is_read limits packages functions sound room (printed_name n) (name_marks n) (symbol common_lisp n)
      (unqualified packages common_lisp_user n (printed_name n) (name_marks n) own common_lisp (lisp_resolved n listed))
      (omega (arith, short, name_count n)))

  -- ---- calls with texts

  abbrev Rest : ℕ → List ℕ → List Object → Type 0
  Rest = AreRead limits packages functions sound room

  pub text_is_read : (bytes : Name) → IsAscii bytes → Read 0 (printed_text bytes) (text bytes)
  text_is_read bytes ascii = object_is_read limits packages functions sound room (text bytes) ascii tt (omega arith)

  pub texts_are_read : (bytes : List Name) → All IsAscii bytes → Rest 0 (flat_map text_argument bytes ++ codes ")") (map (λ b. text b) bytes)
  texts_are_read [] ascii = no_more
  texts_are_read (b ∷ bs) ascii =
      subst (λ t. Rest 0 t (text b ∷ map (λ b. text b) bs)) (sym (append_assoc (text_argument b) (flat_map text_argument bs) (codes ")")))
      (one_more (printed_text b) (text b) (flat_map text_argument bs ++ codes ")") (map (λ b. text b) bs) (text_is_read b (All-head IsAscii b bs ascii)) (texts_are_read bs (All-tail IsAscii b bs ascii)))

  pub call_is_read : (operator : Name) (bytes : List Name) → Read 0 operator (symbol common_lisp operator) → All IsAscii bytes → Read 1 (call_text operator bytes) (call operator (map (λ b. text b) bytes))
  unfolding call_text
  call_is_read operator bytes head ascii =
      subst (λ cs. Read 1 cs (call operator (map (λ b. text b) bytes))) (sym (append_assoc (40 ∷ operator) (flat_map text_argument bytes) (codes ")")))
      (listed_is_read limits packages functions sound room 0 operator (symbol common_lisp operator) (flat_map text_argument bytes ++ codes ")") (map (λ b. text b) bytes) head (texts_are_read bytes ascii))

  -- ---- what evaluates to a symbol

  pub quoted_symbol_is_read : 4096 ≤ limits.token → (x : Symbol) → IsPresent packages x.0 x.1 x.0 → Read 1 (quoted_text x.0 x.1) (symbol_form x)
  unfolding value_text common_lisp_names
  quoted_symbol_is_read long x present = by_length (is_too_long x.0 x.1) refl
    where
      by_length : (b : Bool) → is_too_long x.0 x.1 ≡ b
          → Read 1 (if b then call_text (codes "INTERN") (x.1 ∷ x.0 ∷ []) else codes "'" ++ symbol_text x.0 x.1 ++ [])
          (if b then call (codes "INTERN") (text x.1 ∷ text x.0 ∷ []) else call (codes "QUOTE") (symbol x.0 x.1 ∷ []))
      by_length true e =
          call_is_read (codes "INTERN") (x.1 ∷ x.0 ∷ []) (lisp_is_read (codes "INTERN") refl refl (omega (arith, long)))
          (All-cons IsAscii x.1 (x.0 ∷ []) (own_ascii packages common_lisp_user sound x.0 x.1 present)
          (All-cons IsAscii x.0 [] (home_ascii packages common_lisp_user sound x.0 x.1 present) (All-nil IsAscii)))
      by_length false e =
          subst (λ t. Read 1 (39 ∷ t) (call (codes "QUOTE") (symbol x.0 x.1 ∷ []))) (sym (append-nil (symbol_text x.0 x.1)))
          (quoted_is_read limits packages functions sound room 0 (symbol_text x.0 x.1) (symbol x.0 x.1) (symbol_is_read x.0 x.1 present long e))
