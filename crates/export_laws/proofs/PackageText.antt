-- The lines of the packages are read as their forms.
--     call_is_form      a call with texts
--     change_is_form      a call with a symbol in a list, and the name of a package
use Rattle.std.proofs.Common.{◌≡◌, ℕ, suc, ◌+◌, ◌*◌, ◌<◌, ◌≤◌, Bool, true, false, List, [], ◌∷◌, ◌++◌, length, map, bytes_eq, append_assoc, codes, Some, Ok, refl, sym, subst, ◌∙◌, arith}
use Rattle.std.specs.Prelude.{if◌then◌else◌, All, IsTrue}
use Rattle.std.specs.List.{flat_map, list_any}
use Rattle.std.proofs.lemmas.Bool.{ltb-false}
use Rattle.std.proofs.lemmas.List.{length-append}
use Rattle.std.proofs.lemmas.List.Elements.{All-cons, All-head, All-nil, All-tail}
use Rattle.lisp_object.specs.Object.{Object, list_of, symbol, text}
use Rattle.package_table.specs.Table.{Name, Table as Packages, AreSoundPackages, IsPackage, common_lisp, common_lisp_names, common_lisp_user, keyword}
use Rattle.package_table.specs.Lookup.{home_by_name}
use Rattle.user_macros.specs.Functions.{no_functions}
use Rattle.canon_printer.specs.Names as names
use Rattle.canon_printer.specs.Names.{with_backslashes, is_escaped_in_bars}
use Rattle.canon_printer.specs.Written.{is_escaped_in_text, printed_text}
use Rattle.lisp_reading.specs.declared.attempt.Found.TheVariants.{One as one}
use Rattle.prevalence_store.specs.meaning.Acceptance.{form_limits}
use Rattle.world_text.proofs.Spelling.{IsAscii}
use Rattle.world_forms.specs.NameTokens.{call_text, is_portable_name, is_too_long, name_text, token_prefix_length, symbol_text, text_argument, value_text}
use Rattle.text_laws.specs.Objects.{call}
use Rattle.export_laws.proofs.OneForm.{IsForm}
use Rattle.text_laws.proofs.PartsRead.{AreRead, IsRead, deeper, list_read, listed_is_read, no_more, one_more, quoted_is_read}
use Rattle.text_laws.proofs.Symbols.{call_is_read, found_is_read, lisp_is_read, text_is_read, texts_are_read}

-- ---- how long they are

escaped_short : (test : ℕ → Bool) (cs : List ℕ) → length (with_backslashes test cs) ≤ 2 * length cs
escaped_short test [] = omega arith
escaped_short test (c ∷ cs) =
    let later = escaped_short test cs in
    elim (test c) as (λ b. length ((if b then codes "\\" ++ c ∷ [] else c ∷ []) ++ with_backslashes test cs) ≤ 2 * suc (length cs)) [
      | true ↦ omega (arith, later)
      | false ↦ omega (arith, later)
    ]

pub text_short : (bytes : List ℕ) → length (printed_text bytes) ≤ 2 + 2 * length bytes
text_short bytes =
    let body = with_backslashes is_escaped_in_text bytes in
    omega (arith, escaped_short is_escaped_in_text bytes, length-append (codes "\"" ++ body) (codes "\""), length-append (codes "\"") body)

-- a name of a package or of a symbol
abbrev pub IsShort : Name → Type 0
IsShort n = length n ≤ 4096

arguments_short : (ns : List Name) → All IsShort ns → length (flat_map text_argument ns) ≤ 8195 * length ns
arguments_short [] short = omega arith
arguments_short (n ∷ ns) short =
    omega (arith, text_short n, All-head IsShort n ns short, arguments_short ns (All-tail IsShort n ns short), length-append (text_argument n) (flat_map text_argument ns))

pub name_short : (n : Name) → length (name_text n) ≤ 2 + 2 * length n
name_short n =
    let body = with_backslashes is_escaped_in_bars n in
    elim (is_portable_name n) as (λ b. length (if b then n else codes "|" ++ body ++ codes "|") ≤ 2 + 2 * length n) [
      | true ↦ omega arith
      | false ↦ omega (arith, escaped_short is_escaped_in_bars n, length-append body (codes "|"))
    ]

symbol_short : (home own : Name) → is_too_long home own ≡ false → length (symbol_text home own) ≤ 8202
unfolding is_too_long symbol_text
symbol_short home own short = by_home (bytes_eq home keyword) (bytes_eq home common_lisp_user) (ltb-false 4096 (token_prefix_length home + length own) short)
  where
    by_home : (k u : Bool) → (if k then 1 else (if u then 0 else length home + 2)) + length own ≤ 4096
        → length ((if k then codes ":" else (if u then [] else name_text home ++ codes "::")) ++ name_text own) ≤ 8202
    by_home true u few = omega (arith, name_short own)
    by_home false true few = omega (arith, name_short own)
    by_home false false few =
        omega (arith, name_short own, name_short home, length-append (name_text home ++ codes "::") (name_text own), length-append (name_text home) (codes "::"))

-- ---- a symbol that an operator is given

-- what evaluates to it: it stands in a list, or is what INTERN finds
abbrev pub change_argument : (prefix own home : Name) → Object
change_argument prefix own home =
    if is_too_long prefix own then call (codes "INTERN") (text own ∷ text prefix ∷ []) else call (codes "QUOTE") (list_of (symbol home own ∷ []) ∷ [])

abbrev pub change_text : List ℕ → (prefix own p : Name) → List ℕ
change_text operator prefix own p = codes "(" ++ operator ++ codes " " ++ value_text (codes "'(") (codes ")") prefix own ++ codes " " ++ printed_text p ++ codes ")"

-- an operator of COMMON-LISP
pub record IsOperator (operator : Name) : Type 0 where
  pub listed : IsTrue (list_any (bytes_eq operator) common_lisp_names)
  pub plain : names.is_plain operator ≡ true
  pub short : length operator ≤ 40

module _ (t : Packages) (sound : AreSoundPackages t) where
  pub room : 0 < form_limits.token
  room = omega arith

  abbrev Part : ℕ → List ℕ → Object → Type 0
  Part = IsRead form_limits t no_functions sound room

  abbrev Parts : ℕ → List ℕ → List Object → Type 0
  Parts = AreRead form_limits t no_functions sound room

  pub list_is_form : (depth : ℕ) (head : List ℕ) (x : Object) (more : List ℕ) (xs : List Object) → Part depth head x → Parts depth more xs → suc depth ≤ 100
      → length (40 ∷ head ++ more) ≤ 1048576 → IsForm t (40 ∷ head ++ more) (list_of (x ∷ xs))
  list_is_form depth head x more xs h later deep fits rest =
      list_read form_limits t no_functions sound room depth head x more xs h later 100 0 (10 ∷ rest) deep (omega (arith, fits))
      ∙ (λ i. Ok (one false (list_of (x ∷ xs)), (let h : 0 + length (40 ∷ head ++ more) ≡ length (40 ∷ head ++ more) = omega arith in h) i, 10 ∷ rest))

  pub operator_read : (operator : Name) → IsOperator operator → Part 0 operator (symbol common_lisp operator)
  operator_read operator is = lisp_is_read form_limits t no_functions sound room operator is.listed is.plain (omega (arith, is.short))

  -- ---- calls with texts

  pub call_is_form : (operator : Name) → IsOperator operator → (ns : List Name) → All IsAscii ns → All IsShort ns → length ns ≤ 100
      → IsForm t (call_text operator ns) (call operator (map (λ n. text n) ns))
  unfolding call_text
  call_is_form operator is ns ascii short few =
      subst (λ cs. IsForm t cs (call operator (map (λ n. text n) ns))) (sym (append_assoc (40 ∷ operator) (flat_map text_argument ns) (codes ")")))
      (list_is_form 0 operator (symbol common_lisp operator) (flat_map text_argument ns ++ codes ")") (map (λ n. text n) ns) (operator_read operator is)
      (texts_are_read form_limits t no_functions sound room ns ascii) (omega arith)
      (omega (arith, is.short, few, arguments_short ns short, length-append operator (flat_map text_argument ns ++ codes ")"), length-append (flat_map text_argument ns) (codes ")"))))

  -- ---- changes

  module _ (prefix own home : Name) (there : IsPackage t prefix) (finds : home_by_name t prefix own ≡ Some home) (ascii : IsAscii own) (short : IsShort own) where
    argument_read : Part 2 (value_text (codes "'(") (codes ")") prefix own) (change_argument prefix own home)
    unfolding value_text common_lisp_names
    argument_read = by_length (is_too_long prefix own) refl
      where
        by_length : (b : Bool) → is_too_long prefix own ≡ b
            → Part 2 (if b then call_text (codes "INTERN") (own ∷ prefix ∷ []) else codes "'(" ++ symbol_text prefix own ++ codes ")")
            (if b then call (codes "INTERN") (text own ∷ text prefix ∷ []) else call (codes "QUOTE") (list_of (symbol home own ∷ []) ∷ []))
        by_length true e =
            deeper form_limits t no_functions sound room 1 2 (call_text (codes "INTERN") (own ∷ prefix ∷ [])) (call (codes "INTERN") (text own ∷ text prefix ∷ []))
            (call_is_read form_limits t no_functions sound room (codes "INTERN") (own ∷ prefix ∷ [])
            (lisp_is_read form_limits t no_functions sound room (codes "INTERN") refl refl (omega arith))
            (All-cons IsAscii own (prefix ∷ []) ascii (All-cons IsAscii prefix [] (sound.within.package_names prefix there).ascii (All-nil IsAscii))))
            (omega arith)
        by_length false e =
            quoted_is_read form_limits t no_functions sound room 1 (40 ∷ symbol_text prefix own ++ codes ")") (list_of (symbol home own ∷ []))
            (listed_is_read form_limits t no_functions sound room 0 (symbol_text prefix own) (symbol home own) (codes ")") []
            (found_is_read form_limits t no_functions sound room prefix own home there finds ascii (omega arith) e) no_more)

    argument_short : length (value_text (codes "'(") (codes ")") prefix own) ≤ 20000
    unfolding value_text call_text
    argument_short = by_length (is_too_long prefix own) refl
      where
        by_length : (b : Bool) → is_too_long prefix own ≡ b
            → length (if b then codes "(" ++ codes "INTERN" ++ flat_map text_argument (own ∷ prefix ∷ []) ++ codes ")" else codes "'(" ++ symbol_text prefix own ++ codes ")") ≤ 20000
        by_length true e =
            let few : length prefix ≤ 256 = (sound.within.package_names prefix there).short in
            omega (
              arith,
              length-append (flat_map text_argument (own ∷ prefix ∷ [])) (codes ")"),
              arguments_short (own ∷ prefix ∷ []) (All-cons IsShort own (prefix ∷ []) short (All-cons IsShort prefix [] (omega (arith, few)) (All-nil IsShort))),
            )
        by_length false e = omega (arith, symbol_short prefix own e, length-append (symbol_text prefix own) (codes ")"))

    pub change_is_form : (operator : Name) → IsOperator operator → (p : Name) → IsAscii p → IsShort p
        → IsForm t (change_text operator prefix own p) (call operator (change_argument prefix own home ∷ text p ∷ []))
    change_is_form operator is p ascii_p short_p =
        let value = value_text (codes "'(") (codes ")") prefix own in
        let last = 32 ∷ printed_text p ++ codes ")" in
        let space = codes " " in
        let head = 40 ∷ operator ++ space in
        let same : change_text operator prefix own p ≡ 40 ∷ operator ++ (32 ∷ value ++ last)
        = append_assoc (head ++ value ++ space) (printed_text p) (codes ")") ∙ append_assoc (head ++ value) space (printed_text p ++ codes ")")
        ∙ append_assoc head value last ∙ append_assoc (40 ∷ operator) space (value ++ last) in
        subst (λ cs. IsForm t cs (call operator (change_argument prefix own home ∷ text p ∷ []))) (sym same)
        (list_is_form 2 operator (symbol common_lisp operator) (32 ∷ value ++ last) (change_argument prefix own home ∷ text p ∷ [])
        (deeper form_limits t no_functions sound room 0 2 operator (symbol common_lisp operator) (operator_read operator is) (omega arith))
        (one_more value (change_argument prefix own home) last (text p ∷ []) argument_read
        (one_more (printed_text p) (text p) (codes ")") []
        (deeper form_limits t no_functions sound room 0 2 (printed_text p) (text p) (text_is_read form_limits t no_functions sound room p ascii_p) (omega arith)) no_more))
        (omega arith)
        (omega (arith, is.short, argument_short, text_short p, short_p, length-append operator (32 ∷ value ++ last), length-append value last, length-append (printed_text p) (codes ")"))))
