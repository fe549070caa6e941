-- The kinds of arguments in the forms of the readtables.
--     keyword_is, keyword_first      a keyword, and one that is there from the first
--     table_is      the name of a readtable
--     character_is, flag_is, base_is      a character, T or NIL, and a base of numbers
--     base_variable, text_is      the variable of the base, and the name of a package
use Rattle.std.proofs.Common.{◌≡◌, ℕ, pos, ◌+◌, ◌<◌, ◌≤◌, Bool, true, false, List, [], ◌∷◌, ◌++◌, length, append-nil, bytes_eq, codes, decimal, refl, sym, subst, arith}
use Rattle.std.specs.Prelude.{if◌then◌else◌, ◌==◌, nat_lt, IsTrue}
use Rattle.std.specs.List.{flat_map, list_any}
use Rattle.std.proofs.lemmas.Fmt.{length-decimal-le_wide}
use Rattle.std.proofs.lemmas.List.{length-append}
use Rattle.std.proofs.lemmas.List.Elements.{All-cons, All-nil}
use Rattle.lisp_object.specs.Object.{Object, character, integer, nil, pair, symbol, text}
use Rattle.package_table.specs.Table as packages
use Rattle.package_table.specs.Table.{Name, Table, IsPackage, common_lisp, common_lisp_names, keyword, keyword_names}
use Rattle.plist_state.specs.Sound.{IsSymbol}
use Rattle.plist_state.specs.State.{WorldState}
use Rattle.user_macros.specs.Functions.{no_functions}
use Rattle.canon_printer.specs.Written.{character_name, printed_character, printed_text}
use Rattle.lisp_operators.specs.Evaluation.{gives}
use Rattle.evaluator.specs.Value.{value_by, value_over}
use Rattle.prevalence_store.specs.meaning.Acceptance.{form_limits}
use Rattle.world_text.proofs.Atoms.{home_ascii, own_ascii}
use Rattle.world_text.proofs.Spelling.{IsAscii}
use Rattle.world_forms.specs.NameTokens.{call_text, is_too_long, symbol_text, text_argument, value_text}
use Rattle.text_laws.specs.Objects.{call}
use Rattle.text_laws.proofs.One.{interned_value}
use Rattle.export_laws.proofs.PackageText.{name_short as name_text_short, room, text_short}
use Rattle.text_laws.proofs.PartsRead.{IsRead, deeper, object_is_read}
use Rattle.text_laws.proofs.Symbols.{call_is_read, lisp_is_read, symbol_is_read, text_is_read}
use Rattle.text_laws.proofs.There.{lisp_there, nil_there, pair_there, there_alone}
use Rattle.whole_export.proofs.Arguments.{IsArgument}

-- what evaluates to a keyword that names a readtable: itself, or what INTERN finds
abbrev pub table_form : Name → Object
table_form n = if is_too_long keyword n then call (codes "INTERN") (text n ∷ text keyword ∷ []) else symbol keyword n

-- T or NIL
abbrev pub flag : Bool → Object
flag b = if b then symbol common_lisp (codes "T") else nil

abbrev pub flag_text : Bool → List ℕ
flag_text b = if b then codes "T" else codes "NIL"

-- ---- how long they are

keyword_short : (n : Name) → length n ≤ 4096 → length (symbol_text keyword n) ≤ 10000
unfolding symbol_text
keyword_short n short = omega (arith, short, name_text_short n)

either_short : (b : Bool) (xs ys : List ℕ) → length xs ≤ 10 → length ys ≤ 10 → length (if b then xs else ys) ≤ 10
either_short true xs ys one two = one
either_short false xs ys one two = two

name_short : (c : ℕ) → length (character_name c) ≤ 10
name_short c =
    either_short (c == 8) (codes "Backspace") _ (omega arith)
    (either_short (c == 9) (codes "Tab") _ (omega arith)
    (either_short (c == 10) (codes "Newline") _ (omega arith)
    (either_short (c == 12) (codes "Page") _ (omega arith)
    (either_short (c == 13) (codes "Return") _ (omega arith)
    (either_short (c == 32) (codes "Space") _ (omega arith)
    (either_short (c == 127) (codes "Rubout") (c ∷ []) (omega arith) (omega arith)))))))

module _ (names : List Name) (s : WorldState) (sound : packages.AreSoundPackages s.packages) where
  abbrev t : Table
  t = s.packages

  abbrev Read : ℕ → List ℕ → Object → Type 0
  Read = IsRead form_limits t no_functions sound (room t sound)

  within : (cs : List ℕ) (x : Object) → Read 0 cs x → Read 1 cs x
  within cs x h = deeper form_limits t no_functions sound (room t sound) 0 1 cs x h (omega arith)

  -- ---- a keyword

  module _ (n : Name) (there : IsSymbol t (keyword, n)) where
    pub keyword_is : length n ≤ 4000 → IsArgument names s sound (symbol_text keyword n) (symbol keyword n) (symbol keyword n)
    unfolding value_over is_too_long
    keyword_is short = record {
      read = within (symbol_text keyword n) (symbol keyword n) (symbol_is_read form_limits t no_functions sound (room t sound) keyword n there (omega arith) (not_long (length n) short));
      there = there_alone t keyword n there;
      short = keyword_short n (omega (arith, short));
      value = refl;
    }
      where
        not_long : (k : ℕ) → k ≤ 4000 → nat_lt 4096 (1 + k) ≡ false
        not_long k short = grind arith

    -- ---- the name of a readtable

    own : IsAscii n
    own = own_ascii t packages.common_lisp_user sound keyword n there

    many_short : length n ≤ 4096 → length (call_text (codes "INTERN") (n ∷ keyword ∷ [])) ≤ 10000
    unfolding call_text
    many_short short = omega (arith, short, text_short n, text_short keyword, length-append (flat_map text_argument (n ∷ keyword ∷ [])) (codes ")"), length-append (text_argument n) (flat_map text_argument (keyword ∷ [])), length-append (text_argument keyword) [])

    pub table_is : IsArgument names s sound (value_text [] [] keyword n) (table_form n) (symbol keyword n)
    unfolding value_text common_lisp_names value_over
    table_is = by_length (is_too_long keyword n) refl
      where
        by_length : (b : Bool) → is_too_long keyword n ≡ b
            → IsArgument names s sound (if b then call_text (codes "INTERN") (n ∷ keyword ∷ []) else symbol_text keyword n ++ [])
            (if b then call (codes "INTERN") (text n ∷ text keyword ∷ []) else symbol keyword n) (symbol keyword n)
        by_length true e = record {
          read = call_is_read form_limits t no_functions sound (room t sound) (codes "INTERN") (n ∷ keyword ∷ [])
              (lisp_is_read form_limits t no_functions sound (room t sound) (codes "INTERN") refl refl (omega arith))
              (All-cons IsAscii n (keyword ∷ []) own (All-cons IsAscii keyword [] (home_ascii t packages.common_lisp_user sound keyword n there) (All-nil IsAscii)));
          there = pair_there t (symbol common_lisp (codes "INTERN")) (pair (text n) (pair (text keyword) nil)) (lisp_there t sound (codes "INTERN") refl)
              (pair_there t (text n) (pair (text keyword) nil) refl (pair_there t (text keyword) nil refl (nil_there t sound)));
          short = many_short (sound.within.symbol_names keyword n keyword there).short;
          value = interned_value names s sound keyword n there;
        }
        by_length false e =
            subst (λ cs. IsArgument names s sound cs (symbol keyword n) (symbol keyword n)) (sym (append-nil (symbol_text keyword n)))
            (record {
              read = within (symbol_text keyword n) (symbol keyword n) (symbol_is_read form_limits t no_functions sound (room t sound) keyword n there (omega arith) e);
              there = there_alone t keyword n there;
              short = keyword_short n (sound.within.symbol_names keyword n keyword there).short;
              value = refl;
            })

  -- one that is there from the first
  pub keyword_first : (n : Name) → IsTrue (list_any (bytes_eq n) keyword_names) → length n ≤ 4000 → IsArgument names s sound (symbol_text keyword n) (symbol keyword n) (symbol keyword n)
  keyword_first n listed short = keyword_is n (sound.first.keywords n listed) short

  -- ---- a character

  pub character_is : (c : ℕ) → c < 128 → IsArgument names s sound (printed_character c) (character c) (character c)
  unfolding value_over
  character_is c below = record {
    read = within (printed_character c) (character c) (object_is_read form_limits t no_functions sound (room t sound) (character c) below tt (omega (arith, name_short c)));
    there = refl;
    short = omega (arith, name_short c);
    value = refl;
  }

  -- ---- T and NIL

  lisp_is : (n : Name) → Read 0 n (symbol common_lisp n) → IsTrue (list_any (bytes_eq n) common_lisp_names) → length n ≤ 40
      → value_by true names s (symbol common_lisp n) ≡ gives (symbol common_lisp n) s → IsArgument names s sound n (symbol common_lisp n) (symbol common_lisp n)
  lisp_is n read listed short value = record { read = within n (symbol common_lisp n) read; there = lisp_there t sound n listed; short = omega (arith, short); value = value }

  pub flag_is : (b : Bool) → IsArgument names s sound (flag_text b) (flag b) (flag b)
  unfolding value_over common_lisp_names
  flag_is true = lisp_is (codes "T") (lisp_is_read form_limits t no_functions sound (room t sound) (codes "T") refl refl (omega arith)) refl (omega arith) refl
  flag_is false = lisp_is (codes "NIL") (lisp_is_read form_limits t no_functions sound (room t sound) (codes "NIL") refl refl (omega arith)) refl (omega arith) refl

  -- ---- a base

  few_digits : (n : ℕ) → n ≤ 36 → length (decimal n) ≤ 4096
  few_digits n small = omega (arith, length-decimal-le_wide 39 n (omega arith) (omega (arith, small)) (omega (arith, small)))

  pub base_is : (n : ℕ) → n ≤ 36 → IsArgument names s sound (decimal n) (integer (pos n)) (integer (pos n))
  unfolding value_over
  base_is n small = record {
    read = within (decimal n) (integer (pos n)) (object_is_read form_limits t no_functions sound (room t sound) (integer (pos n)) (omega (arith, small)) tt (few_digits n small));
    there = refl;
    short = omega (arith, few_digits n small);
    value = refl;
  }

  -- the variable, which is a place too
  pub base_variable : IsArgument names s sound (codes "*READ-BASE*") (symbol common_lisp (codes "*READ-BASE*")) (integer (pos s.read_base))
  unfolding value_over common_lisp_names
  base_variable = record {
    read = within (codes "*READ-BASE*") (symbol common_lisp (codes "*READ-BASE*")) (lisp_is_read form_limits t no_functions sound (room t sound) (codes "*READ-BASE*") refl refl (omega arith));
    there = lisp_there t sound (codes "*READ-BASE*") refl;
    short = omega arith;
    value = refl;
  }

  -- ---- the name of a package

  pub text_is : (p : Name) → IsPackage t p → IsArgument names s sound (printed_text p) (text p) (text p)
  unfolding value_over
  text_is p there =
      let few : length p ≤ 256 = (sound.within.package_names p there).short in
      record {
        read = within (printed_text p) (text p) (text_is_read form_limits t no_functions sound (room t sound) p (sound.within.package_names p there).ascii);
        there = refl;
        short = omega (arith, few, text_short p);
        value = refl;
      }
