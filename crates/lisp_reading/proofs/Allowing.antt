-- A form is no deeper than the nesting, and each predicate that allows what may be read holds of its atoms.
use Rattle.std.proofs.Common.{◌≡◌, ℕ, zero, suc, ◌+◌, ◌-◌, ◌≤◌, ℤ, Bool, true, false, List, [], ◌∷◌, ◌++◌, length, map, replicate, All, codes, bytes_eq, Option, Some, None, Result, Ok, Err, inl, refl, ap, subst, ◌∙◌, arith}
use Rattle.std.specs.Prelude.{nat_lt, nat_le, not, ◌&&◌, ◌==◌, if◌then◌else◌, option_map}
use Rattle.std.specs.Option.{option_map_or}
use Rattle.std.specs.List.{list_all, slice_split}
use Rattle.std.specs.FinMap as finite
use Rattle.std.specs.FinMap.{get-from_entries}
use Rattle.std.proofs.lemmas.Bool.{and_parts, leb-true}
use Rattle.std.proofs.lemmas.List.Elements.{All-nil, All-cons, All-append, All-replicate}
use Rattle.lisp_object.specs.Object as o
use Rattle.lisp_object.specs.Object.{Object, nil, list_of, AllAtoms, object_depth, object_size}
use Rattle.readtable_core.specs.Characters.{upper_case}
use Rattle.readtable_core.specs.declared.table.Case.{Case}
use Rattle.readtable_core.specs.declared.table.Case.TheVariants.{Upcase, Downcase, Preserve, Invert}
use Rattle.package_table.specs.declared.error.PackageError.TheVariants.{LockedPackage, NoPackage, NotExternal}
use Rattle.package_table.specs.Table.{Name, Present, Table as Packages, name_cmp, common_lisp, common_lisp_names, common_lisp_package, keyword, package_named, Finds}
use Rattle.package_table.specs.Lookup.{home_by_name, external_home}
use Rattle.package_table.specs.Resolving.{found_at, new_in, resolution}
use Rattle.package_table.proofs.Found.{found_finds}
use Rattle.package_table.proofs.Names.{name_total}
use Rattle.token_scan.specs.declared.mark.Mark.{Mark}
use Rattle.token_scan.specs.declared.mark.Mark.TheVariants.{Plain, Quoted, Bar}
use Rattle.token_scan.specs.Marks.{characters, character_count}
use Rattle.token_scan.proofs.Spelled.{plain_counts, quoted_counts, bar_counts}
use Rattle.token_meaning.specs.declared.refusal.MeaningRefusal.{MeaningRefusal}
use Rattle.token_meaning.specs.declared.refusal.MeaningRefusal.TheVariants.{DotsOnly}
use Rattle.token_meaning.specs.declared.token.TokenName.{TokenName}
use Rattle.token_meaning.specs.declared.token.TokenName.TheVariants.{Unqualified, Keyword, External, Internal}
use Rattle.token_meaning.specs.Folding.{on_plain, lower_case, has_upper_case, has_lower_case, in_upper_case, in_lower_case, folded_marks}
use Rattle.token_meaning.specs.Meanings.{Meaning, dot, is_unescaped, number_or_name, name_of_marks, dots_of, pattern, meaning_of, rational_of, is_package_marker}
use Rattle.token_meaning.specs.Numbers.{number_in_base, rational_number, is_point}
use Rattle.token_meaning.specs.Numerals.{without_sign, is_negative}
use Rattle.std_macros.specs.declared.kind.Standard.{Standard}
use Rattle.std_macros.specs.declared.kind.Standard.TheVariants.{List as AList, Close, Quote, Comment, String, Out, Char, Function as FunctionName, Vector, Uninterned, Block as ABlock, Binary, Octal, Hex, Radix}
use Rattle.std_macros.specs.declared.refusal.StdRefusal.TheVariants.{VectorLength, UninternedToken}
use Rattle.std_macros.specs.Kinds.{radix_of}
use Rattle.std_macros.specs.Values.{Material, nothing, one, many, dotted, letters, marked, Value, gives_one, headed_value, list_value, text_value, code_named, character_or_refused, character_of, character_value, last_of, bounded_value, vector_with, vector_of, vector_value, is_own_name, uninterned_value, rational_or_refused, rational_value, radix_value, value_of}
use Rattle.lisp_reading.specs.declared.token_resolution.ResolvedToken.{ResolvedToken}
use Rattle.lisp_reading.specs.declared.token_resolution.ResolvedToken.TheVariants.{Object as told_object, Dot as dot_alone}
use Rattle.lisp_reading.specs.Answering.{is_known, are_known}
use Rattle.lisp_reading.specs.Naming.{symbol_at, symbol_in, named, told_meaning}
use Rattle.lisp_reading.specs.Setting.{Setting}
use Rattle.lisp_reading.specs.Reading.{form, attempt, reads}
use Rattle.lisp_reading.proofs.Forms.{first, stood}
use Rattle.lisp_reading.proofs.Homes.{external_there}
use Rattle.lisp_reading.proofs.Keeping.{Given, given_keeps}
use Rattle.lisp_reading.proofs.Language.{FoundAt, MaterialAt, AreKept, found_more, outermost_keeps}
use Rattle.lisp_reading.proofs.NumericTokens.{IsNumber, Numeric, chosen_numeric, rational_numeric, number_numeric}
use Rattle.lisp_reading.proofs.Depths.{Within, pairs_within, vector_within, last_within}

-- ---- characters of names

changed_characters : (change : ℕ → ℕ) (marks : List Mark) → length (characters (map (on_plain change) marks)) ≡ character_count marks
changed_characters change [] = refl
changed_characters change (Plain c ∷ marks) = omega (arith, changed_characters change marks, plain_counts c marks)
changed_characters change (Quoted c ∷ marks) = omega (arith, changed_characters change marks, quoted_counts c marks)
changed_characters change (Bar ∷ marks) = omega (arith, changed_characters change marks, bar_counts marks)

same_characters : (marks : List Mark) → length (characters marks) ≡ character_count marks
same_characters [] = refl
same_characters (Plain c ∷ marks) = omega (arith, same_characters marks, plain_counts c marks)
same_characters (Quoted c ∷ marks) = omega (arith, same_characters marks, quoted_counts c marks)
same_characters (Bar ∷ marks) = omega (arith, same_characters marks, bar_counts marks)

folded_characters : (case : Case) (marks : List Mark) → length (characters (folded_marks case marks)) ≡ character_count marks
folded_characters Upcase marks = changed_characters upper_case marks
folded_characters Downcase marks = changed_characters lower_case marks
folded_characters Preserve marks = same_characters marks
folded_characters Invert marks =
    elim (has_upper_case marks) as (λ b. length (characters (if not b then in_upper_case marks else (if not (has_lower_case marks) then in_lower_case marks else marks))) ≡ character_count marks) [
      | false ↦ changed_characters upper_case marks
      | true ↦ elim (has_lower_case marks) as (λ b. length (characters (if not b then in_lower_case marks else marks)) ≡ character_count marks) [
        | false ↦ changed_characters lower_case marks
        | true ↦ same_characters marks
      ]
    ]

-- ---- symbols

-- a symbol that COMMON-LISP has first
abbrev pub IsFirst : Name → Type 0
IsFirst own = option_map (λ (e : Present). e.home) (finite.get common_lisp_package.symbols own) ≡ Some common_lisp

-- its name is listed
listed_first : (own : Name)
    → option_map (λ (e : Present). e.home) (finite.find name_cmp own (map (λ n. (n, record { home = common_lisp; external = true })) common_lisp_names)) ≡ Some common_lisp → IsFirst own
unfolding common_lisp_package
listed_first own listed =
    ap (option_map (λ (e : Present). e.home)) (get-from_entries name_total (map (λ n. (n, record { home = common_lisp; external = true })) common_lisp_names) own) ∙ listed

pub nil_first : IsFirst (codes "NIL")
unfolding common_lisp_names
nil_first = listed_first (codes "NIL") refl

quote_first : IsFirst (codes "QUOTE")
unfolding common_lisp_names
quote_first = listed_first (codes "QUOTE") refl

function_first : IsFirst (codes "FUNCTION")
unfolding common_lisp_names
function_first = listed_first (codes "FUNCTION") refl

-- In these packages, with tokens of at most so many characters, P holds of each atom that a form may have: of a symbol
-- that is found, or is new; of one that COMMON-LISP has first; of a keyword; of a symbol that may be answered; of an
-- uninterned one, answered or read; and of an atom that is no symbol.
pub record Allows (packages : Packages) (limit : ℕ) (P : Object → Type 0) : Type 0 where
  pub present : (p own home : Name) → Finds packages p own home → P (o.symbol home own)
  pub new : (p own : Name) → home_by_name packages p own ≡ None → P (o.symbol p own)
  pub first : (own : Name) → IsFirst own → P (o.symbol common_lisp own)
  pub keywords : (own : Name) → P (o.symbol keyword own)
  pub known : (home own : Name) → is_known packages home own ≡ true → P (o.symbol home own)
  pub answered : (own : Name) → length own ≤ 4096 → P (o.uninterned own)
  pub uninterned : (own : Name) → length own ≤ limit → P (o.uninterned own)
  pub integer : (n : ℤ) → P (o.integer n)
  pub rational : (n : ℤ) (d : ℕ) → P (o.rational n d)
  pub character : (c : ℕ) → P (o.character c)
  pub text : (bytes : List ℕ) → P (o.text bytes)

module _ (t : Packages) (limit : ℕ) (P : Object → Type 0) (allows : Allows t limit P) where
  nil_allowed : P nil
  nil_allowed = allows.first (codes "NIL") nil_first

  quote_allowed : P (o.symbol (codes "COMMON-LISP") (codes "QUOTE"))
  quote_allowed = allows.first (codes "QUOTE") quote_first

  function_allowed : P (o.symbol (codes "COMMON-LISP") (codes "FUNCTION"))
  function_allowed = allows.first (codes "FUNCTION") function_first

  -- what a token names

  abbrev ToldAllowed : Result ResolvedToken ℕ → Type 0
  ToldAllowed (Ok (told_object x)) = (object_depth x ≤ 0) × AllAtoms P x
  ToldAllowed (Ok dot_alone) = Unit {0}
  ToldAllowed (Err code) = Unit {0}

  found_allowed : (p own : Name) (f : Option Name) → home_by_name t p own ≡ f
      → ToldAllowed (symbol_in own (option_map_or (λ h. Ok (found_at h)) f (if bytes_eq p common_lisp then Err LockedPackage else Ok (new_in p))))
  found_allowed p own (Some h) e = (omega arith, allows.present p own h (found_finds t own p h e))
  found_allowed p own None e =
      elim (bytes_eq p common_lisp) as (λ b. ToldAllowed (symbol_in own (if b then Err LockedPackage else Ok (new_in p)))) [
        | true ↦ tt
        | false ↦ (omega arith, allows.new p own e)
      ]

  inside_allowed : (p own : Name) → ToldAllowed (symbol_in own (resolution t p own))
  inside_allowed p own = found_allowed p own (home_by_name t p own) refl

  prefixed_allowed : (own : Name) (p : Option Name) → ToldAllowed (symbol_in own (option_map_or (λ p. resolution t p own) p (Err NoPackage)))
  prefixed_allowed own None = tt
  prefixed_allowed own (Some p) = inside_allowed p own

  external_allowed : (p own : Name) (f : Option Name) → external_home t p own ≡ f → ToldAllowed (symbol_at own (option_map_or (λ h. Ok h) f (Err NotExternal)))
  external_allowed p own None e = tt
  external_allowed p own (Some h) e = (omega arith, allows.present p own h (inl (external_there t p own h e)))

  shown_allowed : (own : Name) (p : Option Name) → ToldAllowed (symbol_at own (option_map_or (λ p. option_map_or (λ h. Ok h) (external_home t p own) (Err NotExternal)) p (Err NoPackage)))
  shown_allowed own None = tt
  shown_allowed own (Some p) = external_allowed p own (external_home t p own) refl

  named_allowed : (current : Name) (own : TokenName) → ToldAllowed (named t current own)
  named_allowed current (Unqualified own) = inside_allowed current own
  named_allowed current (Keyword own) = (omega arith, allows.keywords own)
  named_allowed current (External prefix own) = shown_allowed own (package_named t prefix)
  named_allowed current (Internal prefix own) = prefixed_allowed own (package_named t prefix)

  -- what a token means

  abbrev MeantAllowed : Name → Result Meaning MeaningRefusal → Type 0
  MeantAllowed current r = ToldAllowed (told_meaning t current r)

  pattern_allowed : (current : Name) (parts : List (List Mark)) → MeantAllowed current (pattern parts)
  pattern_allowed current [] = tt
  pattern_allowed current (whole ∷ []) = named_allowed current (Unqualified (characters whole))
  pattern_allowed current ([] ∷ [] ∷ rest) = tt
  pattern_allowed current ([] ∷ (m ∷ ms) ∷ []) = named_allowed current (Keyword (characters (m ∷ ms)))
  pattern_allowed current ([] ∷ (m ∷ ms) ∷ part ∷ rest) = tt
  pattern_allowed current ((p ∷ ps) ∷ (m ∷ ms) ∷ []) = named_allowed current (External (characters (p ∷ ps)) (characters (m ∷ ms)))
  pattern_allowed current ((p ∷ ps) ∷ (m ∷ ms) ∷ part ∷ rest) = tt
  pattern_allowed current ((p ∷ ps) ∷ [] ∷ []) = tt
  pattern_allowed current ((p ∷ ps) ∷ [] ∷ [] ∷ rest) = tt
  pattern_allowed current ((p ∷ ps) ∷ [] ∷ (m ∷ ms) ∷ []) = named_allowed current (Internal (characters (p ∷ ps)) (characters (m ∷ ms)))
  pattern_allowed current ((p ∷ ps) ∷ [] ∷ (m ∷ ms) ∷ part ∷ rest) = tt

  number_allowed : (x : Object) → IsNumber x → (object_depth x ≤ 0) × AllAtoms P x
  number_allowed (o.integer n) h = (omega arith, allows.integer n)
  number_allowed (o.rational n d) h = (omega arith, allows.rational n d)
  number_allowed (o.character c) h = absurd h
  number_allowed (o.text bytes) h = absurd h
  number_allowed (o.symbol home own) h = absurd h
  number_allowed (o.uninterned own) h = absurd h
  number_allowed (o.pair a b) h = absurd h
  number_allowed (o.vector xs) h = absurd h

  number_or_name_allowed : (current : Name) (given : Option (Result Object MeaningRefusal)) (marks : List Mark) → Numeric given → MeantAllowed current (number_or_name given marks)
  number_or_name_allowed current None marks h = pattern_allowed current (slice_split is_package_marker marks)
  number_or_name_allowed current (Some (Ok x)) marks h = number_allowed x h
  number_or_name_allowed current (Some (Err refusal)) marks h = tt

  meant_allowed : (current : Name) (base : ℕ) (marks : List Mark) → MeantAllowed current (meaning_of base marks)
  meant_allowed current base marks =
      elim (list_all is_unescaped marks) as (λ b. MeantAllowed current (if b
      then (if list_all is_point (characters marks) then dots_of (characters marks) else number_or_name (number_in_base base (characters marks)) marks)
      else name_of_marks marks)) [
        | true ↦ elim (list_all is_point (characters marks)) as (λ b. MeantAllowed current (if b then dots_of (characters marks) else number_or_name (number_in_base base (characters marks)) marks)) [
          | true ↦ elim (length (characters marks) == 1) as (λ b. MeantAllowed current (if b then Ok dot else Err DotsOnly)) [ true ↦ tt | false ↦ tt ]
          | false ↦ number_or_name_allowed current (number_in_base base (characters marks)) marks (number_numeric base (characters marks))
        ]
        | false ↦ pattern_allowed current (slice_split is_package_marker marks)
      ]

  -- ---- what may be answered

  answer_allowed : (x : Object) → are_known t x ≡ true → AllAtoms P x
  answer_allowed (o.symbol home own) h = allows.known home own h
  answer_allowed (o.uninterned own) h = allows.answered own (leb-true (length own) 4096 h)
  answer_allowed (o.pair a b) h = let parts = and_parts (are_known t a) (are_known t b) h in (answer_allowed a parts.0, answer_allowed b parts.1)
  answer_allowed (o.vector xs) h = answer_allowed xs h
  answer_allowed (o.integer n) h = allows.integer n
  answer_allowed (o.rational n d) h = allows.rational n d
  answer_allowed (o.character c) h = allows.character c
  answer_allowed (o.text bytes) h = allows.text bytes

  -- ---- what standard functions make

  abbrev Good : ℕ → Object → Type 0
  Good = Within P

  abbrev ValueAllowed : ℕ → Value → Type 0
  ValueAllowed room (Ok (Some x)) = Good room x
  ValueAllowed room (Ok None) = Unit {0}
  ValueAllowed room (Err refusal) = Unit {0}

  value_chosen : (room : ℕ) (b : Bool) (v w : Value) → ValueAllowed room v → ValueAllowed room w → ValueAllowed room (if b then v else w)
  value_chosen room true v w p q = p
  value_chosen room false v w p q = q

  good_nil : (room : ℕ) → Good room nil
  good_nil room = (omega arith, nil_allowed)

  list_good : (room : ℕ) (m : Material) → MaterialAt Good limit room m → ValueAllowed room (list_value m)
  list_good zero (many xs) h = absurd h
  list_good zero (dotted xs tail) h = absurd h
  list_good (suc room) (many xs) h = pairs_within P room xs nil h (good_nil room)
  list_good (suc room) (dotted xs tail) h = pairs_within P room xs tail h.0 h.1
  list_good room nothing h = tt
  list_good room (one x) h = tt
  list_good room (letters cs) h = tt
  list_good room (marked marks) h = tt

  headed_good : (own : Name) → P (o.symbol (codes "COMMON-LISP") own) → (room : ℕ) (m : Material) → MaterialAt Good limit room m → ValueAllowed room (headed_value own m)
  headed_good own head zero (one x) h = absurd h
  headed_good own head (suc room) (one x) h =
      pairs_within P room (o.symbol (codes "COMMON-LISP") own ∷ x ∷ []) nil
      (All-cons (Good room) (o.symbol (codes "COMMON-LISP") own) (x ∷ []) (omega arith, head) (All-cons (Good room) x [] h (All-nil (Good room)))) (good_nil room)
  headed_good own head room (many xs) h = tt
  headed_good own head room (dotted xs tail) h = tt
  headed_good own head room nothing h = tt
  headed_good own head room (letters cs) h = tt
  headed_good own head room (marked marks) h = tt

  text_good : (room : ℕ) (m : Material) → ValueAllowed room (text_value m)
  text_good room (letters cs) = (omega arith, allows.text cs)
  text_good room (many xs) = tt
  text_good room (dotted xs tail) = tt
  text_good room nothing = tt
  text_good room (one x) = tt
  text_good room (marked marks) = tt

  named_good : (room : ℕ) (c : Option ℕ) → ValueAllowed room (character_or_refused c)
  named_good room (Some c) = (omega arith, allows.character c)
  named_good room None = tt

  code_good : (room : ℕ) (cs : List ℕ) → ValueAllowed room (character_of cs)
  code_good room [] = named_good room (code_named [])
  code_good room (c ∷ []) = (omega arith, allows.character c)
  code_good room (c ∷ d ∷ ds) = named_good room (code_named (c ∷ d ∷ ds))

  character_good : (room : ℕ) (m : Material) → ValueAllowed room (character_value m)
  character_good room (marked marks) = code_good room (characters marks)
  character_good room (many xs) = tt
  character_good room (dotted xs tail) = tt
  character_good room nothing = tt
  character_good room (one x) = tt
  character_good room (letters cs) = tt

  repeated_good : (room n : ℕ) (xs : List Object) (last : Option Object) → last_of xs ≡ last → All (Good room) xs → ValueAllowed (suc room) (vector_with n xs last)
  repeated_good room n xs None e all =
      value_chosen (suc room) (n == 0) (gives_one (o.vector (list_of []))) (Err VectorLength) (vector_within P room [] nil_allowed (All-nil (Good room))) tt
  repeated_good room n xs (Some last) e all =
      let more = replicate (n - length xs) last in
      let whole = o.vector (list_of (xs ++ more)) in
      let each : All (Good room) (xs ++ more) = All-append (Good room) xs more all (All-replicate (Good room) (n - length xs) last (last_within P room xs last e all)) in
      value_chosen (suc room) (nat_lt n (length xs)) (Err VectorLength) (bounded_value (nat_lt (length xs) n) whole) tt
      (value_chosen (suc room) (nat_lt (length xs) n && nat_lt 1000000 (object_size whole)) (Err VectorLength) (gives_one whole) tt (vector_within P room (xs ++ more) nil_allowed each))

  counted_good : (room : ℕ) (n : Option ℕ) (xs : List Object) → All (Good room) xs → ValueAllowed (suc room) (vector_of n xs)
  counted_good room None xs all = vector_within P room xs nil_allowed all
  counted_good room (Some n) xs all = repeated_good room n xs (last_of xs) refl all

  vector_good : (n : Option ℕ) (room : ℕ) (m : Material) → MaterialAt Good limit room m → ValueAllowed room (vector_value n m)
  vector_good n zero (many xs) h = absurd h
  vector_good n (suc room) (many xs) h = counted_good room n xs h
  vector_good n room (dotted xs tail) h = tt
  vector_good n room nothing h = tt
  vector_good n room (one x) h = tt
  vector_good n room (letters cs) h = tt
  vector_good n room (marked marks) h = tt

  uninterned_good : (case : Case) (room : ℕ) (m : Material) → MaterialAt Good limit room m → ValueAllowed room (uninterned_value case m)
  uninterned_good case room (marked marks) h =
      value_chosen room (is_own_name marks) (gives_one (o.uninterned (characters (folded_marks case marks)))) (Err UninternedToken)
      (omega arith, allows.uninterned (characters (folded_marks case marks)) (omega (arith, h, folded_characters case marks))) tt
  uninterned_good case room (many xs) h = tt
  uninterned_good case room (dotted xs tail) h = tt
  uninterned_good case room nothing h = tt
  uninterned_good case room (one x) h = tt
  uninterned_good case room (letters cs) h = tt

  good_number : (room : ℕ) (x : Object) → IsNumber x → Good room x
  good_number room x h = let none = number_allowed x h in (omega (arith, none.0), none.1)

  digits_good : (room : ℕ) (r : Option (Result Object MeaningRefusal)) → Numeric r → ValueAllowed room (rational_or_refused r)
  digits_good room None h = tt
  digits_good room (Some (Ok x)) h = good_number room x h
  digits_good room (Some (Err refusal)) h = tt

  digits_numeric : (base : ℕ) (marks : List Mark) → Numeric (rational_of base marks)
  digits_numeric base marks =
      chosen_numeric (list_all is_unescaped marks) (rational_number base (characters marks)) None
      (rational_numeric base (is_negative (characters marks)) (without_sign (characters marks))) tt

  rational_good : (base room : ℕ) (m : Material) → ValueAllowed room (rational_value base m)
  rational_good base room (marked marks) = digits_good room (rational_of base marks) (digits_numeric base marks)
  rational_good base room (many xs) = tt
  rational_good base room (dotted xs tail) = tt
  rational_good base room nothing = tt
  rational_good base room (one x) = tt
  rational_good base room (letters cs) = tt

  radix_good : (base : Option ℕ) (room : ℕ) (m : Material) → ValueAllowed room (radix_value base m)
  radix_good None room m = tt
  radix_good (Some base) room m = rational_good base room m

  value_good : (case : Case) (n : Option ℕ) (room : ℕ) (kind : Standard) (m : Material) → MaterialAt Good limit room m → ValueAllowed room (value_of kind case n m)
  value_good case n room AList m h = list_good room m h
  value_good case n room Close m h = tt
  value_good case n room Quote m h = headed_good (codes "QUOTE") quote_allowed room m h
  value_good case n room Comment m h = tt
  value_good case n room String m h = text_good room m
  value_good case n room Out m h = tt
  value_good case n room Char m h = character_good room m
  value_good case n room FunctionName m h = headed_good (codes "FUNCTION") function_allowed room m h
  value_good case n room Vector m h = vector_good n room m h
  value_good case n room Uninterned m h = uninterned_good case room m h
  value_good case n room ABlock m h = tt
  value_good case n room Binary m h = rational_good 2 room m
  value_good case n room Octal m h = rational_good 8 room m
  value_good case n room Hex m h = rational_good 16 room m
  value_good case n room Radix m h = radix_good (radix_of n) room m

-- ---- forms

kept_within : (setting : Setting) (P : Object → Type 0) → Allows setting.packages setting.limits.token P → AreKept setting (Within P)
kept_within setting P allows = record {
  tokens = λ room marks x e.
      let h : (object_depth x ≤ 0) × AllAtoms P x =
      subst (ToldAllowed setting.packages setting.limits.token P allows) e (meant_allowed setting.packages setting.limits.token P allows setting.current setting.base (folded_marks setting.table.letters marks)) in
      (omega (arith, h.0), h.1);
  values = λ room kind number material x h e.
      subst (ValueAllowed setting.packages setting.limits.token P allows room) e (value_good setting.packages setting.limits.token P allows setting.table.letters number room kind material h);
  answers = λ room x le known deep.
      (omega (arith, le, deep), answer_allowed setting.packages setting.limits.token P allows x (and_parts (nat_le (object_size x) 1000000) (are_known setting.packages x) known).1);
}

pub good_form : (setting : Setting) (P : Object → Type 0) → Allows setting.packages setting.limits.token P → (text : List ℕ) (x : Object) (start «end» next : ℕ)
    → reads setting text ≡ form x start «end» next → Within P setting.limits.nesting x
unfolding reads
good_form setting P allows text x start «end» next e =
    let V = Within P in
    let s = stood setting (length text + 1) 0 text x start «end» next e in
    let keeps = outermost_keeps setting V (kept_within setting P allows) in
    let all : Given (FoundAt V setting.limits.nesting) (first setting s.here) =
    given_keeps (FoundAt V setting.limits.nesting) (found_more V setting.limits.nesting) setting.table setting.limits (attempt setting setting.limits.nesting) false 0 s.here keeps in
    subst (Given (FoundAt V setting.limits.nesting)) s.found all
