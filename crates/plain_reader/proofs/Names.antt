-- A token that is a word is a name.
use Rattle.std.proofs.Common.{◌≡◌, ℕ, ◌+◌, ◌-◌, ◌*◌, ◌^◌, ◌<◌, ◌≤◌, pos, length, take, get_or, lit≤, add-one, length-append, Bool, true, false, not, ◌||◌, List, [], ◌∷◌, ◌++◌, map, None, Some, Result, Ok, Err, IfOk, refl, sym, ap, ◌∙◌, arith}
use Rattle.std.specs.Prelude.{◌==◌, if◌then◌else◌, nat_lt, nat_le}
use Rattle.std.specs.List.{list_all, list_any, slice_split}
use Rattle.std.specs.Char.{digit_value}
use Rattle.std.specs.declared.alloc.AllocError.{AllocError}
use Rattle.std.proofs.lemmas.Bool.{and_parts, and_from, not-true, ltb-true, lt-ltb, le-ltb, leb-true, ne_eqb}
use Rattle.std.proofs.lemmas.Bool.Decides.{nat_tests}
use Rattle.std.proofs.lemmas.List.{take_all, take_more}
use Rattle.std.proofs.lemmas.List.Folds.{list_all_more}
use Rattle.std.proofs.Math.Nat.{pow-suc, pow-zero}
use Rattle.lisp_object.specs.Ascii.{is_ascii}
use Rattle.lisp_object.specs.Object.{Object, integer, symbol}
use Rattle.readtable_core.specs.Characters.{is_lower_case, upper_case, is_digit}
use Rattle.readtable_core.specs.declared.table.Case.TheVariants.{Upcase}
use Rattle.token_scan.specs.declared.mark.Mark.{Mark}
use Rattle.token_scan.specs.declared.mark.Mark.TheVariants.{Plain}
use Rattle.token_scan.specs.Marks.{characters}
use Rattle.token_meaning.specs.declared.refusal.MeaningRefusal.TheVariants.{NumberRange}
use Rattle.token_meaning.specs.declared.token.TokenName.TheVariants.{Unqualified}
use Rattle.token_meaning.specs.Folding.{folded_marks}
use Rattle.token_meaning.specs.Numerals.{is_digit_in, is_empty, is_numeral, are_digits, numeral_value}
use Rattle.token_meaning.specs.Numbers.{integer_of, number_in_base}
use Rattle.token_meaning.specs.Grammar.{absent}
use Rattle.token_meaning.specs.Meanings.{number, name, is_unescaped, is_package_marker, pattern, name_of_marks, meaning_of}
use Rattle.token_meaning.proofs.NumberFronts.{begins_number, no_number}
use Rattle.token_meaning.proofs.Spelled.{digits_given}
use Rattle.package_table.specs.Resolving.{Resolution, home_of, resolution}
use Rattle.lisp_reading.specs.Naming.{told_meaning, symbol_in}
use Rattle.lisp_reading.specs.declared.token_resolution.ResolvedToken.TheVariants.{Object as told_object}
use Rattle.plain_reader.specs.declared.context.PlainContext.{PlainContext}
use Rattle.plain_reader.specs.Tokens.{marks_of_bytes, IsToken}
use Rattle.plain_reader.specs.Words.{is_word}

-- ---- characters beyond the digits

beyond_digits : (c : ℕ) → 58 ≤ c → 10 ≤ digit_value c
beyond_digits c h = grind (arith, nat_tests)

beyond : (c : ℕ) → 58 ≤ c → begins_number c ≡ false
beyond c h =
    let digit : is_digit_in 10 c ≡ false = le-ltb (digit_value c) 10 (beyond_digits c h) in
    let plus_sign : (c == 43) ≡ false = ne_eqb c 43 (λ e. omega arith) in
    let minus_sign : (c == 45) ≡ false = ne_eqb c 45 (λ e. omega arith) in
    let point : (c == 46) ≡ false = ne_eqb c 46 (λ e. omega arith) in
    rw (digit, plus_sign, minus_sign, point) refl

upper_by : (c : ℕ) (b : Bool) → is_lower_case c ≡ b → 58 ≤ c → 58 ≤ (if b then c - 32 else c)
upper_by c true e h =
    let low : (nat_le 97 c ≡ true) × (nat_le c 122 ≡ true) = and_parts (nat_le 97 c) (nat_le c 122) e in
    let more : 97 ≤ c = leb-true 97 c low.0 in
    omega arith
upper_by c false e h = h

upper_beyond : (c : ℕ) → 58 ≤ c → 58 ≤ upper_case c
upper_beyond c h = upper_by c (is_lower_case c) refl h

-- where there is no lower-case letter, nothing becomes upper-case
same_upper : (c : ℕ) → is_lower_case c ≡ false → upper_case c ≡ c
same_upper c e = ap (λ b. if b then c - 32 else c) e

neither : (b d : Bool) → (b || d) ≡ false → (b ≡ false) × (d ≡ false)
neither false false e = (refl, refl)
neither false true e = absurd cc
neither true d e = absurd cc

pub no_lower : (cs : List ℕ) → list_any is_lower_case cs ≡ false → map upper_case cs ≡ cs
no_lower [] e = refl
no_lower (c ∷ cs) e =
    let both : (is_lower_case c ≡ false) × (list_any is_lower_case cs ≡ false) = neither (is_lower_case c) (list_any is_lower_case cs) e in
    λ i. same_upper c both.0 i ∷ no_lower cs both.1 i

pub same_name : (bytes : List ℕ) (result : Result (List ℕ) AllocError) → list_any is_lower_case bytes ≡ false → IfOk result (λ b. b ≡ bytes)
    → IfOk result (λ b. b ≡ map upper_case bytes)
same_name bytes (Err e) none is = tt
same_name bytes (Ok b) none is = is ∙ sym (no_lower bytes none)

-- ---- marks of plain characters

pub plain_all : (cs : List ℕ) → list_all is_unescaped (marks_of_bytes cs) ≡ true
plain_all [] = refl
plain_all (c ∷ cs) = plain_all cs

pub plain_characters : (cs : List ℕ) → characters (marks_of_bytes cs) ≡ cs
plain_characters [] = refl
plain_characters (c ∷ cs) = ap (λ (ds : List ℕ). c ∷ ds) (plain_characters cs)

pub upcased : (cs : List ℕ) → folded_marks Upcase (marks_of_bytes cs) ≡ marks_of_bytes (map upper_case cs)
upcased [] = refl
upcased (c ∷ cs) = ap (λ (ms : List Mark). Plain (upper_case c) ∷ ms) (upcased cs)

no_colon_by : (c : ℕ) (b : Bool) → is_lower_case c ≡ b → (c == 58) ≡ false → ((if b then c - 32 else c) == 58) ≡ false
no_colon_by c true e h =
    let low : (nat_le 97 c ≡ true) × (nat_le c 122 ≡ true) = and_parts (nat_le 97 c) (nat_le c 122) e in
    let more : 97 ≤ c = leb-true 97 c low.0 in
    ne_eqb (c - 32) 58 (λ e. omega arith)
no_colon_by c false e h = h

none_of : (b d : Bool) → (b || d) ≡ false → (b ≡ false) × (d ≡ false)
none_of false false e = (refl, refl)
none_of true d e = absurd cc
none_of false true e = absurd cc

unmarked : (cs : List ℕ) → list_any (λ c. c == 58) cs ≡ false → list_any is_package_marker (marks_of_bytes (map upper_case cs)) ≡ false
unmarked [] e = refl
unmarked (c ∷ cs) e =
    let both : ((c == 58) ≡ false) × (list_any (λ c. c == 58) cs ≡ false) = none_of (c == 58) (list_any (λ c. c == 58) cs) e in
    rw (no_colon_by c (is_lower_case c) refl both.0, unmarked cs both.1) refl

whole_part : (marks : List Mark) → list_any is_package_marker marks ≡ false → slice_split is_package_marker marks ≡ marks ∷ []
whole_part [] h = refl
whole_part (m ∷ ms) h =
    let both : (is_package_marker m ≡ false) × (list_any is_package_marker ms ≡ false) = none_of (is_package_marker m) (list_any is_package_marker ms) h in
    rw (both.0, whole_part ms both.1) refl

-- ---- words

by_first : (c : ℕ) (cs : List ℕ) → 58 ≤ c → meaning_of 10 (marks_of_bytes (c ∷ cs)) ≡ name_of_marks (marks_of_bytes (c ∷ cs))
by_first c cs h =
    let fails : begins_number c ≡ false = beyond c h in
    let no_point : (c == 46) ≡ false = ne_eqb c 46 (λ e. omega arith) in
    let none : number_in_base 10 (c ∷ characters (marks_of_bytes cs)) ≡ None = no_number (c ∷ characters (marks_of_bytes cs)) fails in
    rw (plain_all cs, no_point, none) refl

pub word_means : (cs : List ℕ) → is_word cs ≡ true → meaning_of 10 (folded_marks Upcase (marks_of_bytes cs)) ≡ Ok (name (Unqualified (map upper_case cs)))
word_means [] e = absurd cc
word_means (c ∷ cs) e =
    let both : (nat_lt 57 c ≡ true) × (not (list_any (λ c. c == 58) (c ∷ cs)) ≡ true) = and_parts (nat_lt 57 c) (not (list_any (λ c. c == 58) (c ∷ cs))) e in
    let above : 57 < c = ltb-true 57 c both.0 in
    let none : list_any is_package_marker (marks_of_bytes (map upper_case (c ∷ cs))) ≡ false = unmarked (c ∷ cs) (not-true _ both.1) in
    ap (meaning_of 10) (upcased (c ∷ cs))
    ∙ by_first (upper_case c) (map upper_case cs) (upper_beyond c (omega arith))
    ∙ ap pattern (whole_part (marks_of_bytes (map upper_case (c ∷ cs))) none)
    ∙ ap (λ (own : List ℕ). Ok (name (Unqualified own))) (plain_characters (map upper_case (c ∷ cs)))

upper_ascii_by : (c : ℕ) (b : Bool) → nat_lt c 128 ≡ true → nat_lt (if b then c - 32 else c) 128 ≡ true
upper_ascii_by c true e = let below : c < 128 = ltb-true c 128 e in lt-ltb (c - 32) 128 (omega arith)
upper_ascii_by c false e = e

pub upper_ascii : (cs : List ℕ) → list_all is_ascii cs ≡ true → list_all is_ascii (map upper_case cs) ≡ true
upper_ascii [] e = refl
upper_ascii (c ∷ cs) e =
    let both : (is_ascii c ≡ true) × (list_all is_ascii cs ≡ true) = and_parts (is_ascii c) (list_all is_ascii cs) e in
    and_from (is_ascii (upper_case c)) (list_all is_ascii (map upper_case cs)) (upper_ascii_by c (is_lower_case c) both.0) (upper_ascii cs both.1)

-- a word is the symbol that its name is resolved to
pub word_token : (with : PlainContext) (bytes own : List ℕ) (r : Resolution) (x : Object) → with.standard ≡ true → is_word bytes ≡ true → own ≡ map upper_case bytes
    → resolution with.packages.now.0 with.current.now own ≡ Ok r → x ≡ symbol (home_of r) own → IsToken with bytes x
word_token with bytes own r x standard word e found is =
    let base : with.base ≡ 10 = with.numbers standard in
    let case : with.readtable.now.letters ≡ Upcase = with.case standard in
    (λ i. told_meaning with.packages.now.0 with.current.now (meaning_of (base i) (folded_marks (case i) (marks_of_bytes bytes))))
    ∙ ap (told_meaning with.packages.now.0 with.current.now) (word_means bytes word)
    ∙ ap (λ (own : List ℕ). symbol_in own (resolution with.packages.now.0 with.current.now own)) (sym e)
    ∙ ap (symbol_in own) found
    ∙ ap (λ (x : Object). Ok (told_object x)) (sym is)

-- ---- decimal integers

digit_worth : (c : ℕ) → is_digit c ≡ true → digit_value c ≡ c - 48
digit_worth c e =
    let both : (nat_le 48 c ≡ true) × (nat_le c 57 ≡ true) = and_parts (nat_le 48 c) (nat_le c 57) e in
    let low : 48 ≤ c = leb-true 48 c both.0 in
    let high : c ≤ 57 = leb-true c 57 both.1 in
    rw (le-ltb c 48 low, lt-ltb c 58 (omega arith)) refl

digit_in : (c : ℕ) → is_digit c ≡ true → is_digit_in 10 c ≡ true
digit_in c e =
    let both : (nat_le 48 c ≡ true) × (nat_le c 57 ≡ true) = and_parts (nat_le 48 c) (nat_le c 57) e in
    let low : 48 ≤ c = leb-true 48 c both.0 in
    let high : c ≤ 57 = leb-true c 57 both.1 in
    rw (digit_worth c e) (lt-ltb (c - 48) 10 (omega arith))

pub digits_more : (text : List ℕ) (i : ℕ) → i < length text → are_digits 10 (take i text) ≡ true → is_digit (get_or text i 0) ≡ true
    → are_digits 10 (take (i + 1) text) ≡ true
digits_more text i lt before is =
    list_all_more (is_digit_in 10) text i 0 lt ∙ and_from (are_digits 10 (take i text)) (is_digit_in 10 (get_or text i 0)) before (digit_in (get_or text i 0) is)

shifted : (base d power sum c : ℕ) → d * (power * base) + (sum * base + c) ≡ (d * power + sum) * base + c
shifted base d power sum c = omega arith

value_more : (base : ℕ) (ds : List ℕ) (c : ℕ) → numeral_value base (ds ++ c ∷ []) ≡ numeral_value base ds * base + digit_value c
unfolding numeral_value
value_more base [] c = rw (pow-zero base) (omega arith)
value_more base (d ∷ ds) c =
    rw (length-append ds (c ∷ []), add-one (length ds), pow-suc base (length ds), value_more base ds c)
    (shifted base (digit_value d) (base ^ length ds) (numeral_value base ds) (digit_value c))

pub value_none : 0 ≡ numeral_value 10 []
unfolding numeral_value
value_none = refl

pub worth_more : (text : List ℕ) (i n m : ℕ) → i < length text → n ≡ numeral_value 10 (take i text) → is_digit (get_or text i 0) ≡ true
    → m ≡ n * 10 + (get_or text i 0 - 48) → m ≡ numeral_value 10 (take (i + 1) text)
worth_more text i n m lt before is e =
    let digit : digit_value (get_or text i 0) ≡ get_or text i 0 - 48 = digit_worth (get_or text i 0) is in
    let more : numeral_value 10 (take (i + 1) text) ≡ numeral_value 10 (take i text) * 10 + digit_value (get_or text i 0) =
    ap (numeral_value 10) (take_more text i 0 lt) ∙ value_more 10 (take i text) (get_or text i 0) in
    omega (arith, digit, more, before, e)

pub whole_numeral : (text : List ℕ) (i n : ℕ) → length text ≤ i → (length text ≡ 0 → ⊥) → are_digits 10 (take i text) ≡ true → n ≡ numeral_value 10 (take i text)
    → (is_numeral 10 text ≡ true) × (n ≡ numeral_value 10 text)
whole_numeral [] i n all some digits worth = absurd (some refl)
whole_numeral (c ∷ cs) i n all some digits worth =
    let same : take i (c ∷ cs) ≡ c ∷ cs = take_all i (c ∷ cs) all in
    (ap (are_digits 10) (sym same) ∙ digits, worth ∙ ap (numeral_value 10) same)

same_digit : (c : ℕ) → is_digit_in 10 c ≡ true → upper_case c ≡ c
same_digit c e = grind (arith, nat_tests, e)

same_digits : (cs : List ℕ) → are_digits 10 cs ≡ true → map upper_case cs ≡ cs
same_digits [] e = refl
same_digits (c ∷ cs) e =
    let both : (is_digit_in 10 c ≡ true) × (are_digits 10 cs ≡ true) = and_parts (is_digit_in 10 c) (are_digits 10 cs) e in
    λ i. same_digit c both.0 i ∷ same_digits cs both.1 i

digit_no_point : (c : ℕ) → is_digit_in 10 c ≡ true → (c == 46) ≡ false
digit_no_point c e = ne_eqb c 46 (λ same. let never : is_digit_in 10 46 ≡ true = ap (is_digit_in 10) (sym same) ∙ e in absurd cc)

numeral_means : (cs : List ℕ) → is_numeral 10 cs ≡ true → numeral_value 10 cs < 2 ^ 127 → meaning_of 10 (marks_of_bytes cs) ≡ Ok (number (integer (pos (numeral_value 10 cs))))
numeral_means [] e small = absurd cc
numeral_means (c ∷ cs) e small =
    let both : (is_digit_in 10 c ≡ true) × (are_digits 10 cs ≡ true) = and_parts (is_digit_in 10 c) (are_digits 10 cs) e in
    let no_point : (c == 46) ≡ false = digit_no_point c both.0 in
    let digits : number_in_base 10 (c ∷ cs) ≡ Some (integer_of false (numeral_value 10 (c ∷ cs))) =
    digits_given 10 (c ∷ cs) false (numeral_value 10 (c ∷ cs)) (lit≤ tt)
    (record { sign = absent; digits = c ∷ cs; numeral = e; parts = refl; below_zero = refl; worth = refl }) in
    let in_range : nat_lt (numeral_value 10 (c ∷ cs)) (2 ^ 127) ≡ true = lt-ltb (numeral_value 10 (c ∷ cs)) (2 ^ 127) small in
    let given : number_in_base 10 (c ∷ characters (marks_of_bytes cs)) ≡ Some (Ok (integer (pos (numeral_value 10 (c ∷ cs))))) =
    ap (λ (ds : List ℕ). number_in_base 10 (c ∷ ds)) (plain_characters cs) ∙ digits
    ∙ ap (λ (b : Bool). Some (if b then Ok (integer (pos (numeral_value 10 (c ∷ cs)))) else Err NumberRange)) in_range in
    rw (plain_all cs, no_point, given) refl

pub decimal_token : (with : PlainContext) (bytes : List ℕ) (n : ℕ) (x : Object) → with.standard ≡ true → (is_numeral 10 bytes ≡ true) × (n ≡ numeral_value 10 bytes) → n < 2 ^ 64
    → x ≡ integer (pos n) → IsToken with bytes x
decimal_token with bytes n x standard is small e =
    let base : with.base ≡ 10 = with.numbers standard in
    let case : with.readtable.now.letters ≡ Upcase = with.case standard in
    let digits : are_digits 10 bytes ≡ true = (and_parts (not (is_empty bytes)) (are_digits 10 bytes) is.0).1 in
    let low : numeral_value 10 bytes < 2 ^ 127 = let worth = is.1 in omega arith in
    (λ i. told_meaning with.packages.now.0 with.current.now (meaning_of (base i) (folded_marks (case i) (marks_of_bytes bytes))))
    ∙ ap (λ ms. told_meaning with.packages.now.0 with.current.now (meaning_of 10 ms)) (upcased bytes ∙ ap marks_of_bytes (same_digits bytes digits))
    ∙ ap (told_meaning with.packages.now.0 with.current.now) (numeral_means bytes is.0 low)
    ∙ ap (λ (n : ℕ). Ok (told_object (integer (pos n)))) (sym is.1)
    ∙ ap (λ (x : Object). Ok (told_object x)) (sym e)
