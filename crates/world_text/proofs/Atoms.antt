-- The printed text of each atom that is one token: the marks that it spells, and what they mean.
--     symbol_reads, integer_reads, ratio_reads      as it is printed
--     unqualified, as_keyword, internal      a symbol, with its names as they are printed or between bars
use Rattle.std.proofs.Common.{◌≡◌, ℕ, ◌<◌, ◌^◌, ℤ, Bool, true, false, not, ◌&&◌, List, [], ◌∷◌, ◌++◌, append_assoc, Some, Result, Ok, refl, sym, ap, subst, ◌∙◌, arith}
use Rattle.std.specs.Prelude.{if◌then◌else◌, codes, FitsSigned}
use Rattle.std.specs.List.{list_all}
use Rattle.std.specs.Fmt.{signed_decimal}
use Rattle.std.specs.Int.{w128}
use Rattle.std.specs.Str.{bytes_eq}
use Rattle.std.proofs.lemmas.Bool.{and_parts}
use Rattle.std.proofs.lemmas.Slice.Eq.{bytes_eq-Decides}
use Rattle.std.proofs.lemmas.List.{map-append}
use Rattle.std.proofs.lemmas.List.Elements.{All-nil, All-cons}
use Rattle.lisp_object.specs.Object.{Object, integer, rational, symbol}
use Rattle.lisp_object.specs.Lowest.{IsLowest}
use Rattle.token_scan.specs.declared.mark.Mark.{Mark}
use Rattle.token_scan.specs.declared.mark.Mark.TheVariants.{Plain, Bar}
use Rattle.token_meaning.specs.declared.token.TokenName.TheVariants.{Unqualified, Keyword, External, Internal}
use Rattle.token_meaning.specs.Numerals.{is_empty}
use Rattle.token_meaning.specs.Numbers.{is_point, number_in_base}
use Rattle.token_meaning.specs.Folding.{in_upper_case}
use Rattle.token_meaning.specs.Meanings.{Meaning, number, name, is_unescaped as is_plain_mark, name_of_marks, meaning_of}
use Rattle.package_table.specs.Table.{Name, Table, AreSoundPackages, IsPresent, keyword}
use Rattle.package_table.specs.Lookup.{is_symbol, is_external}
use Rattle.package_table.specs.Resolving.{found_at, resolution, external_resolution, internal_resolution}
use Rattle.canon_printer.specs.Names.{with_backslashes, is_escaped_in_bars, printed_name}
use Rattle.canon_printer.specs.Written.{printed_ratio}
use Rattle.canon_printer.specs.Printed.{is_accessible, printed}
use Rattle.canon_printer.proofs.Resolved.{accessible_resolved, home_there, external_resolved, internal_resolved}
use Rattle.lisp_reading.specs.declared.token_resolution.ResolvedToken.{ResolvedToken}
use Rattle.lisp_reading.specs.declared.token_resolution.ResolvedToken.TheVariants.{Object as told_object}
use Rattle.lisp_reading.specs.Naming.{symbol_at, symbol_in, told_meaning}
use Rattle.world_text.proofs.Marked.{plain_marks, name_marks, quoted_marks, printed_marks}
use Rattle.world_text.proofs.Characters.{in_number, is_kept, digit_kept, in_number_below}
use Rattle.world_text.proofs.Spelling.{IsAscii, barred_spelled, begins_token, Spelled, spelled_both, plain_spelled, name_spelled, kept_starts, starts_both, name_starts}
use Rattle.world_text.proofs.Numbers.{integer_given, ratio_is_given, integer_in_number, ratio_in_number, some_no_point, in_number_ascii, integer_some, ratio_some}
use Rattle.world_text.proofs.Names.{BeginsName, means_name, begins_both, IsNameMarks, is_name, quoted_name, alone, not_empty, keyworded, prefixed, twice_prefixed, plain_folded, plain_characters}

-- the text spells marks that stand for the name
pub record IsNameText (own text : List ℕ) (marks : List Mark) : Type 0 where
  pub spelled : Spelled text marks
  pub starts : begins_token text ≡ true
  pub stands : IsNameMarks own marks

pub printed_text : (own : List ℕ) → IsAscii own → IsNameText own (printed_name own) (name_marks own)
printed_text own ascii = record { spelled = name_spelled own ascii; starts = name_starts own ascii; stands = is_name own ascii }

pub barred_text : (own : List ℕ) → IsAscii own → IsNameText own (codes "|" ++ with_backslashes is_escaped_in_bars own ++ codes "|") (Bar ∷ (quoted_marks own ++ Bar ∷ []))
barred_text own ascii = record { spelled = barred_spelled own ascii; starts = refl; stands = quoted_name own }

module _ (t : Table) (current : Name) where
  -- what these marks mean, in capital letters
  abbrev pub meant : List Mark → Result ResolvedToken ℕ
  meant marks = told_meaning t current (meaning_of 10 (in_upper_case marks))

  -- the text spells the marks, of which there are some, and they mean the object
  pub record ReadsAs (text : List ℕ) (marks : List Mark) (x : Object) : Type 0 where
    pub spelled : Spelled text marks
    pub starts : begins_token text ≡ true
    pub some : is_empty marks ≡ false
    pub means : meant marks ≡ Ok (told_object x)

  -- ---- numbers

  numbers_kept : (text : List ℕ) → list_all in_number text ≡ true → list_all is_kept text ≡ true
  numbers_kept [] e = refl
  numbers_kept (c ∷ cs) e =
      let both = and_parts (in_number c) (list_all in_number cs) e in
      rw (digit_kept c (in_number_below c both.0) both.0, numbers_kept cs both.1) refl

  number_starts : (text : List ℕ) → list_all is_kept text ≡ true → not (is_empty text) ≡ true → begins_token text ≡ true
  number_starts [] e some = absurd cc
  number_starts (c ∷ cs) e some = kept_starts c cs (and_parts (is_kept c) (list_all is_kept cs) e).0

  marked_some : (text : List ℕ) → not (is_empty text) ≡ true → is_empty (plain_marks text) ≡ false
  marked_some [] some = absurd cc
  marked_some (c ∷ cs) some = refl

  all_plain : (text : List ℕ) → list_all is_plain_mark (plain_marks text) ≡ true
  all_plain [] = refl
  all_plain (c ∷ cs) = all_plain cs

  number_meaning : (text : List ℕ) (x : Object) → list_all is_point text ≡ false → number_in_base 10 text ≡ Some (Ok x) → meaning_of 10 (plain_marks text) ≡ Ok (number x)
  number_meaning text x no_point given = rw (all_plain text, plain_characters text, no_point, given) refl

  number_reads : (text : List ℕ) (x : Object) → list_all in_number text ≡ true → not (is_empty text) ≡ true → number_in_base 10 text ≡ Some (Ok x) → ReadsAs text (plain_marks text) x
  number_reads text x e some given =
      let kept = numbers_kept text e in
      record {
        spelled = plain_spelled text (in_number_ascii text e) kept;
        starts = number_starts text kept some;
        some = marked_some text some;
        means = ap (λ (ms : List Mark). told_meaning t current (meaning_of 10 ms)) (plain_folded text kept)
            ∙ ap (told_meaning t current) (number_meaning text x (some_no_point text e some) given);
      }

  pub integer_reads : (n : ℤ) → FitsSigned w128 n → ReadsAs (signed_decimal n) (plain_marks (signed_decimal n)) (integer n)
  integer_reads n fits = number_reads (signed_decimal n) (integer n) (integer_in_number n fits) (integer_some n fits) (integer_given n fits)

  pub ratio_reads : (n : ℤ) (d : ℕ) → FitsSigned w128 n → d < 2 ^ 128 → IsLowest n d → ReadsAs (printed_ratio n d) (plain_marks (printed_ratio n d)) (rational n d)
  ratio_reads n d fits small is = number_reads (printed_ratio n d) (rational n d) (ratio_in_number n d fits small) (ratio_some n d fits) (ratio_is_given n d fits small is)

  -- ---- names

  -- marks that keep their case and begin a name mean what their package markers say
  name_meant : (marks : List Mark) (meaning : Meaning) (x : Object) → in_upper_case marks ≡ marks → BeginsName marks → name_of_marks marks ≡ Ok meaning
      → told_meaning t current (Ok meaning) ≡ Ok (told_object x) → meant marks ≡ Ok (told_object x)
  name_meant marks meaning x kept begins is found =
      ap (λ (ms : List Mark). told_meaning t current (meaning_of 10 ms)) kept
      ∙ ap (told_meaning t current) (means_name marks begins ∙ is) ∙ found

  fold_both : (xs ys : List Mark) → in_upper_case xs ≡ xs → in_upper_case ys ≡ ys → in_upper_case (xs ++ ys) ≡ xs ++ ys
  fold_both xs ys e f = map-append _ xs ys ∙ (λ i. e i ++ f i)

  colon : Spelled (codes ":") (Plain 58 ∷ [])
  colon = plain_spelled (codes ":") (All-cons (λ b. b < 128) 58 [] (omega arith) (All-nil (λ b. b < 128))) refl

  colons : Spelled (codes "::") (Plain 58 ∷ Plain 58 ∷ [])
  colons = spelled_both (codes ":") (codes ":") (Plain 58 ∷ []) (Plain 58 ∷ []) colon colon

  -- ---- symbols, by the text of a name

  module _ (own : Name) (own_text : List ℕ) (own_marks : List Mark) (last : IsNameText own own_text own_marks) where
    pub unqualified : (home : Name) → resolution t current own ≡ Ok (found_at home) → ReadsAs own_text own_marks (symbol home own)
    unqualified home found = record {
      spelled = last.spelled;
      starts = last.starts;
      some = not_empty own_marks last.stands.starts;
      means = name_meant own_marks (name (Unqualified own)) (symbol home own) last.stands.folded last.stands.starts (alone own own_marks last.stands)
          (ap (λ r. symbol_in own r) found);
    }

    pub as_keyword : ReadsAs (codes ":" ++ own_text) (Plain 58 ∷ own_marks) (symbol keyword own)
    as_keyword = record {
      spelled = spelled_both (codes ":") own_text (Plain 58 ∷ []) own_marks colon last.spelled;
      starts = refl;
      some = refl;
      means = name_meant (Plain 58 ∷ own_marks) (name (Keyword own)) (symbol keyword own) (ap (λ (ms : List Mark). Plain 58 ∷ ms) last.stands.folded)
          (record { mark = Plain 58; more = own_marks; is = refl; passes = refl }) (keyworded own own_marks last.stands) refl;
    }

    -- after the name of a package
    module _ (prefix : Name) (front_text : List ℕ) (front : List Mark) (first : IsNameText prefix front_text front) where
      front_marks : (home : Name) (colons : List Mark) (meaning : Meaning) → in_upper_case colons ≡ colons → name_of_marks (front ++ (colons ++ own_marks)) ≡ Ok meaning
          → told_meaning t current (Ok meaning) ≡ Ok (told_object (symbol home own)) → meant ((front ++ colons) ++ own_marks) ≡ Ok (told_object (symbol home own))
      front_marks home colons meaning kept is found =
          ap meant (append_assoc front colons own_marks)
          ∙ name_meant (front ++ (colons ++ own_marks)) meaning (symbol home own)
          (fold_both front (colons ++ own_marks) first.stands.folded (fold_both colons own_marks kept last.stands.folded))
          (begins_both front (colons ++ own_marks) first.stands.starts) is found

      front_some : (colons : List Mark) → is_empty ((front ++ colons) ++ own_marks) ≡ false
      front_some colons =
          not_empty ((front ++ colons) ++ own_marks) (begins_both (front ++ colons) own_marks (begins_both front colons first.stands.starts))

      external : (home : Name) → external_resolution t prefix own ≡ Ok home → ReadsAs ((front_text ++ codes ":") ++ own_text) ((front ++ Plain 58 ∷ []) ++ own_marks) (symbol home own)
      external home found = record {
        spelled = spelled_both (front_text ++ codes ":") own_text (front ++ Plain 58 ∷ []) own_marks
            (spelled_both front_text (codes ":") front (Plain 58 ∷ []) first.spelled colon) last.spelled;
        starts = starts_both (front_text ++ codes ":") own_text (starts_both front_text (codes ":") first.starts);
        some = front_some (Plain 58 ∷ []);
        means = front_marks home (Plain 58 ∷ []) (name (External prefix own)) refl (prefixed prefix own front own_marks first.stands last.stands)
            (ap (λ r. symbol_at own r) found);
      }

      pub internal : (home : Name) → internal_resolution t prefix own ≡ Ok (found_at home)
          → ReadsAs ((front_text ++ codes "::") ++ own_text) ((front ++ Plain 58 ∷ Plain 58 ∷ []) ++ own_marks) (symbol home own)
      internal home found = record {
        spelled = spelled_both (front_text ++ codes "::") own_text (front ++ Plain 58 ∷ Plain 58 ∷ []) own_marks
            (spelled_both front_text (codes "::") front (Plain 58 ∷ Plain 58 ∷ []) first.spelled colons) last.spelled;
        starts = starts_both (front_text ++ codes "::") own_text (starts_both front_text (codes "::") first.starts);
        some = front_some (Plain 58 ∷ Plain 58 ∷ []);
        means = front_marks home (Plain 58 ∷ Plain 58 ∷ []) (name (Internal prefix own)) refl (twice_prefixed prefix own front own_marks first.stands last.stands)
            (ap (λ r. symbol_in own r) found);
      }

  -- ---- symbols, as they are printed

  module _ (sound : AreSoundPackages t) (home own : Name) (present : IsPresent t home own home) where
    pub home_ascii : IsAscii home
    home_ascii = (sound.within.package_names home (home_there t home own sound present)).ascii

    pub own_ascii : IsAscii own
    own_ascii = (sound.within.symbol_names home own home present).ascii

    abbrev its_home : IsNameText home (printed_name home) (name_marks home)
    its_home = printed_text home home_ascii

    abbrev its_name : IsNameText own (printed_name own) (name_marks own)
    its_name = printed_text own own_ascii

    by_case : (a k e : Bool) → is_accessible t current home own ≡ a → bytes_eq home keyword ≡ k → (is_symbol t home own && is_external t home own) ≡ e
        → ReadsAs ((if a then [] else (if k then codes ":" else (if e then printed_name home ++ codes ":" else printed_name home ++ codes "::"))) ++ printed_name own)
        ((if a then [] else (if k then Plain 58 ∷ [] else (if e then name_marks home ++ Plain 58 ∷ [] else name_marks home ++ Plain 58 ∷ Plain 58 ∷ []))) ++ name_marks own)
        (symbol home own)
    by_case true k e f g h = unqualified own (printed_name own) (name_marks own) its_name home (accessible_resolved t current home own f)
    by_case false true e f g h =
        subst (λ (p : Name). ReadsAs (codes ":" ++ printed_name own) (Plain 58 ∷ name_marks own) (symbol p own)) (sym ((bytes_eq-Decides home keyword).0 g))
        (as_keyword own (printed_name own) (name_marks own) its_name)
    by_case false false true f g h =
        external own (printed_name own) (name_marks own) its_name home (printed_name home) (name_marks home) its_home home
        (external_resolved t home own sound present (and_parts (is_symbol t home own) (is_external t home own) h).1)
    by_case false false false f g h =
        internal own (printed_name own) (name_marks own) its_name home (printed_name home) (name_marks home) its_home home (internal_resolved t home own sound present)

    pub symbol_reads : ReadsAs (printed t current (symbol home own)) (printed_marks t current (symbol home own)) (symbol home own)
    symbol_reads = by_case (is_accessible t current home own) (bytes_eq home keyword) (is_symbol t home own && is_external t home own) refl refl refl
