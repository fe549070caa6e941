-- Each object is read back from its printed text.
--     object_read_back      the outermost object
--     object_read, token_read, text_good, character_good      one object within another, and after the parts of a list: list_opened
use Rattle.std.proofs.Common.{◌≡◌, ℕ, zero, suc, ◌+◌, ◌-◌, ◌<◌, ◌≤◌, Bool, true, false, not, List, [], ◌∷◌, ◌++◌, length, append_assoc, Ok, refl, sym, ap, subst, ◌∙◌, arith}
use Rattle.std.specs.Prelude.{◌==◌, if◌then◌else◌, codes}
use Rattle.std.specs.List.{list_any}
use Rattle.std.proofs.lemmas.Bool.{both_ways, eqb-true, not_from_false}
use Rattle.std.proofs.lemmas.List.{length-append}
use Rattle.lisp_object.specs.Object as o
use Rattle.lisp_object.specs.Object.{Object, nil, pairs, list_of, is_nil, is_proper_list, object_depth, depth_along}
use Rattle.lisp_object.proofs.Lists.{pairs-append}
use Rattle.lisp_object.proofs.ProperLists.{nil_symbol}
use Rattle.readtable_core.specs.Characters.{standard_syntax}
use Rattle.readtable_core.specs.Tables.{standard}
use Rattle.readtable_core.specs.declared.table.Case.TheVariants.{Upcase}
use Rattle.token_scan.specs.declared.mark.Mark.{Mark}
use Rattle.token_scan.specs.Marks.{character_count, characters}
use Rattle.token_scan.specs.Spelling.{may_end}
use Rattle.token_scan.specs.Tokens.{token_in}
use Rattle.token_meaning.specs.Numerals.{is_empty}
use Rattle.token_meaning.specs.Folding.{in_upper_case}
use Rattle.token_meaning.specs.Meanings.{is_package_marker}
use Rattle.package_table.specs.Table.{Name, Table as Packages, AreSoundPackages}
use Rattle.std_macros.specs.Values.{Value, marked, letters, character_of, character_or_refused, uninterned_of, is_own_name, gives_one}
use Rattle.std_macros.specs.declared.kind.Standard.TheVariants.{String, Char, Uninterned}
use Rattle.canon_printer.specs.Names.{with_backslashes, printed_name}
use Rattle.canon_printer.specs.Written.{is_escaped_in_text, character_name, printed_character, printed_text, printed_uninterned, written, written_atom, written_rest, written_elements}
use Rattle.canon_printer.specs.Printed.{printed, printed_prefix}
use Rattle.canon_printer.specs.Symbols.{HasAllSymbols}
use Rattle.lisp_reading.specs.declared.limits.Limits.{Limits}
use Rattle.lisp_reading.specs.declared.attempt.Found.{Found}
use Rattle.lisp_reading.specs.declared.attempt.Found.TheVariants.{One as one}
use Rattle.lisp_reading.specs.Plans.{Plan, Read, run}
use Rattle.lisp_reading.specs.Setting.{Setting}
use Rattle.lisp_reading.specs.Reading.{finished_plan, inner, completed_call, text_to, items_after, list_end, undotted_plan, attempt, without_space, form, space_at, outcome, reads, reads_at}
use Rattle.lisp_reading.proofs.Forms.{reads_is}
use Rattle.form_reader.proofs.Stacks.{then_moves}
use Rattle.lisp_reading.proofs.Steps.{and_then, run_then}
use Rattle.world_text.specs.PrintedTokens.{AreTokensWithin, ends_with_token}
use Rattle.world_text.proofs.Marked.{name_marks}
use Rattle.world_text.proofs.Spelling.{met_text, starts_token, begins_token, token_of, IsAscii}
use Rattle.world_text.proofs.Names.{is_name, not_empty}
use Rattle.world_text.proofs.Sizes.{plain_count, name_count, symbol_count}
use Rattle.world_text.proofs.Atoms.{ReadsAs, integer_reads, ratio_reads, symbol_reads}
use Rattle.world_text.proofs.Others.{text_read, uninterned_read, character_meant, character_found, character_marks, marks_are, character_read}
use Rattle.world_text.proofs.Begun.{under, begun, scan_is, token_begun, list_begun, text_begun, vector_begun, character_begun, uninterned_begun, point_begun, plain_call, sub_call}
use Rattle.world_text.proofs.Lists.{is_open, item_added, items_closed, tail, others, tail_next, others_next, tail_closed, others_closed, tail_dotted, list_done, vector_done}
use Rattle.user_macros.specs.Functions.{Functions}

-- ---- how a text begins

-- a closing parenthesis begins no token
starts_open : (c : ℕ) → starts_token (standard_syntax c) ≡ true → not (c == 41) ≡ true
starts_open c e =
    elim (c == 41) as (λ b. (c == 41) ≡ b → not b ≡ true) [
      | true ↦ λ f. absurd (both_ways (starts_token (standard_syntax c)) (subst (λ (n : ℕ). starts_token (standard_syntax n) ≡ false) (sym (eqb-true c 41 f)) refl) e)
      | false ↦ λ _. refl
    ] refl

pub token_open : (text rest : List ℕ) → begins_token text ≡ true → is_open (text ++ rest) ≡ true
token_open [] rest e = absurd cc
token_open (c ∷ cs) rest e = starts_open c e

pub ends_space : (rest : List ℕ) → may_end (met_text (32 ∷ rest)) ≡ true
unfolding standard
ends_space rest = refl

pub ends_close : (rest : List ℕ) → may_end (met_text (41 ∷ rest)) ≡ true
unfolding standard
ends_close rest = refl

character_is : (name : List ℕ) → character_of name ≡ character_or_refused (character_meant name)
character_is [] = refl
character_is (c ∷ []) = refl
character_is (c ∷ d ∷ ds) = refl

module _ (limits : Limits) (packages : Packages) (current : Name) (functions : Functions)
    (sound : AreSoundPackages packages) (room : 0 < limits.token) where
  abbrev pub s : Setting
  s = under limits packages current functions

  abbrev pub attempted : ℕ → ℕ → List ℕ → Read Found
  attempted = begun limits packages current functions

  abbrev pub prefix : Name → Name → List ℕ
  prefix = printed_prefix packages current

  -- a sound object, its symbols in the packages, its tokens within the limit
  abbrev pub Good : Object → Type 0
  Good x = o.IsSound x × HasAllSymbols packages x × AreTokensWithin packages current limits.token x

  abbrev pub Attempted : Object → List ℕ → Type 0
  Attempted x text = (d at : ℕ) (rest : List ℕ) → object_depth x ≤ d → at + length text ≤ limits.text → may_end (met_text rest) ≡ true
      → attempted d at (text ++ rest) ≡ Ok (one (ends_with_token x) x, at + length text, rest)

  -- the offset may be written in another way
  pub placed : (token : Bool) (x : Object) (there offset : ℕ) (rest : List ℕ) (r : Read Found) → r ≡ Ok (one token x, there, rest) → there ≡ offset → r ≡ Ok (one token x, offset, rest)
  placed token x there offset rest r e p = e ∙ (λ i. Ok (one token x, p i, rest))

  -- ---- atoms

  pub token_read : (text : List ℕ) (marks : List Mark) (x : Object) → ReadsAs packages current text marks x → character_count marks ≤ limits.token
      → (d at : ℕ) (rest : List ℕ) → at + length text ≤ limits.text → may_end (met_text rest) ≡ true → attempted d at (text ++ rest) ≡ Ok (one true x, at + length text, rest)
  unfolding standard
  token_read text marks x h few d at rest fits ends = by_text text h.starts (at + length text) fits (token_of text marks limits.token at rest h.spelled few ends)
    where
      by_text : (text : List ℕ) → begins_token text ≡ true → (next : ℕ) → next ≤ limits.text → token_in standard limits.token at (text ++ rest) ≡ Ok (marks, next, rest) → attempted d at (text ++ rest) ≡ Ok (one true x, next, rest)
      by_text [] starts next fits e = absurd cc
      by_text (c ∷ cs) starts next fits e = token_begun limits packages current functions d at c (cs ++ rest) marks next rest x starts e fits h.some h.means

  pub character_good : (c : ℕ) → c < 128 → length (character_name c) ≤ limits.token → Attempted (o.character c) (printed_character c)
  unfolding run
  character_good c below few d at rest deep fits ends =
      let name = character_name c in
      let next : ℕ = at + 1 + 1 + length name in
      let offset : next ≡ at + length (35 ∷ 92 ∷ name) = omega arith in
      let is : character_of (characters (character_marks name)) ≡ gives_one (o.character c) =
      ap character_of (marks_are name) ∙ character_is name ∙ ap character_or_refused (character_found c below) in
      placed true (o.character c) next (at + length (35 ∷ 92 ∷ name)) rest _
      (character_begun limits packages current functions d at (name ++ rest) (omega arith)
      ∙ scan_is standard limits true limits.token (λ marks. completed_call s (limits.nesting - d) (sub_call limits packages current functions 92 Char) true false (marked marks)) (at + 1 + 1) (name ++ rest) (character_marks name) next rest
      (character_read c limits.token (at + 1 + 1) rest below few ends) (omega arith)
      ∙ ap (λ (v : Value). run standard limits (finished_plan true v) next rest) is)
      offset

  own_value : (marks : List Mark) → is_own_name marks ≡ true → (own : List ℕ) → characters (in_upper_case marks) ≡ own → uninterned_of Upcase marks ≡ gives_one (o.uninterned own)
  own_value marks e own same = rw e (ap (λ (n : List ℕ). gives_one (o.uninterned n)) same)

  own_name : (marks : List Mark) → is_empty marks ≡ false → list_any is_package_marker marks ≡ false → is_own_name marks ≡ true
  own_name [] some none = absurd cc
  own_name (m ∷ ms) some none = not_from_false _ none

  uninterned_good : (own : List ℕ) → IsAscii own → length own ≤ limits.token → Attempted (o.uninterned own) (printed_uninterned own)
  unfolding run standard
  uninterned_good own ascii few d at rest deep fits ends =
      let text = printed_name own in
      let marks = name_marks own in
      let next : ℕ = at + 1 + 1 + length text in
      let offset : next ≡ at + length (35 ∷ 58 ∷ text) = omega arith in
      let count : character_count marks ≤ limits.token = omega (arith, name_count own) in
      let read = uninterned_read own limits.token (at + 1 + 1) rest ascii count ends in
      placed true (o.uninterned own) next (at + length (35 ∷ 58 ∷ text)) rest _
      (uninterned_begun limits packages current functions d at (text ++ rest) (omega arith)
      ∙ scan_is standard limits false limits.token (λ marks. completed_call s (limits.nesting - d) (sub_call limits packages current functions 58 Uninterned) true false (marked marks)) (at + 1 + 1) (text ++ rest) marks next rest
      read.0 (omega arith)
      ∙ ap (λ (v : Value). run standard limits (finished_plan true v) next rest) (own_value marks (own_name marks (not_empty marks (is_name own ascii).starts) read.1) own read.2))
      offset

  pub text_good : (bytes : List ℕ) → IsAscii bytes → Attempted (o.text bytes) (printed_text bytes)
  unfolding run
  text_good bytes ascii d at rest deep fits ends =
      let body = with_backslashes is_escaped_in_text bytes in
      let size : length (printed_text bytes) ≡ 2 + length body = omega (arith, length-append (codes "\"" ++ body) (codes "\""), length-append (codes "\"") body) in
      let next : ℕ = at + 1 + length body + 1 in
      let after = λ (cs : List ℕ). completed_call s (limits.nesting - d) (plain_call limits packages current functions 34 String) false false (letters cs) in
      placed false (o.text bytes) next (at + length (printed_text bytes)) rest _
      (ap (attempted d at) (append_assoc (codes "\"" ++ body) (codes "\"") rest)
      ∙ text_begun limits packages current functions d at (body ++ 34 ∷ rest) (omega arith)
      ∙ run_then standard limits (text_to s 34 []) after (at + 1) (body ++ 34 ∷ rest)
      ∙ ap (and_then standard limits after) (text_read limits [] bytes rest (at + 1) ascii (omega arith)))
      (omega arith)

  atom_read : (x : Object) → Good x → ends_with_token x ≡ true → Attempted x (written_atom prefix x)
  atom_read (o.integer n) h e d at rest deep fits ends = token_read _ _ (o.integer n) (integer_reads packages current n h.0) (omega (arith, plain_count (written_atom prefix (o.integer n)), h.2)) d at rest fits ends
  atom_read (o.rational n k) h e d at rest deep fits ends = token_read _ _ (o.rational n k) (ratio_reads packages current n k h.0.0 h.0.1 h.0.2) (omega (arith, plain_count (written_atom prefix (o.rational n k)), h.2)) d at rest fits ends
  atom_read (o.symbol home own) h e d at rest deep fits ends = token_read _ _ (o.symbol home own) (symbol_reads packages current sound home own h.1) (omega (arith, symbol_count packages current home own, h.2)) d at rest fits ends
  atom_read (o.character c) h e d at rest deep fits ends = character_good c h.0 h.2 d at rest deep fits ends
  atom_read (o.uninterned own) h e d at rest deep fits ends = uninterned_good own h.0 h.2 d at rest deep fits ends
  atom_read (o.text bytes) h e d at rest deep fits ends = absurd cc
  atom_read (o.pair a b) h e d at rest deep fits ends = absurd cc
  atom_read (o.vector xs) h e d at rest deep fits ends = absurd cc

  -- ---- how printed text begins

  open_atom : (x : Object) → Good x → ends_with_token x ≡ true → (rest : List ℕ) → is_open (written_atom prefix x ++ rest) ≡ true
  open_atom (o.integer n) h e rest = token_open (written_atom prefix (o.integer n)) rest (integer_reads packages current n h.0).starts
  open_atom (o.rational n k) h e rest = token_open (written_atom prefix (o.rational n k)) rest (ratio_reads packages current n k h.0.0 h.0.1 h.0.2).starts
  open_atom (o.symbol home own) h e rest = token_open (written_atom prefix (o.symbol home own)) rest (symbol_reads packages current sound home own h.1).starts
  open_atom (o.character c) h e rest = refl
  open_atom (o.uninterned own) h e rest = refl
  open_atom (o.text bytes) h e rest = absurd cc
  open_atom (o.pair a b) h e rest = absurd cc
  open_atom (o.vector xs) h e rest = absurd cc

  pub object_open : (x : Object) → Good x → (rest : List ℕ) → is_open (written prefix x ++ rest) ≡ true
  object_open (o.pair a b) h rest = refl
  object_open (o.vector xs) h rest = refl
  object_open (o.text bytes) h rest = refl
  object_open (o.integer n) h rest = open_atom (o.integer n) h refl rest
  object_open (o.rational n k) h rest = open_atom (o.rational n k) h refl rest
  object_open (o.character c) h rest = refl
  object_open (o.symbol home own) h rest = open_atom (o.symbol home own) h refl rest
  object_open (o.uninterned own) h rest = refl

  -- what comes after an element ends its token
  rest_ends : (b : Object) (more : List ℕ) → may_end (met_text (written_rest prefix b ++ more)) ≡ true
  rest_ends (o.symbol home own) more =
      elim (is_nil home own) as (λ b. may_end (met_text ((if b then codes ")" else codes " . " ++ written_atom prefix (o.symbol home own) ++ codes ")") ++ more)) ≡ true) [ true ↦ ends_close more | false ↦ ends_space ((codes ". " ++ written_atom prefix (o.symbol home own) ++ codes ")") ++ more) ]
  rest_ends (o.pair a b) more = ends_space ((written prefix a ++ written_rest prefix b) ++ more)
  rest_ends (o.vector xs) more = ends_space ((codes ". #(" ++ written_elements prefix xs ++ codes ")") ++ more)
  rest_ends (o.integer n) more = ends_space ((codes ". " ++ written_atom prefix (o.integer n) ++ codes ")") ++ more)
  rest_ends (o.rational n d) more = ends_space ((codes ". " ++ written_atom prefix (o.rational n d) ++ codes ")") ++ more)
  rest_ends (o.character c) more = ends_space ((codes ". " ++ written_atom prefix (o.character c) ++ codes ")") ++ more)
  rest_ends (o.text bytes) more = ends_space ((codes ". " ++ written_atom prefix (o.text bytes) ++ codes ")") ++ more)
  rest_ends (o.uninterned own) more = ends_space ((codes ". " ++ written_atom prefix (o.uninterned own) ++ codes ")") ++ more)

  -- ---- lists and vectors

  abbrev pub tail_of : ℕ → Bool → List Object → Plan Found
  tail_of = tail limits packages current functions

  abbrev others_of : ℕ → Bool → List Object → Plan Found
  others_of = others limits packages current functions

  pub list_opened : (d at : ℕ) (text : List ℕ) (mark : Bool) (a : Object) (next : ℕ) (rest : List ℕ) → at < limits.text → is_open text ≡ true
      → attempted d (at + 1) text ≡ Ok (one mark a, next, rest) → attempted (suc d) at (40 ∷ text) ≡ run standard limits (tail_of d mark (a ∷ [])) next rest
  unfolding inner
  list_opened d at text mark a next rest fits opens e =
      list_begun limits packages current functions (suc d) at text fits
      ∙ then_moves standard limits (items_after s 41 (attempt s d) []) (without_space standard mark (items_after s 41 (attempt s d) (a ∷ []))) (list_end s (attempt s d) (list_done limits packages current functions)) (at + 1) next text rest
      (item_added limits packages current functions d [] (at + 1) text mark a next rest (omega arith) opens e)

  empty_vector : (d at : ℕ) (rest : List ℕ) → at + 2 < limits.text → attempted (suc d) at (35 ∷ 40 ∷ 41 ∷ rest) ≡ Ok (one false (o.vector nil), at + 1 + 1 + 1, rest)
  unfolding inner run
  empty_vector d at rest fits =
      let done = undotted_plan (vector_done limits packages current functions) in
      vector_begun limits packages current functions (suc d) at (41 ∷ rest) (omega arith)
      ∙ run_then standard limits (items_after s 41 (attempt s d) []) done (at + 1 + 1) (41 ∷ rest)
      ∙ ap (and_then standard limits done) (items_closed limits packages current functions d [] (at + 1 + 1) rest (omega arith))

  vector_opened : (d at : ℕ) (text : List ℕ) (mark : Bool) (a : Object) (next : ℕ) (rest : List ℕ) → at + 1 < limits.text → is_open text ≡ true
      → attempted d (at + 1 + 1) text ≡ Ok (one mark a, next, rest) → attempted (suc d) at (35 ∷ 40 ∷ text) ≡ run standard limits (others_of d mark (a ∷ [])) next rest
  unfolding inner
  vector_opened d at text mark a next rest fits opens e =
      vector_begun limits packages current functions (suc d) at text fits
      ∙ then_moves standard limits (items_after s 41 (attempt s d) []) (without_space standard mark (items_after s 41 (attempt s d) (a ∷ []))) (undotted_plan (vector_done limits packages current functions)) (at + 1 + 1) next text rest
      (item_added limits packages current functions d [] (at + 1 + 1) text mark a next rest (omega arith) opens e)

  abbrev Tailed : Object → Type 0
  Tailed b = (d : ℕ) (token : Bool) (y : Object) (ys : List Object) (at : ℕ) (rest : List ℕ) → depth_along b ≤ d → at + length (written_rest prefix b) ≤ limits.text
      → run standard limits (tail_of d token (y ∷ ys)) at (written_rest prefix b ++ rest) ≡ Ok (one false (pairs (y ∷ ys) b), at + length (written_rest prefix b), rest)

  abbrev Followed : Object → Type 0
  Followed b = (d : ℕ) (token : Bool) (xs : List Object) (at : ℕ) (rest : List ℕ) → depth_along b ≤ d → at + length (written_rest prefix b) ≤ limits.text
      → run standard limits (others_of d token xs) at (written_rest prefix b ++ rest) ≡ Ok (one false (o.vector (pairs xs b)), at + length (written_rest prefix b), rest)

  -- an object that is the end of a list
  dotted_end : (x : Object) → Good x → Attempted x (written prefix x) → (d : ℕ) (token : Bool) (y : Object) (ys : List Object) (at : ℕ) (rest : List ℕ) → object_depth x ≤ d → at + length (codes " . " ++ written prefix x ++ codes ")") ≤ limits.text
      → run standard limits (tail_of d token (y ∷ ys)) at ((codes " . " ++ written prefix x ++ codes ")") ++ rest) ≡ Ok (one false (pairs (y ∷ ys) x), at + length (codes " . " ++ written prefix x ++ codes ")"), rest)
  dotted_end x good read d token y ys at rest deep fits =
      let text = written prefix x in
      let size : length (codes " . " ++ text ++ codes ")") ≡ 4 + length text = omega (arith, length-append (codes " . " ++ text) (codes ")"), length-append (codes " . ") text) in
      let same : (codes " . " ++ text ++ codes ")") ++ rest ≡ 32 ∷ 46 ∷ 32 ∷ (text ++ 41 ∷ rest) = append_assoc (codes " . " ++ text) (codes ")") rest in
      let next : ℕ = at + 1 + 1 + 1 + length text in
      ap (run standard limits (tail_of d token (y ∷ ys)) at) same
      ∙ placed false (pairs (y ∷ ys) x) (next + 1) _ rest _
      (tail_dotted limits packages current functions d token y ys at (text ++ 41 ∷ rest) (ends_with_token x) x next rest (omega arith) (omega arith) (object_open x good (41 ∷ rest))
      (point_begun limits packages current functions d (at + 1) (text ++ 41 ∷ rest) (omega arith) room)
      (read d (at + 1 + 1 + 1) (41 ∷ rest) deep (omega arith) (ends_close rest)))
      (omega arith)

  -- one more object in front of the rest
  joined : (xs : List Object) (a b : Object) → pairs (xs ++ a ∷ []) b ≡ pairs xs (o.pair a b)
  joined xs a b = pairs-append xs (a ∷ []) b

  mutual
    pub object_read : (x : Object) → Good x → Attempted x (written prefix x)
    object_read (o.pair a b) good zero at rest deep fits ends = absurd (omega arith)
    object_read (o.pair a b) good (suc d) at rest deep fits ends =
        let wa = written prefix a in
        let wr = written_rest prefix b in
        let ga : Good a = (good.0.0, good.1.0, good.2.0) in
        let gb : Good b = (good.0.1, good.1.1, good.2.1) in
        let size : length (codes "(" ++ wa ++ wr) ≡ 1 + length wa + length wr = omega (arith, length-append (codes "(" ++ wa) wr, length-append (codes "(") wa) in
        let first : attempted d (at + 1) (wa ++ (wr ++ rest)) ≡ Ok (one (ends_with_token a) a, at + 1 + length wa, wr ++ rest) = object_read a ga d (at + 1) (wr ++ rest) (omega arith) (omega arith) (rest_ends b rest) in
        ap (attempted (suc d) at) (append_assoc (codes "(" ++ wa) wr rest)
        ∙ placed false (o.pair a b) _ _ rest _
        (list_opened d at (wa ++ (wr ++ rest)) (ends_with_token a) a (at + 1 + length wa) (wr ++ rest) (omega arith) (object_open a ga (wr ++ rest)) first
        ∙ rest_read b gb d (ends_with_token a) a [] (at + 1 + length wa) rest (omega arith) (omega arith))
        (omega arith)
    object_read (o.vector xs) good d at rest deep fits ends = vector_read xs (good.0.0, good.1, good.2) good.0.1 d at rest deep fits ends
    object_read (o.text bytes) good d at rest deep fits ends = text_good bytes good.0 d at rest deep fits ends
    object_read (o.integer n) good d at rest deep fits ends = atom_read (o.integer n) good refl d at rest deep fits ends
    object_read (o.rational n k) good d at rest deep fits ends = atom_read (o.rational n k) good refl d at rest deep fits ends
    object_read (o.character c) good d at rest deep fits ends = atom_read (o.character c) good refl d at rest deep fits ends
    object_read (o.symbol home own) good d at rest deep fits ends = atom_read (o.symbol home own) good refl d at rest deep fits ends
    object_read (o.uninterned own) good d at rest deep fits ends = atom_read (o.uninterned own) good refl d at rest deep fits ends

    vector_read : (xs : Object) → Good xs → is_proper_list xs ≡ true → Attempted (o.vector xs) (codes "#(" ++ written_elements prefix xs)
    vector_read (o.pair a b) good list zero at rest deep fits ends = absurd (omega arith)
    vector_read (o.pair a b) good list (suc d) at rest deep fits ends =
        let wa = written prefix a in
        let wr = written_rest prefix b in
        let ga : Good a = (good.0.0, good.1.0, good.2.0) in
        let gb : Good b = (good.0.1, good.1.1, good.2.1) in
        let size : length (codes "#(" ++ (wa ++ wr)) ≡ 2 + length wa + length wr = omega (arith, length-append (codes "#(") (wa ++ wr), length-append wa wr) in
        let first : attempted d (at + 1 + 1) (wa ++ (wr ++ rest)) ≡ Ok (one (ends_with_token a) a, at + 1 + 1 + length wa, wr ++ rest) = object_read a ga d (at + 1 + 1) (wr ++ rest) (omega arith) (omega arith) (rest_ends b rest) in
        ap (λ (text : List ℕ). attempted (suc d) at (35 ∷ 40 ∷ text)) (append_assoc wa wr rest)
        ∙ placed false (o.vector (o.pair a b)) _ _ rest _
        (vector_opened d at (wa ++ (wr ++ rest)) (ends_with_token a) a (at + 1 + 1 + length wa) (wr ++ rest) (omega arith) (object_open a ga (wr ++ rest)) first
        ∙ others_read b gb list d (ends_with_token a) (a ∷ []) (at + 1 + 1 + length wa) rest (omega arith) (omega arith))
        (omega arith)
    vector_read (o.symbol home own) good list zero at rest deep fits ends = absurd (omega arith)
    vector_read (o.symbol home own) good list (suc d) at rest deep fits ends =
        empty_vector d at rest (omega arith) ∙ (λ i. Ok (one false (o.vector (sym (nil_symbol home own list) i)), (let h : at + 1 + 1 + 1 ≡ at + 3 = omega arith in h) i, rest))
    vector_read (o.integer n) good list d at rest deep fits ends = absurd cc
    vector_read (o.rational n k) good list d at rest deep fits ends = absurd cc
    vector_read (o.character c) good list d at rest deep fits ends = absurd cc
    vector_read (o.text bytes) good list d at rest deep fits ends = absurd cc
    vector_read (o.uninterned own) good list d at rest deep fits ends = absurd cc
    vector_read (o.vector xs) good list d at rest deep fits ends = absurd cc

    others_read : (b : Object) → Good b → is_proper_list b ≡ true → Followed b
    others_read (o.pair a b) good list d token xs at rest deep fits =
        let wa = written prefix a in
        let wr = written_rest prefix b in
        let ga : Good a = (good.0.0, good.1.0, good.2.0) in
        let gb : Good b = (good.0.1, good.1.1, good.2.1) in
        let size : length (codes " " ++ wa ++ wr) ≡ 1 + length wa + length wr = omega (arith, length-append (codes " " ++ wa) wr, length-append (codes " ") wa) in
        let first : attempted d (at + 1) (wa ++ (wr ++ rest)) ≡ Ok (one (ends_with_token a) a, at + 1 + length wa, wr ++ rest) = object_read a ga d (at + 1) (wr ++ rest) (omega arith) (omega arith) (rest_ends b rest) in
        ap (run standard limits (others_of d token xs) at) (append_assoc (codes " " ++ wa) wr rest)
        ∙ others_next limits packages current functions d token xs at (wa ++ (wr ++ rest)) (ends_with_token a) a (at + 1 + length wa) (wr ++ rest) (omega arith) (object_open a ga (wr ++ rest)) first
        ∙ others_read b gb list d (ends_with_token a) (xs ++ a ∷ []) (at + 1 + length wa) rest (omega arith) (omega arith)
        ∙ (λ i. Ok (one false (o.vector (joined xs a b i)), (let h : at + 1 + length wa + length wr ≡ at + length (codes " " ++ wa ++ wr) = omega arith in h) i, rest))
    others_read (o.symbol home own) good list d token xs at rest deep fits =
        subst (λ (b : Object). at + length (written_rest prefix b) ≤ limits.text → run standard limits (others_of d token xs) at (written_rest prefix b ++ rest) ≡ Ok (one false (o.vector (pairs xs b)), at + length (written_rest prefix b), rest)) (sym (nil_symbol home own list))
        (λ (few : at + 1 ≤ limits.text). others_closed limits packages current functions d token xs at rest (omega arith)) fits
    others_read (o.integer n) good list d token xs at rest deep fits = absurd cc
    others_read (o.rational n k) good list d token xs at rest deep fits = absurd cc
    others_read (o.character c) good list d token xs at rest deep fits = absurd cc
    others_read (o.text bytes) good list d token xs at rest deep fits = absurd cc
    others_read (o.uninterned own) good list d token xs at rest deep fits = absurd cc
    others_read (o.vector ys) good list d token xs at rest deep fits = absurd cc

    rest_read : (b : Object) → Good b → Tailed b
    rest_read (o.pair a b) good d token y ys at rest deep fits =
        let wa = written prefix a in
        let wr = written_rest prefix b in
        let ga : Good a = (good.0.0, good.1.0, good.2.0) in
        let gb : Good b = (good.0.1, good.1.1, good.2.1) in
        let size : length (codes " " ++ wa ++ wr) ≡ 1 + length wa + length wr = omega (arith, length-append (codes " " ++ wa) wr, length-append (codes " ") wa) in
        let first : attempted d (at + 1) (wa ++ (wr ++ rest)) ≡ Ok (one (ends_with_token a) a, at + 1 + length wa, wr ++ rest) = object_read a ga d (at + 1) (wr ++ rest) (omega arith) (omega arith) (rest_ends b rest) in
        ap (run standard limits (tail_of d token (y ∷ ys)) at) (append_assoc (codes " " ++ wa) wr rest)
        ∙ tail_next limits packages current functions d token (y ∷ ys) at (wa ++ (wr ++ rest)) (ends_with_token a) a (at + 1 + length wa) (wr ++ rest) (omega arith) (object_open a ga (wr ++ rest)) first
        ∙ rest_read b gb d (ends_with_token a) y (ys ++ a ∷ []) (at + 1 + length wa) rest (omega arith) (omega arith)
        ∙ (λ i. Ok (one false (joined (y ∷ ys) a b i), (let h : at + 1 + length wa + length wr ≡ at + length (codes " " ++ wa ++ wr) = omega arith in h) i, rest))
    rest_read (o.vector xs) good d token y ys at rest deep fits = dotted_end (o.vector xs) good (vector_read xs (good.0.0, good.1, good.2) good.0.1) d token y ys at rest (omega arith) fits
    rest_read (o.symbol home own) good d token y ys at rest deep fits =
        elim (is_nil home own)
        as (λ e. is_nil home own ≡ e → at + length (if e then codes ")" else codes " . " ++ written_atom prefix (o.symbol home own) ++ codes ")") ≤ limits.text
        → run standard limits (tail_of d token (y ∷ ys)) at ((if e then codes ")" else codes " . " ++ written_atom prefix (o.symbol home own) ++ codes ")") ++ rest)
        ≡ Ok (one false (pairs (y ∷ ys) (o.symbol home own)), at + length (if e then codes ")" else codes " . " ++ written_atom prefix (o.symbol home own) ++ codes ")"), rest)) [
          | true ↦ λ e (few : at + 1 ≤ limits.text).
              tail_closed limits packages current functions d token (y ∷ ys) at rest (omega arith) ∙ (λ i. Ok (one false (pairs (y ∷ ys) (sym (nil_symbol home own e) i)), at + 1, rest))
          | false ↦ λ e few. dotted_end (o.symbol home own) good (atom_read (o.symbol home own) good refl) d token y ys at rest (omega arith) few
        ] refl fits
    rest_read (o.text bytes) good d token y ys at rest deep fits = dotted_end (o.text bytes) good (text_good bytes good.0) d token y ys at rest (omega arith) fits
    rest_read (o.integer n) good d token y ys at rest deep fits = dotted_end (o.integer n) good (atom_read (o.integer n) good refl) d token y ys at rest (omega arith) fits
    rest_read (o.rational n k) good d token y ys at rest deep fits = dotted_end (o.rational n k) good (atom_read (o.rational n k) good refl) d token y ys at rest (omega arith) fits
    rest_read (o.character c) good d token y ys at rest deep fits = dotted_end (o.character c) good (atom_read (o.character c) good refl) d token y ys at rest (omega arith) fits
    rest_read (o.uninterned own) good d token y ys at rest deep fits = dotted_end (o.uninterned own) good (atom_read (o.uninterned own) good refl) d token y ys at rest (omega arith) fits

  -- ---- the outermost object

  pub object_read_back : (x : Object) → Good x → object_depth x ≤ limits.nesting → length (printed packages current x) ≤ limits.text → (rest : List ℕ) → may_end (met_text rest) ≡ true
      → reads s (printed packages current x ++ rest)
      ≡ form x 0 (length (printed packages current x)) (length (printed packages current x) + space_at standard (ends_with_token x) rest)
  unfolding reads
  object_read_back x good deep fits rest ends =
      let text = printed packages current x in
      reads_is s 0 (text ++ rest)
      ∙ ap (outcome standard 0 (λ next cs. reads_at s next cs))
      (placed (ends_with_token x) x (0 + length text) (length text) rest (attempted limits.nesting 0 (text ++ rest)) (object_read x good limits.nesting 0 rest deep (omega arith) ends) (omega arith))
      ∙ (λ i. form x 0 ((let h : 0 + length text ≡ length text = omega arith in h) i) ((let h : 0 + length text + space_at standard (ends_with_token x) rest ≡ length text + space_at standard (ends_with_token x) rest = omega arith in h) i))
