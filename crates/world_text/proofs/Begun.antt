-- What is found at each character with which printed text begins, under the standard readtable.
use Rattle.std.proofs.Common.{◌≡◌, ℕ, ◌+◌, ◌-◌, ◌<◌, ◌≤◌, Bool, true, false, List, [], ◌∷◌, Some, None, Ok, Err, refl, ap, ◌∙◌, arith}
use Rattle.std.specs.Prelude.{codes}
use Rattle.std.proofs.lemmas.List.Elements.{All-nil, All-cons}
use Rattle.token_scan.specs.declared.mark.Mark.TheVariants.{Plain}
use Rattle.token_scan.specs.Marks.{character_count}
use Rattle.token_scan.proofs.Spelled.{plain_counts}
use Rattle.std.proofs.lemmas.Bool.{le-leb}
use Rattle.lisp_object.specs.Object.{Object}
use Rattle.readtable_core.specs.declared.characters.Syntax.{Syntax}
use Rattle.readtable_core.specs.declared.characters.Syntax.TheVariants.{Constituent, SingleEscape, MultipleEscape}
use Rattle.readtable_core.specs.Characters.{standard_syntax, is_digit}
use Rattle.readtable_core.specs.Tables.{Table, standard, entry_at, dispatch_at}
use Rattle.readtable_core.proofs.Standard.{standard_syntax_at}
use Rattle.token_scan.specs.declared.mark.Mark.{Mark}
use Rattle.token_scan.specs.Tokens.{ScannedBytes}
use Rattle.token_meaning.specs.Numerals.{is_empty}
use Rattle.package_table.specs.Table.{Name, Table as Packages}
use Rattle.std_macros.specs.declared.kind.Standard.{Standard}
use Rattle.std_macros.specs.declared.kind.Standard.TheVariants.{List as AList, String, Char, Vector, Uninterned, Quote}
use Rattle.lisp_reading.specs.declared.limits.Limits.{Limits}
use Rattle.lisp_reading.specs.declared.attempt.Found.{Found}
use Rattle.lisp_reading.specs.declared.attempt.Found.TheVariants.{Nothing as nothing, One as one, LoneDot as lone_dot}
use Rattle.lisp_reading.specs.declared.token_resolution.ResolvedToken.TheVariants.{Object as told_object}
use Rattle.lisp_reading.specs.declared.way.Function.TheVariants.{Standard as AStandard}
use Rattle.lisp_reading.specs.Plans.{Plan, scans, Read, limited_token, token_at_front, run}
use Rattle.lisp_reading.specs.InvokedCalls.{InvokedCall}
use Rattle.lisp_reading.specs.Naming.{token_meant}
use Rattle.lisp_reading.specs.Setting.{Setting, setting_of}
use Rattle.lisp_reading.specs.Reading.{stands_alone, alone, call_plan, inner, attempt, token_found, sub_there, sub_called, number_after}
use Rattle.form_reader.proofs.Objects.{takes_is, passes_is}
use Rattle.lisp_reading.proofs.Fed.{byte_taken, number_ends}
use Rattle.lisp_reading.proofs.Steps.{and_then, run_then}
use Rattle.world_text.proofs.Spelling.{starts_token, Spelled, bare_spelled, token_of}
use Rattle.user_macros.specs.Functions.{Functions}

-- a token that was scanned within the limit of the text
pub scan_is : {A : Type 0} (table : Table) (limits : Limits) (escaped : Bool) (limit : ℕ) (on : List Mark → Plan A) (at : ℕ) (cs : List ℕ) (marks : List Mark) (next : ℕ) (rest : List ℕ)
    → token_at_front escaped table limit at cs ≡ Ok (marks, next, rest) → next ≤ limits.text
    → run table limits (scans escaped limit on) at cs ≡ run table limits (on marks) next rest
unfolding run
scan_is {A = A} table limits escaped limit on at cs marks next rest e fits =
    let step : Read (List Mark) → Read A = λ r. elim r [ Ok p ↦ run table limits (on p.0) p.1 p.2 | Err e ↦ Err e ] in
    let cut : Bool → Read (List Mark) = λ b. elim b [ true ↦ Ok (marks, next, rest) | false ↦ limited_token limits.text (Ok (marks, limits.text + 1, rest)) (λ p. p.1) ] in
    ap (λ (r : ScannedBytes). step (limited_token limits.text r (λ p. p.1))) e
    ∙ (rw (le-leb next limits.text fits) refl)

no_alone : (s : Syntax) → starts_token s ≡ true → stands_alone s ≡ false
no_alone Constituent e = refl
no_alone SingleEscape e = refl
no_alone MultipleEscape e = refl
no_alone _ e = absurd cc

module _ (limits : Limits) (packages : Packages) (current : Name) (functions : Functions) where
  -- reading under the standard readtable
  abbrev pub under : Setting
  under = setting_of limits standard 10 packages current functions

  abbrev pub begun : ℕ → ℕ → List ℕ → Read Found
  begun d at cs = run standard limits (attempt under d) at cs

  -- any character that is not read alone begins a token
  token_scanned : (d at c : ℕ) (cs : List ℕ) → stands_alone (entry_at standard c).syntax ≡ false
      → begun d at (c ∷ cs) ≡ run standard limits (scans false limits.token (token_found under)) at (c ∷ cs)
  token_scanned d at c cs e =
      passes_is standard limits (scans false limits.token (token_found under)) (λ c. stands_alone (entry_at standard c).syntax)
      (λ c. alone under (limits.nesting - d) (inner under d) c (entry_at standard c).syntax) at c cs e

  -- a token that means an object
  pub token_begun : (d at c : ℕ) (cs : List ℕ) (marks : List Mark) (next : ℕ) (rest : List ℕ) (x : Object) → starts_token (standard_syntax c) ≡ true
      → token_at_front false standard limits.token at (c ∷ cs) ≡ Ok (marks, next, rest) → next ≤ limits.text → is_empty marks ≡ false → token_meant under marks ≡ Ok (told_object x)
      → begun d at (c ∷ cs) ≡ Ok (one true x, next, rest)
  unfolding run
  token_begun d at c cs marks next rest x starts e fits some is =
      token_scanned d at c cs (ap stands_alone (standard_syntax_at c) ∙ no_alone (standard_syntax c) starts)
      ∙ scan_is standard limits false limits.token (token_found under) at (c ∷ cs) marks next rest e fits
      ∙ by_marks marks some is
    where
      by_marks : (marks : List Mark) → is_empty marks ≡ false → token_meant under marks ≡ Ok (told_object x) → run standard limits (token_found under marks) next rest ≡ Ok (one true x, next, rest)
      by_marks [] some is = absurd cc
      by_marks (m ∷ ms) some is = rw is refl

  -- a character that is read alone is taken
  alone_begun : (d at c : ℕ) (cs : List ℕ) → at < limits.text → stands_alone (entry_at standard c).syntax ≡ true
      → begun d at (c ∷ cs) ≡ run standard limits (alone under (limits.nesting - d) (inner under d) c (entry_at standard c).syntax) (at + 1) cs
  alone_begun d at c cs fits e =
      takes_is standard limits (scans false limits.token (token_found under)) (λ c. stands_alone (entry_at standard c).syntax)
      (λ c. alone under (limits.nesting - d) (inner under d) c (entry_at standard c).syntax) at c cs fits e

  pub space_begun : (d at : ℕ) (cs : List ℕ) → at < limits.text → begun d at (32 ∷ cs) ≡ Ok (nothing false, at + 1, cs)
  unfolding run standard
  space_begun d at cs fits = alone_begun d at 32 cs fits refl

  pub newline_begun : (d at : ℕ) (cs : List ℕ) → at < limits.text → begun d at (10 ∷ cs) ≡ Ok (nothing false, at + 1, cs)
  unfolding run standard
  newline_begun d at cs fits = alone_begun d at 10 cs fits refl

  -- the call of a standard function, and of one after `#`
  abbrev pub plain_call : ℕ → Standard → InvokedCall
  plain_call c kind = record { function = AStandard kind; character = c; sub = None; number = None }

  abbrev pub sub_call : ℕ → Standard → InvokedCall
  sub_call c kind = record { function = AStandard kind; character = 35; sub = Some c; number = None }

  pub list_begun : (d at : ℕ) (cs : List ℕ) → at < limits.text
      → begun d at (40 ∷ cs) ≡ run standard limits (call_plan under (limits.nesting - d) (inner under d) (plain_call 40 AList)) (at + 1) cs
  unfolding standard
  list_begun d at cs fits = alone_begun d at 40 cs fits refl

  pub quote_begun : (d at : ℕ) (cs : List ℕ) → at < limits.text
      → begun d at (39 ∷ cs) ≡ run standard limits (call_plan under (limits.nesting - d) (inner under d) (plain_call 39 Quote)) (at + 1) cs
  unfolding standard
  quote_begun d at cs fits = alone_begun d at 39 cs fits refl

  pub text_begun : (d at : ℕ) (cs : List ℕ) → at < limits.text
      → begun d at (34 ∷ cs) ≡ run standard limits (call_plan under (limits.nesting - d) (inner under d) (plain_call 34 String)) (at + 1) cs
  unfolding standard
  text_begun d at cs fits = alone_begun d at 34 cs fits refl

  -- `#` and a sub-character that is no digit
  sub_begun : (d at c : ℕ) (cs : List ℕ) → at + 1 < limits.text → c < 128 → is_digit c ≡ false
      → begun d at (35 ∷ c ∷ cs) ≡ run standard limits (sub_called under (limits.nesting - d) (inner under d) 35 c None (dispatch_at standard 35 c)) (at + 1 + 1) cs
  unfolding standard
  sub_begun d at c cs fits below no_digit =
      let round = limits.nesting - d in
      let after = sub_there under round (inner under d) 35 in
      alone_begun d at 35 (c ∷ cs) (omega arith) refl
      ∙ run_then standard limits (number_after under None) after (at + 1) (c ∷ cs)
      ∙ ap (and_then standard limits after) (number_ends standard limits None (at + 1) c cs (omega arith) no_digit)
      ∙ byte_taken standard limits (λ sub. sub_called under round (inner under d) 35 sub None (dispatch_at standard 35 sub)) (at + 1) c cs fits below

  pub vector_begun : (d at : ℕ) (cs : List ℕ) → at + 1 < limits.text
      → begun d at (35 ∷ 40 ∷ cs) ≡ run standard limits (call_plan under (limits.nesting - d) (inner under d) (sub_call 40 Vector)) (at + 1 + 1) cs
  unfolding standard
  vector_begun d at cs fits = sub_begun d at 40 cs fits (omega arith) refl

  pub character_begun : (d at : ℕ) (cs : List ℕ) → at + 1 < limits.text
      → begun d at (35 ∷ 92 ∷ cs) ≡ run standard limits (call_plan under (limits.nesting - d) (inner under d) (sub_call 92 Char)) (at + 1 + 1) cs
  unfolding standard
  character_begun d at cs fits = sub_begun d at 92 cs fits (omega arith) refl

  pub uninterned_begun : (d at : ℕ) (cs : List ℕ) → at + 1 < limits.text
      → begun d at (35 ∷ 58 ∷ cs) ≡ run standard limits (call_plan under (limits.nesting - d) (inner under d) (sub_call 58 Uninterned)) (at + 1 + 1) cs
  unfolding standard
  uninterned_begun d at cs fits = sub_begun d at 58 cs fits (omega arith) refl

  -- the dot of a list
  pub point_begun : (d at : ℕ) (cs : List ℕ) → at < limits.text → 0 < limits.token → begun d at (46 ∷ 32 ∷ cs) ≡ Ok (lone_dot, at + 1, 32 ∷ cs)
  unfolding run standard
  point_begun d at cs fits room =
      let spelled : Spelled (codes ".") (Plain 46 ∷ []) = bare_spelled (codes ".") (All-cons (λ b. b < 128) 46 [] (omega arith) (All-nil (λ b. b < 128))) refl in
      let few : character_count (Plain 46 ∷ []) ≤ limits.token = omega (arith, plain_counts 46 []) in
      token_scanned d at 46 (32 ∷ cs) refl
      ∙ scan_is standard limits false limits.token (token_found under) at (46 ∷ 32 ∷ cs) (Plain 46 ∷ []) (at + 1) (32 ∷ cs)
      (token_of (codes ".") (Plain 46 ∷ []) limits.token at (32 ∷ cs) spelled few refl) (omega arith)
