-- What is read of the parts of a form, under the standard readtable in COMMON-LISP-USER.
--     object_is_read      the printed text of an object
--     token_is_read      a token
--     quoted_is_read      an object after a quote
--     listed_is_read, list_read      a list of these
use Rattle.std.proofs.Common.{◌≡◌, ℕ, zero, suc, ◌+◌, ◌-◌, ◌<◌, ◌≤◌, Bool, true, false, List, [], ◌∷◌, ◌++◌, length, append_assoc, append-nil, codes, None, Ok, refl, sym, ap, ◌∙◌, arith}
use Rattle.std.proofs.lemmas.List.{length-append}
use Rattle.lisp_object.specs.Object as o
use Rattle.lisp_object.specs.Object.{Object, list_of, object_depth}
use Rattle.readtable_core.specs.Tables.{standard}
use Rattle.token_scan.specs.declared.mark.Mark.{Mark}
use Rattle.token_scan.specs.Marks.{character_count}
use Rattle.token_scan.specs.Spelling.{may_end}
use Rattle.package_table.specs.Table.{Table as Packages, AreSoundPackages, common_lisp_user}
use Rattle.std_macros.specs.declared.kind.Standard.TheVariants.{Quote}
use Rattle.std_macros.specs.Values.{one as one_object}
use Rattle.user_macros.specs.Functions.{Functions}
use Rattle.canon_printer.specs.Printed.{printed}
use Rattle.canon_printer.specs.Symbols.{HasAllSymbols}
use Rattle.lisp_reading.specs.declared.limits.Limits.{Limits}
use Rattle.lisp_reading.specs.declared.attempt.Found.{Found}
use Rattle.lisp_reading.specs.declared.attempt.Found.TheVariants.{One as one}
use Rattle.lisp_reading.specs.Plans.{Plan, Read, run}
use Rattle.lisp_reading.specs.Setting.{Setting}
use Rattle.lisp_reading.specs.Reading.{Piece, item, piece_of, next_item_turn, next_item, one_piece, completed_call, inner, attempt}
use Rattle.lisp_reading.proofs.Steps.{and_then, run_then}
use Rattle.lisp_reading.proofs.Turns.{attempt_ends, loop_is, next_item_guarded}
use Rattle.world_text.specs.PrintedTokens.{AreTokensWithin, ends_with_token}
use Rattle.world_text.proofs.Atoms.{ReadsAs}
use Rattle.world_text.proofs.Begun.{under, begun, plain_call, quote_begun}
use Rattle.world_text.proofs.Lists.{is_open, tail, tail_closed, tail_next}
use Rattle.world_text.proofs.Spelling.{met_text}
use Rattle.world_text.proofs.Whole.{ends_close, ends_space, list_opened, object_open, object_read, token_open, token_read}
use Rattle.text_laws.specs.Objects.{call}

module _ (limits : Limits) (packages : Packages) (functions : Functions) (sound : AreSoundPackages packages) (room : 0 < limits.token) where
  abbrev s : Setting
  s = under limits packages common_lisp_user functions

  abbrev attempted : ℕ → ℕ → List ℕ → Read Found
  attempted = begun limits packages common_lisp_user functions

  -- The text is read as the object wherever so many calls may be open, before what may follow a token. The object may end with a token.
  pub record IsRead (depth : ℕ) (text : List ℕ) (x : Object) : Type 0 where
    pub token : Bool
    pub opens : (rest : List ℕ) → is_open (text ++ rest) ≡ true
    pub read : (d at : ℕ) (rest : List ℕ) → depth ≤ d → at + length text ≤ limits.text → may_end (met_text rest) ≡ true
        → attempted d at (text ++ rest) ≡ Ok (one token x, at + length text, rest)

  pub deeper : (depth more : ℕ) (text : List ℕ) (x : Object) → IsRead depth text x → depth ≤ more → IsRead more text x
  deeper depth more text x h le = record { token = h.token; opens = h.opens; read = λ d at rest deep fits ends. h.read d at rest (omega (arith, le, deep)) fits ends }

  -- the offset may be written in another way
  placed : (token : Bool) (x : Object) (there offset : ℕ) (rest : List ℕ) (r : Read Found) → r ≡ Ok (one token x, there, rest) → there ≡ offset → r ≡ Ok (one token x, offset, rest)
  placed token x there offset rest r e p = e ∙ (λ i. Ok (one token x, p i, rest))

  -- ---- one object

  pub object_is_read : (x : Object) → o.IsSound x → HasAllSymbols packages x → AreTokensWithin packages common_lisp_user limits.token x
      → IsRead (object_depth x) (printed packages common_lisp_user x) x
  object_is_read x sound_x there few = record {
    token = ends_with_token x;
    opens = λ rest. object_open limits packages common_lisp_user functions sound room x (sound_x, there, few) rest;
    read = λ d at rest deep fits ends. object_read limits packages common_lisp_user functions sound room x (sound_x, there, few) d at rest deep fits ends;
  }

  pub token_is_read : (text : List ℕ) (marks : List Mark) (x : Object) → ReadsAs packages common_lisp_user text marks x → character_count marks ≤ limits.token → IsRead 0 text x
  token_is_read text marks x h few = record {
    token = true;
    opens = λ rest. token_open text rest h.starts;
    read = λ d at rest deep fits ends. token_read limits packages common_lisp_user functions sound room text marks x h few d at rest fits ends;
  }

  -- ---- after a quote

  next_read : (depth : ℕ) (text : List ℕ) (x : Object) (h : IsRead depth text x) (d at : ℕ) (rest : List ℕ) → depth ≤ d → at + length text ≤ limits.text → may_end (met_text rest) ≡ true
      → run standard limits (next_item s None (attempt s d)) at (text ++ rest) ≡ Ok (item h.token x, at + length text, rest)
  unfolding run
  next_read depth text x h d at rest deep fits ends =
      let on : Found → Plan Piece = λ found. piece_of standard (next_item s None (attempt s d)) found in
      loop_is standard limits (next_item_turn standard None (attempt s d)) (next_item_guarded standard limits None (attempt s d) (attempt_ends s _ _)) tt at (text ++ rest) (omega arith)
      ∙ run_then standard limits (attempt s d) on at (text ++ rest)
      ∙ ap (and_then standard limits on) (h.read d at rest deep fits ends)

  quote_read : (depth : ℕ) (text : List ℕ) (x : Object) (h : IsRead depth text x) (d at : ℕ) (rest : List ℕ) → suc depth ≤ d → at + length (39 ∷ text) ≤ limits.text
      → may_end (met_text rest) ≡ true → attempted d at (39 ∷ text ++ rest) ≡ Ok (one h.token (call (codes "QUOTE") (x ∷ [])), at + length (39 ∷ text), rest)
  unfolding inner run
  quote_read depth text x h zero at rest deep fits ends = absurd (omega arith)
  quote_read depth text x h (suc d) at rest deep fits ends =
      let on : Piece → Plan Found = one_piece (λ token x. completed_call s (limits.nesting - suc d) (plain_call limits packages common_lisp_user functions 39 Quote) token token (one_object x)) in
      placed h.token (call (codes "QUOTE") (x ∷ [])) (at + 1 + length text) (at + length (39 ∷ text)) rest (attempted (suc d) at (39 ∷ text ++ rest))
      (quote_begun limits packages common_lisp_user functions (suc d) at (text ++ rest) (omega arith)
      ∙ run_then standard limits (next_item s None (attempt s d)) on (at + 1) (text ++ rest)
      ∙ ap (and_then standard limits on) (next_read depth text x h d (at + 1) rest (omega arith) (omega arith) ends))
      (omega arith)

  pub quoted_is_read : (depth : ℕ) (text : List ℕ) (x : Object) → IsRead depth text x → IsRead (suc depth) (39 ∷ text) (call (codes "QUOTE") (x ∷ []))
  quoted_is_read depth text x h = record { token = h.token; opens = λ rest. refl; read = quote_read depth text x h }

  -- ---- lists

  -- the rest of a list: objects, a space before each, and the closing parenthesis
  pub data AreRead (depth : ℕ) : List ℕ → List Object → Type 0 where
    no_more : AreRead depth (codes ")") []
    one_more : (text : List ℕ) (x : Object) (more : List ℕ) (xs : List Object) → IsRead depth text x → AreRead depth more xs
        → AreRead depth (32 ∷ text ++ more) (x ∷ xs)

  ends_before : (depth : ℕ) (more : List ℕ) (xs : List Object) → AreRead depth more xs → (rest : List ℕ) → may_end (met_text (more ++ rest)) ≡ true
  ends_before depth _ _ no_more rest = ends_close rest
  ends_before depth _ _ (one_more text x more xs h later) rest = ends_space ((text ++ more) ++ rest)

  tail_read : (depth : ℕ) (more : List ℕ) (xs : List Object) → AreRead depth more xs → (d : ℕ) (token : Bool) (y : Object) (ys : List Object) (at : ℕ) (rest : List ℕ)
      → depth ≤ d → at + length more ≤ limits.text
      → run standard limits (tail limits packages common_lisp_user functions d token (y ∷ ys)) at (more ++ rest) ≡ Ok (one false (list_of (y ∷ ys ++ xs)), at + length more, rest)
  tail_read depth _ _ no_more d token y ys at rest deep fits =
      tail_closed limits packages common_lisp_user functions d token (y ∷ ys) at rest (omega arith)
      ∙ (λ i. Ok (one false (list_of (y ∷ sym (append-nil ys) i)), at + 1, rest))
  tail_read depth _ _ (one_more text x more xs h later) d token y ys at rest deep fits =
      let size : length (32 ∷ text ++ more) ≡ 1 + length text + length more = omega (arith, length-append text more) in
      ap (run standard limits (tail limits packages common_lisp_user functions d token (y ∷ ys)) at) (append_assoc (32 ∷ text) more rest)
      ∙ tail_next limits packages common_lisp_user functions d token (y ∷ ys) at (text ++ (more ++ rest)) h.token x (at + 1 + length text) (more ++ rest) (omega arith) (h.opens (more ++ rest))
      (h.read d (at + 1) (more ++ rest) deep (omega arith) (ends_before depth more xs later rest))
      ∙ tail_read depth more xs later d h.token y (ys ++ x ∷ []) (at + 1 + length text) rest deep (omega arith)
      ∙ (λ i. Ok (one false (list_of (y ∷ append_assoc ys (x ∷ []) xs i)), (let h : at + 1 + length text + length more ≡ at + length (32 ∷ text ++ more) = omega arith in h) i, rest))

  pub list_read : (depth : ℕ) (text : List ℕ) (x : Object) (more : List ℕ) (xs : List Object) → IsRead depth text x → AreRead depth more xs
      → (d at : ℕ) (rest : List ℕ) → suc depth ≤ d → at + length (40 ∷ text ++ more) ≤ limits.text
      → attempted d at ((40 ∷ text ++ more) ++ rest) ≡ Ok (one false (list_of (x ∷ xs)), at + length (40 ∷ text ++ more), rest)
  list_read depth text x more xs h later zero at rest deep fits = absurd (omega arith)
  list_read depth text x more xs h later (suc d) at rest deep fits =
      let size : length (40 ∷ text ++ more) ≡ 1 + length text + length more = omega (arith, length-append text more) in
      ap (attempted (suc d) at) (append_assoc (40 ∷ text) more rest)
      ∙ placed false (list_of (x ∷ xs)) (at + 1 + length text + length more) (at + length (40 ∷ text ++ more)) rest (attempted (suc d) at (40 ∷ text ++ (more ++ rest)))
      (list_opened limits packages common_lisp_user functions sound room d at (text ++ (more ++ rest)) h.token x (at + 1 + length text) (more ++ rest) (omega arith) (h.opens (more ++ rest))
      (h.read d (at + 1) (more ++ rest) (omega arith) (omega arith) (ends_before depth more xs later rest))
      ∙ tail_read depth more xs later d h.token x [] (at + 1 + length text) rest (omega arith) (omega arith))
      (omega arith)

  pub listed_is_read : (depth : ℕ) (text : List ℕ) (x : Object) (more : List ℕ) (xs : List Object) → IsRead depth text x → AreRead depth more xs
      → IsRead (suc depth) (40 ∷ text ++ more) (list_of (x ∷ xs))
  listed_is_read depth text x more xs h later =
      record { token = false; opens = λ rest. refl; read = λ d at rest deep fits ends. list_read depth text x more xs h later d at rest deep fits }
