-- Lists and vectors: what is read in them, under the standard readtable.
use Rattle.std.proofs.Common.{◌≡◌, ℕ, ◌+◌, ◌<◌, ◌≤◌, Bool, true, false, not, List, [], ◌∷◌, ◌++◌, Some, None, Ok, refl, sym, ap, ◌∙◌, arith}
use Rattle.std.specs.Prelude.{◌==◌}
use Rattle.std.proofs.lemmas.Bool.{not-true}
use Rattle.lisp_object.specs.Object as o
use Rattle.lisp_object.specs.Object.{Object, pairs, list_of}
use Rattle.readtable_core.specs.Tables.{standard}
use Rattle.package_table.specs.Table.{Name, Table as Packages}
use Rattle.std_macros.specs.Values.{Material, list_value, vector_value}
use Rattle.lisp_reading.specs.declared.limits.Limits.{Limits}
use Rattle.lisp_reading.specs.declared.attempt.Found.{Found}
use Rattle.lisp_reading.specs.declared.attempt.Found.TheVariants.{Nothing as nothing, One as one, LoneDot as lone_dot}
use Rattle.lisp_reading.specs.Plans.{Plan, gives, then_plan, Read, run}
use Rattle.lisp_reading.specs.Setting.{Setting}
use Rattle.lisp_reading.specs.Reading.{Piece, item, dot, closed, without_space, is_whitespace, piece_of, or_closed, next_item_turn, next_item, Items, items_step, items_turn, items_after, undotted_plan, after_tail, after_dot, list_end, finished_plan, attempt}
use Rattle.form_reader.proofs.Objects.{takes_is, passes_is}
use Rattle.form_reader.proofs.Stacks.{then_moves}
use Rattle.lisp_reading.proofs.Steps.{and_then, run_then}
use Rattle.lisp_reading.proofs.Turns.{attempt_ends, loop_is, next_item_guarded, items_guarded}
use Rattle.world_text.proofs.Begun.{under, begun, space_begun}
use Rattle.user_macros.specs.Functions.{Functions}

-- the text begins with no closing parenthesis
abbrev pub is_open : List ℕ → Bool
is_open [] = false
is_open (c ∷ cs) = not (c == 41)

module _ (limits : Limits) (packages : Packages) (current : Name) (functions : Functions) where
  abbrev s : Setting
  s = under limits packages current functions

  abbrev attempted : ℕ → ℕ → List ℕ → Read Found
  attempted = begun limits packages current functions

  abbrev at_space : (d at : ℕ) (cs : List ℕ) → at < limits.text → attempted d at (32 ∷ cs) ≡ Ok (nothing false, at + 1, cs)
  at_space = space_begun limits packages current functions

  abbrev pub items : ℕ → List Object → Plan Items
  items d xs = items_after s 41 (attempt s d) xs

  abbrev piece : ℕ → Plan Piece
  piece d = next_item s (Some 41) (attempt s d)

  -- ---- one turn

  -- an attempt, where the closing parenthesis was not found
  abbrev attempt_piece : ℕ → Plan Piece
  attempt_piece d = then_plan (attempt s d) (λ found. piece_of standard (piece d) found)

  next_item_is : (d at : ℕ) (cs : List ℕ) → at ≤ limits.text
      → run standard limits (piece d) at cs ≡ run standard limits (or_closed (Some 41) (then_plan (attempt s d) (λ found. piece_of standard (piece d) found))) at cs
  next_item_is d at cs h =
      loop_is standard limits (next_item_turn standard (Some 41) (attempt s d)) (next_item_guarded standard limits (Some 41) (attempt s d) (attempt_ends s _ _)) tt at cs h

  items_is : (d : ℕ) (xs : List Object) (at : ℕ) (cs : List ℕ) → at ≤ limits.text
      → run standard limits (items d xs) at cs ≡ run standard limits (then_plan (piece d) (λ p. items_step standard (items d) xs p)) at cs
  items_is d xs at cs h =
      loop_is standard limits (items_turn s 41 (attempt s d)) (items_guarded s 41 (attempt s d) (attempt_ends s _ _)) xs at cs h

  -- ---- what comes next

  closed_here : (d at : ℕ) (cs : List ℕ) → at < limits.text → run standard limits (piece d) at (41 ∷ cs) ≡ Ok (closed, at + 1, cs)
  unfolding run
  closed_here d at cs fits = next_item_is d at (41 ∷ cs) (omega arith) ∙ takes_is standard limits (attempt_piece d) (λ c. c == 41) (λ c. gives closed) at 41 cs fits refl

  attempted_here : (d at : ℕ) (text : List ℕ) → at ≤ limits.text → is_open text ≡ true
      → run standard limits (piece d) at text ≡ and_then standard limits (λ found. piece_of standard (piece d) found) (attempted d at text)
  attempted_here d at [] h opens = absurd cc
  attempted_here d at (c ∷ cs) h opens =
      next_item_is d at (c ∷ cs) h
      ∙ passes_is standard limits (attempt_piece d) (λ c. c == 41) (λ c. gives closed) at c cs (not-true _ opens)
      ∙ run_then standard limits (attempt s d) (λ found. piece_of standard (piece d) found) at (c ∷ cs)

  space_here : (d at : ℕ) (cs : List ℕ) → at < limits.text → run standard limits (piece d) at (32 ∷ cs) ≡ run standard limits (piece d) (at + 1) cs
  space_here d at cs fits =
      attempted_here d at (32 ∷ cs) (omega arith) refl ∙ ap (and_then standard limits (λ found. piece_of standard (piece d) found)) (at_space d at cs fits)

  item_here : (d at : ℕ) (text : List ℕ) (token : Bool) (x : Object) (next : ℕ) (rest : List ℕ) → at ≤ limits.text → is_open text ≡ true
      → attempted d at text ≡ Ok (one token x, next, rest) → run standard limits (piece d) at text ≡ Ok (item token x, next, rest)
  unfolding run
  item_here d at text token x next rest h opens e = attempted_here d at text h opens ∙ ap (and_then standard limits (λ found. piece_of standard (piece d) found)) e

  dot_here : (d at : ℕ) (cs : List ℕ) (next : ℕ) (rest : List ℕ) → at ≤ limits.text
      → attempted d at (46 ∷ cs) ≡ Ok (lone_dot, next, rest) → run standard limits (piece d) at (46 ∷ cs) ≡ Ok (dot, next, rest)
  unfolding run
  dot_here d at cs next rest h e = attempted_here d at (46 ∷ cs) h refl ∙ ap (and_then standard limits (λ found. piece_of standard (piece d) found)) e

  -- ---- objects in a row

  pub item_added : (d : ℕ) (xs : List Object) (at : ℕ) (text : List ℕ) (token : Bool) (x : Object) (next : ℕ) (rest : List ℕ) → at ≤ limits.text → is_open text ≡ true
      → attempted d at text ≡ Ok (one token x, next, rest)
      → run standard limits (items d xs) at text ≡ run standard limits (without_space standard token (items d (xs ++ x ∷ []))) next rest
  item_added d xs at text token x next rest h opens e =
      items_is d xs at text h
      ∙ run_then standard limits (piece d) (λ p. items_step standard (items d) xs p) at text
      ∙ ap (and_then standard limits (λ p. items_step standard (items d) xs p)) (item_here d at text token x next rest h opens e)

  pub space_passed : (d : ℕ) (xs : List Object) (at : ℕ) (cs : List ℕ) → at < limits.text → run standard limits (items d xs) at (32 ∷ cs) ≡ run standard limits (items d xs) (at + 1) cs
  space_passed d xs at cs fits =
      items_is d xs at (32 ∷ cs) (omega arith)
      ∙ then_moves standard limits (piece d) (piece d) (λ p. items_step standard (items d) xs p) at (at + 1) (32 ∷ cs) cs (space_here d at cs fits)
      ∙ sym (items_is d xs (at + 1) cs (omega arith))

  pub items_closed : (d : ℕ) (xs : List Object) (at : ℕ) (cs : List ℕ) → at < limits.text → run standard limits (items d xs) at (41 ∷ cs) ≡ Ok ((xs, true), at + 1, cs)
  unfolding run
  items_closed d xs at cs fits =
      items_is d xs at (41 ∷ cs) (omega arith)
      ∙ run_then standard limits (piece d) (λ p. items_step standard (items d) xs p) at (41 ∷ cs)
      ∙ ap (and_then standard limits (λ p. items_step standard (items d) xs p)) (closed_here d at cs fits)

  items_dotted : (d : ℕ) (xs : List Object) (at : ℕ) (cs : List ℕ) (next : ℕ) (rest : List ℕ) → at ≤ limits.text
      → attempted d at (46 ∷ cs) ≡ Ok (lone_dot, next, rest) → run standard limits (items d xs) at (46 ∷ cs) ≡ Ok ((xs, false), next, rest)
  unfolding run
  items_dotted d xs at cs next rest h e =
      items_is d xs at (46 ∷ cs) h
      ∙ run_then standard limits (piece d) (λ p. items_step standard (items d) xs p) at (46 ∷ cs)
      ∙ ap (and_then standard limits (λ p. items_step standard (items d) xs p)) (dot_here d at cs next rest h e)

  -- ---- the one whitespace character after a token

  -- a plan that passes a space over gives the same whether the space is discarded with a token or not
  pub after_space : {A : Type 0} (token : Bool) (p : Plan A) (at : ℕ) (cs : List ℕ) → at < limits.text → run standard limits p at (32 ∷ cs) ≡ run standard limits p (at + 1) cs
      → run standard limits (without_space standard token p) at (32 ∷ cs) ≡ run standard limits p (at + 1) cs
  unfolding standard
  after_space false p at cs fits e = e
  after_space true p at cs fits e = takes_is standard limits p (is_whitespace standard) (λ c. p) at 32 cs fits refl

  pub at_close : {A : Type 0} (token : Bool) (p : Plan A) (at : ℕ) (cs : List ℕ) → run standard limits (without_space standard token p) at (41 ∷ cs) ≡ run standard limits p at (41 ∷ cs)
  unfolding standard
  at_close false p at cs = refl
  at_close true p at cs = passes_is standard limits p (is_whitespace standard) (λ c. p) at 41 cs refl

  -- ---- the end of a list

  abbrev pub list_done : Material → Plan Found
  list_done m = finished_plan false (list_value m)

  abbrev pub vector_done : Material → Plan Found
  vector_done m = finished_plan false (vector_value None m)

  -- after at least one object, up to the closing parenthesis
  abbrev pub tail : ℕ → Bool → List Object → Plan Found
  tail d token xs = then_plan (without_space standard token (items d xs)) (list_end s (attempt s d) list_done)

  abbrev pub others : ℕ → Bool → List Object → Plan Found
  others d token xs = then_plan (without_space standard token (items d xs)) (undotted_plan vector_done)

  pub tail_closed : (d : ℕ) (token : Bool) (xs : List Object) (at : ℕ) (rest : List ℕ) → at < limits.text
      → run standard limits (tail d token xs) at (41 ∷ rest) ≡ Ok (one false (list_of xs), at + 1, rest)
  unfolding run
  tail_closed d token xs at rest fits =
      run_then standard limits (without_space standard token (items d xs)) (list_end s (attempt s d) list_done) at (41 ∷ rest)
      ∙ ap (and_then standard limits (list_end s (attempt s d) list_done)) (at_close token (items d xs) at rest ∙ items_closed d xs at rest fits)

  pub others_closed : (d : ℕ) (token : Bool) (xs : List Object) (at : ℕ) (rest : List ℕ) → at < limits.text
      → run standard limits (others d token xs) at (41 ∷ rest) ≡ Ok (one false (o.vector (list_of xs)), at + 1, rest)
  unfolding run
  others_closed d token xs at rest fits =
      run_then standard limits (without_space standard token (items d xs)) (undotted_plan vector_done) at (41 ∷ rest)
      ∙ ap (and_then standard limits (undotted_plan vector_done)) (at_close token (items d xs) at rest ∙ items_closed d xs at rest fits)

  module _ (d : ℕ) (token : Bool) (xs : List Object) (at : ℕ) (text : List ℕ) (mark : Bool) (x : Object) (next : ℕ) (rest : List ℕ) where
    -- one more object after a space
    next_moves : at < limits.text → is_open text ≡ true → attempted d (at + 1) text ≡ Ok (one mark x, next, rest)
        → run standard limits (without_space standard token (items d xs)) at (32 ∷ text) ≡ run standard limits (without_space standard mark (items d (xs ++ x ∷ []))) next rest
    next_moves fits opens e =
        after_space token (items d xs) at text fits (space_passed d xs at text fits)
        ∙ item_added d xs (at + 1) text mark x next rest (omega arith) opens e

    pub tail_next : at < limits.text → is_open text ≡ true → attempted d (at + 1) text ≡ Ok (one mark x, next, rest)
        → run standard limits (tail d token xs) at (32 ∷ text) ≡ run standard limits (tail d mark (xs ++ x ∷ [])) next rest
    tail_next fits opens e =
        then_moves standard limits (without_space standard token (items d xs)) (without_space standard mark (items d (xs ++ x ∷ []))) (list_end s (attempt s d) list_done) at next (32 ∷ text) rest
        (next_moves fits opens e)

    pub others_next : at < limits.text → is_open text ≡ true → attempted d (at + 1) text ≡ Ok (one mark x, next, rest)
        → run standard limits (others d token xs) at (32 ∷ text) ≡ run standard limits (others d mark (xs ++ x ∷ [])) next rest
    others_next fits opens e =
        then_moves standard limits (without_space standard token (items d xs)) (without_space standard mark (items d (xs ++ x ∷ []))) (undotted_plan vector_done) at next (32 ∷ text) rest
        (next_moves fits opens e)

  -- an object after a dot, and the closing parenthesis
  pub tail_dotted : (d : ℕ) (token : Bool) (y : Object) (ys : List Object) (at : ℕ) (text : List ℕ) (mark : Bool) (x : Object) (next : ℕ) (rest : List ℕ)
      → at + 2 < limits.text → next < limits.text → is_open text ≡ true
      → attempted d (at + 1) (46 ∷ 32 ∷ text) ≡ Ok (lone_dot, at + 1 + 1, 32 ∷ text)
      → attempted d (at + 1 + 1 + 1) text ≡ Ok (one mark x, next, 41 ∷ rest)
      → run standard limits (tail d token (y ∷ ys)) at (32 ∷ 46 ∷ 32 ∷ text) ≡ Ok (one false (pairs (y ∷ ys) x), next + 1, rest)
  unfolding run
  tail_dotted d token y ys at text mark x next rest fits last_fits opens is_dot e =
      let xs : List Object = y ∷ ys in
      let end' : Items → Plan Found = list_end s (attempt s d) list_done in
      let after : Piece → Plan Found = after_dot s (attempt s d) list_done xs in
      let last : Plan Found = then_plan (piece d) (after_tail list_done xs x) in
      run_then standard limits (without_space standard token (items d xs)) end' at (32 ∷ 46 ∷ 32 ∷ text)
      ∙ ap (and_then standard limits end')
      (after_space token (items d xs) at (46 ∷ 32 ∷ text) (omega arith) (space_passed d xs at (46 ∷ 32 ∷ text) (omega arith))
      ∙ items_dotted d xs (at + 1) (32 ∷ text) (at + 1 + 1) (32 ∷ text) (omega arith) is_dot)
      ∙ run_then standard limits (piece d) after (at + 1 + 1) (32 ∷ text)
      ∙ ap (and_then standard limits after) (space_here d (at + 1 + 1) text (omega arith) ∙ item_here d (at + 1 + 1 + 1) text mark x next (41 ∷ rest) (omega arith) opens e)
      ∙ at_close mark last next rest
      ∙ run_then standard limits (piece d) (after_tail list_done xs x) next (41 ∷ rest)
      ∙ ap (and_then standard limits (after_tail list_done xs x)) (closed_here d next rest last_fits)
