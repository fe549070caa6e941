-- The line of property lists, row by row: how each row is read, and what stands between the rows.
use Rattle.std.proofs.Common.{◌≡◌, ℕ, ◌+◌, ◌≤◌, ◌<◌, true, List, [], ◌∷◌, ◌++◌, length, map, drop, get_or, min, append_assoc, inl, inr, refl, sym, ap, ◌∙◌, arith}
use Rattle.std.specs.Prelude.{codes, ◌⊎◌}
use Rattle.std.proofs.lemmas.List.{drop_more}
use Rattle.std.proofs.Math.ListN.{drop_of_length-le}
use Rattle.std.proofs.Math.Nat.{eq-or-lt_of_le}
use Rattle.lisp_object.specs.Object.{Object, list_of}
use Rattle.readtable_core.specs.Tables.{standard}
use Rattle.token_scan.specs.Spelling.{may_end}
use Rattle.package_table.specs.Table.{Name, common_lisp_user}
use Rattle.canon_printer.specs.Written.{written_rest}
use Rattle.canon_printer.specs.Printed.{printed, printed_prefix}
use Rattle.lisp_reading.specs.Setting.{setting_of}
use Rattle.lisp_reading.specs.Reading.{form, space_at, reads}
use Rattle.plist_state.specs.Properties.{Symbol}
use Rattle.plist_state.specs.State.{WorldState}
use Rattle.plist_state.specs.Readers.{symbols_with_properties}
use Rattle.plist_state.specs.Sound.{IsSoundWorldState}
use Rattle.snapshot_text.specs.BuiltWorlds.{built_with_properties}
use Rattle.world_text.specs.Lines.{snapshot_limits}
use Rattle.world_text.specs.ObjectTexts.{row_of}
use Rattle.snapshot_text.specs.Rows.{row_symbol_at, row_text, text_after, HasRowsUpTo}
use Rattle.world_text.specs.Snapshot.{snapshot_line, properties_object}
use Rattle.world_text.specs.PrintedTokens.{ends_with_token}
use Rattle.world_text.proofs.Spelling.{met_text}
use Rattle.world_text.proofs.Whole.{object_read_back}
use Rattle.world_text.proofs.WithinLimits.{tokens_short, plist_depth}
use Rattle.world_text.proofs.PlainObjects.{no_prefix}
use Rattle.world_text.proofs.OneLine.{good_symbols, row_good}
use Rattle.snapshot_lines.proofs.NextLine.{after_text, byte_within, after_byte, byte_is}
use Rattle.snapshot_text.proofs.PropertyParts.{key_at, at_last}
use Rattle.user_macros.specs.Functions.{Functions}

-- ---- between the rows

module _ (prefix : Name → Name → List ℕ) (f : Symbol → Object) where
  -- an object ends before the next row, and before the parenthesis
  row_ends : (xs : List Symbol) (rest : List ℕ) → may_end (met_text (written_rest prefix (list_of (map f xs)) ++ rest)) ≡ true
  unfolding standard
  row_ends [] rest = refl
  row_ends (x ∷ xs) rest = refl

  some_text : (xs : List Symbol) (rest : List ℕ) → 0 < length (written_rest prefix (list_of (map f xs)) ++ rest)
  some_text [] rest = omega arith
  some_text (x ∷ xs) rest = omega arith

pub more_after : (s : WorldState) (n : ℕ) (rest : List ℕ) → 0 < length (text_after s n ++ rest)
more_after s n rest = some_text (printed_prefix s.packages common_lisp_user) (row_of s) (drop n (symbols_with_properties s)) rest

-- where there is a row at the index, and where there is none
pub row_after : (s : WorldState) (n : ℕ) → n < length (symbols_with_properties s) → text_after s n ≡ 32 ∷ (row_text s n ++ text_after s (n + 1))
row_after s n few =
    ap (λ xs. written_rest (printed_prefix s.packages common_lisp_user) (list_of (map (row_of s) xs))) (drop_more (symbols_with_properties s) n ([], []) few)

pub none_after : (s : WorldState) (n : ℕ) → length (symbols_with_properties s) ≤ n → text_after s n ≡ 41 ∷ []
none_after s n all =
    ap (λ xs. written_rest (printed_prefix s.packages common_lisp_user) (list_of (map (row_of s) xs))) (drop_of_length-le (symbols_with_properties s) all)

-- ---- the line

pub no_rows_line : (s : WorldState) → IsSoundWorldState s → length (symbols_with_properties s) ≡ 0 → snapshot_line s.packages (properties_object s) ≡ codes "NIL" ++ 10 ∷ []
no_rows_line s sound none = go (symbols_with_properties s) none
  where
    go : (xs : List Symbol) → length xs ≡ 0 → printed s.packages common_lisp_user (list_of (map (row_of s) xs)) ++ 10 ∷ [] ≡ codes "NIL" ++ 10 ∷ []
    go [] e = ap (λ prefix. (prefix ++ codes "NIL") ++ 10 ∷ []) (no_prefix s.packages sound.packages)
    go (x ∷ xs) e = absurd (omega arith)

pub rows_line : (s : WorldState) → 0 < length (symbols_with_properties s) → snapshot_line s.packages (properties_object s) ≡ (40 ∷ (row_text s 0 ++ text_after s 1)) ++ 10 ∷ []
rows_line s some =
    ap (λ xs. printed s.packages common_lisp_user (list_of (map (row_of s) xs)) ++ 10 ∷ []) (drop_more (symbols_with_properties s) 0 ([], []) some)

-- ---- a row is read

module _ (functions : Functions) where
  -- where the row ends, with the whitespace after it
  pub row_next : (s : WorldState) (n : ℕ) (rest : List ℕ) → ℕ
  row_next s n rest = length (row_text s n) + space_at standard (ends_with_token (row_of s (row_symbol_at s n))) (text_after s (n + 1) ++ rest)

  pub row_read : (s : WorldState) → IsSoundWorldState s → (n : ℕ) (now : WorldState) → HasRowsUpTo s n now → n < length (symbols_with_properties s)
      → length (row_text s n) ≤ 4294967295 → (rest : List ℕ)
      → reads (setting_of snapshot_limits standard 10 now.packages common_lisp_user functions) (row_text s n ++ (text_after s (n + 1) ++ rest))
      ≡ form (row_of s (row_symbol_at s n)) 0 (length (row_text s n)) (row_next s n rest)
  unfolding row_next
  row_read s sound n now so_far few fits rest =
      let x = row_symbol_at s n in
      let y = row_of s x in
      let good = row_good s sound x (key_at s n few) in
      let deep = plist_depth s sound x in
      let same : now.packages ≡ s.packages = ap (λ (w : WorldState). w.packages) so_far.rest in
      ap (λ t. reads (setting_of snapshot_limits standard 10 t common_lisp_user functions) (row_text s n ++ (text_after s (n + 1) ++ rest))) same
      ∙ object_read_back snapshot_limits s.packages common_lisp_user functions sound.packages (omega arith) y
      (good.sound, good_symbols s.packages y good, tokens_short s.packages common_lisp_user sound.packages y good.sound good.known)
      (omega arith) fits (text_after s (n + 1) ++ rest)
      (row_ends (printed_prefix s.packages common_lisp_user) (row_of s) (drop (n + 1) (symbols_with_properties s)) rest)

-- ---- while the rows are read

-- A row begins at this offset, after which the others follow up to the end of the line, and the world has those before it.
pub record IsAtRow (s : WorldState) (bytes rest : List ℕ) (at : ℕ) (now : WorldState) : Type 0 where
  pub done : ℕ
  pub few : done < length (symbols_with_properties s)
  pub so_far : HasRowsUpTo s done now
  pub text : drop at bytes ≡ row_text s done ++ (text_after s (done + 1) ++ 10 ∷ rest)

-- the row after one that was put, after a space
pub next_row : (s : WorldState) (bytes rest : List ℕ) (end next : ℕ) (now : WorldState) (n : ℕ) → length bytes ≤ 4294967295 → HasRowsUpTo s n now → n < length (symbols_with_properties s)
    → drop end bytes ≡ text_after s n ++ 10 ∷ rest → next ≡ end + 1 → IsAtRow s bytes rest next now
next_row s bytes rest end next now n fits so_far few e is =
    let here : drop end bytes ≡ 32 ∷ (row_text s n ++ (text_after s (n + 1) ++ 10 ∷ rest)) =
    e ∙ ap (λ t. t ++ 10 ∷ rest) (row_after s n few) ∙ ap (λ t. 32 ∷ t) (append_assoc (row_text s n) (text_after s (n + 1)) (10 ∷ rest)) in
    let within : end < length bytes = byte_within bytes (row_text s n ++ (text_after s (n + 1) ++ 10 ∷ rest)) end 32 here in
    record {
      done = n;
      few = few;
      so_far = so_far;
      text = after_byte bytes (row_text s n ++ (text_after s (n + 1) ++ 10 ∷ rest)) end 32 next fits here (omega arith);
    }

-- What stands after a row that was put: a space and the next row, or the parenthesis after the last one.
pub record IsLater (s : WorldState) (bytes rest : List ℕ) (end : ℕ) (now : WorldState) : Type 0 where
  pub there : end < length bytes
  pub byte : get_or bytes end 0 ≡ 32
  pub row : (next : ℕ) → next ≡ end + 1 → IsAtRow s bytes rest next now

pub record IsLast (s : WorldState) (bytes rest : List ℕ) (end : ℕ) (now : WorldState) : Type 0 where
  pub there : end < length bytes
  pub byte : get_or bytes end 0 ≡ 41
  pub world : now ≡ built_with_properties s
  pub text : (next : ℕ) → next ≡ min (end + 2) 18446744073709551615 → drop next bytes ≡ rest

pub after_row : (s : WorldState) (bytes rest : List ℕ) (end : ℕ) (now : WorldState) (n : ℕ) → length bytes ≤ 4294967295 → HasRowsUpTo s n now → n ≤ length (symbols_with_properties s)
    → drop end bytes ≡ text_after s n ++ 10 ∷ rest → IsLater s bytes rest end now ⊎ IsLast s bytes rest end now
after_row s bytes rest end now n fits so_far within e =
    elim (eq-or-lt_of_le {n = n} {m = length (symbols_with_properties s)} within) [
      | inl all ↦
          let here : drop end bytes ≡ 41 ∷ 10 ∷ rest = e ∙ ap (λ t. t ++ 10 ∷ rest) (none_after s n (omega arith)) in
          let there : end < length bytes = byte_within bytes (10 ∷ rest) end 41 here in
          inr record {
            there = there;
            byte = byte_is bytes (10 ∷ rest) end 41 0 here;
            world = at_last s n now so_far all;
            text = λ next is. after_text bytes (41 ∷ 10 ∷ []) rest end next (omega arith) fits here is;
          }
      | inr few ↦
          let here : drop end bytes ≡ 32 ∷ ((row_text s n ++ text_after s (n + 1)) ++ 10 ∷ rest) = e ∙ ap (λ t. t ++ 10 ∷ rest) (row_after s n few) in
          inl record {
            there = byte_within bytes ((row_text s n ++ text_after s (n + 1)) ++ 10 ∷ rest) end 32 here;
            byte = byte_is bytes ((row_text s n ++ text_after s (n + 1)) ++ 10 ∷ rest) end 32 0 here;
            row = λ next is. next_row s bytes rest end next now n fits so_far few e is;
          }
    ]

-- ---- the line begins

-- it is NIL, where there are no property lists
pub record IsNilLine (s : WorldState) (bytes rest : List ℕ) (at : ℕ) : Type 0 where
  pub there : at < length bytes
  pub byte : get_or bytes at 0 ≡ 78
  pub none : 0 ≡ length (symbols_with_properties s)
  pub text : (next : ℕ) → next ≡ min (at + 4) 18446744073709551615 → drop next bytes ≡ rest

-- or a parenthesis and the rows
pub record IsRowsLine (s : WorldState) (bytes rest : List ℕ) (at : ℕ) : Type 0 where
  pub there : at < length bytes
  pub byte : get_or bytes at 0 ≡ 40
  pub some : 0 < length (symbols_with_properties s)
  pub text : (next : ℕ) → next ≡ min (at + 1) 18446744073709551615 → drop next bytes ≡ row_text s 0 ++ (text_after s 1 ++ 10 ∷ rest)

pub line_begins : (s : WorldState) → IsSoundWorldState s → (bytes rest : List ℕ) (at : ℕ) → length bytes ≤ 4294967295
    → drop at bytes ≡ snapshot_line s.packages (properties_object s) ++ rest → IsNilLine s bytes rest at ⊎ IsRowsLine s bytes rest at
line_begins s sound bytes rest at fits e =
    elim (eq-or-lt_of_le {n = 0} {m = length (symbols_with_properties s)} (omega arith)) [
      | inl none ↦
          let here : drop at bytes ≡ 78 ∷ 73 ∷ 76 ∷ 10 ∷ rest = e ∙ ap (λ t. t ++ rest) (no_rows_line s sound (sym none)) in
          let there : at < length bytes = byte_within bytes (73 ∷ 76 ∷ 10 ∷ rest) at 78 here in
          inl record {
            there = there;
            byte = byte_is bytes (73 ∷ 76 ∷ 10 ∷ rest) at 78 0 here;
            none = none;
            text = λ next is. after_text bytes (78 ∷ 73 ∷ 76 ∷ 10 ∷ []) rest at next (omega arith) fits here is;
          }
      | inr some ↦
          let here : drop at bytes ≡ 40 ∷ (row_text s 0 ++ (text_after s 1 ++ 10 ∷ rest)) =
          e ∙ ap (λ t. t ++ rest) (rows_line s some)
          ∙ ap (λ t. 40 ∷ t) (append_assoc (row_text s 0 ++ text_after s 1) (10 ∷ []) rest ∙ append_assoc (row_text s 0) (text_after s 1) (10 ∷ rest)) in
          inr record {
            there = byte_within bytes (row_text s 0 ++ (text_after s 1 ++ 10 ∷ rest)) at 40 here;
            byte = byte_is bytes (row_text s 0 ++ (text_after s 1 ++ 10 ∷ rest)) at 40 0 here;
            some = some;
            text = λ next is. after_byte bytes (row_text s 0 ++ (text_after s 1 ++ 10 ∷ rest)) at 40 next fits here is;
          }
    ]

-- ---- which of two it is, by its byte

pub end_there : (s : WorldState) (bytes rest : List ℕ) (end : ℕ) (now : WorldState) → IsLater s bytes rest end now ⊎ IsLast s bytes rest end now → end < length bytes
end_there s bytes rest end now (inl w) = w.there
end_there s bytes rest end now (inr w) = w.there

pub last_at : (s : WorldState) (bytes rest : List ℕ) (end : ℕ) (now : WorldState) → IsLater s bytes rest end now ⊎ IsLast s bytes rest end now → get_or bytes end 0 ≡ 41
    → IsLast s bytes rest end now
last_at s bytes rest end now (inl w) is = absurd (omega (arith, w.byte, is))
last_at s bytes rest end now (inr w) is = w

pub later_at : (s : WorldState) (bytes rest : List ℕ) (end : ℕ) (now : WorldState) → IsLater s bytes rest end now ⊎ IsLast s bytes rest end now → (get_or bytes end 0 ≡ 41 → ⊥)
    → IsLater s bytes rest end now
later_at s bytes rest end now (inl w) other = w
later_at s bytes rest end now (inr w) other = absurd (other w.byte)

pub rows_at : (s : WorldState) (bytes rest : List ℕ) (at : ℕ) → IsNilLine s bytes rest at ⊎ IsRowsLine s bytes rest at → get_or bytes at 0 ≡ 40 → IsRowsLine s bytes rest at
rows_at s bytes rest at (inl w) is = absurd (omega (arith, w.byte, is))
rows_at s bytes rest at (inr w) is = w

pub nil_at : (s : WorldState) (bytes rest : List ℕ) (at : ℕ) → IsNilLine s bytes rest at ⊎ IsRowsLine s bytes rest at → (get_or bytes at 0 ≡ 40 → ⊥) → IsNilLine s bytes rest at
nil_at s bytes rest at (inl w) other = w
nil_at s bytes rest at (inr w) other = absurd (other w.byte)
