-- Texts, as a snapshot has them: how a text is written between its quotes, and lists of texts.
use Rattle.std.specs.Prelude.{◌≡◌, ◌<◌, ◌⊎◌, ℕ, Bool, ◌==◌, if◌then◌else◌, List, [], ◌∷◌, ◌++◌, map, length, codes}
use Rattle.std.specs.Str.{byte}
use Rattle.std.specs.Borrow.{Bor}
use Rattle.package_table.specs.Table.{Name}
use Rattle.canon_printer.specs.Written.{printed_text}
use Rattle.snapshot_lines.specs.declared.texts.Coming.{Coming}
use Rattle.snapshot_lines.specs.declared.texts.Coming.TheVariants.{Item, End}

abbrev mutual
  -- the text that is written so: a backslash stands before a character that is taken as it is
  pub unescaped : List ℕ → List ℕ
  unescaped [] = []
  unescaped (c ∷ cs) = if c == byte "\\" then unescaped_first cs else c ∷ unescaped cs

  -- the text that is written so after a backslash: its first character is taken as it is
  pub unescaped_first : List ℕ → List ℕ
  unescaped_first [] = []
  unescaped_first (c ∷ cs) = c ∷ unescaped cs

-- the text that is written so, as what was written before it ends with a backslash or not
abbrev pub unescaped_after : Bool → List ℕ → List ℕ
unescaped_after escaped cs = if escaped then unescaped_first cs else unescaped cs

-- the two texts of a pair, each as `unescaped` has it
abbrev pub unescaped_pair : Bor (List ℕ) × Bor (List ℕ) → Name × Name
unescaped_pair pair = (unescaped pair.0.now, unescaped pair.1.now)

-- how the items of a list are written that are still to come after one: each after a space, and then the parenthesis
abbrev pub items_rest : List (List ℕ) → List ℕ
items_rest [] = codes ")"
items_rest (x ∷ xs) = codes " " ++ (x ++ items_rest xs)

-- how a list is written whose items are written so: NIL, if it has none
abbrev pub text_of_items : List (List ℕ) → List ℕ
text_of_items [] = codes "NIL"
text_of_items (x ∷ xs) = codes "(" ++ (x ++ items_rest xs)

-- how a list of texts is written
abbrev pub quoted_texts : List Name → List ℕ
quoted_texts names = text_of_items (map printed_text names)

-- how a pair of texts is written
abbrev pub pair_text : Name × Name → List ℕ
pair_text pair = codes "(" ++ (printed_text pair.0 ++ (codes " " ++ (printed_text pair.1 ++ codes ")")))

-- how a list of pairs of texts is written
abbrev pub pairs_text : List (Name × Name) → List ℕ
pairs_text pairs = text_of_items (map pair_text pairs)

-- where a list begins, or after one of its items: these are still to come, and then what stands after the list
abbrev pub IsAtItems : List (List ℕ) → List ℕ → List ℕ → Type 0
IsAtItems items after bytes = (bytes ≡ text_of_items items ++ after) ⊎ (bytes ≡ items_rest items ++ after)

-- the first of these items comes next, or what stands after the list
abbrev pub IsNextItem : List (List ℕ) → List ℕ → Coming → Type 0
IsNextItem [] after (Item bytes) = ⊥
IsNextItem [] after (End bytes) = bytes.now ≡ after
IsNextItem (x ∷ xs) after (Item bytes) = bytes.now ≡ x ++ (items_rest xs ++ after)
IsNextItem (x ∷ xs) after (End bytes) = ⊥

-- what comes, an item or the end of the list, leaves fewer bytes than these
abbrev pub LeavesFewerBytes : List ℕ → Coming → Type 0
LeavesFewerBytes bytes (Item item) = length item.now < length bytes
LeavesFewerBytes bytes (End after) = length after.now < length bytes
