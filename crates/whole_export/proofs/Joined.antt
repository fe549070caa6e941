-- Texts that are joined from the left, as the lines of a readtable are, and from the right, as they are read.
--     left_5, right_5      before what follows
--     after_1, after_3, after_4      a call whose last argument is the name of a readtable, after so many parts
--     case_same, last_same      the forms of a case and of what is current
use Rattle.std.proofs.Common.{◌≡◌, ℕ, List, [], ◌∷◌, ◌++◌, append_assoc, codes, decimal, sym, ap, ◌∙◌}
use Rattle.package_table.specs.Table.{Name, keyword}
use Rattle.plist_state.specs.State.{WorldState}
use Rattle.canon_printer.specs.Written.{printed_text}
use Rattle.session_words.specs.declared.content.Content.TheVariants.{World}
use Rattle.world_forms.specs.Forms.{base_form, current_form, package_form, reading_forms, readtable_form}
use Rattle.world_forms.specs.Readtables.{set_case_line, table_argument, table_end}
use Rattle.world_forms.specs.NameTokens.{keyword_argument, world_form_line, value_text}

left_3 : (a b c rest : List ℕ) → (a ++ b ++ c) ++ rest ≡ a ++ (b ++ (c ++ rest))
left_3 a b c rest = append_assoc (a ++ b) c rest ∙ append_assoc a b (c ++ rest)

left_4 : (a b c d rest : List ℕ) → (a ++ b ++ c ++ d) ++ rest ≡ a ++ (b ++ (c ++ (d ++ rest)))
left_4 a b c d rest = append_assoc (a ++ b ++ c) d rest ∙ left_3 a b c (d ++ rest)

pub left_5 : (a b c d e rest : List ℕ) → (a ++ b ++ c ++ d ++ e) ++ rest ≡ a ++ (b ++ (c ++ (d ++ (e ++ rest))))
left_5 a b c d e rest = append_assoc (a ++ b ++ c ++ d) e rest ∙ left_4 a b c d (e ++ rest)

right_3 : (a b c rest : List ℕ) → (a ++ (b ++ c)) ++ rest ≡ a ++ (b ++ (c ++ rest))
right_3 a b c rest = append_assoc a (b ++ c) rest ∙ ap (λ cs. a ++ cs) (append_assoc b c rest)

right_4 : (a b c d rest : List ℕ) → (a ++ (b ++ (c ++ d))) ++ rest ≡ a ++ (b ++ (c ++ (d ++ rest)))
right_4 a b c d rest = append_assoc a (b ++ (c ++ d)) rest ∙ ap (λ cs. a ++ cs) (right_3 b c d rest)

pub right_5 : (a b c d e rest : List ℕ) → (a ++ (b ++ (c ++ (d ++ e)))) ++ rest ≡ a ++ (b ++ (c ++ (d ++ (e ++ rest))))
right_5 a b c d e rest = append_assoc a (b ++ (c ++ (d ++ e))) rest ∙ ap (λ cs. a ++ cs) (right_4 b c d e rest)

-- ---- the lines of a readtable

-- its name as the last argument
abbrev pub name_last : Name → List ℕ
name_last n = table_argument n ++ codes ")"

module _ (n : Name) (rest : List ℕ) where
  ending : table_end n ++ rest ≡ name_last n ++ 10 ∷ rest
  ending = append_assoc (table_argument n) (world_form_line (codes ")")) rest ∙ sym (append_assoc (table_argument n) (codes ")") (10 ∷ rest))

  pub after_1 : (a : List ℕ) → (a ++ table_end n) ++ rest ≡ (a ++ name_last n) ++ 10 ∷ rest
  after_1 a = append_assoc a (table_end n) rest ∙ ap (λ cs. a ++ cs) ending ∙ sym (append_assoc a (name_last n) (10 ∷ rest))

  pub after_3 : (a b c : List ℕ) → (a ++ b ++ c ++ table_end n) ++ rest ≡ (a ++ (b ++ (c ++ name_last n))) ++ 10 ∷ rest
  after_3 a b c = left_4 a b c (table_end n) rest ∙ ap (λ cs. a ++ (b ++ (c ++ cs))) ending ∙ sym (right_4 a b c (name_last n) (10 ∷ rest))

  pub after_4 : (a b c d : List ℕ) → (a ++ b ++ c ++ d ++ table_end n) ++ rest ≡ (a ++ (b ++ (c ++ (d ++ name_last n)))) ++ 10 ∷ rest
  after_4 a b c d = left_5 a b c d (table_end n) rest ∙ ap (λ cs. a ++ (b ++ (c ++ (d ++ cs)))) ending ∙ sym (right_5 a b c d (name_last n) (10 ∷ rest))

  pub case_same : (name : Name) → set_case_line n name ++ rest ≡ (codes "(SETF (READTABLE-CASE" ++ (name_last n ++ (keyword_argument name ++ codes ")"))) ++ 10 ∷ rest
  unfolding set_case_line
  case_same name =
      let a = codes "(SETF (READTABLE-CASE" in
      let t = table_argument n in
      let k = keyword_argument name in
      let close = codes ")" in
      left_5 a t close k (world_form_line close) rest
      ∙ ap (λ cs. a ++ (t ++ (close ++ cs))) (sym (append_assoc k close (10 ∷ rest)))
      ∙ ap (λ cs. a ++ cs) (sym (append_assoc t close ((k ++ close) ++ 10 ∷ rest)))
      ∙ sym (right_3 a (name_last n) (k ++ close) (10 ∷ rest))

-- ---- the last form

pub last_same : (s : WorldState) → current_form s World
    ≡ codes "(PROGN (IN-PACKAGE " ++ ((printed_text s.current_package ++ codes ")") ++ (codes " (SETF *READ-BASE* " ++ ((decimal s.read_base ++ codes ")")
    ++ (codes " (IN-READTABLE " ++ ((value_text [] [] keyword s.current_readtable ++ codes ")") ++ codes ")")))))
unfolding current_form package_form reading_forms base_form readtable_form
last_same s =
    let close = codes ")" in
    let x = printed_text s.current_package ++ close in
    let y = decimal s.read_base ++ close in
    let forms = codes " " ++ base_form s ++ codes " " ++ readtable_form s in
    ap (λ cs. codes "(PROGN (IN-PACKAGE " ++ cs)
    (append_assoc x forms close ∙ ap (λ cs. x ++ (codes " (SETF *READ-BASE* " ++ cs)) (left_3 y (codes " ") (readtable_form s) close))
