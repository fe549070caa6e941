-- The text of an entry is read in Rescue as the form that sets it.
--     entry_form      that form
--     entry_read      what is read of the text
use Rattle.std.proofs.Common.{◌≡◌, ℕ, ◌+◌, ◌<◌, ◌≤◌, ◌^◌, Bool, true, false, List, [], ◌∷◌, ◌++◌, length, append_assoc, append-nil, codes, pos, Ok, Err, refl, sym, ap, subst, ◌∙◌, arith}
use Rattle.std.specs.Prelude.{All, IsTrue, bytes_eq, decimal}
use Rattle.std.specs.List.{list_any}
use Rattle.std.proofs.lemmas.Fmt.{length-decimal-le}
use Rattle.std.proofs.lemmas.List.Elements.{All-cons, All-nil}
use Rattle.lisp_object.specs.Object.{Object, integer, symbol, text}
use Rattle.lisp_object.proofs.Sound.{all_below}
use Rattle.readtable_core.specs.Tables.{standard}
use Rattle.package_table.specs.Table.{Name, Table as Packages, AreSoundPackages, common_lisp, common_lisp_names, common_lisp_user}
use Rattle.user_macros.specs.Functions.{Functions}
use Rattle.canon_printer.specs.Names as names
use Rattle.canon_printer.specs.Written.{printed_text}
use Rattle.lisp_reading.specs.declared.limits.Limits.{Limits}
use Rattle.lisp_reading.specs.declared.attempt.Found.TheVariants.{One as one}
use Rattle.lisp_reading.specs.Setting.{Setting, setting_of}
use Rattle.lisp_reading.specs.Reading.{form, outcome, reads, reads_at}
use Rattle.lisp_reading.proofs.Forms.{reads_is}
use Rattle.world_text.proofs.Begun.{begun}
use Rattle.world_text.proofs.Spelling.{IsAscii}
use Rattle.text_laws.specs.Objects.{call}
use Rattle.text_laws.proofs.PartsRead.{AreRead, IsRead, deeper, list_read, listed_is_read, no_more, object_is_read, one_more, quoted_is_read}
use Rattle.text_laws.proofs.Symbols.{lisp_is_read, text_is_read}
use Rattle.client_table.specs.Entries.{KeptMessage, MayStand, client_text, entry_list, entry_text, kept_objects, kept_text, table_package}

-- a symbol of the table, as a form that evaluates to it
abbrev pub interned : Name → Object
interned name = call (codes "INTERN") (text name ∷ text table_package ∷ [])

abbrev pub place_form : Name → Object
place_form name = call (codes "GET") (interned name ∷ interned (codes "%MESSAGE") ∷ [])

abbrev pub quoted_entry : ℕ → KeptMessage → Object
quoted_entry number kept = call (codes "QUOTE") (entry_list number kept ∷ [])

abbrev pub entry_form : Name → ℕ → KeptMessage → Object
entry_form name number kept = call (codes "SETF") (place_form name ∷ quoted_entry number kept ∷ [])

-- texts beside one another
client_joined : (a b : List ℕ) → 40 ∷ codes "INTERN" ++ (32 ∷ a ++ (32 ∷ b ++ codes ")")) ≡ codes "(INTERN " ++ a ++ codes " " ++ b ++ codes ")"
client_joined a b = simp append_assoc

kept_joined : (a b : List ℕ) → 32 ∷ a ++ (32 ∷ b ++ codes ")") ≡ (codes " " ++ a ++ codes " " ++ b) ++ codes ")"
kept_joined a b = simp append_assoc

entry_right : (w a x b y c d z : List ℕ) → w ++ (a ++ (x ++ (b ++ (y ++ (c ++ (d ++ z)))))) ≡ w ++ a ++ x ++ b ++ y ++ c ++ d ++ z
entry_right w a x b y c d z = simp append_assoc

entry_joined : (a b c d : List ℕ)
    → 40 ∷ codes "SETF" ++ (32 ∷ (40 ∷ codes "GET" ++ (32 ∷ a ++ (32 ∷ b ++ codes ")"))) ++ (32 ∷ (39 ∷ (40 ∷ c ++ (d ++ codes ")"))) ++ codes ")"))
    ≡ codes "(SETF (GET " ++ a ++ codes " " ++ b ++ codes ") '(" ++ c ++ d ++ codes "))"
entry_joined a b c d =
    let rest : List ℕ = 32 ∷ 39 ∷ 40 ∷ ((c ++ (d ++ codes ")")) ++ codes ")") in
    ap (λ e. 40 ∷ codes "SETF" ++ (32 ∷ 40 ∷ codes "GET" ++ (32 ∷ e)))
    (append_assoc a (32 ∷ b ++ codes ")") rest ∙ ap (λ e. a ++ (32 ∷ e)) (append_assoc b (codes ")") rest)
    ∙ ap (λ e. a ++ (32 ∷ (b ++ (41 ∷ 32 ∷ 39 ∷ 40 ∷ e)))) (append_assoc c (d ++ codes ")") (codes ")") ∙ ap (λ e. c ++ e) (append_assoc d (codes ")") (codes ")"))))
    ∙ entry_right (codes "(SETF (GET ") a (codes " ") b (codes ") '(") c d (codes "))")

module _ (functions : Functions) (t : Packages) (sound : AreSoundPackages t) where
  abbrev limits : Limits
  limits = record { text = 1048576; token = 4096; nesting = 100 }

  room : 0 < limits.token
  room = omega arith

  abbrev Here : ℕ → List ℕ → Object → Type 0
  Here = IsRead limits t functions sound room

  abbrev Rest : ℕ → List ℕ → List Object → Type 0
  Rest = AreRead limits t functions sound room

  within : (depth more : ℕ) (text : List ℕ) (y : Object) → Here depth text y → depth ≤ more → Here more text y
  within = deeper limits t functions sound room

  named : (n : Name) → IsTrue (list_any (bytes_eq n) common_lisp_names) → names.is_plain n ≡ true → length n ≤ 4096 → Here 0 n (symbol common_lisp n)
  named = lisp_is_read limits t functions sound room

  text_read : (bytes : List ℕ) → IsAscii bytes → Here 0 (printed_text bytes) (text bytes)
  text_read = text_is_read limits t functions sound room

  number_read : (n : ℕ) → n < 2 ^ 64 → Here 0 (decimal n) (integer (pos n))
  number_read n fits =
      let short = length-decimal-le 20 n (omega arith) (omega (arith, fits)) fits in
      object_is_read limits t functions sound room (integer (pos n)) (record { sfits = omega (arith, fits) }) tt (omega (arith, short))

  -- ---- the symbols

  table_ascii : IsAscii table_package
  table_ascii = all_below table_package refl

  interned_read : (name : Name) → IsAscii name → Here 1 (client_text name) (interned name)
  unfolding common_lisp_names
  interned_read name ascii =
      subst (λ cs. Here 1 cs (interned name)) (client_joined (printed_text name) (printed_text table_package))
      (listed_is_read limits t functions sound room 0 (codes "INTERN") (symbol common_lisp (codes "INTERN")) (32 ∷ printed_text name ++ (32 ∷ printed_text table_package ++ codes ")")) (text name ∷ text table_package ∷ [])
      (named (codes "INTERN") refl refl (omega arith))
      (one_more (printed_text name) (text name) (32 ∷ printed_text table_package ++ codes ")") (text table_package ∷ []) (text_read name ascii)
      (one_more (printed_text table_package) (text table_package) (codes ")") [] (text_read table_package table_ascii) no_more)))

  -- ---- the entry

  kept_read : (kept : KeptMessage) → MayStand kept → Rest 0 (kept_text kept ++ codes ")") (kept_objects kept)
  kept_read (Ok kept) stands =
      subst (λ cs. Rest 0 cs (text kept.0 ∷ text kept.1 ∷ [])) (kept_joined (printed_text kept.0) (printed_text kept.1))
      (one_more (printed_text kept.0) (text kept.0) (32 ∷ printed_text kept.1 ++ codes ")") (text kept.1 ∷ []) (text_read kept.0 stands.0)
      (one_more (printed_text kept.1) (text kept.1) (codes ")") [] (text_read kept.1 stands.1) no_more))
  kept_read (Err count) stands =
      subst (λ cs. Rest 0 cs (integer (pos count) ∷ text [] ∷ [])) (kept_joined (decimal count) (printed_text []))
      (one_more (decimal count) (integer (pos count)) (32 ∷ printed_text [] ++ codes ")") (text [] ∷ []) (number_read count stands)
      (one_more (printed_text []) (text []) (codes ")") [] (text_read [] (all_below [] refl)) no_more))

  module _ (name : Name) (ascii : IsAscii name) (number : ℕ) (fits : number < 2 ^ 64) (kept : KeptMessage) (stands : MayStand kept) where
    abbrev value_text : List ℕ
    value_text = 39 ∷ (40 ∷ decimal number ++ (kept_text kept ++ codes ")"))

    value_read : Here 2 value_text (quoted_entry number kept)
    value_read =
        quoted_is_read limits t functions sound room 1 (40 ∷ decimal number ++ (kept_text kept ++ codes ")")) (entry_list number kept)
        (listed_is_read limits t functions sound room 0 (decimal number) (integer (pos number)) (kept_text kept ++ codes ")") (kept_objects kept) (number_read number fits) (kept_read kept stands))

    abbrev place_text : List ℕ
    place_text = 40 ∷ codes "GET" ++ (32 ∷ client_text name ++ (32 ∷ client_text (codes "%MESSAGE") ++ codes ")"))

    answer_ascii : IsAscii (codes "%MESSAGE")
    answer_ascii = all_below (codes "%MESSAGE") refl

    place_read : Here 2 place_text (place_form name)
    unfolding common_lisp_names
    place_read =
        listed_is_read limits t functions sound room 1 (codes "GET") (symbol common_lisp (codes "GET")) (32 ∷ client_text name ++ (32 ∷ client_text (codes "%MESSAGE") ++ codes ")")) (interned name ∷ interned (codes "%MESSAGE") ∷ [])
        (within 0 1 (codes "GET") (symbol common_lisp (codes "GET")) (named (codes "GET") refl refl (omega arith)) (omega arith))
        (one_more (client_text name) (interned name) (32 ∷ client_text (codes "%MESSAGE") ++ codes ")") (interned (codes "%MESSAGE") ∷ []) (interned_read name ascii)
        (one_more (client_text (codes "%MESSAGE")) (interned (codes "%MESSAGE")) (codes ")") [] (interned_read (codes "%MESSAGE") answer_ascii) no_more))

    abbrev parts_text : List ℕ
    parts_text = 32 ∷ place_text ++ (32 ∷ value_text ++ codes ")")

    text_is : 40 ∷ codes "SETF" ++ parts_text ≡ entry_text name number kept
    text_is = entry_joined (client_text name) (client_text (codes "%MESSAGE")) (decimal number) (kept_text kept)

    abbrev object : Object
    object = entry_form name number kept

    parts_read : (rest : List ℕ) → length (40 ∷ codes "SETF" ++ parts_text) ≤ 1048576
        → begun limits t common_lisp_user functions 100 0 ((40 ∷ codes "SETF" ++ parts_text) ++ rest) ≡ Ok (one false object, 0 + length (40 ∷ codes "SETF" ++ parts_text), rest)
    unfolding common_lisp_names
    parts_read rest short =
        list_read limits t functions sound room 2 (codes "SETF") (symbol common_lisp (codes "SETF")) parts_text (place_form name ∷ quoted_entry number kept ∷ [])
        (within 0 2 (codes "SETF") (symbol common_lisp (codes "SETF")) (named (codes "SETF") refl refl (omega arith)) (omega arith))
        (one_more place_text (place_form name) (32 ∷ value_text ++ codes ")") (quoted_entry number kept ∷ []) place_read
        (one_more value_text (quoted_entry number kept) (codes ")") [] value_read no_more))
        100 0 rest (omega arith) (omega (arith, short))

    pub entry_read : length (entry_text name number kept) ≤ 1048576
        → reads (setting_of limits standard 10 t common_lisp_user functions) (entry_text name number kept) ≡ form object 0 (length (entry_text name number kept)) (length (entry_text name number kept))
    unfolding reads
    entry_read short =
        let n = length (entry_text name number kept) in
        let s = setting_of limits standard 10 t common_lisp_user functions in
        let found : begun limits t common_lisp_user functions 100 0 (entry_text name number kept) ≡ Ok (one false object, 0 + n, []) =
        subst (λ cs. begun limits t common_lisp_user functions 100 0 cs ≡ Ok (one false object, 0 + length (entry_text name number kept), [])) (append-nil (entry_text name number kept))
        (subst (λ cs. length cs ≤ 1048576 → begun limits t common_lisp_user functions 100 0 (cs ++ []) ≡ Ok (one false object, 0 + length cs, [])) text_is (parts_read []) short) in
        reads_is s 0 (entry_text name number kept)
        ∙ ap (outcome standard 0 (λ next cs. reads_at s next cs)) found
        ∙ (λ i. form object 0 ((let h : 0 + (0 + n) ≡ n = omega arith in h) i) ((let h : 0 + (0 + n) + 0 ≡ n = omega arith in h) i))
