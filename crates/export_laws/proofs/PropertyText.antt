-- The text of a property form is read as the form.
--     property_is_form      where it is a form, on a line of its own, whatever follows
use Rattle.std.proofs.Common.{◌≡◌, ℕ, suc, ◌+◌, ◌<◌, ◌≤◌, true, false, List, [], ◌∷◌, ◌++◌, length, append_assoc, codes, Ok, Err, refl, sym, ap, subst, ◌∙◌, arith}
use Rattle.std.specs.Prelude.{bytes_eq, IsTrue}
use Rattle.std.specs.List.{list_any}
use Rattle.lisp_object.specs.Object.{Object, object_depth, symbol}
use Rattle.readtable_core.specs.Tables.{standard}
use Rattle.package_table.specs.Table.{Name, Table as Packages, AreSoundPackages, common_lisp, common_lisp_names, common_lisp_user}
use Rattle.user_macros.specs.Functions.{no_functions}
use Rattle.canon_printer.specs.Names as names
use Rattle.canon_printer.specs.Printed.{printed}
use Rattle.lisp_reading.specs.declared.limits.Limits.{Limits}
use Rattle.lisp_reading.specs.declared.attempt.Found.{Found}
use Rattle.lisp_reading.specs.declared.attempt.Found.TheVariants.{One as one}
use Rattle.lisp_reading.specs.Plans.{Read}
use Rattle.lisp_reading.specs.Reading.{attempt, outcome, reads, reads_at}
use Rattle.lisp_reading.proofs.Following.{Follows, follows}
use Rattle.lisp_reading.proofs.Forms.{reads_is}
use Rattle.lisp_reading.proofs.Widening.{attempt_allowed}
use Rattle.plist_state.specs.Properties.{Symbol}
use Rattle.plist_state.specs.Sound.{IsSymbol, IsValue}
use Rattle.world_text.proofs.Begun.{begun}
use Rattle.world_text.proofs.OneLine.{IsGood, good_symbols}
use Rattle.world_text.proofs.WithinLimits.{tokens_short}
use Rattle.world_forms.specs.Properties.{ends_at, form_setting, is_form, property_form}
use Rattle.world_forms.specs.NameTokens.{world_form_line, quoted_text}
use Rattle.text_laws.specs.Objects.{call, property_object, symbol_form}
use Rattle.text_laws.proofs.PartsRead.{AreRead, IsRead, deeper, list_read, listed_is_read, no_more, object_is_read, one_more, quoted_is_read}
use Rattle.text_laws.proofs.Symbols.{lisp_is_read, quoted_symbol_is_read}

module _ (t : Packages) (sound : AreSoundPackages t) (x : Symbol) (p : Symbol × Object) (there : IsSymbol t x) (indicator : IsSymbol t p.0) (value : IsValue t p.1) where
  abbrev text : List ℕ
  text = property_form t x p

  -- limits that are enough for it
  abbrev ample : Limits
  ample = record { text = 1048577 + length text; token = 8192; nesting = 200 }

  room : 0 < ample.token
  room = omega arith

  abbrev Here : ℕ → List ℕ → Object → Type 0
  Here = IsRead ample t no_functions sound room

  abbrev Rest : ℕ → List ℕ → List Object → Type 0
  Rest = AreRead ample t no_functions sound room

  within : (depth more : ℕ) (text : List ℕ) (y : Object) → Here depth text y → depth ≤ more → Here more text y
  within = deeper ample t no_functions sound room

  named : (n : Name) → IsTrue (list_any (bytes_eq n) common_lisp_names) → names.is_plain n ≡ true → length n ≤ 8192 → Here 0 n (symbol common_lisp n)
  named = lisp_is_read ample t no_functions sound room

  -- ---- the parts of the form

  its_symbol : (y : Symbol) → IsSymbol t y → Here 1 (quoted_text y.0 y.1) (symbol_form y)
  its_symbol y is = quoted_symbol_is_read ample t no_functions sound room (omega arith) y is

  abbrev value_text : List ℕ
  value_text = 39 ∷ printed t common_lisp_user p.1

  abbrev quoted_value : Object
  quoted_value = call (codes "QUOTE") (p.1 ∷ [])

  its_value : Here 101 value_text quoted_value
  its_value =
      let good : IsGood t p.1 = record { sound = value.object; known = value.symbols } in
      within (suc (object_depth p.1)) 101 value_text quoted_value
      (quoted_is_read ample t no_functions sound room (object_depth p.1) (printed t common_lisp_user p.1) p.1
      (object_is_read ample t no_functions sound room p.1 value.object (good_symbols t p.1 good) (tokens_short t common_lisp_user sound p.1 value.object value.symbols)))
      (omega (arith, value.depth))

  abbrev indicator_text : List ℕ
  indicator_text = 32 ∷ quoted_text p.0.0 p.0.1 ++ codes ")"

  abbrev place_text : List ℕ
  place_text = 40 ∷ codes "GET" ++ 32 ∷ quoted_text x.0 x.1 ++ indicator_text

  abbrev place : Object
  place = call (codes "GET") (symbol_form x ∷ symbol_form p.0 ∷ [])

  its_place : Here 2 place_text place
  unfolding common_lisp_names
  its_place =
      listed_is_read ample t no_functions sound room 1 (codes "GET") (symbol common_lisp (codes "GET")) (32 ∷ quoted_text x.0 x.1 ++ indicator_text) (symbol_form x ∷ symbol_form p.0 ∷ [])
      (within 0 1 (codes "GET") (symbol common_lisp (codes "GET")) (named (codes "GET") refl refl (omega arith)) (omega arith))
      (one_more (quoted_text x.0 x.1) (symbol_form x) indicator_text (symbol_form p.0 ∷ []) (its_symbol x there)
      (one_more (quoted_text p.0.0 p.0.1) (symbol_form p.0) (codes ")") [] (its_symbol p.0 indicator) no_more))

  -- ---- the form

  abbrev parts_text : List ℕ
  parts_text = 32 ∷ place_text ++ (32 ∷ value_text ++ codes ")")

  text_is : 40 ∷ codes "SETF" ++ parts_text ≡ text
  unfolding property_form
  text_is = simp append_assoc

  abbrev object : Object
  object = property_object x p

  parts_read : (rest : List ℕ) → begun ample t common_lisp_user no_functions 200 0 ((40 ∷ codes "SETF" ++ parts_text) ++ rest) ≡ Ok (one false object, length (40 ∷ codes "SETF" ++ parts_text), rest)
  unfolding common_lisp_names
  parts_read rest =
      list_read ample t no_functions sound room 101 (codes "SETF") (symbol common_lisp (codes "SETF")) parts_text (place ∷ quoted_value ∷ [])
      (within 0 101 (codes "SETF") (symbol common_lisp (codes "SETF")) (named (codes "SETF") refl refl (omega arith)) (omega arith))
      (one_more place_text place (32 ∷ value_text ++ codes ")") (quoted_value ∷ []) (within 2 101 place_text place its_place (omega arith))
      (one_more value_text quoted_value (codes ")") [] its_value no_more))
      200 0 rest (omega arith) (omega (arith, ap length text_is))
      ∙ (λ i. Ok (one false object, (let h : 0 + length (40 ∷ codes "SETF" ++ parts_text) ≡ length (40 ∷ codes "SETF" ++ parts_text) = omega arith in h) i, rest))

  form_read : (rest : List ℕ) → begun ample t common_lisp_user no_functions 200 0 (text ++ rest) ≡ Ok (one false object, length text, rest)
  form_read rest = subst (λ cs. begun ample t common_lisp_user no_functions 200 0 (cs ++ rest) ≡ Ok (one false object, length cs, rest)) text_is (parts_read rest)

  -- ---- under the limits of a form

  abbrev small : Limits
  small = record { text = 1048576; token = 4096; nesting = 100 }

  abbrev small_read : List ℕ → Read Found
  small_read = begun small t common_lisp_user no_functions 100 0

  abbrev Ended : Read Found → Type 0
  Ended r = true ≡ ends_at (outcome standard 0 (λ next cs. reads_at (form_setting t) next cs) r) (length text)

  -- what is not refused under these limits is the same under the ample ones
  line_read : is_form t text ≡ true → small_read (world_form_line text) ≡ Ok (one false object, length text, 10 ∷ [])
  unfolding is_form reads
  line_read is = by_result (small_read (world_form_line text)) refl (sym is ∙ ap (λ r. ends_at r (length text)) (reads_is (form_setting t) 0 (world_form_line text)))
    where
      by_result : (r : Read Found) → small_read (world_form_line text) ≡ r → Ended (small_read (world_form_line text)) → small_read (world_form_line text) ≡ Ok (one false object, length text, 10 ∷ [])
      by_result (Ok v) e ended = e ∙ sym (attempt_allowed (form_setting t) ample (world_form_line text) v (omega arith) (omega arith) (omega arith) e) ∙ form_read (10 ∷ [])
      by_result (Err f) e ended = absurd (let no : true ≡ false = subst Ended e ended in cc)

  pub property_is_form : is_form t text ≡ true → (rest : List ℕ) → small_read (text ++ 10 ∷ rest) ≡ Ok (one false object, length text, 10 ∷ rest)
  property_is_form is rest =
      ap small_read (sym (append_assoc text (10 ∷ []) rest))
      ∙ subst (λ r. Follows rest (small_read (world_form_line text ++ rest)) r) (line_read is) (follows standard small (attempt (form_setting t) 100) 0 (world_form_line text) rest)
