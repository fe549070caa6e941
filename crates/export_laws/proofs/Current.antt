-- The last form of an export of data makes the package current.
--     current_is_form, current_leaves      it is read, and accepted
--     is_progn, is_enter, enter_value      its parts
use Rattle.std.proofs.Common.{◌≡◌, ℕ, ◌≤◌, true, false, List, [], ◌∷◌, ◌++◌, length, append_assoc, codes, Err, refl, ap, subst, ◌∙◌, arith}
use Rattle.std.specs.Option.{option_map_or}
use Rattle.std.proofs.lemmas.List.{length-append}
use Rattle.lisp_object.specs.Object.{Object, nil, pair, symbol, text}
use Rattle.lisp_object.specs.declared.refusal.TheConstants.{NO_SUCH_PACKAGE}
use Rattle.package_table.specs.Symbols.{are_there, symbols}
use Rattle.package_table.specs.Table as packages
use Rattle.package_table.specs.Table.{Name, Table, IsPackage, common_lisp, common_lisp_names}
use Rattle.plist_state.specs.State.{WorldState}
use Rattle.user_macros.specs.Functions.{no_functions}
use Rattle.canon_printer.specs.Written.{printed_text}
use Rattle.lisp_operators.specs.Evaluation.{also, and_then, gives, writes}
use Rattle.evaluator.specs.Value.{last, value_by, values_by, value_over}
use Rattle.form_eval.specs.Acceptance.{accept, accepted_by}
use Rattle.form_eval.proofs.KnownSymbols.{known_symbols}
use Rattle.prevalence_store.specs.meaning.Acceptance.{form_limits}
use Rattle.session_words.specs.declared.content.Content.TheVariants.{Data}
use Rattle.world_forms.specs.Forms.{current_form, package_form, reading_forms}
use Rattle.text_laws.specs.Objects.{call}
use Rattle.export_laws.proofs.OneForm.{IsForm}
use Rattle.export_laws.proofs.PackageForms.{named_so}
use Rattle.export_laws.proofs.PackageText.{IsOperator, list_is_form, operator_read, room, text_short}
use Rattle.text_laws.proofs.PartsRead.{deeper, listed_is_read, no_more, one_more}
use Rattle.text_laws.proofs.Symbols.{text_is_read}
use Rattle.text_laws.proofs.There.{lisp_there, nil_there, pair_there}

abbrev pub enter_object : Name → Object
enter_object p = call (codes "IN-PACKAGE") (text p ∷ [])

abbrev pub current_object : Name → Object
current_object p = call (codes "PROGN") (enter_object p ∷ [])

pub is_progn : IsOperator (codes "PROGN")
unfolding common_lisp_names
is_progn = record { listed = refl; plain = refl; short = omega arith }

pub is_enter : IsOperator (codes "IN-PACKAGE")
unfolding common_lisp_names
is_enter = record { listed = refl; plain = refl; short = omega arith }

-- ---- it is read

module _ (s : WorldState) (t : Table) (sound : packages.AreSoundPackages t) (there : IsPackage t s.current_package) where
  abbrev p : Name
  p = s.current_package

  abbrev its_text : List ℕ
  its_text = 40 ∷ codes "IN-PACKAGE" ++ (32 ∷ printed_text p ++ codes ")")

  abbrev whole : List ℕ
  whole = 40 ∷ codes "PROGN" ++ (32 ∷ its_text ++ codes ")")

  whole_is : whole ≡ current_form s Data
  unfolding current_form package_form reading_forms
  whole_is = simp append_assoc

  whole_short : length whole ≤ 1048576
  whole_short =
      let few : length p ≤ 256 = (sound.within.package_names p there).short in
      omega (arith, few, text_short p, length-append its_text (codes ")"), length-append (printed_text p) (codes ")"))

  whole_is_form : IsForm t whole (current_object p)
  whole_is_form =
      list_is_form t sound 1 (codes "PROGN") (symbol common_lisp (codes "PROGN")) (32 ∷ its_text ++ codes ")") (enter_object p ∷ [])
      (deeper form_limits t no_functions sound (room t sound) 0 1 (codes "PROGN") (symbol common_lisp (codes "PROGN")) (operator_read t sound (codes "PROGN") is_progn) (omega arith))
      (one_more its_text (enter_object p) (codes ")") []
      (listed_is_read form_limits t no_functions sound (room t sound) 0 (codes "IN-PACKAGE") (symbol common_lisp (codes "IN-PACKAGE")) (32 ∷ printed_text p ++ codes ")") (text p ∷ [])
      (operator_read t sound (codes "IN-PACKAGE") is_enter)
      (one_more (printed_text p) (text p) (codes ")") [] (text_is_read form_limits t no_functions sound (room t sound) p (sound.within.package_names p there).ascii) no_more))
      no_more)
      (omega arith) whole_short

  pub current_is_form : IsForm t (current_form s Data) (current_object p)
  current_is_form = subst (λ cs. IsForm t cs (current_object p)) whole_is whole_is_form

-- ---- it is accepted

module _ (names : List Name) (s : WorldState) (sound : packages.AreSoundPackages s.packages) (p : Name) (there : IsPackage s.packages p) where
  abbrev entered : WorldState
  entered = record s { current_package = p }

  pub enter_value : value_by true names s (enter_object p) ≡ writes (text p) entered
  unfolding value_over
  enter_value =
      ap (λ o. option_map_or (λ q. writes (text q) (record s { current_package = q })) o (Err NO_SUCH_PACKAGE)) (named_so names s sound p there)

  current_value : value_by true names s (current_object p) ≡ writes (text p) entered
  unfolding value_over
  current_value =
      λ i. and_then (and_then (enter_value i) (λ y later. and_then (values_by true names later nil) (λ ys end'. gives (y ∷ ys) end'))) (λ xs later. gives (last xs) later)

  symbols_there : are_there s.packages (current_object p) ≡ true
  unfolding common_lisp_names
  symbols_there =
      let t = s.packages in
      pair_there t (symbol common_lisp (codes "PROGN")) (pair (enter_object p) nil) (lisp_there t sound (codes "PROGN") refl)
      (pair_there t (enter_object p) nil
      (pair_there t (symbol common_lisp (codes "IN-PACKAGE")) (pair (text p) nil) (lisp_there t sound (codes "IN-PACKAGE") refl) (pair_there t (text p) nil refl (nil_there t sound)))
      (nil_there t sound))

  pub current_leaves : accept names s (current_object p) ≡ writes (text p) entered
  current_leaves =
      ap (λ r. accepted_by true names s r (current_object p)) (known_symbols s.packages (symbols (current_object p)) symbols_there)
      ∙ ap (also false) current_value
