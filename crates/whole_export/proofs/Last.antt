-- The last form makes the package, the base of numbers and the readtable current.
--     is_enter_table      its operator
--     last_made      it is read and accepted, after a newline and before whatever ends the text
use Rattle.std.proofs.Common.{◌≡◌, ℕ, pos, ◌+◌, ◌≤◌, Bool, true, false, List, [], ◌∷◌, ◌++◌, length, codes, decimal, Some, None, Ok, Err, IsTrue, refl, ap, subst, ◌∙◌, arith}
use Rattle.std.specs.Prelude.{if◌then◌else◌, nat_le}
use Rattle.std.specs.Option.{option_map_or}
use Rattle.std.specs.FinMap as finite
use Rattle.std.proofs.lemmas.Bool.{and_from, le-leb}
use Rattle.std.proofs.lemmas.List.{length-append}
use Rattle.lisp_object.specs.Object.{Object, integer, nil, pair, symbol, text}
use Rattle.lisp_object.specs.declared.refusal.TheConstants.{INTEGER_RANGE}
use Rattle.package_table.specs.Symbols.{are_there}
use Rattle.package_table.specs.Table as packages
use Rattle.package_table.specs.Table.{Name, IsPackage, common_lisp, common_lisp_names, keyword}
use Rattle.plist_state.specs.Changes.{with_base}
use Rattle.plist_state.specs.declared.error.ReadtableError.TheVariants.{NoReadtable}
use Rattle.plist_state.specs.Sound.{IsSymbol}
use Rattle.plist_state.specs.State.{WorldState}
use Rattle.user_macros.specs.Functions.{Functions, no_functions}
use Rattle.canon_printer.specs.Written.{printed_text}
use Rattle.lisp_operators.specs.Evaluation.{also, and_then, gives, writes}
use Rattle.lisp_operators.specs.ReadBase.{is_base}
use Rattle.lisp_operators.specs.Readtables.{value_after, enter_readtable}
use Rattle.evaluator.specs.Value.{last, value_by, values_by, value_over}
use Rattle.lisp_reading.specs.declared.attempt.Found.TheVariants.{One as one}
use Rattle.prevalence_store.specs.meaning.Acceptance.{form_limits, transaction_value}
use Rattle.session_words.specs.declared.content.Content.TheVariants.{World}
use Rattle.world_forms.specs.Forms.{current_form}
use Rattle.world_forms.specs.NameTokens.{value_text}
use Rattle.text_laws.specs.Objects.{call}
use Rattle.export_laws.specs.ExportedTexts.{Makes, ReadsAsExported}
use Rattle.export_laws.proofs.Current.{enter_object, enter_value, is_enter, is_progn}
use Rattle.export_laws.proofs.OneForm.{next_made}
use Rattle.export_laws.proofs.PackageText.{IsOperator, operator_read, room}
use Rattle.text_laws.proofs.PartsRead.{AreRead, deeper, list_read, no_more, one_more}
use Rattle.text_laws.proofs.There.{lisp_there, nil_there, pair_there}
use Rattle.whole_export.proofs.Arguments.{AreArguments, IsList, accepted_so, argument, call_is_read, call_short, call_there, call_values, no_argument}
use Rattle.whole_export.proofs.ArgumentKinds.{base_is, base_variable, table_form, table_is, text_is}
use Rattle.whole_export.proofs.Joined.{last_same}
use Rattle.whole_export.proofs.Steps.{is_setf}

-- IN-READTABLE
pub is_enter_table : IsOperator (codes "IN-READTABLE")
unfolding common_lisp_names
is_enter_table = record { listed = refl; plain = refl; short = omega arith }

-- ---- what becomes current

abbrev pub base_object : ℕ → Object
base_object n = call (codes "SETF") (symbol common_lisp (codes "*READ-BASE*") ∷ integer (pos n) ∷ [])

abbrev pub enter_table : Name → Object
enter_table r = call (codes "IN-READTABLE") (table_form r ∷ [])

abbrev pub last_object : Name → ℕ → Name → Object
last_object p n r = call (codes "PROGN") (enter_object p ∷ base_object n ∷ enter_table r ∷ [])

-- a state with these current
abbrev pub with_current : WorldState → Name → ℕ → Name → WorldState
with_current s p n r = record s { current_package = p; read_base = n; current_readtable = r }

module _ (names : List Name) (s : WorldState) (sound : packages.AreSoundPackages s.packages) (p : Name) (n : ℕ) (r : Name)
    (is_package : IsPackage s.packages p) (lowest : 2 ≤ n) (highest : n ≤ 36) (named : IsSymbol s.packages (keyword, r)) (is_table : IsTrue (finite.contains_key s.readtables r)) where
  abbrev Arguments : List ℕ → List Object → List Object → Type 0
  Arguments = AreArguments names s sound

  -- ---- it is read

  abbrev enter_more : List ℕ
  enter_more = 32 ∷ printed_text p ++ codes ")"

  enter_arguments : Arguments enter_more (text p ∷ []) (text p ∷ [])
  enter_arguments = argument (printed_text p) (text p) (text p) (codes ")") [] [] (text_is names s sound p is_package) no_argument

  abbrev base_more : List ℕ
  base_more = 32 ∷ codes "*READ-BASE*" ++ (32 ∷ decimal n ++ codes ")")

  number_argument : Arguments (32 ∷ decimal n ++ codes ")") (integer (pos n) ∷ []) (integer (pos n) ∷ [])
  number_argument = argument (decimal n) (integer (pos n)) (integer (pos n)) (codes ")") [] [] (base_is names s sound n highest) no_argument

  base_arguments : Arguments base_more (symbol common_lisp (codes "*READ-BASE*") ∷ integer (pos n) ∷ []) (integer (pos s.read_base) ∷ integer (pos n) ∷ [])
  base_arguments =
      argument (codes "*READ-BASE*") (symbol common_lisp (codes "*READ-BASE*")) (integer (pos s.read_base)) (32 ∷ decimal n ++ codes ")") (integer (pos n) ∷ []) (integer (pos n) ∷ [])
      (base_variable names s sound) number_argument

  abbrev table_more : List ℕ
  table_more = 32 ∷ value_text [] [] keyword r ++ codes ")"

  table_arguments : Arguments table_more (table_form r ∷ []) (symbol keyword r ∷ [])
  table_arguments = argument (value_text [] [] keyword r) (table_form r) (symbol keyword r) (codes ")") [] [] (table_is names s sound r named) no_argument

  abbrev enter_text : List ℕ
  enter_text = 40 ∷ codes "IN-PACKAGE" ++ enter_more

  abbrev base_text : List ℕ
  base_text = 40 ∷ codes "SETF" ++ base_more

  abbrev table_text : List ℕ
  table_text = 40 ∷ codes "IN-READTABLE" ++ table_more

  abbrev parts_text : List ℕ
  parts_text = 32 ∷ enter_text ++ (32 ∷ base_text ++ (32 ∷ table_text ++ codes ")"))

  abbrev its_text : List ℕ
  its_text = 40 ∷ codes "PROGN" ++ parts_text

  parts_read : AreRead form_limits s.packages no_functions sound (room s.packages sound) 2 parts_text (enter_object p ∷ base_object n ∷ enter_table r ∷ [])
  parts_read =
      one_more enter_text (enter_object p) (32 ∷ base_text ++ (32 ∷ table_text ++ codes ")")) (base_object n ∷ enter_table r ∷ [])
      (call_is_read names s sound (codes "IN-PACKAGE") is_enter enter_more (text p ∷ []) (text p ∷ []) enter_arguments)
      (one_more base_text (base_object n) (32 ∷ table_text ++ codes ")") (enter_table r ∷ [])
      (call_is_read names s sound (codes "SETF") is_setf base_more (symbol common_lisp (codes "*READ-BASE*") ∷ integer (pos n) ∷ []) (integer (pos s.read_base) ∷ integer (pos n) ∷ []) base_arguments)
      (one_more table_text (enter_table r) (codes ")") []
      (call_is_read names s sound (codes "IN-READTABLE") is_enter_table table_more (table_form r ∷ []) (symbol keyword r ∷ []) table_arguments) no_more))

  parts_short : length its_text ≤ 100000
  parts_short =
      let one = call_short names s sound (codes "IN-PACKAGE") is_enter enter_more (text p ∷ []) (text p ∷ []) enter_arguments in
      let two = call_short names s sound (codes "SETF") is_setf base_more (symbol common_lisp (codes "*READ-BASE*") ∷ integer (pos n) ∷ []) (integer (pos s.read_base) ∷ integer (pos n) ∷ []) base_arguments in
      let three = call_short names s sound (codes "IN-READTABLE") is_enter_table table_more (table_form r ∷ []) (symbol keyword r ∷ []) table_arguments in
      omega (arith, one, two, three, length-append enter_text (32 ∷ base_text ++ (32 ∷ table_text ++ codes ")")), length-append base_text (32 ∷ table_text ++ codes ")"), length-append table_text (codes ")"))

  last_is_list : IsList s.packages its_text (last_object p n r)
  last_is_list rest =
      list_read form_limits s.packages no_functions sound (room s.packages sound) 2 (codes "PROGN") (symbol common_lisp (codes "PROGN")) parts_text (enter_object p ∷ base_object n ∷ enter_table r ∷ [])
      (deeper form_limits s.packages no_functions sound (room s.packages sound) 0 2 (codes "PROGN") (symbol common_lisp (codes "PROGN")) (operator_read s.packages sound (codes "PROGN") is_progn) (omega arith))
      parts_read 100 0 rest (omega arith) (omega (arith, parts_short))
      ∙ (λ i. Ok (one false (last_object p n r), (let h : 0 + length its_text ≡ length its_text = omega arith in h) i, rest))

  last_there : are_there s.packages (last_object p n r) ≡ true
  last_there =
      pair_there s.packages (symbol common_lisp (codes "PROGN")) (pair (enter_object p) (pair (base_object n) (pair (enter_table r) nil))) (lisp_there s.packages sound (codes "PROGN") is_progn.listed)
      (pair_there s.packages (enter_object p) (pair (base_object n) (pair (enter_table r) nil)) (call_there names s sound (codes "IN-PACKAGE") is_enter enter_more (text p ∷ []) (text p ∷ []) enter_arguments)
      (pair_there s.packages (base_object n) (pair (enter_table r) nil)
      (call_there names s sound (codes "SETF") is_setf base_more (symbol common_lisp (codes "*READ-BASE*") ∷ integer (pos n) ∷ []) (integer (pos s.read_base) ∷ integer (pos n) ∷ []) base_arguments)
      (pair_there s.packages (enter_table r) nil (call_there names s sound (codes "IN-READTABLE") is_enter_table table_more (table_form r ∷ []) (symbol keyword r ∷ []) table_arguments)
      (nil_there s.packages sound))))

  -- ---- it is accepted

  abbrev entered : WorldState
  entered = record s { current_package = p }

  abbrev based : WorldState
  based = with_base entered n

  base_value : value_by true names entered (base_object n) ≡ writes (integer (pos n)) based
  unfolding value_over
  base_value =
      let is : is_base n ≡ true = and_from (nat_le 2 n) (nat_le n 36) (le-leb 2 n lowest) (le-leb n 36 highest) in
      ap (λ (b : Bool). also false (option_map_or (λ base. writes (integer (pos n)) (with_base entered base)) (if b then Some n else None) (Err INTEGER_RANGE))) is

  table_value : value_by true names based (enter_table r) ≡ writes (symbol keyword r) (with_current s p n r)
  unfolding value_over
  table_value =
      ap (λ e. and_then e enter_readtable)
      (call_values names based sound table_more (table_form r ∷ []) (symbol keyword r ∷ [])
      (argument (value_text [] [] keyword r) (table_form r) (symbol keyword r) (codes ")") [] [] (table_is names based sound r named) no_argument))
      ∙ ap (λ (b : Bool). also false (value_after based (symbol keyword r) (if b then Ok (with_current s p n r) else Err NoReadtable))) is_table

  last_value : value_by true names s (last_object p n r) ≡ writes (symbol keyword r) (with_current s p n r)
  unfolding value_over
  last_value =
      let a = enter_object p in
      let b = base_object n in
      let c = enter_table r in
      let u = text p in
      let v = integer (pos n) in
      let w = symbol keyword r in
      let whole : values_by true names s (pair a (pair b (pair c nil))) ≡ writes (u ∷ v ∷ w ∷ []) (with_current s p n r)
      = (λ i. and_then (enter_value names s sound p is_package i) (λ y later. and_then (values_by true names later (pair b (pair c nil))) (λ ys end'. gives (y ∷ ys) end')))
      ∙ (λ i. also true (and_then (and_then (base_value i) (λ y later. and_then (values_by true names later (pair c nil)) (λ ys end'. gives (y ∷ ys) end'))) (λ ys end'. gives (u ∷ ys) end')))
      ∙ (λ i. also true (and_then (also true (and_then (and_then (table_value i) (λ y later. and_then (values_by true names later nil) (λ ys end'. gives (y ∷ ys) end'))) (λ ys end'. gives (v ∷ ys) end'))) (λ ys end'. gives (u ∷ ys) end'))) in
      ap (λ e. and_then e (λ xs later. gives (last xs) later)) whole

  last_accepted : transaction_value names s (last_object p n r) ≡ writes (symbol keyword r) (with_current s p n r)
  last_accepted = accepted_so names s sound (last_object p n r) (symbol keyword r) (with_current s p n r) refl last_there last_value

-- ---- both, of the state that is exported

module _ (functions : Functions) (first : WorldState) (whole : List ℕ) (s now : WorldState) (sound : packages.AreSoundPackages now.packages)
    (is_package : IsPackage now.packages s.current_package) (lowest : 2 ≤ s.read_base) (highest : s.read_base ≤ 36)
    (named : IsSymbol now.packages (keyword, s.current_readtable)) (is_table : IsTrue (finite.contains_key now.readtables s.current_readtable)) where
  pub last_made : (rest : List ℕ) → ReadsAsExported now → Makes functions first whole now (10 ∷ current_form s World ++ rest)
      → Makes functions first whole (with_current now s.current_package s.read_base s.current_readtable) rest
  last_made rest as_exported made =
      let p = s.current_package in
      let n = s.read_base in
      let r = s.current_readtable in
      let same : current_form s World ++ rest ≡ its_text functions.names now sound p n r is_package lowest highest named is_table ++ rest = ap (λ cs. cs ++ rest) (last_same s) in
      next_made functions first now whole (its_text functions.names now sound p n r is_package lowest highest named is_table) rest (last_object p n r)
      (record { value = symbol keyword r; state = with_current now p n r; wrote = true })
      (subst (λ cs. Makes functions first whole now (10 ∷ cs)) same made) as_exported
      (last_is_list functions.names now sound p n r is_package lowest highest named is_table rest)
      (last_accepted functions.names now sound p n r is_package lowest highest named is_table)
