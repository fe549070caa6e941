-- Lines that change one readtable, read one after the other while the standard one is current.
--     standard_reads      a state that reads so reads as exports are read
--     MadeTable      the readtable after the lines before
--     copied_made, case_made, like_made, macro_made, dispatching_made, sub_made      a line of each kind
use Rattle.std.proofs.Common.{◌≡◌, ℕ, ◌<◌, ◌≤◌, Bool, true, false, List, [], ◌∷◌, ◌++◌, length, codes, Some, IsTrue, refl, sym, ap, subst, ◌∙◌, arith}
use Rattle.std.specs.Prelude.{nat_le, unwrap_or}
use Rattle.std.specs.List.{list_all}
use Rattle.std.specs.Char.{is_ascii}
use Rattle.std.specs.FinMap as finite
use Rattle.std.proofs.lemmas.Bool.{and_parts, leb-true}
use Rattle.lisp_object.specs.Object.{Object, character, symbol}
use Rattle.readtable_core.specs.declared.table.Case.{Case}
use Rattle.readtable_core.specs.declared.table.Case.TheVariants.{Upcase, Downcase, Preserve, Invert}
use Rattle.readtable_core.specs.Cases.{case_name}
use Rattle.readtable_core.specs.Changes.{dispatching_entry, macro_entry, macro_syntax, with_character_entry, with_dispatch_function}
use Rattle.readtable_core.specs.Names.{is_function_name}
use Rattle.readtable_core.specs.Sound.{is_dispatching}
use Rattle.readtable_core.specs.Tables.{Table, entry_at, standard}
use Rattle.package_table.specs.Symbols.{are_there}
use Rattle.package_table.specs.Table as packages
use Rattle.package_table.specs.Table.{Name, common_lisp_names, keyword, keyword_names}
use Rattle.user_macros.specs.Functions.{Functions}
use Rattle.plist_state.specs.Sound.{IsSymbol}
use Rattle.plist_state.specs.State.{WorldState, standard_name}
use Rattle.lisp_operators.specs.Evaluation.{writes}
use Rattle.lisp_operators.specs.Properties.{t as t_object}
use Rattle.lisp_operators.specs.Readtables.{is_function}
use Rattle.evaluator.specs.Value.{value_by}
use Rattle.canon_printer.specs.Written.{printed_character}
use Rattle.snapshot_text.specs.BuiltWorlds.{CanBeMade, IsSubFunction, IsWritable, with_table}
use Rattle.snapshot_text.proofs.TableParts.{made_writable, table_twice}
use Rattle.world_forms.specs.Readtables.{like_line, set_case_line, kind_argument, macro_line, sub_line, table_argument, table_end}
use Rattle.world_forms.specs.NameTokens.{character_argument, keyword_argument, world_form_line, symbol_text, value_text}
use Rattle.text_laws.specs.Objects.{call}
use Rattle.export_laws.specs.ExportedTexts.{Makes, ReadsAsExported}
use Rattle.export_laws.proofs.OneForm.{one_more_made}
use Rattle.export_laws.proofs.PackageText.{IsOperator}
use Rattle.whole_export.specs.Standard.{ReadsStandard}
use Rattle.whole_export.proofs.Arguments.{AreArguments, IsArgument, IsList, accepted_so, argument, call_is_list, call_there, call_values, no_argument, place_is_list, place_there}
use Rattle.whole_export.proofs.ArgumentKinds.{character_is, flag, flag_is, flag_text, keyword_first, keyword_is, table_form, table_is}
use Rattle.whole_export.proofs.Joined.{after_1, after_3, after_4, case_same, left_5, name_last, right_5}
use Rattle.whole_export.proofs.Operators.{case_set, copy_made, dispatching_set, like_set, macro_set, sub_set}
use Rattle.prevalence_store.specs.meaning.Forgetting.{is_forgetting}

pub standard_reads : (s : WorldState) → ReadsStandard s → finite.get s.readtables standard_name ≡ Some standard → ReadsAsExported s
standard_reads s reads first = record {
  readtable = ap (λ name. unwrap_or (finite.get s.readtables name) standard) reads.current ∙ ap (λ o. unwrap_or o standard) first;
  base = reads.base;
  current = reads.user;
}

is_copy : IsOperator (codes "COPY-READTABLE")
unfolding common_lisp_names
is_copy = record { listed = refl; plain = refl; short = omega arith }

pub is_setf : IsOperator (codes "SETF")
unfolding common_lisp_names
is_setf = record { listed = refl; plain = refl; short = omega arith }

is_case : IsOperator (codes "READTABLE-CASE")
unfolding common_lisp_names
is_case = record { listed = refl; plain = refl; short = omega arith }

is_like : IsOperator (codes "SET-SYNTAX-FROM-CHAR")
unfolding common_lisp_names
is_like = record { listed = refl; plain = refl; short = omega arith }

is_macro : IsOperator (codes "SET-MACRO-CHARACTER")
unfolding common_lisp_names
is_macro = record { listed = refl; plain = refl; short = omega arith }

is_dispatch : IsOperator (codes "MAKE-DISPATCH-MACRO-CHARACTER")
unfolding common_lisp_names
is_dispatch = record { listed = refl; plain = refl; short = omega arith }

is_sub : IsOperator (codes "SET-DISPATCH-MACRO-CHARACTER")
unfolding common_lisp_names
is_sub = record { listed = refl; plain = refl; short = omega arith }

function_short : (f : Name) → IsTrue (is_function_name f) → length f ≤ 4000
function_short f is =
    let few : length f ≤ 32 = leb-true (length f) 32 (and_parts (nat_le (length f) 32) (list_all is_ascii f) is).0 in
    omega (arith, few)

kind_is : (b : Bool) → kind_argument (macro_syntax b) ≡ 32 ∷ flag_text b
kind_is true = refl
kind_is false = refl

-- the names of the cases are keywords from the first
case_first : (names : List Name) (s : WorldState) (sound : packages.AreSoundPackages s.packages) (k : Case)
    → IsArgument names s sound (symbol_text keyword (case_name k)) (symbol keyword (case_name k)) (symbol keyword (case_name k))
unfolding keyword_names
case_first names s sound Upcase = keyword_first names s sound (codes "UPCASE") refl (omega arith)
case_first names s sound Downcase = keyword_first names s sound (codes "DOWNCASE") refl (omega arith)
case_first names s sound Preserve = keyword_first names s sound (codes "PRESERVE") refl (omega arith)
case_first names s sound Invert = keyword_first names s sound (codes "INVERT") refl (omega arith)

pub standard_argument : (names : List Name) (s : WorldState) (sound : packages.AreSoundPackages s.packages) → IsArgument names s sound (codes ":STANDARD") (symbol keyword standard_name) (symbol keyword standard_name)
unfolding keyword_names symbol_text
standard_argument names s sound = keyword_first names s sound standard_name refl (omega arith)

module _ (functions : Functions) (first : WorldState) (whole : List ℕ) (base : WorldState) (sound : packages.AreSoundPackages base.packages) (reads : ReadsStandard base)
    (n : Name) (there : IsSymbol base.packages (keyword, n)) (can : CanBeMade base.readtables n) where
  abbrev now : Table → WorldState
  now t = with_table base n t

  -- the state with this readtable, after the lines before and the newline of the last of them
  abbrev pub MadeTable : Table → List ℕ → Type 0
  MadeTable t rest = Makes functions first whole (now t) (10 ∷ rest)

  abbrev Arguments : Table → List ℕ → List Object → List Object → Type 0
  Arguments t = AreArguments functions.names (now t) sound

  abbrev named : List ℕ
  named = name_last n

  -- ---- from a state that has none of the name, or an earlier one

  pub copied_made : (rest : List ℕ) → Makes functions first whole base (10 ∷ (codes "(COPY-READTABLE :STANDARD" ++ table_end n) ++ rest) → MadeTable standard rest
  copied_made rest made =
      let more = 32 ∷ codes ":STANDARD" ++ named in
      let xs = symbol keyword standard_name ∷ table_form n ∷ [] in
      let vs = symbol keyword standard_name ∷ symbol keyword n ∷ [] in
      let arguments : AreArguments functions.names base sound more xs vs
      = argument (codes ":STANDARD") (symbol keyword standard_name) (symbol keyword standard_name) named (table_form n ∷ []) (symbol keyword n ∷ []) (standard_argument functions.names base sound)
      (argument (value_text [] [] keyword n) (table_form n) (symbol keyword n) (codes ")") [] [] (table_is functions.names base sound n there) no_argument) in
      let text = 40 ∷ codes "COPY-READTABLE" ++ more in
      let x = call (codes "COPY-READTABLE") xs in
      let same : (codes "(COPY-READTABLE :STANDARD" ++ table_end n) ++ rest ≡ text ++ 10 ∷ rest = after_1 n rest (codes "(COPY-READTABLE :STANDARD") in
      one_more_made functions first base whole text rest x (record { value = symbol keyword n; state = now standard; wrote = true })
      (subst (λ cs. Makes functions first whole base (10 ∷ cs)) same made) (standard_reads base reads can.standard)
      (λ later. call_is_list functions.names base sound (codes "COPY-READTABLE") is_copy more xs vs arguments (omega arith) (10 ∷ later))
      (accepted_so functions.names base sound x (symbol keyword n) (now standard) refl (call_there functions.names base sound (codes "COPY-READTABLE") is_copy more xs vs arguments)
      (copy_made functions.names base n can (symbol keyword standard_name) (table_form n) (call_values functions.names base sound more xs vs arguments)))

  -- ---- from a state that has it

  module _ (t : Table) (many : length t.entries ≡ 128) where
    abbrev s : WorldState
    s = now t

    writable : IsWritable s.readtables n t
    writable = made_writable base n t can.other can.standard many

    step : (u : Table) (text rest : List ℕ) (x v : Object) → IsList base.packages text x → is_forgetting x ≡ false → are_there base.packages x ≡ true
        → value_by true functions.names s x ≡ writes v (with_table s n u) → MadeTable t (text ++ 10 ∷ rest) → MadeTable u rest
    step u text rest x v is other known value made =
        subst (λ w. Makes functions first whole w (10 ∷ rest)) (table_twice base n t u)
        (one_more_made functions first s whole text rest x (record { value = v; state = with_table s n u; wrote = true }) made
        (standard_reads s (record { current = reads.current; base = reads.base; user = reads.user }) writable.standard)
        (λ later. is (10 ∷ later)) (accepted_so functions.names s sound x v (with_table s n u) other known value))

    called : (operator : Name) → IsOperator operator → (more : List ℕ) (xs vs : List Object) → Arguments t more xs vs → length xs ≤ 4 → (u : Table) (rest : List ℕ)
        → value_by true functions.names s (call operator xs) ≡ writes t_object (with_table s n u) → MadeTable t ((40 ∷ operator ++ more) ++ 10 ∷ rest) → MadeTable u rest
    called operator is more xs vs arguments few u rest value made =
        step u (40 ∷ operator ++ more) rest (call operator xs) t_object (call_is_list functions.names s sound operator is more xs vs arguments few) refl
        (call_there functions.names s sound operator is more xs vs arguments) value made

    table_last : Arguments t named (table_form n ∷ []) (symbol keyword n ∷ [])
    table_last = argument (value_text [] [] keyword n) (table_form n) (symbol keyword n) (codes ")") [] [] (table_is functions.names s sound n there) no_argument

    character_first : (c : ℕ) → c < 128 → (more : List ℕ) (xs vs : List Object) → Arguments t more xs vs → Arguments t (32 ∷ printed_character c ++ more) (character c ∷ xs) (character c ∷ vs)
    character_first c below more xs vs others = argument (printed_character c) (character c) (character c) more xs vs (character_is functions.names s sound c below) others

    -- ---- its case

    pub case_made : (k : Case) (rest : List ℕ) → MadeTable t (set_case_line n (case_name k) ++ rest) → MadeTable (record t { letters = k }) rest
    case_made k rest made =
        let v = symbol keyword (case_name k) in
        let last = 32 ∷ symbol_text keyword (case_name k) ++ codes ")" in
        let named_case : Arguments t last (v ∷ []) (v ∷ []) = argument (symbol_text keyword (case_name k)) v v (codes ")") [] [] (case_first functions.names s sound k) no_argument in
        let text = 40 ∷ codes "SETF" ++ (32 ∷ (40 ∷ codes "READTABLE-CASE" ++ named) ++ last) in
        let place = call (codes "READTABLE-CASE") (table_form n ∷ []) in
        let same : set_case_line n (case_name k) ++ rest ≡ text ++ 10 ∷ rest = case_same n rest (case_name k) in
        step (record t { letters = k }) text rest (call (codes "SETF") (place ∷ v ∷ [])) v
        (place_is_list functions.names s sound (codes "READTABLE-CASE") is_case named (table_form n ∷ []) (symbol keyword n ∷ []) table_last (codes "SETF") is_setf last (v ∷ []) (v ∷ []) named_case (omega arith) (omega arith)) refl
        (place_there functions.names s sound (codes "READTABLE-CASE") is_case named (table_form n ∷ []) (symbol keyword n ∷ []) table_last (codes "SETF") is_setf last (v ∷ []) (v ∷ []) named_case)
        (case_set functions.names s n t writable k (table_form n) v (call_values functions.names s sound named (table_form n ∷ []) (symbol keyword n ∷ []) table_last)
        (call_values functions.names s sound last (v ∷ []) (v ∷ []) named_case))
        (subst (λ cs. MadeTable t cs) same made)

    -- ---- its characters

    pub like_made : (c d : ℕ) (rest : List ℕ) → c < 128 → d < 128 → MadeTable t (like_line n c d ++ rest) → MadeTable (with_character_entry t c (entry_at standard d)) rest
    unfolding like_line
    like_made c d rest below from made =
        let op = codes "SET-SYNTAX-FROM-CHAR" in
        let z = symbol keyword standard_name in
        let last = 32 ∷ codes ":STANDARD" ++ codes ")" in
        let third = 32 ∷ value_text [] [] keyword n ++ last in
        let second = 32 ∷ printed_character d ++ third in
        let more = 32 ∷ printed_character c ++ second in
        let xs = character c ∷ character d ∷ table_form n ∷ z ∷ [] in
        let vs = character c ∷ character d ∷ symbol keyword n ∷ z ∷ [] in
        let arguments : Arguments t more xs vs
        = character_first c below second (character d ∷ table_form n ∷ z ∷ []) (character d ∷ symbol keyword n ∷ z ∷ [])
        (character_first d from third (table_form n ∷ z ∷ []) (symbol keyword n ∷ z ∷ [])
        (argument (value_text [] [] keyword n) (table_form n) (symbol keyword n) last (z ∷ []) (z ∷ []) (table_is functions.names s sound n there)
        (argument (codes ":STANDARD") z z (codes ")") [] [] (standard_argument functions.names s sound) no_argument))) in
        let begins = codes "(SET-SYNTAX-FROM-CHAR" in
        let same : like_line n c d ++ rest ≡ (40 ∷ op ++ more) ++ 10 ∷ rest
        = left_5 begins (character_argument c) (character_argument d) (table_argument n) (world_form_line (codes " :STANDARD)")) rest
        ∙ sym (right_5 begins (character_argument c) (character_argument d) (table_argument n) (codes " :STANDARD)") (10 ∷ rest)) in
        called op is_like more xs vs arguments (omega arith) (with_character_entry t c (entry_at standard d)) rest
        (like_set functions.names s n t writable c d (character c) (character d) (table_form n) z (call_values functions.names s sound more xs vs arguments))
        (subst (λ cs. MadeTable t cs) same made)

    pub macro_made : (c : ℕ) (f : Name) (b : Bool) (rest : List ℕ) → c < 128 → IsTrue (is_function_name f) → IsSymbol base.packages (keyword, f) → is_function functions.names f ≡ true
        → MadeTable t (macro_line n c f (macro_syntax b) ++ rest) → MadeTable (with_character_entry t c (macro_entry f b)) rest
    unfolding macro_line
    macro_made c f b rest below is_name known may made =
        let op = codes "SET-MACRO-CHARACTER" in
        let third = 32 ∷ flag_text b ++ named in
        let second = 32 ∷ symbol_text keyword f ++ third in
        let more = 32 ∷ printed_character c ++ second in
        let y = symbol keyword f in
        let xs = character c ∷ y ∷ flag b ∷ table_form n ∷ [] in
        let vs = character c ∷ y ∷ flag b ∷ symbol keyword n ∷ [] in
        let arguments : Arguments t more xs vs
        = character_first c below second (y ∷ flag b ∷ table_form n ∷ []) (y ∷ flag b ∷ symbol keyword n ∷ [])
        (argument (symbol_text keyword f) y y third (flag b ∷ table_form n ∷ []) (flag b ∷ symbol keyword n ∷ []) (keyword_is functions.names s sound f known (function_short f is_name))
        (argument (flag_text b) (flag b) (flag b) named (table_form n ∷ []) (symbol keyword n ∷ []) (flag_is functions.names s sound b) table_last)) in
        let kind : macro_line n c f (macro_syntax b) ++ rest ≡ (codes "(SET-MACRO-CHARACTER" ++ (32 ∷ printed_character c) ++ (32 ∷ symbol_text keyword f) ++ (32 ∷ flag_text b) ++ table_end n) ++ rest
        = ap (λ cs. (codes "(SET-MACRO-CHARACTER" ++ (32 ∷ printed_character c) ++ (32 ∷ symbol_text keyword f) ++ cs ++ table_end n) ++ rest) (kind_is b) in
        let same : (codes "(SET-MACRO-CHARACTER" ++ (32 ∷ printed_character c) ++ (32 ∷ symbol_text keyword f) ++ (32 ∷ flag_text b) ++ table_end n) ++ rest ≡ (40 ∷ op ++ more) ++ 10 ∷ rest
        = after_4 n rest (codes "(SET-MACRO-CHARACTER") (character_argument c) (keyword_argument f) (32 ∷ flag_text b) in
        called op is_macro more xs vs arguments (omega arith) (with_character_entry t c (macro_entry f b)) rest
        (macro_set functions.names s n t writable c f b (character c) y (flag b) (table_form n) may (call_values functions.names s sound more xs vs arguments))
        (subst (λ cs. MadeTable t cs) (kind ∙ same) made)

    pub dispatching_made : (c : ℕ) (b : Bool) (rest : List ℕ) → c < 128
        → MadeTable t ((codes "(MAKE-DISPATCH-MACRO-CHARACTER" ++ (32 ∷ printed_character c) ++ kind_argument (macro_syntax b) ++ table_end n) ++ rest) → MadeTable (with_character_entry t c (dispatching_entry b)) rest
    dispatching_made c b rest below made =
        let op = codes "MAKE-DISPATCH-MACRO-CHARACTER" in
        let second = 32 ∷ flag_text b ++ named in
        let more = 32 ∷ printed_character c ++ second in
        let xs = character c ∷ flag b ∷ table_form n ∷ [] in
        let vs = character c ∷ flag b ∷ symbol keyword n ∷ [] in
        let arguments : Arguments t more xs vs
        = character_first c below second (flag b ∷ table_form n ∷ []) (flag b ∷ symbol keyword n ∷ [])
        (argument (flag_text b) (flag b) (flag b) named (table_form n ∷ []) (symbol keyword n ∷ []) (flag_is functions.names s sound b) table_last) in
        let kind : (codes "(MAKE-DISPATCH-MACRO-CHARACTER" ++ (32 ∷ printed_character c) ++ kind_argument (macro_syntax b) ++ table_end n) ++ rest
        ≡ (codes "(MAKE-DISPATCH-MACRO-CHARACTER" ++ (32 ∷ printed_character c) ++ (32 ∷ flag_text b) ++ table_end n) ++ rest
        = ap (λ cs. (codes "(MAKE-DISPATCH-MACRO-CHARACTER" ++ (32 ∷ printed_character c) ++ cs ++ table_end n) ++ rest) (kind_is b) in
        let same : (codes "(MAKE-DISPATCH-MACRO-CHARACTER" ++ (32 ∷ printed_character c) ++ (32 ∷ flag_text b) ++ table_end n) ++ rest ≡ (40 ∷ op ++ more) ++ 10 ∷ rest
        = after_3 n rest (codes "(MAKE-DISPATCH-MACRO-CHARACTER") (character_argument c) (32 ∷ flag_text b) in
        called op is_dispatch more xs vs arguments (omega arith) (with_character_entry t c (dispatching_entry b)) rest
        (dispatching_set functions.names s n t writable c b (character c) (flag b) (table_form n) (call_values functions.names s sound more xs vs arguments))
        (subst (λ cs. MadeTable t cs) (kind ∙ same) made)

    pub sub_made : (c sub : ℕ) (f : Name) (rest : List ℕ) → c < 128 → IsSubFunction base.packages sub f → is_function functions.names f ≡ true → is_dispatching (entry_at t c) ≡ true
        → MadeTable t (sub_line n c sub (Some f) ++ rest) → MadeTable (with_character_entry t c (with_dispatch_function (entry_at t c) sub f)) rest
    unfolding sub_line
    sub_made c sub f rest below is may dispatches made =
        let op = codes "SET-DISPATCH-MACRO-CHARACTER" in
        let third = 32 ∷ symbol_text keyword f ++ named in
        let second = 32 ∷ printed_character sub ++ third in
        let more = 32 ∷ printed_character c ++ second in
        let y = symbol keyword f in
        let xs = character c ∷ character sub ∷ y ∷ table_form n ∷ [] in
        let vs = character c ∷ character sub ∷ y ∷ symbol keyword n ∷ [] in
        let arguments : Arguments t more xs vs
        = character_first c below second (character sub ∷ y ∷ table_form n ∷ []) (character sub ∷ y ∷ symbol keyword n ∷ [])
        (character_first sub is.character third (y ∷ table_form n ∷ []) (y ∷ symbol keyword n ∷ [])
        (argument (symbol_text keyword f) y y named (table_form n ∷ []) (symbol keyword n ∷ []) (keyword_is functions.names s sound f is.named (function_short f is.name)) table_last)) in
        let same : sub_line n c sub (Some f) ++ rest ≡ (40 ∷ op ++ more) ++ 10 ∷ rest
        = after_4 n rest (codes "(SET-DISPATCH-MACRO-CHARACTER") (character_argument c) (character_argument sub) (keyword_argument f) in
        called op is_sub more xs vs arguments (omega arith) (with_character_entry t c (with_dispatch_function (entry_at t c) sub f)) rest
        (sub_set functions.names s n t writable c sub f (character c) (character sub) y (table_form n) may is dispatches (call_values functions.names s sound more xs vs arguments))
        (subst (λ cs. MadeTable t cs) same made)
