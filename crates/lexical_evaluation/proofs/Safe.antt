-- What is done with arguments of a sound state leaves a sound one, and a value that may be stored.
--     performed_safe, defined_safe, reader_safe, symbol_safe      operators, DEFUN, DEFINE-READER, symbols
--     body_is_value      the body of a function of the world
--     answered_holds      what a call answered
use Rattle.std.proofs.Common.{◌≡◌, pos, Bool, true, false, ◌&&◌, ◌||◌, if◌then◌else◌, cond, List, [], ◌∷◌, All, Option, Some, None, option_map, option_and_then, unwrap_or, Result, Ok, Err, IfOk, codes, bytes_eq, refl, sym, ap, subst, ◌∙◌}
use Rattle.std.specs.List.{list_all}
use Rattle.std.proofs.lemmas.Bool.{and_parts}
use Rattle.std.proofs.lemmas.List.Elements.{All-cons, All-nil}
use Rattle.lisp_object.specs.Ascii.{is_ascii}
use Rattle.lisp_object.specs.Object.{Object, integer, rational, character, text, symbol, uninterned, pair, vector, nil, is_nil, list_of}
use Rattle.lisp_object.specs.declared.refusal.TheConstants.{ARGUMENT_KIND, NAME_CONFLICT, NOT_A_FORM}
use Rattle.lisp_object.proofs.ProperLists.{nil_symbol}
use Rattle.lisp_object.proofs.Sound.{all_below}
use Rattle.package_table.specs.Table.{Name, Table, keyword}
use Rattle.package_table.proofs.Names.{same_some, none_some}
use Rattle.package_table.proofs.Frames.{equal_names}
use Rattle.plist_state.specs.Properties.{Symbol}
use Rattle.plist_state.specs.State.{WorldState}
use Rattle.plist_state.specs.Sound.{IsValue, IsSoundWorldState}
use Rattle.plist_state.specs.Changes.{property}
use Rattle.lisp_operators.specs.Evaluation.{Evaluation, gives, and_then}
use Rattle.lisp_operators.specs.EvaluationAnswers.{Answers, done, IsArgument, IsProperValue, IsAscii}
use Rattle.lisp_operators.specs.declared.error.EvaluationError.{EvaluationError}
use Rattle.lisp_operators.specs.declared.evaluated.Evaluated.{Evaluated}
use Rattle.lisp_operators.specs.Readtables.{AreFunctionNames, a_keyword_of}
use Rattle.lisp_operators.specs.Packages.{intern}
use Rattle.lisp_operators.specs.Properties.{set}
use Rattle.lisp_operators.proofs.Good.{Goods, IsGood, goods_here, goods_then, goods_kind, goods_if}
use Rattle.lisp_operators.proofs.Storable.{AreValues, symbol_is_value, nil_value, text_value, value_grown, value_parts}
use Rattle.lisp_operators.proofs.SoundProperties.{IsSafe, list_safe, get_safe, set_safe, remove_safe, symbol_plist_safe, increment_safe, push_safe, property_value}
use Rattle.lisp_operators.proofs.SoundPackages.{make_safe, intern_safe, export_safe, import_safe, use_safe}
use Rattle.lisp_operators.proofs.SoundReadtables.{case_safe, set_case_safe, copy_safe, enter_readtable_safe, set_syntax_safe, set_macro_safe, get_macro_safe, make_dispatch_safe, set_dispatch_safe, get_dispatch_safe}
use Rattle.lisp_operators.proofs.SoundBase.{set_base_safe, base_value}
use Rattle.lisp_operators.proofs.LookUpLaws.{look_up_safe}
use Rattle.lisp_operators.proofs.PlaceLaws.{change_safe}
use Rattle.value_functions.specs.Sequences.{items_of}
use Rattle.evaluator.specs.Operators.{pazturrok, is_standard}
use Rattle.evaluator.specs.Operations.{has_default_at}
use Rattle.evaluator.specs.Value.{symbol_value, is_base_by}
use Rattle.evaluator.specs.declared.operation.Operation.{Operation}
use Rattle.evaluator.specs.declared.operation.Operation.TheVariants.{Quote, Progn, If, MakeList, Get, Setf, Remprop, SymbolPlist, Incf, Push, MakePackage, InPackage, Export, Import, UsePackage, Intern, CopyReadtable, InReadtable, SetSyntaxFromChar, SetMacroCharacter, GetMacroCharacter, MakeDispatchMacroCharacter, SetDispatchMacroCharacter, GetDispatchMacroCharacter, ReadtableCase, Computes, Decides, LooksUp, Changes}
use Rattle.evaluator.specs.declared.place.PlaceForm.{PlaceForm}
use Rattle.evaluator.specs.declared.place.PlaceForm.TheVariants.{Property, PropertyOr, Case, ReadBase}
use Rattle.evaluator.proofs.FunctionLaws.{computed_safe}
use Rattle.kept_functions.specs.Environments.{variables_of}
use Rattle.kept_functions.specs.Definitions.{Definition, definition_among, definition_of, definition_indicator, is_definable, function_in, own_indicator, with_definition_indicator, kept_beside, a_definable, defun_value}
use Rattle.kept_functions.specs.ReaderFunctions.{own_reader_name, reader_definition_of, reader_indicator, reader_defined}
use Rattle.lexical_evaluation.specs.declared.machine.Machine.{Machine}
use Rattle.lexical_evaluation.specs.Ways.{performed}
use Rattle.lexical_evaluation.specs.Arguments.{IsMachineOf}
use Rattle.lexical_evaluation.proofs.Handing.{machine_grown}

-- ---- operators
set_at_safe : (names : List Name) (place : PlaceForm) → IsSafe (performed names Setf place)
set_at_safe names Property = set_safe
set_at_safe names PropertyOr = set_safe
set_at_safe names Case = set_case_safe
set_at_safe names ReadBase = set_base_safe

module _ (names : List Name) (all : AreFunctionNames names) (place : PlaceForm) where
  pub performed_safe : (operation : Operation) → IsSafe (performed names operation place)
  performed_safe MakeList = list_safe
  performed_safe (Computes function) = computed_safe function
  performed_safe Get = get_safe
  performed_safe Setf = set_at_safe names place
  performed_safe Remprop = remove_safe
  performed_safe SymbolPlist = symbol_plist_safe
  performed_safe Incf = increment_safe
  performed_safe Push = push_safe
  performed_safe MakePackage = make_safe
  performed_safe Export = export_safe
  performed_safe Import = import_safe
  performed_safe UsePackage = use_safe
  performed_safe Intern = intern_safe
  performed_safe CopyReadtable = copy_safe
  performed_safe InReadtable = enter_readtable_safe
  performed_safe SetSyntaxFromChar = set_syntax_safe
  performed_safe SetMacroCharacter = set_macro_safe names all
  performed_safe GetMacroCharacter = get_macro_safe
  performed_safe MakeDispatchMacroCharacter = make_dispatch_safe
  performed_safe SetDispatchMacroCharacter = set_dispatch_safe names all
  performed_safe GetDispatchMacroCharacter = get_dispatch_safe
  performed_safe ReadtableCase = case_safe
  performed_safe (LooksUp operator) = look_up_safe operator
  performed_safe (Changes operator) = change_safe operator (has_default_at place)
  performed_safe Quote = λ xs s sound are. record { good = tt }
  performed_safe Progn = λ xs s sound are. record { good = tt }
  performed_safe If = λ xs s sound are. record { good = tt }
  performed_safe InPackage = λ xs s sound are. record { good = tt }
  performed_safe (Decides decision) = λ xs s sound are. record { good = tt }

-- ---- DEFUN and DEFINE-READER
indicator_is : (i : Symbol) (x : Object) (own : Symbol) → own_indicator i x ≡ Some own → x ≡ symbol own.0 own.1
indicator_is i (symbol h n) own is = given (bytes_eq h i.0 && bytes_eq n i.1) refl is
  where
    given : (b : Bool) → (bytes_eq h i.0 && bytes_eq n i.1) ≡ b → cond b (Some i) None ≡ Some own → symbol h n ≡ symbol own.0 own.1
    given true same some =
        let both = and_parts (bytes_eq h i.0) (bytes_eq n i.1) same in
        ap (λ k. symbol k n) (equal_names h i.0 both.0) ∙ ap (symbol i.0) (equal_names n i.1 both.1) ∙ ap (λ (y : Symbol). symbol y.0 y.1) (same_some i own some)
    given false same none = absurd (none_some own none)
indicator_is i (integer n) own is = absurd (none_some own is)
indicator_is i (rational n d) own is = absurd (none_some own is)
indicator_is i (character c) own is = absurd (none_some own is)
indicator_is i (text b) own is = absurd (none_some own is)
indicator_is i (uninterned n) own is = absurd (none_some own is)
indicator_is i (pair a b) own is = absurd (none_some own is)
indicator_is i (vector xs) own is = absurd (none_some own is)

goods_indicator : (s : WorldState) (o : Option Symbol) (on : Symbol → Evaluation Object) → ((own : Symbol) → o ≡ Some own → Goods IsValue s (on own)) → Goods IsValue s (with_definition_indicator o on)
goods_indicator s (Some i) on each = each i refl
goods_indicator s None on each = record { good = tt }

three_values : (u : Table) (x y z : Object) → IsValue u x → IsValue u y → IsValue u z → AreValues u (x ∷ y ∷ z ∷ [])
three_values u x y z first second third = All-cons (IsValue u) x (y ∷ z ∷ []) first (All-cons (IsValue u) y (z ∷ []) second (All-cons (IsValue u) z [] third (All-nil (IsValue u))))

two_texts : (u : Table) (i : Symbol) → IsAscii i.0 → IsAscii i.1 → AreValues u (text i.1 ∷ text i.0 ∷ [])
two_texts u i home name =
    All-cons (IsValue u) (text i.1) (text i.0 ∷ []) (text_value u i.1 (all_below i.1 name)) (All-cons (IsValue u) (text i.0) [] (text_value u i.0 (all_below i.0 home)) (All-nil (IsValue u)))

kept_safe : (s : WorldState) (i : Symbol) (name definition : Object) → IsSoundWorldState s → IsAscii i.0 → IsAscii i.1 → IsValue s.packages name → IsValue s.packages definition → Goods IsValue s (kept_beside i name definition s)
kept_safe s i name definition sound home own_name named defined =
    goods_then IsValue IsValue s (intern (text i.1 ∷ text i.0 ∷ []) s) _ (intern_safe (text i.1 ∷ text i.0 ∷ []) s sound (two_texts s.packages i home own_name)) (λ found later still grows is.
    goods_indicator later (own_indicator i found) _ (λ own e.
    goods_then IsValue IsValue later (set (name ∷ symbol own.0 own.1 ∷ definition ∷ []) later) _
    (set_safe (name ∷ symbol own.0 own.1 ∷ definition ∷ []) later still
    (three_values later.packages name (symbol own.0 own.1) definition (value_grown s.packages later.packages grows name named) (subst (IsValue later.packages) (indicator_is i found own e) is) (value_grown s.packages later.packages grows definition defined)))
    (λ stored end' sound_end grows_end is_stored.
    goods_here IsValue end' name false sound_end (value_grown later.packages end'.packages grows_end name (value_grown s.packages later.packages grows name named)))))

pub defined_safe : (s : WorldState) (name definition : Object) → IsSoundWorldState s → IsValue s.packages name → IsValue s.packages definition → Goods IsValue s (defun_value name definition s)
defined_safe s name definition sound named defined =
    goods_kind IsValue s (a_definable name) _ (λ _ _. goods_kind IsValue s (definition_of definition) _ (λ _ _. kept_safe s definition_indicator name definition sound refl refl named defined))

pub reader_safe : (s : WorldState) (x : Object) → IsSoundWorldState s → IsValue s.packages x → Goods IsValue s (reader_defined x s)
reader_safe s (pair name definition) sound is =
    let parts = value_parts s.packages name definition is in
    goods_kind IsValue s (own_reader_name name) _ (λ _ _. goods_kind IsValue s (reader_definition_of definition) _ (λ _ _. kept_safe s reader_indicator name definition sound refl refl parts.0 parts.1))
reader_safe s (integer n) sound is = record { good = tt }
reader_safe s (rational n d) sound is = record { good = tt }
reader_safe s (character c) sound is = record { good = tt }
reader_safe s (text b) sound is = record { good = tt }
reader_safe s (symbol h n) sound is = record { good = tt }
reader_safe s (uninterned n) sound is = record { good = tt }
reader_safe s (vector xs) sound is = record { good = tt }

-- ---- a symbol
module _ (s : WorldState) (h n : Name) where
  abbrev base_or : Evaluation Object
  base_or = if is_base_by true (symbol h n) then gives (integer (pos s.read_base)) s else Err NOT_A_FORM

  abbrev readtable_or : Evaluation Object
  readtable_or = if is_standard (codes "*READTABLE*") (symbol h n) then gives (a_keyword_of s.current_readtable) s else base_or

  abbrev package_or : Evaluation Object
  package_or = if is_standard (codes "*PACKAGE*") (symbol h n) then gives (text s.current_package) s else readtable_or

  base_safe : IsSoundWorldState s → Goods IsValue s base_or
  base_safe sound =
      goods_if IsValue s (is_base_by true (symbol h n)) (gives (integer (pos s.read_base)) s) (Err NOT_A_FORM)
      (λ _. goods_here IsValue s (integer (pos s.read_base)) false sound (base_value s.packages s.read_base sound.highest_base)) (λ _. record { good = tt })

  readtable_safe : IsSoundWorldState s → Goods IsValue s readtable_or
  readtable_safe sound =
      goods_if IsValue s (is_standard (codes "*READTABLE*") (symbol h n)) (gives (a_keyword_of s.current_readtable) s) base_or
      (λ _. goods_here IsValue s (a_keyword_of s.current_readtable) false sound (symbol_is_value s.packages keyword s.current_readtable sound.packages (sound.readtables.names s.current_readtable sound.current_readtable)))
      (λ _. base_safe sound)

  package_safe : IsSoundWorldState s → Goods IsValue s package_or
  package_safe sound =
      goods_if IsValue s (is_standard (codes "*PACKAGE*") (symbol h n)) (gives (text s.current_package) s) readtable_or
      (λ _. goods_here IsValue s (text s.current_package) false sound (text_value s.packages s.current_package (sound.packages.within.package_names s.current_package sound.current_package).ascii))
      (λ _. readtable_safe sound)

  pub symbol_safe : IsSoundWorldState s → IsValue s.packages (symbol h n) → Goods IsValue s (symbol_value h n s)
  symbol_safe sound is =
      goods_if IsValue s ((bytes_eq h keyword || is_standard (codes "T") (symbol h n)) || is_standard (codes "NIL") (symbol h n)) (gives (symbol h n) s) package_or
      (λ _. goods_here IsValue s (symbol h n) false sound is) (λ _. package_safe sound)

-- ---- functions of the world
pair_listed : (a b : Object) (o : Option (List Object)) (xs : List Object) → ((ys : List Object) → o ≡ Some ys → b ≡ list_of ys) → option_map (λ ys. a ∷ ys) o ≡ Some xs → pair a b ≡ list_of xs
pair_listed a b None xs each is = absurd (none_some xs is)
pair_listed a b (Some ys) xs each is = ap (pair a) (each ys refl) ∙ ap list_of (same_some (a ∷ ys) xs is)

listed_is : (x : Object) (xs : List Object) → items_of x ≡ Some xs → x ≡ list_of xs
listed_is (pair a b) xs is = pair_listed a b (items_of b) xs (λ ys same. listed_is b ys same) is
listed_is (symbol h n) xs is = given (is_nil h n) refl is
  where
    given : (b : Bool) → is_nil h n ≡ b → cond b (Some []) None ≡ Some xs → symbol h n ≡ list_of xs
    given true same some = nil_symbol h n same ∙ ap list_of (same_some [] xs some)
    given false same none = absurd (none_some xs none)
listed_is (integer n) xs is = absurd (none_some xs is)
listed_is (rational n d) xs is = absurd (none_some xs is)
listed_is (character c) xs is = absurd (none_some xs is)
listed_is (text b) xs is = absurd (none_some xs is)
listed_is (uninterned n) xs is = absurd (none_some xs is)
listed_is (vector ys) xs is = absurd (none_some xs is)

module _ (u : Table) (d : Definition) where
  among_value : (xs : List Object) → definition_among xs ≡ Some d → IsValue u (list_of xs) → IsValue u d.body
  among_value [] is value = absurd (none_some d is)
  among_value (v ∷ forms) is value = given (variables_of v) is
    where
      given : (o : Option (List Symbol)) → option_map (λ vs. record { variables = vs; body = list_of forms }) o ≡ Some d → IsValue u d.body
      given None none = absurd (none_some d none)
      given (Some vs) some = subst (λ (k : Definition). IsValue u k.body) (same_some (record { variables = vs; body = list_of forms }) d some) (value_parts u v (list_of forms) value).1

  definition_value : (x : Object) → definition_of x ≡ Some d → IsValue u x → IsValue u d.body
  definition_value x is value = given (items_of x) refl is
    where
      given : (o : Option (List Object)) → items_of x ≡ o → option_and_then definition_among o ≡ Some d → IsValue u d.body
      given None same none = absurd (none_some d none)
      given (Some xs) same some = among_value xs some (subst (IsValue u) (listed_is x xs same) value)

pub body_is_value : (s : WorldState) (x : Symbol) (d : Definition) → IsSoundWorldState s → Some d ≡ function_in s x → IsValue s.packages d.body
body_is_value s x d sound found = definable (is_definable x) (sym found)
  where
    there : (o : Option Object) → property s x definition_indicator ≡ o → option_and_then definition_of o ≡ Some d → IsValue s.packages d.body
    there None same none = absurd (none_some d none)
    there (Some v) same some =
        definition_value s.packages d v some (subst (λ o. IsValue s.packages (unwrap_or o nil)) same (property_value s x definition_indicator nil sound (nil_value s.packages sound.packages)))

    definable : (b : Bool) → cond b (option_and_then definition_of (property s x definition_indicator)) None ≡ Some d → IsValue s.packages d.body
    definable true some = there (property s x definition_indicator) refl some
    definable false none = absurd (none_some d none)

-- ---- what a call answered that was safe
module _ (m : Machine) (s t : WorldState) (o : Evaluation Object) (safe : Goods IsValue s o) (hand : IsMachineOf s.packages m) where
  pub answered_holds : (result : Result Evaluated EvaluationError) → Answers done result t o → IfOk result IsProperValue → IfOk result (λ e. IsMachineOf t.packages m × IsArgument t.packages e.value)
  answered_holds (Ok e) is proper =
      let good : IsGood IsValue s (done e t) = (subst (Goods IsValue s) is safe).good in
      (machine_grown s.packages t.packages good.grows m good.sound.packages hand, record { proper = proper; value = good.value })
  answered_holds (Err error) is proper = tt
