-- The arguments of a call, each after a space: what is read of them, that their symbols are there, and what their values are.
--     IsArgument, AreArguments      one, and all of them with the end of the call
--     call_is_form, call_is_read, call_there, call_values      a call of them
--     accepted_so      a form by its value
use Rattle.std.proofs.Common.{◌≡◌, ℕ, ◌+◌, ◌*◌, ◌≤◌, true, false, List, [], ◌∷◌, ◌++◌, length, codes, Ok, refl, ap, ◌∙◌, arith}
use Rattle.std.proofs.lemmas.List.{length-append}
use Rattle.lisp_object.specs.Object.{Object, list_of, symbol}
use Rattle.package_table.specs.Symbols.{are_there, symbols}
use Rattle.package_table.specs.Table as packages
use Rattle.package_table.specs.Table.{Name, common_lisp, common_lisp_user}
use Rattle.plist_state.specs.State.{WorldState}
use Rattle.user_macros.specs.Functions.{no_functions}
use Rattle.lisp_operators.specs.Evaluation.{also, and_then, gives, writes}
use Rattle.evaluator.specs.Value.{value_by, values_by, value_over}
use Rattle.form_eval.specs.Acceptance.{accepted_by}
use Rattle.form_eval.proofs.KnownSymbols.{known_symbols}
use Rattle.lisp_reading.specs.declared.attempt.Found.TheVariants.{One as one}
use Rattle.prevalence_store.specs.meaning.Acceptance.{form_limits, transaction_value}
use Rattle.world_text.proofs.Begun.{begun}
use Rattle.text_laws.specs.Objects.{call}
use Rattle.export_laws.proofs.PackageText.{IsOperator, operator_read, room}
use Rattle.text_laws.proofs.PartsRead.{AreRead, IsRead, deeper, list_read, listed_is_read, no_more, one_more}
use Rattle.text_laws.proofs.There.{lisp_there, nil_there, pair_there}
use Rattle.prevalence_store.specs.meaning.Forgetting.{is_forgetting}
use Rattle.prevalence_store.proofs.meaning.Transactions.{not_forgetting}

-- The text is read as this list, whatever follows.
abbrev pub IsList : packages.Table → List ℕ → Object → Type 0
IsList t text x = (rest : List ℕ) → begun form_limits t common_lisp_user no_functions 100 0 (text ++ rest) ≡ Ok (one false x, length text, rest)

module _ (names : List Name) (s : WorldState) (sound : packages.AreSoundPackages s.packages) where
  -- the text is read as the object, of which nothing is missing, and its value changes nothing
  pub record IsArgument (text : List ℕ) (x v : Object) : Type 0 where
    pub read : IsRead form_limits s.packages no_functions sound (room s.packages sound) 1 text x
    pub there : are_there s.packages x ≡ true
    pub short : length text ≤ 10000
    pub value : value_by true names s x ≡ gives v s

  -- arguments, a space before each, and the closing parenthesis
  pub data AreArguments : List ℕ → List Object → List Object → Type 0 where
    no_argument : AreArguments (codes ")") [] []
    argument : (text : List ℕ) (x v : Object) (more : List ℕ) (xs vs : List Object) → IsArgument text x v → AreArguments more xs vs
        → AreArguments (32 ∷ text ++ more) (x ∷ xs) (v ∷ vs)

  all_read_in : (depth : ℕ) → 1 ≤ depth → (more : List ℕ) (xs vs : List Object) → AreArguments more xs vs → AreRead form_limits s.packages no_functions sound (room s.packages sound) depth more xs
  all_read_in depth deep _ _ _ no_argument = no_more
  all_read_in depth deep _ _ _ (argument text x v more xs vs is others) =
      one_more text x more xs (deeper form_limits s.packages no_functions sound (room s.packages sound) 1 depth text x is.read deep) (all_read_in depth deep more xs vs others)

  all_read : (more : List ℕ) (xs vs : List Object) → AreArguments more xs vs → AreRead form_limits s.packages no_functions sound (room s.packages sound) 1 more xs
  all_read = all_read_in 1 (omega arith)

  all_there : (more : List ℕ) (xs vs : List Object) → AreArguments more xs vs → are_there s.packages (list_of xs) ≡ true
  all_there _ _ _ no_argument = nil_there s.packages sound
  all_there _ _ _ (argument text x v more xs vs is others) = pair_there s.packages x (list_of xs) is.there (all_there more xs vs others)

  all_short : (more : List ℕ) (xs vs : List Object) → AreArguments more xs vs → length more ≤ 1 + 10001 * length xs
  all_short _ _ _ no_argument = omega arith
  all_short _ _ _ (argument text x v more xs vs is others) = omega (arith, is.short, all_short more xs vs others, length-append text more)

  pub call_values : (more : List ℕ) (xs vs : List Object) → AreArguments more xs vs → values_by true names s (list_of xs) ≡ gives vs s
  unfolding value_over
  call_values _ _ _ no_argument = refl
  call_values _ _ _ (argument text x v more xs vs is others) =
      (λ i. and_then (is.value i) (λ y later. and_then (values_by true names later (list_of xs)) (λ ys end'. gives (y ∷ ys) end')))
      ∙ (λ i. also false (and_then (call_values more xs vs others i) (λ ys end'. gives (v ∷ ys) end')))

  -- ---- a call

  module _ (operator : Name) (is : IsOperator operator) (more : List ℕ) (xs vs : List Object) (arguments : AreArguments more xs vs) where
    abbrev its_text : List ℕ
    its_text = 40 ∷ operator ++ more

    operator_is_read : IsRead form_limits s.packages no_functions sound (room s.packages sound) 1 operator (symbol common_lisp operator)
    operator_is_read = deeper form_limits s.packages no_functions sound (room s.packages sound) 0 1 operator (symbol common_lisp operator) (operator_read s.packages sound operator is) (omega arith)

    pub call_is_read : IsRead form_limits s.packages no_functions sound (room s.packages sound) 2 its_text (call operator xs)
    call_is_read =
        listed_is_read form_limits s.packages no_functions sound (room s.packages sound) 1 operator (symbol common_lisp operator) more xs operator_is_read (all_read more xs vs arguments)

    pub call_short : length its_text ≤ 42 + 10001 * length xs
    call_short = omega (arith, is.short, all_short more xs vs arguments, length-append operator more)

    pub call_is_list : length xs ≤ 4 → IsList s.packages its_text (call operator xs)
    call_is_list few rest =
        list_read form_limits s.packages no_functions sound (room s.packages sound) 1 operator (symbol common_lisp operator) more xs operator_is_read (all_read more xs vs arguments)
        100 0 rest (omega arith) (omega (arith, few, call_short))
        ∙ (λ i. Ok (one false (call operator xs), (let h : 0 + length its_text ≡ length its_text = omega arith in h) i, rest))

    pub call_there : are_there s.packages (call operator xs) ≡ true
    call_there =
        pair_there s.packages (symbol common_lisp operator) (list_of xs) (lisp_there s.packages sound operator is.listed) (all_there more xs vs arguments)

  -- ---- a call whose first argument is a place

  module _ (accessor : Name) (reaches : IsOperator accessor) (inner : List ℕ) (ys us : List Object) (subforms : AreArguments inner ys us)
      (operator : Name) (is : IsOperator operator) (more : List ℕ) (xs vs : List Object) (arguments : AreArguments more xs vs) where
    abbrev place_text : List ℕ
    place_text = 40 ∷ accessor ++ inner

    abbrev whole_text : List ℕ
    whole_text = 40 ∷ operator ++ (32 ∷ place_text ++ more)

    pub place_is_list : length ys ≤ 4 → length xs ≤ 4 → IsList s.packages whole_text (call operator (call accessor ys ∷ xs))
    place_is_list few some rest =
        list_read form_limits s.packages no_functions sound (room s.packages sound) 2 operator (symbol common_lisp operator) (32 ∷ place_text ++ more) (call accessor ys ∷ xs)
        (deeper form_limits s.packages no_functions sound (room s.packages sound) 0 2 operator (symbol common_lisp operator) (operator_read s.packages sound operator is) (omega arith))
        (one_more place_text (call accessor ys) more xs (call_is_read accessor reaches inner ys us subforms) (all_read_in 2 (omega arith) more xs vs arguments))
        100 0 rest (omega arith)
        (omega (arith, few, some, is.short, call_short accessor reaches inner ys us subforms, all_short more xs vs arguments, length-append operator (32 ∷ place_text ++ more), length-append place_text more))
        ∙ (λ i. Ok (one false (call operator (call accessor ys ∷ xs)), (let h : 0 + length whole_text ≡ length whole_text = omega arith in h) i, rest))

    pub place_there : are_there s.packages (call operator (call accessor ys ∷ xs)) ≡ true
    place_there =
        pair_there s.packages (symbol common_lisp operator) (list_of (call accessor ys ∷ xs)) (lisp_there s.packages sound operator is.listed)
        (pair_there s.packages (call accessor ys) (list_of xs) (call_there accessor reaches inner ys us subforms) (all_there more xs vs arguments))

  -- a form whose symbols are there, by its value
  pub accepted_so : (x v : Object) (later : WorldState) → is_forgetting x ≡ false → are_there s.packages x ≡ true → value_by true names s x ≡ writes v later → transaction_value names s x ≡ writes v later
  accepted_so x v later other there value =
      not_forgetting names s x other ∙ ap (λ r. accepted_by true names s r x) (known_symbols s.packages (symbols x) there) ∙ ap (also false) value
