-- Parts of values that may be stored, and what is made of them.
--     reverse_all      what holds of each element of a list holds of each of the list backwards
--     sequence_parts, vector_parts      the items of a value that is a sequence, or a vector
--     reversed_parts, without_parts, sequence_value      a sequence that is made of them
--     vector_value, appended_built, made_value      what VECTOR and APPEND build
use Rattle.std.proofs.Common.{◌≡◌, ◌≤◌, ◌<◌, ◌+◌, ◌==◌, ℕ, true, false, cond, not, max, List, [], ◌∷◌, All, reverse, Option, Some, None, option_map, Ok, Err, refl, subst, arith}
use mathlib.Core.List.{reverse_aux}
use Rattle.std.proofs.lemmas.List.Elements.{All-nil, All-cons, All-head, All-tail, All-filter, All-weaker}
use Rattle.lisp_object.specs.Object as object
use Rattle.lisp_object.specs.Object.{Object, integer, rational, character, text, symbol, uninterned, pair, vector, nil, is_nil, is_proper_list, list_of, AllAtoms, object_depth, depth_along}
use Rattle.package_table.specs.Table as packages
use Rattle.package_table.proofs.Names.{same_some, none_some}
use Rattle.plist_state.specs.Sound.{IsSymbolStorable, IsValue}
use Rattle.lisp_operators.specs.ArgumentKinds.{a_character}
use Rattle.lisp_operators.proofs.Storable.{AreValues, nil_value, text_value}
use Rattle.value_functions.specs.FunctionAnswers.{FunctionValue, then_value}
use Rattle.value_functions.specs.Equality.{is_eql}
use Rattle.value_functions.specs.Sequences.{Sequence, list, items, characters, items_of, a_sequence, a_vector, object_of_sequence, reversed, other_characters, without}
use Rattle.value_functions.specs.Building.{followed_by, appended_lists}

-- P holds of each element of the list backwards, and of what comes after
onto_all : {X : Type 0} (P : X → Type 0) (xs ys : List X) → All P xs → All P ys → All P (reverse_aux xs ys)
onto_all P [] ys these those = those
onto_all P (x ∷ xs) ys these those = onto_all P xs (x ∷ ys) (All-tail P x xs these) (All-cons P x ys (All-head P x xs these) those)

pub reverse_all : {X : Type 0} (P : X → Type 0) (xs : List X) → All P xs → All P (reverse xs)
reverse_all P xs are = onto_all P xs [] are (All-nil P)

module _ (u : packages.Table) where
  -- sound, of any depth, and its symbols are there
  pub record IsMadeOf (x : Object) : Type 0 where
    pub object : object.IsSound x
    pub symbols : AllAtoms (IsSymbolStorable u) x

  -- a value that fits into a list of depth at most 100
  pub record IsItem (x : Object) : Type 0 where
    pub value : IsValue u x
    pub shallow : object_depth x ≤ 99

  made_of : (x : Object) → IsValue u x → IsMadeOf x
  made_of x is = record { object = is.object; symbols = is.symbols }

  pub made_value : (x : Object) → IsMadeOf x → object_depth x ≤ 100 → IsValue u x
  made_value x made within = record { object = made.object; depth = within; symbols = made.symbols }

  made_parts : (a b : Object) → IsMadeOf (pair a b) → IsMadeOf a × IsMadeOf b
  made_parts a b made = (record { object = made.object.0; symbols = made.symbols.0 }, record { object = made.object.1; symbols = made.symbols.1 })

  made_pair : (a b : Object) → IsMadeOf a → IsMadeOf b → IsMadeOf (pair a b)
  made_pair a b first second = record { object = (first.object, second.object); symbols = (first.symbols, second.symbols) }

  -- ---- the items
  left_within : (a b c : ℕ) → max a b ≤ c → a ≤ c
  left_within a b c e = grind (arith, e)

  right_within : (a b c : ℕ) → max a b ≤ c → b ≤ c
  right_within a b c e = grind (arith, e)

  both_within : (a b c : ℕ) → a ≤ c → b ≤ c → max a b ≤ c
  both_within a b c e f = grind (arith, e, f)

  item_of : (x : Object) → IsMadeOf x → object_depth x ≤ 99 → IsItem x
  item_of x made shallow = record { value = made_value x made (omega (arith, shallow)); shallow = shallow }

  mapped : {A B : Type 0} (f : A → B) (o : Option A) (y : B) → option_map f o ≡ Some y → (x : A) × (o ≡ Some x) × (f x ≡ y)
  mapped f (Some x) y e = (x, refl, same_some (f x) y e)
  mapped f None y e = absurd (none_some y e)

  items_parts : (x : Object) (xs : List Object) → items_of x ≡ Some xs → IsMadeOf x → depth_along x ≤ 99 → All IsItem xs
  items_parts (pair a b) xs e made within =
      let parts = made_parts a b made in
      let found = mapped (λ ys. a ∷ ys) (items_of b) xs e in
      subst (All IsItem) found.2
      (All-cons IsItem a found.0 (item_of a parts.0 (left_within (object_depth a) (depth_along b) 99 within))
      (items_parts b found.0 found.1 parts.1 (right_within (object_depth a) (depth_along b) 99 within)))
  items_parts (symbol home name) xs e made within =
      elim (is_nil home name) as (λ b. cond b (Some []) None ≡ Some xs → All IsItem xs) [
        | true ↦ λ none. subst (All IsItem) (same_some [] xs none) (All-nil IsItem)
        | false ↦ λ no. absurd (none_some xs no)
      ] e
  items_parts _ xs e made within = absurd (none_some xs e)

  pub vector_parts : (x : Object) (xs : List Object) → a_vector x ≡ Some xs → IsValue u x → All IsItem xs
  vector_parts (vector x) xs e is = items_parts x xs e (record { object = is.object.0; symbols = is.symbols }) (omega (arith, is.depth))
  vector_parts _ xs e is = absurd (none_some xs e)

  -- items of a list or a vector, and characters
  abbrev IsOfValues : Sequence → Type 0
  IsOfValues (list xs) = All IsItem xs
  IsOfValues (items xs) = All IsItem xs
  IsOfValues (characters cs) = All (λ c. c < 128) cs

  pub sequence_parts : (x : Object) (s : Sequence) → a_sequence x ≡ Some s → IsValue u x → IsOfValues s
  sequence_parts (text cs) s e is = subst IsOfValues (same_some (characters cs) s e) is.object
  sequence_parts (vector x) s e is =
      let found = mapped items (items_of x) s e in
      subst IsOfValues found.2 (vector_parts (vector x) found.0 found.1 is)
  sequence_parts (pair a b) s e is =
      let found = mapped list (items_of (pair a b)) s e in
      subst IsOfValues found.2 (items_parts (pair a b) found.0 found.1 (made_of (pair a b) is) (omega (arith, is.depth)))
  sequence_parts (symbol home name) s e is =
      let found = mapped list (items_of (symbol home name)) s e in
      subst IsOfValues found.2 (items_parts (symbol home name) found.0 found.1 (made_of (symbol home name) is) (omega arith))
  sequence_parts _ s e is = absurd (none_some s e)

  pub reversed_parts : (s : Sequence) → IsOfValues s → IsOfValues (reversed s)
  reversed_parts (list xs) are = reverse_all IsItem xs are
  reversed_parts (items xs) are = reverse_all IsItem xs are
  reversed_parts (characters cs) are = reverse_all (λ c. c < 128) cs are

  characters_left : (o : Option ℕ) (cs : List ℕ) → All (λ c. c < 128) cs → All (λ c. c < 128) (other_characters o cs)
  characters_left (Some c) cs are = All-filter (λ d. not (c == d)) (λ c. c < 128) cs are
  characters_left None cs are = are

  pub without_parts : (x : Object) (s : Sequence) → IsOfValues s → IsOfValues (without x s)
  without_parts x (list xs) are = All-filter (λ y. not (is_eql x y)) IsItem xs are
  without_parts x (items xs) are = All-filter (λ y. not (is_eql x y)) IsItem xs are
  without_parts x (characters cs) are = characters_left (a_character x) cs are

  -- ---- what is made of them
  abbrev IsBuiltValue : FunctionValue → Type 0
  IsBuiltValue (Ok x) = IsMadeOf x
  IsBuiltValue (Err code) = Unit {0}

  -- where it is a value, it is made of values, and may be deeper
  pub record IsBuilt (v : FunctionValue) : Type 0 where
    pub built : IsBuiltValue v

  joined_built : (x : Object) (v : FunctionValue) → IsMadeOf x → IsBuilt v → IsBuilt (then_value v (λ joined. Ok (pair x joined)))
  joined_built x (Ok rest) first second = record { built = made_pair x rest first second.built }
  joined_built x (Err code) first second = record { built = tt }

  followed_built : (x end : Object) → IsMadeOf x → IsMadeOf end → IsBuilt (followed_by x end)
  followed_built (pair a b) end first second =
      let parts = made_parts a b first in
      joined_built a (followed_by b end) parts.0 (followed_built b end parts.1 second)
  followed_built (symbol home name) end first second =
      elim (is_nil home name) as (λ b. IsBuilt (cond b (Ok end) (Err 33))) [ true ↦ record { built = second } | false ↦ record { built = tt } ]
  followed_built _ end first second = record { built = tt }

  then_built : (x : Object) (v : FunctionValue) → IsMadeOf x → IsBuilt v → IsBuilt (then_value v (followed_by x))
  then_built x (Ok end) first second = followed_built x end first second.built
  then_built x (Err code) first second = record { built = tt }

  module _ (sound : packages.AreSoundPackages u) where
    made_list : (xs : List Object) → AreValues u xs → IsMadeOf (list_of xs)
    made_list [] are = made_of nil (nil_value u sound)
    made_list (x ∷ xs) are = made_pair x (list_of xs) (made_of x (All-head (IsValue u) x xs are)) (made_list xs (All-tail (IsValue u) x xs are))

    list_proper : (xs : List Object) → is_proper_list (list_of xs) ≡ true
    list_proper [] = refl
    list_proper (x ∷ xs) = list_proper xs

    pub vector_value : (xs : List Object) → AreValues u xs → object_depth (vector (list_of xs)) ≤ 100 → IsValue u (vector (list_of xs))
    vector_value xs are within =
        let made = made_list xs are in
        record { object = (made.object, list_proper xs); depth = within; symbols = made.symbols }

    along_items : (xs : List Object) → All IsItem xs → depth_along (list_of xs) ≤ 99
    along_items [] are = omega arith
    along_items (x ∷ xs) are =
        both_within (object_depth x) (depth_along (list_of xs)) 99 (All-head IsItem x xs are).shallow (along_items xs (All-tail IsItem x xs are))

    items_values : (xs : List Object) → All IsItem xs → AreValues u xs
    items_values xs are = All-weaker IsItem (IsValue u) (λ x is. is.value) xs are

    list_depth : (xs : List Object) → object_depth (list_of xs) ≤ depth_along (list_of xs) + 1
    list_depth [] = omega arith
    list_depth (x ∷ xs) = omega arith

    pub sequence_value : (s : Sequence) → IsOfValues s → IsValue u (object_of_sequence s)
    sequence_value (list xs) are = made_value (list_of xs) (made_list xs (items_values xs are)) (omega (arith, list_depth xs, along_items xs are))
    sequence_value (items xs) are = vector_value xs (items_values xs are) (omega (arith, along_items xs are))
    sequence_value (characters cs) are = text_value u cs are

    pub appended_built : (xs : List Object) → AreValues u xs → IsBuilt (appended_lists xs)
    appended_built [] are = record { built = made_of nil (nil_value u sound) }
    appended_built (x ∷ []) are = record { built = made_of x (All-head (IsValue u) x [] are) }
    appended_built (x ∷ y ∷ ys) are =
        then_built x (appended_lists (y ∷ ys)) (made_of x (All-head (IsValue u) x (y ∷ ys) are)) (appended_built (y ∷ ys) (All-tail (IsValue u) x (y ∷ ys) are))
