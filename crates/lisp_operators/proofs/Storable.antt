-- Values that may be stored.
--     symbol_value, t_value, nil_value, keyword_value, text_value      of symbols that are there, and of texts
--     value_grown, values_grown      where the packages have grown
--     value_parts, list_value      parts of a pair, and lists
--     symbol_kind, symbols_kind, name_kind, text_kind, keyword_kind, character_kind      what an argument of each kind stands for
use Rattle.std.proofs.Common.{◌≡◌, ℕ, ◌+◌, ◌<◌, ◌≤◌, max, true, false, cond, List, [], ◌∷◌, map, All, Option, Some, None, option_map, option_and_then, codes, bytes_eq, is_some, IsTrue, refl, ap, subst, ◌∙◌, arith}
use Rattle.std.specs.FinMap as finite
use Rattle.std.specs.FinMap.{get-from_entries}
use Rattle.std.proofs.lemmas.List.Elements.{All-weaker, All-cons, All-nil, All-head, All-tail}
use Rattle.lisp_object.specs.Object as object
use Rattle.lisp_object.specs.Object.{Object, integer, rational, character, text, symbol, uninterned, pair, vector, nil, is_nil, list_of, AllAtoms, object_depth, depth_along}
use Rattle.lisp_object.proofs.Atoms.{atoms_weaker}
use Rattle.lisp_object.proofs.Sound.{sound_nil}
use Rattle.package_table.specs.Table as packages
use Rattle.package_table.specs.Table.{Name, Present, Package, common_lisp, common_lisp_names, common_lisp_package, keyword, IsPresent}
use Rattle.package_table.specs.Growth.{Grows}
use Rattle.package_table.proofs.Names.{name_total, same_some, none_some}
use Rattle.package_table.proofs.Frames.{equal_names}
use Rattle.plist_state.specs.Properties.{Symbol}
use Rattle.plist_state.specs.Sound.{IsSymbol, IsSymbolStorable, IsValue}
use Rattle.lisp_operators.specs.ArgumentKinds.{a_symbol, a_name, a_text, a_keyword, a_character, each_of, one_or_each}
use Rattle.lisp_operators.specs.Properties.{t}

-- ---- symbols and texts
at_home : Present
at_home = record { home = common_lisp; external = true }

lisp_present : (u : packages.Table) → packages.AreSoundPackages u → (n : Name) → option_map (λ (e : Present). e.home) (finite.get common_lisp_package.symbols n) ≡ Some common_lisp → IsPresent u common_lisp n common_lisp
lisp_present u sound n there =
    ap (λ (o : Option Package). option_map (λ (e : Present). e.home) (option_and_then (λ (k : Package). finite.get k.symbols n) o)) sound.first.fixed ∙ there

t_present : (u : packages.Table) → packages.AreSoundPackages u → IsPresent u common_lisp (codes "T") common_lisp
unfolding common_lisp_package common_lisp_names
t_present u sound = lisp_present u sound (codes "T") (ap (option_map (λ (e : Present). e.home)) (get-from_entries name_total (map (λ n. (n, record { home = common_lisp; external = true })) common_lisp_names) (codes "T")))

pub nil_present : (u : packages.Table) → packages.AreSoundPackages u → IsPresent u common_lisp (codes "NIL") common_lisp
unfolding common_lisp_package common_lisp_names
nil_present u sound = lisp_present u sound (codes "NIL") (ap (option_map (λ (e : Present). e.home)) (get-from_entries name_total (map (λ n. (n, record { home = common_lisp; external = true })) common_lisp_names) (codes "NIL")))

present_package : (o : Option Package) (n h : Name) → option_map (λ (e : Present). e.home) (option_and_then (λ (k : Package). finite.get k.symbols n) o) ≡ Some h → IsTrue (is_some o)
present_package None n h e = absurd (none_some h e)
present_package (Some k) n h e = refl

pub symbol_is_value : (u : packages.Table) (h n : Name) → packages.AreSoundPackages u → IsPresent u h n h → IsValue u (symbol h n)
symbol_is_value u h n sound there = record {
  object = ((sound.within.package_names h (present_package (finite.get u h) n h there)).ascii, (sound.within.symbol_names h n h there).ascii);
  depth = omega arith;
  symbols = there;
}

pub t_value : (u : packages.Table) → packages.AreSoundPackages u → IsValue u t
t_value u sound = symbol_is_value u common_lisp (codes "T") sound (t_present u sound)

pub nil_value : (u : packages.Table) → packages.AreSoundPackages u → IsValue u nil
nil_value u sound = symbol_is_value u common_lisp (codes "NIL") sound (nil_present u sound)

pub text_value : (u : packages.Table) (n : Name) → All (λ b. b < 128) n → IsValue u (text n)
text_value u n ascii = record { object = ascii; depth = omega arith; symbols = tt }

-- ---- packages that have grown
known_grown : (u v : packages.Table) → Grows u v → (x : Object) → IsSymbolStorable u x → IsSymbolStorable v x
known_grown u v grows (integer n) k = tt
known_grown u v grows (rational n d) k = tt
known_grown u v grows (character c) k = tt
known_grown u v grows (text b) k = tt
known_grown u v grows (symbol h n) k = grows.homes h n h k
known_grown u v grows (uninterned n) k = k
known_grown u v grows (pair a b) k = tt
known_grown u v grows (vector xs) k = tt

pub value_grown : (u v : packages.Table) → Grows u v → (x : Object) → IsValue u x → IsValue v x
value_grown u v grows x is = record { object = is.object; depth = is.depth; symbols = atoms_weaker (IsSymbolStorable u) (IsSymbolStorable v) (known_grown u v grows) x is.symbols }

abbrev pub AreValues : packages.Table → List Object → Type 0
AreValues u xs = All (IsValue u) xs

pub values_grown : (u v : packages.Table) → Grows u v → (xs : List Object) → AreValues u xs → AreValues v xs
values_grown u v grows xs are = All-weaker (IsValue u) (IsValue v) (value_grown u v grows) xs are

-- ---- pairs and lists
depth_end : (x : Object) → object_depth x ≤ depth_along x + 1
depth_end (pair a b) = omega arith
depth_end (vector xs) = omega arith
depth_end (integer n) = omega arith
depth_end (rational n d) = omega arith
depth_end (character c) = omega arith
depth_end (text b) = omega arith
depth_end (symbol h n) = omega arith
depth_end (uninterned n) = omega arith

below_first : (a b : ℕ) → max a b + 1 ≤ 100 → a ≤ 100
below_first a b e = grind (arith, e)

below_rest : (a b c : ℕ) → max a b + 1 ≤ 100 → c ≤ b + 1 → c ≤ 100
below_rest a b c e f = grind (arith, e, f)

pub value_parts : (u : packages.Table) (a b : Object) → IsValue u (pair a b) → IsValue u a × IsValue u b
value_parts u a b is = (
  record { object = is.object.0; depth = below_first (object_depth a) (depth_along b) is.depth; symbols = is.symbols.0 },
  record { object = is.object.1; depth = below_rest (object_depth a) (depth_along b) (object_depth b) is.depth (depth_end b); symbols = is.symbols.1 },
)

list_sound : (u : packages.Table) (xs : List Object) → AreValues u xs → object.IsSound (list_of xs)
list_sound u [] are = sound_nil
list_sound u (x ∷ xs) are = ((All-head (IsValue u) x xs are).object, list_sound u xs (All-tail (IsValue u) x xs are))

list_known : (u : packages.Table) → packages.AreSoundPackages u → (xs : List Object) → AreValues u xs → AllAtoms (IsSymbolStorable u) (list_of xs)
list_known u sound [] are = nil_present u sound
list_known u sound (x ∷ xs) are = ((All-head (IsValue u) x xs are).symbols, list_known u sound xs (All-tail (IsValue u) x xs are))

pub list_value : (u : packages.Table) → packages.AreSoundPackages u → (xs : List Object) → AreValues u xs → object_depth (list_of xs) ≤ 100 → IsValue u (list_of xs)
list_value u sound xs are within = record { object = list_sound u xs are; depth = within; symbols = list_known u sound xs are }

pub pair_value : (u : packages.Table) (a b : Object) → IsValue u a → IsValue u b → object_depth (pair a b) ≤ 100 → IsValue u (pair a b)
pair_value u a b first second within = record { object = (first.object, second.object); depth = within; symbols = (first.symbols, second.symbols) }

-- ---- the kinds of arguments
pub symbol_kind : (u : packages.Table) (x : Object) (y : Symbol) → a_symbol x ≡ Some y → IsValue u x → IsSymbol u y
symbol_kind u (symbol h n) y e is = subst (IsSymbol u) (same_some (h, n) y e) is.symbols
symbol_kind u (integer n) y e is = absurd (none_some y e)
symbol_kind u (rational n d) y e is = absurd (none_some y e)
symbol_kind u (character c) y e is = absurd (none_some y e)
symbol_kind u (text b) y e is = absurd (none_some y e)
symbol_kind u (uninterned n) y e is = absurd (none_some y e)
symbol_kind u (pair a b) y e is = absurd (none_some y e)
symbol_kind u (vector xs) y e is = absurd (none_some y e)

pub name_kind : (u : packages.Table) (x : Object) (y : Name) → a_name x ≡ Some y → IsValue u x → All (λ b. b < 128) y
name_kind u (symbol h n) y e is = subst (All (λ b. b < 128)) (same_some n y e) is.object.1
name_kind u (text b) y e is = subst (All (λ b. b < 128)) (same_some b y e) is.object
name_kind u (integer n) y e is = absurd (none_some y e)
name_kind u (rational n d) y e is = absurd (none_some y e)
name_kind u (character c) y e is = absurd (none_some y e)
name_kind u (uninterned n) y e is = absurd (none_some y e)
name_kind u (pair a b) y e is = absurd (none_some y e)
name_kind u (vector xs) y e is = absurd (none_some y e)

pub text_kind : (u : packages.Table) (x : Object) (y : Name) → a_text x ≡ Some y → IsValue u x → All (λ b. b < 128) y
text_kind u (text b) y e is = subst (All (λ b. b < 128)) (same_some b y e) is.object
text_kind u (symbol h n) y e is = absurd (none_some y e)
text_kind u (integer n) y e is = absurd (none_some y e)
text_kind u (rational n d) y e is = absurd (none_some y e)
text_kind u (character c) y e is = absurd (none_some y e)
text_kind u (uninterned n) y e is = absurd (none_some y e)
text_kind u (pair a b) y e is = absurd (none_some y e)
text_kind u (vector xs) y e is = absurd (none_some y e)

pub keyword_kind : (u : packages.Table) (x : Object) (y : Name) → a_keyword x ≡ Some y → IsValue u x → IsSymbol u (keyword, y)
keyword_kind u (symbol h n) y e is =
    elim (bytes_eq h keyword) as (λ b. bytes_eq h keyword ≡ b → cond b (Some n) None ≡ Some y → IsSymbol u (keyword, y)) [
      | true ↦ λ same there. subst (λ m. IsSymbol u (keyword, m)) (same_some n y there) (subst (λ m. IsSymbol u (m, n)) (equal_names h keyword same) is.symbols)
      | false ↦ λ _ no. absurd (none_some y no)
    ] refl e
keyword_kind u (text b) y e is = absurd (none_some y e)
keyword_kind u (integer n) y e is = absurd (none_some y e)
keyword_kind u (rational n d) y e is = absurd (none_some y e)
keyword_kind u (character c) y e is = absurd (none_some y e)
keyword_kind u (uninterned n) y e is = absurd (none_some y e)
keyword_kind u (pair a b) y e is = absurd (none_some y e)
keyword_kind u (vector xs) y e is = absurd (none_some y e)

pub character_kind : (u : packages.Table) (x : Object) (y : ℕ) → a_character x ≡ Some y → IsValue u x → y < 128
character_kind u (character c) y e is = subst (λ k. k < 128) (same_some c y e) is.object
character_kind u (text b) y e is = absurd (none_some y e)
character_kind u (integer n) y e is = absurd (none_some y e)
character_kind u (rational n d) y e is = absurd (none_some y e)
character_kind u (symbol h n) y e is = absurd (none_some y e)
character_kind u (uninterned n) y e is = absurd (none_some y e)
character_kind u (pair a b) y e is = absurd (none_some y e)
character_kind u (vector xs) y e is = absurd (none_some y e)

-- a list of symbols
both_some : (o : Option Symbol) (r : Option (List Symbol)) (ys : List Symbol) → option_and_then (λ y. option_map (λ zs. y ∷ zs) r) o ≡ Some ys
    → (y : Symbol) × (zs : List Symbol) × (o ≡ Some y) × (r ≡ Some zs) × (y ∷ zs ≡ ys)
both_some None r ys e = absurd (none_some ys e)
both_some (Some y) None ys e = absurd (none_some ys e)
both_some (Some y) (Some zs) ys e = (y, zs, refl, refl, same_some (y ∷ zs) ys e)

each_kind : (u : packages.Table) (x : Object) (ys : List Symbol) → each_of a_symbol x ≡ Some ys → IsValue u x → All (IsSymbol u) ys
each_kind u (pair a b) ys e is =
    let parts = value_parts u a b is in
    let found = both_some (a_symbol a) (each_of a_symbol b) ys e in
    subst (All (IsSymbol u)) found.4 (All-cons (IsSymbol u) found.0 found.1 (symbol_kind u a found.0 found.2 parts.0) (each_kind u b found.1 found.3 parts.1))
each_kind u (symbol h n) ys e is = elim (is_nil h n) as (λ b. cond b (Some []) None ≡ Some ys → All (IsSymbol u) ys) [ true ↦ λ i. subst (All (IsSymbol u)) (same_some [] ys i) (All-nil (IsSymbol u)) | false ↦ λ i. absurd (none_some ys i) ] e
each_kind u (text b) ys e is = absurd (none_some ys e)
each_kind u (integer n) ys e is = absurd (none_some ys e)
each_kind u (rational n d) ys e is = absurd (none_some ys e)
each_kind u (character c) ys e is = absurd (none_some ys e)
each_kind u (uninterned n) ys e is = absurd (none_some ys e)
each_kind u (vector xs) ys e is = absurd (none_some ys e)

pub symbols_kind : (u : packages.Table) (x : Object) (ys : List Symbol) → one_or_each a_symbol x ≡ Some ys → IsValue u x → All (IsSymbol u) ys
symbols_kind u (pair a b) ys e is = each_kind u (pair a b) ys e is
symbols_kind u (symbol h n) ys e is =
    elim (is_nil h n) as (λ b. cond b (Some []) (Some ((h, n) ∷ [])) ≡ Some ys → All (IsSymbol u) ys) [
      | true ↦ λ i. subst (All (IsSymbol u)) (same_some [] ys i) (All-nil (IsSymbol u))
      | false ↦ λ i. subst (All (IsSymbol u)) (same_some ((h, n) ∷ []) ys i) (All-cons (IsSymbol u) (h, n) [] is.symbols (All-nil (IsSymbol u)))
    ] e
symbols_kind u (text b) ys e is = absurd (none_some ys e)
symbols_kind u (integer n) ys e is = absurd (none_some ys e)
symbols_kind u (rational n d) ys e is = absurd (none_some ys e)
symbols_kind u (character c) ys e is = absurd (none_some ys e)
symbols_kind u (uninterned n) ys e is = absurd (none_some ys e)
symbols_kind u (vector xs) ys e is = absurd (none_some ys e)
