-- That the first world is sound.
--     first_sound, first_state
use Rattle.std.proofs.Common.{◌≡◌, Bool, true, false, cond, Option, None, Some, IsTrue, is_some, List, [], ◌∷◌, refl, sym, ap, subst, ◌∙◌, arith, ◌≤◌, ◌+◌}
use Rattle.std.specs.Prelude.{ℕ, bytes_eq, unwrap_or}
use Rattle.std.specs.List.{list_all, list_any}
use Rattle.std.specs.Ordering.{eq_by_cmp}
use Rattle.std.proofs.lemmas.Bool.{false≢true, and_parts, and_from}
use Rattle.std.specs.FinMap as finite
use Rattle.std.specs.FinMap.{get-empty, get-insert, len-insert, len-empty}
use Rattle.readtable_core.specs.Tables as readtable
use Rattle.readtable_core.specs.NamedFunctions.{functions_of}
use Rattle.readtable_core.proofs.Sound.{standard_sound}
use Rattle.package_table.specs.Table as packages
use Rattle.package_table.specs.Table.{Name, name_cmp, keyword, keyword_names}
use Rattle.package_table.specs.Lookup.{is_symbol}
use Rattle.package_table.proofs.First.{sound, user_is_package}
use Rattle.plist_state.specs.Properties.{Plist, symbol_cmp}
use Rattle.package_table.specs.Numbers.{Numbered}
use Rattle.plist_state.specs.State.{Readtables, initial, state_with, first_readtables, first_rest, standard_name, user_name}
use Rattle.plist_state.specs.Views.{NumberedRest, first_numbered}
use Rattle.plist_state.specs.MarkedWorlds.{state_in}
use Rattle.plist_state.specs.Sound.{IsSymbol, HasKeywordFunctions, IsSoundWorldState}
use Rattle.plist_state.proofs.Orders.{name_total, one_name}
use Rattle.plist_state.proofs.Soundness.{symbol_from}
use Rattle.plist_state.proofs.Listed.{lists_empty}

-- each function of the standard readtable is named by one of the first keywords
named_first : list_all (λ n. list_any (bytes_eq n) keyword_names) (functions_of readtable.standard) ≡ true
unfolding readtable.standard keyword_names
named_first = refl

all_weaker : {A : Type 0} (p q : A → Bool) (xs : List A) → ((x : A) → p x ≡ true → q x ≡ true) → list_all p xs ≡ true → list_all q xs ≡ true
all_weaker p q [] weaker e = refl
all_weaker p q (x ∷ xs) weaker e =
    let both = and_parts (p x) (list_all p xs) e in
    and_from (q x) (list_all q xs) (weaker x both.0) (all_weaker p q xs weaker both.1)

keyword_there : (n : Name) → list_any (bytes_eq n) keyword_names ≡ true → IsSymbol packages.initial (keyword, n)
keyword_there n among = sound.first.keywords n among

standard_named : HasKeywordFunctions packages.initial readtable.standard
standard_named = record {
  readtable = standard_sound;
  functions = all_weaker (λ n. list_any (bytes_eq n) keyword_names) (is_symbol packages.initial keyword) (functions_of readtable.standard)
      (λ n among. symbol_from packages.initial keyword n (keyword_there n among)) named_first;
}

standard_there : IsSymbol packages.initial (keyword, standard_name)
unfolding keyword_names
standard_there = keyword_there standard_name refl

user_there : IsSymbol packages.initial (keyword, user_name)
unfolding keyword_names
user_there = keyword_there user_name refl

-- what the first readtables have at a name
at_first : (n : Name) → finite.get first_readtables n ≡ cond (eq_by_cmp name_cmp n user_name) (Some readtable.standard) (cond (eq_by_cmp name_cmp n standard_name) (Some readtable.standard) None)
at_first n =
    get-insert name_total (finite.insert finite.empty standard_name readtable.standard) user_name readtable.standard n
    ∙ ap (cond (eq_by_cmp name_cmp n user_name) (Some readtable.standard))
    (get-insert name_total finite.empty standard_name readtable.standard n
    ∙ ap (cond (eq_by_cmp name_cmp n standard_name) (Some readtable.standard)) (get-empty name_cmp n))

first_names : (n : Name) → IsTrue (finite.contains_key first_readtables n) → IsSymbol packages.initial (keyword, n)
first_names n there =
    elim (eq_by_cmp name_cmp n user_name) as (λ b. eq_by_cmp name_cmp n user_name ≡ b → IsTrue (is_some (cond b (Some readtable.standard) (cond (eq_by_cmp name_cmp n standard_name) (Some readtable.standard) None))) → IsSymbol packages.initial (keyword, n)) [
      | true ↦ λ t _. subst (λ (y : Name). IsSymbol packages.initial (keyword, y)) (sym (one_name n user_name t)) user_there
      | false ↦ λ _ e.
          elim (eq_by_cmp name_cmp n standard_name) as (λ b. eq_by_cmp name_cmp n standard_name ≡ b → IsTrue (is_some (cond b (Some readtable.standard) None)) → IsSymbol packages.initial (keyword, n)) [
            | true ↦ λ t _. subst (λ (y : Name). IsSymbol packages.initial (keyword, y)) (sym (one_name n standard_name t)) standard_there
            | false ↦ λ _ f. absurd (false≢true f)
          ] refl e
    ] refl (subst (λ (o : Option readtable.Table). IsTrue (is_some o)) (at_first n) there)

first_each : (n : Name) (r : readtable.Table) → finite.get first_readtables n ≡ Some r → HasKeywordFunctions packages.initial r
first_each n r there =
    elim (eq_by_cmp name_cmp n user_name) as (λ b. cond b (Some readtable.standard) (cond (eq_by_cmp name_cmp n standard_name) (Some readtable.standard) None) ≡ Some r → HasKeywordFunctions packages.initial r) [
      | true ↦ λ e. subst (HasKeywordFunctions packages.initial) (ap (λ o. unwrap_or o r) e) standard_named
      | false ↦ λ e.
          elim (eq_by_cmp name_cmp n standard_name) as (λ b. cond b (Some readtable.standard) None ≡ Some r → HasKeywordFunctions packages.initial r) [
            | true ↦ λ f. subst (HasKeywordFunctions packages.initial) (ap (λ o. unwrap_or o r) f) standard_named
            | false ↦ λ f. absurd (false≢true (ap is_some f))
          ] e
    ] (sym (at_first n) ∙ there)

first_count : finite.len first_readtables ≤ 64
first_count =
    let start : Readtables = finite.empty in
    let one : Readtables = finite.insert start standard_name readtable.standard in
    let none : finite.len start ≡ 0 = len-empty name_cmp readtable.Table in
    let first : finite.len one ≡ cond (finite.contains_key start standard_name) (finite.len start) (finite.len start + 1) = len-insert name_total start standard_name readtable.standard in
    let second : finite.len first_readtables ≡ cond (finite.contains_key one user_name) (finite.len one) (finite.len one + 1) = len-insert name_total one user_name readtable.standard in
    either (finite.contains_key start standard_name) (finite.contains_key one user_name) (finite.len start) (finite.len one) (finite.len first_readtables) none first second
  where
    either : (b d : Bool) (j k n : ℕ) → j ≡ 0 → k ≡ cond b j (j + 1) → n ≡ cond d k (k + 1) → n ≤ 64
    either true true j k n z e f = omega (arith, z, e, f)
    either true false j k n z e f = omega (arith, z, e, f)
    either false true j k n z e f = omega (arith, z, e, f)
    either false false j k n z e f = omega (arith, z, e, f)

pub first_sound : IsSoundWorldState initial
first_sound = record {
  packages = sound;
  symbols = λ x there. absurd (false≢true (sym (ap is_some (get-empty {X = Plist} symbol_cmp x)) ∙ there));
  properties = λ x ps there. absurd (false≢true (ap is_some (sym (get-empty {X = Plist} symbol_cmp x) ∙ there)));
  readtables = record {
    standard = at_first standard_name;
    user = ap is_some (at_first user_name);
    count = first_count;
    names = first_names;
    each = first_each;
  };
  current_package = user_is_package;
  current_readtable = ap is_some (at_first user_name);
  lowest_base = omega arith;
  highest_base = omega arith;
}

-- what is kept first is the first state
pub first_state : (s : Numbered) (r : NumberedRest) → s.0 ≡ packages.initial → r ≡ first_numbered → state_in s r ≡ initial
first_state s r table rest =
    ap (state_in s) rest ∙ (λ i. state_with (table i) (record first_rest { properties = lists_empty s i }))
