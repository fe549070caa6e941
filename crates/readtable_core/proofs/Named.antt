-- Entries compared, and the functions that entries and readtables name.
use Rattle.std.proofs.Common.{◌≡◌, ℕ, zero, suc, Bool, true, ◌&&◌, ◌||◌, List, [], ◌∷◌, get_or, set, refl, ◌∙◌, sym, ap, Option, Some, None, Decides, if◌then◌else◌, ◌==◌, nat_le}
use Rattle.std.specs.List.{list_all, flat_map, filter_map}
use Rattle.std.specs.Option.{option_map_or}
use Rattle.std.specs.Cmp.Lexicographic.{pointwise_decides, bytes_decides}
use Rattle.std.proofs.lemmas.Bool.{and_parts, and_from, eqb-true, eq-eqb, false≢true}
use Rattle.std.proofs.lemmas.List.Folds.{list_all-append}
use Rattle.readtable_core.specs.declared.characters.Syntax.{Syntax}
use Rattle.readtable_core.specs.declared.characters.Syntax.TheVariants.{Whitespace, Constituent, TerminatingMacro, NonTerminatingMacro, SingleEscape, MultipleEscape, Invalid}
use Rattle.readtable_core.specs.declared.table.Case.{Case}
use Rattle.readtable_core.specs.declared.table.Case.TheVariants.{Upcase, Downcase, Preserve, Invert}
use Rattle.readtable_core.specs.Cases.{case_name, case_names}
use Rattle.readtable_core.specs.Characters.{syntax_number, upper_case}
use Rattle.readtable_core.specs.Names.{is_among, is_standard, is_dispatch_name, dispatch_name}
use Rattle.readtable_core.specs.Tables.{CharacterEntry, Table, standard, entry_at, dispatch_at, no_entry}
use Rattle.readtable_core.specs.Changes.{with_character_entry, with_dispatch_function, dispatching_entry}
use Rattle.readtable_core.specs.NamedFunctions.{same_function, same_entry, functions_at, functions_of}

-- the type that a number names
numbered : ℕ → Syntax
numbered n =
    if n == 0 then Whitespace
    else (if n == 1 then Constituent
    else (if n == 2 then TerminatingMacro
    else (if n == 3 then NonTerminatingMacro
    else (if n == 4 then SingleEscape
    else (if n == 5 then MultipleEscape
    else Invalid)))))

number_back : (s : Syntax) → numbered (syntax_number s) ≡ s
unfolding numbered
number_back Whitespace = refl
number_back Constituent = refl
number_back TerminatingMacro = refl
number_back NonTerminatingMacro = refl
number_back SingleEscape = refl
number_back MultipleEscape = refl
number_back Invalid = refl

pub same_number : (a b : Syntax) → syntax_number a ≡ syntax_number b → a ≡ b
same_number a b e = sym (number_back a) ∙ ap numbered e ∙ number_back b

-- each type has a number that is read
pub number_known : (s : Syntax) → nat_le (syntax_number s) 6 ≡ true
number_known Whitespace = refl
number_known Constituent = refl
number_known TerminatingMacro = refl
number_known NonTerminatingMacro = refl
number_known SingleEscape = refl
number_known MultipleEscape = refl
number_known Invalid = refl

-- the case that a name names, by its first letter: 85 is U, 68 D and 80 P
cased : List ℕ → Case
cased name =
    if get_or name 0 0 == 85 then Upcase
    else (if get_or name 0 0 == 68 then Downcase
    else (if get_or name 0 0 == 80 then Preserve
    else Invert))

case_back : (k : Case) → cased (case_name k) ≡ k
unfolding cased
case_back Upcase = refl
case_back Downcase = refl
case_back Preserve = refl
case_back Invert = refl

pub same_case : (a b : Case) → case_name a ≡ case_name b → a ≡ b
same_case a b e = sym (case_back a) ∙ ap cased e ∙ case_back b

-- each case has a name that is read
pub case_known : (k : Case) → is_among case_names (case_name k) ≡ true
case_known Upcase = refl
case_known Downcase = refl
case_known Preserve = refl
case_known Invert = refl

function_decides : (a b : Option (List ℕ)) → Decides (same_function a b) (a ≡ b)
function_decides None None = (λ _. refl, λ _. refl)
function_decides None (Some y) = (λ e. absurd (false≢true e), λ p. absurd (cc))
function_decides (Some x) None = (λ e. absurd (false≢true e), λ p. absurd (cc))
function_decides (Some x) (Some y) =
    (λ e. ap Some ((bytes_decides x y).0 e), λ p. let same : x ≡ y = cc in (bytes_decides x y).1 same)

-- the comparison of entries says exactly that they are equal
pub same_is : (a b : CharacterEntry) → same_entry a b ≡ true → a ≡ b
same_is a b e =
    let first = and_parts _ _ e in
    let rest = and_parts _ _ first.1 in
    λ i. record {
      syntax = same_number a.syntax b.syntax (eqb-true _ _ first.0) i;
      function = (function_decides a.function b.function).0 rest.0 i;
      dispatch = (pointwise_decides function_decides a.dispatch b.dispatch).0 rest.1 i;
    }

pub same_itself : (a b : CharacterEntry) → a ≡ b → same_entry a b ≡ true
same_itself a b e =
    and_from _ _ (eq-eqb _ _ (ap (λ (x : CharacterEntry). syntax_number x.syntax) e))
    (and_from _ _ ((function_decides a.function b.function).1 (ap (λ (x : CharacterEntry). x.function) e))
    ((pointwise_decides function_decides a.dispatch b.dispatch).1 (ap (λ (x : CharacterEntry). x.dispatch) e)))

-- A test of the functions that an entry names is one of its own function and of each sub-character's; one of the functions
-- that a readtable names is one of each entry.
abbrev pub passes : (List ℕ → Bool) → Option (List ℕ) → Bool
passes p function = option_map_or p function true

pub all_named : (p : List ℕ → Bool) (fs : List (Option (List ℕ))) → list_all p (filter_map (λ f. f) fs) ≡ list_all (passes p) fs
all_named p [] = refl
all_named p (None ∷ fs) = all_named p fs
all_named p (Some name ∷ fs) = ap (λ b. p name && b) (all_named p fs)

all_flat : (p : List ℕ → Bool) (es : List CharacterEntry) → list_all p (flat_map functions_at es) ≡ list_all (λ e. list_all p (functions_at e)) es
all_flat p [] = refl
all_flat p (e ∷ es) = list_all-append p (functions_at e) (flat_map functions_at es) ∙ ap (λ b. list_all p (functions_at e) && b) (all_flat p es)

pub all_functions : (p : List ℕ → Bool) (t : Table) → list_all p (functions_of t) ≡ list_all (λ e. list_all p (functions_at e)) t.entries
all_functions p t = all_flat p t.entries

each_at : {X : Type 0} (p : X → Bool) (xs : List X) (i : ℕ) (d : X) → list_all p xs ≡ true → p d ≡ true → p (get_or xs i d) ≡ true
each_at p [] i d e f = f
each_at p (x ∷ xs) zero d e f = (and_parts _ _ e).0
each_at p (x ∷ xs) (suc i) d e f = each_at p xs i d (and_parts _ _ e).1 f

each_set : {X : Type 0} (p : X → Bool) (xs : List X) (i : ℕ) (y : X) → list_all p xs ≡ true → p y ≡ true → list_all p (set xs i y) ≡ true
each_set p [] i y e f = refl
each_set p (x ∷ xs) zero y e f = and_from _ _ f (and_parts _ _ e).1
each_set p (x ∷ xs) (suc i) y e f = let both = and_parts (p x) (list_all p xs) e in and_from _ _ both.0 (each_set p xs i y both.1 f)

-- what each function of a readtable passes, each function of one of its entries passes
pub named_at : (p : List ℕ → Bool) (t : Table) (c : ℕ) → list_all p (functions_of t) ≡ true → list_all p (functions_at (entry_at t c)) ≡ true
named_at p t c e = each_at (λ x. list_all p (functions_at x)) t.entries c no_entry (sym (all_functions p t) ∙ e) refl

-- so do the function at each character and the one at each sub-character
pub named_function : (p : List ℕ → Bool) (t : Table) (c : ℕ) (name : List ℕ) → list_all p (functions_of t) ≡ true
    → (entry_at t c).function ≡ Some name → p name ≡ true
named_function p t c name h e =
    let x = entry_at t c in
    let both = and_parts (passes p x.function) (list_all (passes p) x.dispatch) (sym (all_named p (x.function ∷ x.dispatch)) ∙ named_at p t c h) in
    sym (ap (passes p) e) ∙ both.0

pub named_sub_function : (p : List ℕ → Bool) (t : Table) (c sub : ℕ) (name : List ℕ) → list_all p (functions_of t) ≡ true
    → dispatch_at t c sub ≡ Some name → p name ≡ true
named_sub_function p t c sub name h e =
    let x = entry_at t c in
    let both = and_parts (passes p x.function) (list_all (passes p) x.dispatch) (sym (all_named p (x.function ∷ x.dispatch)) ∙ named_at p t c h) in
    sym (ap (passes p) e) ∙ each_at (passes p) x.dispatch (upper_case sub) None both.1 refl

-- and each function of the readtable that has another entry in one place, if the functions of that entry pass it
pub named_after : (p : List ℕ → Bool) (t : Table) (c : ℕ) (x : CharacterEntry) → list_all p (functions_of t) ≡ true → list_all p (functions_at x) ≡ true
    → list_all p (functions_of (with_character_entry t c x)) ≡ true
named_after p t c x e f =
    all_functions p (with_character_entry t c x) ∙ each_set (λ y. list_all p (functions_at y)) t.entries c x (sym (all_functions p t) ∙ e) f

pub named_with_function : (p : List ℕ → Bool) (e : CharacterEntry) (sub : ℕ) (name : List ℕ) → list_all p (functions_at e) ≡ true → p name ≡ true
    → list_all p (functions_at (with_dispatch_function e sub name)) ≡ true
named_with_function p e sub name h f =
    let both = and_parts (passes p e.function) (list_all (passes p) e.dispatch) (sym (all_named p (e.function ∷ e.dispatch)) ∙ h) in
    all_named p (e.function ∷ set e.dispatch (upper_case sub) (Some name))
    ∙ and_from _ _ both.0 (each_set (passes p) e.dispatch (upper_case sub) (Some name) both.1 f)

pub named_by_dispatching : (b : Bool) → functions_at (dispatching_entry b) ≡ dispatch_name ∷ []
named_by_dispatching b = refl

-- the standard readtable names its own functions and STD-DISPATCH alone
pub standard_named : list_all (λ name. is_standard name || is_dispatch_name name) (functions_of standard) ≡ true
unfolding standard
standard_named = refl
