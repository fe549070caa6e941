-- What was read may be evaluated, and which functions are registered.
use Rattle.std.proofs.Common.{◌≡◌, ℕ, true, List, [], ◌∷◌, IsTrue, arith, sym, subst, inl, inr}
use Rattle.std.specs.Cmp.Lexicographic.{same_text}
use Rattle.std.specs.List.{list_all}
use Rattle.std.proofs.lemmas.Bool.{or_cases, and_parts}
use Rattle.lisp_object.specs.Object.{Object, symbol, uninterned, IsSound}
use Rattle.lisp_object.proofs.Atoms.{atoms_weaker}
use Rattle.readtable_core.specs.Names.{is_among, same_name}
use Rattle.package_table.specs.Table.{Table as Packages}
use Rattle.lisp_reading.specs.Fitting.{IsFitting}
use Rattle.lisp_reading.specs.Fitting as reader
use Rattle.lisp_reading.specs.Reading.{form}
use Rattle.lisp_reading.proofs.Fittings.{form_fits}
use Rattle.lisp_reading.proofs.Registered.{one_answer}
use Rattle.form_eval.specs.Laws.{IsForm}
use Rattle.form_eval.specs.Laws as evaluator
use Rattle.plist_state.specs.State.{WorldState}
use Rattle.plist_state.specs.Sound as world
use Rattle.session_words.specs.declared.mode.Mode.{Mode}
use Rattle.prevalence_store.specs.meaning.Acceptance.{read_in, setting_in}
use Rattle.user_macros.specs.Functions.{Functions}

fits : (t : Packages) (x : Object) → reader.FitsPackages t x → evaluator.FitsTable t x
fits t (symbol home name) is = is
fits t (uninterned name) is = is
fits t _ is = tt

-- what fits the packages may be evaluated
pub is_form : (t : Packages) (x : Object) → IsSound x → IsFitting t x → IsForm t x
is_form t x sound fitting =
    record { object = sound; depth = fitting.depth; symbols = atoms_weaker (reader.FitsPackages t) (evaluator.FitsTable t) (fits t) x fitting.symbols }

-- a form that was read in a sound world fits its packages
pub fits_in : (functions : Functions) (w : WorldState) (mode : Mode) (text : List ℕ) (x : Object) (start «end» next : ℕ) → world.IsSoundWorldState w
    → read_in functions w mode text ≡ form x start «end» next → IsFitting w.packages x
fits_in functions w mode text x start «end» next sound is = form_fits (setting_in functions w mode) text x start «end» next sound.packages (omega arith) (omega arith) is

-- ---- the functions that are registered

-- if each of these names is registered
registered_too : (names registered : List (List ℕ)) (name : List ℕ) → list_all (is_among registered) names ≡ true → is_among names name ≡ true
    → is_among registered name ≡ true
registered_too [] registered name whole is = absurd (cc)
registered_too (x ∷ xs) registered name whole is =
    let parts = and_parts (is_among registered x) (list_all (is_among registered) xs) whole in
    elim (or_cases (same_name x name) (is_among xs name) is) [
      | inl same ↦ subst (λ n. is_among registered n ≡ true) (same_text x name (sym same)) parts.0
      | inr later ↦ registered_too xs registered name parts.1 later
    ]

-- if each name is registered, and only names are
pub among_same : (names registered : List (List ℕ)) → list_all (is_among registered) names ≡ true
    → ((name : List ℕ) → IsTrue (is_among registered name) → IsTrue (is_among names name)) → (name : List ℕ) → is_among registered name ≡ is_among names name
among_same names registered whole known name =
    one_answer (is_among registered name) (is_among names name) (known name) (registered_too names registered name whole)
