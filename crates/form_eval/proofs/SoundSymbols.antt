-- That a form which is accepted in a sound state leaves a sound state.
--     accepted_sound      of a whole form
use Rattle.std.proofs.Common.{true, ◌≡◌, map, inl, inr, ◌<◌, Bool, false, not, cond, ◌||◌, List, [], ◌∷◌, ◌++◌, length, All, Some, None, Result, Ok, Err, bytes_eq, nat_lt, nat_le, refl, sym, ap, subst, ◌∙◌}
use Rattle.std.specs.Option.{option_map_or}
use Rattle.std.specs.FinMap as finite
use Rattle.std.proofs.lemmas.List.Elements.{All-append, All-cons, All-nil, All-head, All-tail}
use Rattle.lisp_object.specs.Object as object
use Rattle.lisp_object.specs.Object.{Object, integer, rational, character, text, symbol, uninterned, pair, vector, AllAtoms}
use Rattle.package_table.specs.declared.error.PackageError.{PackageError}
use Rattle.package_table.specs.declared.error.PackageError.TheVariants.{NoSuchPackage, PackageIsLocked, Limit}
use Rattle.package_table.specs.Limits.{most_symbols, longest_symbol_name}
use Rattle.package_table.specs.Table as packages
use Rattle.package_table.specs.Table.{Name, Table, common_lisp, symbol_count, IsPresent}
use Rattle.package_table.specs.Lookup.{home_by_name}
use Rattle.package_table.specs.Changes.{after_intern, intern_changes, with_new_symbol}
use Rattle.package_table.specs.Growth.{Grows}
use Rattle.package_table.proofs.Names.{same_some}
use Rattle.package_table.proofs.Found.{found_finds}
use Rattle.package_table.proofs.Frames.{place_cases}
use Rattle.package_table.proofs.Keeping.{present_at_home}
use Rattle.package_table.proofs.Growing.{grows_same, grows_both}
use Rattle.package_table.proofs.KeptChanges.{kept_intern}
use Rattle.plist_state.specs.Properties.{Symbol}
use Rattle.plist_state.specs.State.{WorldState}
use Rattle.plist_state.specs.Changes.{with_packages}
use Rattle.plist_state.specs.Sound.{IsSymbol, IsSymbolStorable, IsValue, IsSoundWorldState}
use Rattle.plist_state.proofs.Soundness.{sound_packages}
use Rattle.lisp_operators.specs.Evaluation.{Done}
use Rattle.lisp_operators.specs.Packages.{one_by_one, then_others}
use Rattle.evaluator.specs.Value.{value}
use Rattle.package_table.specs.Symbols.{symbols}
use Rattle.form_eval.specs.Acceptance.{packages_of_interning, after_symbol_interned, with_symbols_interned, accepted_by, accept}
use Rattle.lisp_operators.specs.Readtables.{AreFunctionNames}
use Rattle.form_eval.specs.Laws.{FitsTable, IsForm, IsSoundAfter}
use Rattle.lisp_operators.proofs.Good.{Goods, goods_also}
use Rattle.lisp_operators.proofs.Unmoved.{passed, same_ok}
use Rattle.evaluator.proofs.SoundForms.{value_safe}

-- a symbol that can be interned: its home finds no other by its name, which is of characters below 128
pub record CanIntern (u : Table) (y : Symbol) : Type 0 where
  fits : (h : Name) → home_by_name u y.0 y.1 ≡ Some h → h ≡ y.0
  ascii : All (λ b. b < 128) y.1

-- it is interned in its home
interned_home : (u : Table) (p n h : Name) (v : Table) → ((h : Name) → home_by_name u p n ≡ Some h → h ≡ p) → after_intern u p n ≡ Ok (h, v) → h ≡ p
interned_home u p n h v fits is =
    let there = passed (not (finite.contains_key u p)) NoSuchPackage _ (h, v) is in
    elim (home_by_name u p n) as (λ o. home_by_name u p n ≡ o → option_map_or {U = Result (Name × Table) PackageError} (λ g. Ok (g, u)) o (cond (bytes_eq p common_lisp) (Err PackageIsLocked) (cond (nat_lt longest_symbol_name (length n) || nat_le most_symbols (symbol_count u)) (Err Limit) (Ok (p, with_new_symbol u p n)))) ≡ Ok (h, v) → h ≡ p) [
      | Some g ↦ λ here same. sym (ap (λ (q : Name × Table). q.0) (same_ok (g, u) (h, v) same)) ∙ fits g here
      | None ↦ λ _ made.
          let open_to = passed (bytes_eq p common_lisp) PackageIsLocked _ (h, v) made in
          let within = passed (nat_lt longest_symbol_name (length n) || nat_le most_symbols (symbol_count u)) Limit _ (h, v) open_to in
          sym (ap (λ (q : Name × Table). q.0) (same_ok (p, with_new_symbol u p n) (h, v) within))
    ] refl there

record Step (u v : Table) (y : Symbol) : Type 0 where
  sound : packages.AreSoundPackages v
  grows : Grows u v
  present : IsSymbol v y
  others : (z : Symbol) → CanIntern u z → CanIntern v z

step : (u : Table) (y : Symbol) (v : Table) → packages.AreSoundPackages u → CanIntern u y → after_symbol_interned u y ≡ Ok v → Step u v y
step u y v sound can is =
    elim (after_intern u y.0 y.1) as (λ r. after_intern u y.0 y.1 ≡ r → packages_of_interning r ≡ Ok v → Step u v y) [
      | Ok q ↦ λ made same. subst (λ w. Step u w y) (same_ok q.1 v same) (of_intern q.0 q.1 made)
      | Err e ↦ λ _ no. absurd (let other : Err e ≡ Ok v = no in cc)
    ] refl is
  where
    of_intern : (h : Name) (w : Table) → after_intern u y.0 y.1 ≡ Ok (h, w) → Step u w y
    of_intern h w made =
        let done = kept_intern u y.0 y.1 sound h w can.ascii made in
        let home : h ≡ y.0 = interned_home u y.0 y.1 h w can.fits made in
        record {
          sound = done.kept.sound;
          grows = done.kept.grows;
          present = subst (λ g. IsPresent w g y.1 g) home (present_at_home w y.0 y.1 h done.kept.sound.joined (found_finds w y.1 y.0 h done.finds));
          others = λ z other. record {
            fits = λ g finds.
                elim (place_cases z.0 z.1 y.0 y.1) [
                  | inl (same, alike) ↦
                      let here : home_by_name w y.0 y.1 ≡ Some g = ap (λ m. home_by_name w y.0 m) (sym alike) ∙ ap (λ p. home_by_name w p z.1) (sym same) ∙ finds in
                      same_some g h (sym here ∙ done.finds) ∙ home ∙ sym same
                  | inr differ ↦ other.fits g (sym (done.others.finds z.0 z.1 differ) ∙ finds)
                ];
            ascii = other.ascii;
          };
        }

pub record AllInterned (u v : Table) (ys : List Symbol) : Type 0 where
  pub sound : packages.AreSoundPackages v
  pub grows : Grows u v
  pub present : All (IsSymbol v) ys

abbrev pub InternedWhere : Table → List Symbol → Result (Table × Bool) PackageError → Type 0
InternedWhere u ys (Ok p) = AllInterned u p.0 ys
InternedWhere u ys (Err e) = Unit {0}

one_more : (u v : Table) (y : Symbol) (ys : List Symbol) (r : Result (Table × Bool) PackageError) → Step u v y → InternedWhere v ys r → InternedWhere u (y ∷ ys) r
one_more u v y ys (Ok p) done later = record {
  sound = later.sound;
  grows = grows_both u v p.0 done.grows later.grows;
  present = All-cons (IsSymbol p.0) y ys (later.grows.homes y.0 y.1 y.0 done.present) later.present;
}
one_more u v y ys (Err e) done later = tt

all_can : (u v : Table) (ys : List Symbol) → ((z : Symbol) → CanIntern u z → CanIntern v z) → All (CanIntern u) ys → All (CanIntern v) ys
all_can u v [] others all = All-nil (CanIntern v)
all_can u v (y ∷ ys) others all = All-cons (CanIntern v) y ys (others y (All-head (CanIntern u) y ys all)) (all_can u v ys others (All-tail (CanIntern u) y ys all))

abbrev pub changes : Table → Symbol → Bool
changes u y = intern_changes u y.0 y.1

pub all_interned : (u : Table) (wrote : Bool) (ys : List Symbol) → packages.AreSoundPackages u → All (CanIntern u) ys → InternedWhere u ys (one_by_one after_symbol_interned changes u wrote ys)
all_interned u wrote [] sound all = record { sound = sound; grows = grows_same u; present = All-nil (IsSymbol u) }
all_interned u wrote (y ∷ ys) sound all =
    elim (after_symbol_interned u y) as (λ r. after_symbol_interned u y ≡ r → InternedWhere u (y ∷ ys) (then_others r (λ later. one_by_one after_symbol_interned changes later (wrote || changes u y) ys))) [
      | Ok v ↦ λ is.
          let done = step u y v sound (All-head (CanIntern u) y ys all) is in
          one_more u v y ys (one_by_one after_symbol_interned changes v (wrote || changes u y) ys) done
          (all_interned v (wrote || changes u y) ys done.sound (all_can u v ys done.others (All-tail (CanIntern u) y ys all)))
      | Err e ↦ λ _. tt
    ] refl

-- ---- the symbols of an object
pub symbols_can : (u : Table) (x : Object) → object.IsSound x → AllAtoms (FitsTable u) x → All (CanIntern u) (symbols x)
symbols_can u (symbol home name) sound fits = All-cons (CanIntern u) (home, name) [] (record { fits = fits; ascii = sound.1 }) (All-nil (CanIntern u))
symbols_can u (pair a b) sound fits = All-append (CanIntern u) (symbols a) (symbols b) (symbols_can u a sound.0 fits.0) (symbols_can u b sound.1 fits.1)
symbols_can u (vector xs) sound fits = symbols_can u xs sound.0 fits
symbols_can u (integer n) sound fits = All-nil (CanIntern u)
symbols_can u (rational n d) sound fits = All-nil (CanIntern u)
symbols_can u (character c) sound fits = All-nil (CanIntern u)
symbols_can u (text characters) sound fits = All-nil (CanIntern u)
symbols_can u (uninterned name) sound fits = All-nil (CanIntern u)

both_parts : (P : Symbol → Type 0) (xs ys : List Symbol) → All P (xs ++ ys) → All P xs × All P ys
both_parts P [] ys all = (All-nil P, all)
both_parts P (x ∷ xs) ys all =
    let later = both_parts P xs ys (All-tail P x (xs ++ ys) all) in
    (All-cons P x xs (All-head P x (xs ++ ys) all) later.0, later.1)

pub known_from : (u v : Table) (x : Object) → AllAtoms (FitsTable u) x → All (IsSymbol v) (symbols x) → AllAtoms (IsSymbolStorable v) x
known_from u v (symbol home name) fits all = All-head (IsSymbol v) (home, name) [] all
known_from u v (pair a b) fits all =
    let both = both_parts (IsSymbol v) (symbols a) (symbols b) all in
    (known_from u v a fits.0 both.0, known_from u v b fits.1 both.1)
known_from u v (vector xs) fits all = known_from u v xs fits all
known_from u v (integer n) fits all = tt
known_from u v (rational n d) fits all = tt
known_from u v (character c) fits all = tt
known_from u v (text characters) fits all = tt
known_from u v (uninterned name) fits all = fits

-- the names of what can be interned are of characters
pub ascii_of : (u : Table) (ys : List Symbol) → All (CanIntern u) ys → All (λ y. All (λ b. b < 128) y.1) ys
ascii_of u [] all = All-nil (λ y. All (λ b. b < 128) y.1)
ascii_of u (y ∷ ys) all = All-cons (λ y. All (λ b. b < 128) y.1) y ys (All-head (CanIntern u) y ys all).ascii (ascii_of u ys (All-tail (CanIntern u) y ys all))

pub all_of_mapped : {X Y : Type 0} (P : Y → Type 0) (f : X → Y) (xs : List X) → All P (map f xs) → All (λ x. P (f x)) xs
all_of_mapped P f [] all = All-nil (λ x. P (f x))
all_of_mapped P f (x ∷ xs) all = All-cons (λ x. P (f x)) x xs (All-head P (f x) (map f xs) all) (all_of_mapped P f xs (All-tail P (f x) (map f xs) all))

-- where the symbols of a form are interned, it can be evaluated
pub form_may : (s : WorldState) (x : Object) (v : Table) (wrote : Bool) → packages.AreSoundPackages s.packages → IsForm s.packages x → with_symbols_interned s.packages (symbols x) ≡ Ok (v, wrote) → IsValue v x
form_may s x v wrote sound form is =
    let done : AllInterned s.packages v (symbols x) = subst (InternedWhere s.packages (symbols x)) is (all_interned s.packages false (symbols x) sound (symbols_can s.packages x form.object form.symbols)) in
    record { object = form.object; depth = form.depth; symbols = known_from s.packages v x form.symbols done.present }

-- ---- whole forms
module _ (names : List Name) (all : AreFunctionNames names) (s : WorldState) (x : Object) (sound : IsSoundWorldState s) (form : IsForm s.packages x) where
  after_symbols : (r : Result (Table × Bool) PackageError) → InternedWhere s.packages (symbols x) r → Goods IsValue s (accepted_by true names s r x)
  after_symbols (Ok p) done =
      goods_also IsValue s p.1 (with_packages s p.0) (value names (with_packages s p.0) x) done.grows
      (value_safe names all (with_packages s p.0) x (sound_packages s p.0 sound done.sound done.grows)
      (record { object = form.object; depth = form.depth; symbols = known_from s.packages p.0 x form.symbols done.present }))
  after_symbols (Err e) done = record { good = tt }

  of_accepted : Goods IsValue s (accept names s x)
  of_accepted =
      after_symbols (with_symbols_interned s.packages (symbols x))
      (all_interned s.packages false (symbols x) sound.packages (symbols_can s.packages x form.object form.symbols))

pub accepted_sound : (names : List Name) (s : WorldState) (x : Object) (d : Done Object) → AreFunctionNames names → IsSoundWorldState s → IsForm s.packages x → accept names s x ≡ Ok d → IsSoundAfter s d
accepted_sound names s x d all sound form is =
    let good = (subst (Goods IsValue s) is (of_accepted names all s x sound form)).good in
    record { sound = good.sound; grows = good.grows; value = good.value }
