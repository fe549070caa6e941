-- The symbols of a form fit the packages under which it was read, where these are sound; and its depth is within the nesting,
-- whatever they are.
use Rattle.std.proofs.Common.{◌≡◌, ℕ, ◌≤◌, true, false, List, length, codes, bytes_eq, Option, Some, None, Ok, Err, inl, inr, refl, sym, ap, subst, ◌∙◌, arith}
use Rattle.std.specs.Prelude.{nat_le, ◌&&◌, ◌||◌, if◌then◌else◌, option_map, option_and_then}
use Rattle.std.specs.Option.{option_map_or}
use Rattle.std.specs.FinMap as finite
use Rattle.std.proofs.lemmas.Bool.{and_parts}
use Rattle.lisp_object.specs.Object as o
use Rattle.lisp_object.specs.Object.{Object, is_nil, object_depth}
use Rattle.lisp_object.proofs.ProperLists.{nil_symbol}
use Rattle.package_table.specs.declared.error.PackageError.TheVariants.{LockedPackage}
use Rattle.package_table.specs.Table.{Name, Present, Package, Table as Packages, common_lisp, keyword, AreSoundPackages, Finds}
use Rattle.package_table.specs.Lookup.{home_by_name}
use Rattle.package_table.specs.Resolving.{found_at, new_in, resolution}
use Rattle.package_table.proofs.Found.{found_finds, present_found}
use Rattle.package_table.proofs.Frames.{equal_names}
use Rattle.package_table.proofs.Keeping.{present_at_home}
use Rattle.lisp_reading.specs.Answering.{is_home, is_known}
use Rattle.lisp_reading.specs.Setting.{Setting}
use Rattle.lisp_reading.specs.Fitting.{FitsPackages, IsFitting}
use Rattle.lisp_reading.specs.Reading.{form, reads}
use Rattle.lisp_reading.proofs.Allowing.{IsFirst, nil_first, Allows, good_form}

module _ (t : Packages) (sound : AreSoundPackages t) where
  -- what is found is found at its home
  finds_fit : (p own home : Name) → Finds t p own home → FitsPackages t (o.symbol home own)
  finds_fit p own home finds = λ h e.
      let here : home_by_name t home own ≡ Some home = present_found t own home home (present_at_home t p own home sound.joined finds) in
      let same : Some h ≡ Some home = sym e ∙ here in
      cc

  first_fits : (own : Name) → IsFirst own → FitsPackages t (o.symbol common_lisp own)
  first_fits own there =
      finds_fit common_lisp own common_lisp (inl (
      ap (λ (k : Option Package). option_map (λ (e : Present). e.home) (option_and_then (λ (k : Package). finite.get k.symbols own) k)) sound.first.fixed ∙ there
      ))

  keyword_fits : (own : Name) → FitsPackages t (o.symbol keyword own)
  keyword_fits own = λ h e. elim (found_finds t own keyword h e) [
    | inl here ↦ sound.first.own own h here
    | inr used ↦ absurd (sound.first.unusing used.0 used.1)
  ]

  known_fits : (home own : Name) → is_known t home own ≡ true → FitsPackages t (o.symbol home own)
  known_fits home own known =
      elim (is_nil home own) as (λ b. is_nil home own ≡ b → (b || (nat_le (length own) 4096 && (finite.contains_key t home && is_home home (resolution t home own)))) ≡ true → FitsPackages t (o.symbol home own)) [
        | true ↦ λ e k. subst (FitsPackages t) (sym (nil_symbol home own e)) (first_fits (codes "NIL") nil_first)
        | false ↦ λ e k.
            let last = and_parts (finite.contains_key t home) (is_home home (resolution t home own)) (and_parts (nat_le (length own) 4096) (finite.contains_key t home && is_home home (resolution t home own)) k).1 in
            λ h is.
            let there : resolution t home own ≡ Ok (found_at h) = ap (λ (f : Option Name). option_map_or (λ h. Ok (found_at h)) f (if bytes_eq home common_lisp then Err LockedPackage else Ok (new_in home))) is in
            equal_names h home (sym (ap (is_home home) there) ∙ last.1)
      ] refl known

  fits_allow : (limit : ℕ) → limit ≤ 4096 → Allows t limit (FitsPackages t)
  fits_allow limit few = record {
    present = finds_fit;
    new = λ p own none h is. let other : None ≡ Some h = sym none ∙ is in absurd cc;
    first = first_fits;
    keywords = keyword_fits;
    known = known_fits;
    answered = λ own le. le;
    uninterned = λ own le. omega (arith, le, few);
    integer = λ n. tt;
    rational = λ n d. tt;
    character = λ c. tt;
    text = λ bytes. tt;
  }

-- what holds of everything
abbrev Anything : Object → Type 0
Anything x = Unit {0}

anything_allows : (t : Packages) (limit : ℕ) → Allows t limit Anything
anything_allows t limit = record {
  present = λ p own home finds. tt;
  new = λ p own none. tt;
  first = λ own there. tt;
  keywords = λ own. tt;
  known = λ home own is. tt;
  answered = λ own le. tt;
  uninterned = λ own le. tt;
  integer = λ n. tt;
  rational = λ n d. tt;
  character = λ c. tt;
  text = λ bytes. tt;
}

-- ---- forms

pub form_fits : (setting : Setting) (text : List ℕ) (x : Object) (start «end» next : ℕ) → AreSoundPackages setting.packages → setting.limits.nesting ≤ 100 → setting.limits.token ≤ 4096
    → reads setting text ≡ form x start «end» next → IsFitting setting.packages x
form_fits setting text x start «end» next sound deep few e =
    let good = good_form setting (FitsPackages setting.packages) (fits_allow setting.packages sound setting.limits.token few) text x start «end» next e in
    record { depth = omega (arith, good.0, deep); symbols = good.1 }

pub form_depth : (setting : Setting) (text : List ℕ) (x : Object) (start «end» next : ℕ) → reads setting text ≡ form x start «end» next → object_depth x ≤ setting.limits.nesting
form_depth setting text x start «end» next e = (good_form setting Anything (anything_allows setting.packages setting.limits.token) text x start «end» next e).0
