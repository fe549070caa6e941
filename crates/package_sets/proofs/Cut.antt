-- Going back to the lengths that the lists had.
--     cut_itself      at the lengths of now nothing goes
--     cut_cut      what goes first does not matter
--     cut_package, cut_symbol, cut_import, cut_external, cut_use      what was added later goes
--     up_to_itself, up_to_package ..      that lengths are at most those of now
use Rattle.std.proofs.Common.{◌≡◌, ◌≤◌, ℕ, Bool, true, false, cond, [], ◌∷◌, ◌++◌, length, take, refl, arith}
use Rattle.std.specs.Prelude.{bytes_eq}
use Rattle.std.specs.List.{list_any}
use Rattle.std.proofs.lemmas.List.{length_push, take_all, take-take, take-append-le}
use Rattle.package_sets.specs.declared.sizes.Sizes.{Sizes}
use Rattle.package_sets.specs.KeptSets.{Kept, Name, cut, sizes_of, pair_at, AreUpTo}
use Rattle.package_sets.specs.Changes.{with_name, number_among, with_package, with_symbol, with_import, with_external_number, with_use}

pub cut_itself : (k : Kept) → length k.imported ≡ length k.imports → cut (sizes_of k) k ≡ k
cut_itself k as_many = λ i. record {
  names = take_all (length k.names) k.names (omega arith) i;
  packages = take_all (length k.packages) k.packages (omega arith) i;
  symbols = take_all (length k.symbols) k.symbols (omega arith) i;
  imports = take_all (length k.imports) k.imports (omega arith) i;
  imported = take_all (length k.imports) k.imported (omega (arith, as_many)) i;
  externals = take_all (length k.externals) k.externals (omega arith) i;
  uses = take_all (length k.uses) k.uses (omega arith) i;
}

pub cut_cut : (n m : Sizes) (k : Kept) → AreUpTo n m → cut n (cut m k) ≡ cut n k
cut_cut n m k less = λ i. record {
  names = take-take n.names m.names k.names less.names i;
  packages = take-take n.packages m.packages k.packages less.packages i;
  symbols = take-take n.symbols m.symbols k.symbols less.symbols i;
  imports = take-take n.imports m.imports k.imports less.imports i;
  imported = take-take n.imports m.imports k.imported less.imports i;
  externals = take-take n.externals m.externals k.externals less.externals i;
  uses = take-take n.uses m.uses k.uses less.uses i;
}

pub up_to_itself : (n : Sizes) → AreUpTo n n
up_to_itself n = record {
  names = omega arith;
  packages = omega arith;
  symbols = omega arith;
  imports = omega arith;
  externals = omega arith;
  uses = omega arith;
}

module _ (n : Sizes) (k : Kept) (less : AreUpTo n (sizes_of k)) where
  pub cut_package : (name : Name) → cut n (with_package k name) ≡ cut n k
  cut_package name = λ i. record (cut n k) { packages = take-append-le n.packages k.packages (name ∷ []) less.packages i }

  named_back : (name : Name) → take n.names (with_name k.names name) ≡ take n.names k.names
  named_back name = by (list_any (bytes_eq name) k.names)
    where
      by : (b : Bool) → take n.names (cond b k.names (k.names ++ name ∷ [])) ≡ take n.names k.names
      by true = refl
      by false = take-append-le n.names k.names (name ∷ []) less.names

  pub cut_symbol : (h : ℕ) (name : Name) → cut n (with_symbol k h name) ≡ cut n k
  cut_symbol h name = λ i. record (cut n k) {
    names = named_back name i;
    symbols = take-append-le n.symbols k.symbols ((h, number_among k.names name) ∷ []) less.symbols i;
  }

  pub cut_import : length k.imported ≡ length k.imports → (p s : ℕ) → cut n (with_import k p s) ≡ cut n k
  cut_import as_many p s = λ i. record (cut n k) {
    imports = take-append-le n.imports k.imports ((p, (pair_at k.symbols s).1) ∷ []) less.imports i;
    imported = take-append-le n.imports k.imported (s ∷ []) (omega (arith, less.imports, as_many)) i;
  }

  pub cut_external : (p s : ℕ) → cut n (with_external_number k p s) ≡ cut n k
  cut_external p s = λ i. record (cut n k) { externals = take-append-le n.externals k.externals ((p, s) ∷ []) less.externals i }

  pub cut_use : (p q : ℕ) → cut n (with_use k p q) ≡ cut n k
  cut_use p q = λ i. record (cut n k) { uses = take-append-le n.uses k.uses ((p, q) ∷ []) less.uses i }

  pub up_to_package : (name : Name) → AreUpTo n (sizes_of (with_package k name))
  up_to_package name = record {
    names = less.names;
    packages = omega (arith, less.packages, length_push k.packages name);
    symbols = less.symbols;
    imports = less.imports;
    externals = less.externals;
    uses = less.uses;
  }

  pub up_to_symbol : (h : ℕ) (name : Name) → AreUpTo n (sizes_of (with_symbol k h name))
  up_to_symbol h name = record {
    names = by (list_any (bytes_eq name) k.names);
    packages = less.packages;
    symbols = omega (arith, less.symbols, length_push k.symbols (h, number_among k.names name));
    imports = less.imports;
    externals = less.externals;
    uses = less.uses;
  }
    where
      by : (b : Bool) → n.names ≤ length (cond b k.names (k.names ++ name ∷ []))
      by true = less.names
      by false = omega (arith, less.names, length_push k.names name)

  pub up_to_import : (p s : ℕ) → AreUpTo n (sizes_of (with_import k p s))
  up_to_import p s = record {
    names = less.names;
    packages = less.packages;
    symbols = less.symbols;
    imports = omega (arith, less.imports, length_push k.imports (p, (pair_at k.symbols s).1));
    externals = less.externals;
    uses = less.uses;
  }

  pub up_to_external : (p s : ℕ) → AreUpTo n (sizes_of (with_external_number k p s))
  up_to_external p s = record {
    names = less.names;
    packages = less.packages;
    symbols = less.symbols;
    imports = less.imports;
    externals = omega (arith, less.externals, length_push k.externals (p, s));
    uses = less.uses;
  }

  pub up_to_use : (p q : ℕ) → AreUpTo n (sizes_of (with_use k p q))
  up_to_use p q = record {
    names = less.names;
    packages = less.packages;
    symbols = less.symbols;
    imports = less.imports;
    externals = less.externals;
    uses = omega (arith, less.uses, length_push k.uses (p, q));
  }
