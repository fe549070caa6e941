-- Marks: how much was kept, and going back to it.
--     marked_push, rising_push, tables_push      a new mark
--     back      what is left after going back to a mark
--     marks_sound      what was kept at each mark is sound, and its symbols are numbered
use Rattle.std.proofs.Common.{◌≡◌, ◌<◌, ◌≤◌, ℕ, zero, suc, List, [], ◌∷◌, ◌++◌, length, take, get_or, Some, All, refl, sym, ap, subst, arith}
use Rattle.std.specs.List.{AllByRecursion, slice_get}
use Rattle.std.proofs.lemmas.List.{length-take-le}
use Rattle.package_sets.specs.declared.sizes.Sizes.{Sizes}
use Rattle.package_sets.specs.KeptSets.{Kept, cut, sizes_of, AreUpTo}
use Rattle.package_sets.proofs.Places.{all_at}
use Rattle.package_table.specs.Numbering.{AreSymbolsNumbered, IsNumberedSound}
use Rattle.package_table.specs.Meaning.{numbered_of}
use Rattle.package_table.specs.Views.{IsMark, IsState, IsRising, tables_at}
use Rattle.package_sets.proofs.Cut.{cut_itself, cut_cut, up_to_itself}
use Rattle.package_table.proofs.ByName.{numbers_always}

-- ---- a new mark
mark_now : (k : Kept) → IsState k → IsMark k (sizes_of k)
mark_now k state = record { fits = up_to_itself (sizes_of k); state = subst IsState (sym (cut_itself k state.good.as_many)) state }

pub marked_push : (k : Kept) → IsState k → (ns : List Sizes) → AllByRecursion (IsMark k) ns → AllByRecursion (IsMark k) (ns ++ sizes_of k ∷ [])
marked_push k state [] marks = (mark_now k state, tt)
marked_push k state (n ∷ ns) marks = (marks.0, marked_push k state ns marks.1)

up_to_push : (m s : Sizes) (ns : List Sizes) → AllByRecursion (AreUpTo m) ns → AreUpTo m s → AllByRecursion (AreUpTo m) (ns ++ s ∷ [])
up_to_push m s [] all one = (one, tt)
up_to_push m s (n ∷ ns) all one = (all.0, up_to_push m s ns all.1 one)

pub rising_push : (k : Kept) (ns : List Sizes) → AllByRecursion (IsMark k) ns → IsRising ns → IsRising (ns ++ sizes_of k ∷ [])
rising_push k [] marks rising = (tt, tt)
rising_push k (n ∷ ns) marks rising = (up_to_push n (sizes_of k) ns rising.0 marks.0.fits, rising_push k ns marks.1 rising.1)

pub tables_push : (k : Kept) → IsState k → (ns : List Sizes) → tables_at (ns ++ sizes_of k ∷ []) k ≡ tables_at ns k ++ numbered_of k ∷ []
tables_push k state [] = ap (λ (k : Kept). numbered_of k ∷ []) (cut_itself k state.good.as_many)
tables_push k state (n ∷ ns) = ap (λ ts. numbered_of (cut n k) ∷ ts) (tables_push k state ns)

-- ---- going back
fits_taken : {X : Type 0} (xs : List X) (m n : ℕ) → m ≤ n → n ≤ length xs → m ≤ length (take n xs)
fits_taken xs m n less within = let size = length-take-le n xs within in omega (arith, less, size)

mark_cut : (k : Kept) (m n : Sizes) → IsMark k m → IsMark k n → AreUpTo m n → IsMark (cut n k) m
mark_cut k m n mark later less = record {
  fits = record {
    names = fits_taken k.names m.names n.names less.names later.fits.names;
    packages = fits_taken k.packages m.packages n.packages less.packages later.fits.packages;
    symbols = fits_taken k.symbols m.symbols n.symbols less.symbols later.fits.symbols;
    imports = fits_taken k.imports m.imports n.imports less.imports later.fits.imports;
    externals = fits_taken k.externals m.externals n.externals less.externals later.fits.externals;
    uses = fits_taken k.uses m.uses n.uses less.uses later.fits.uses;
  };
  state = subst IsState (sym (cut_cut m n k less)) mark.state;
}

taken : {X : Type 0} (P : X → Type 0) (xs : List X) (i : ℕ) → AllByRecursion P xs → AllByRecursion P (take i xs)
taken P xs zero all = tt
taken P [] (suc i) all = tt
taken P (x ∷ xs) (suc i) all = (all.0, taken P xs i all.1)

pub record Back (k : Kept) (ns : List Sizes) (i : ℕ) (n : Sizes) : Type 0 where
  pub state : IsState (cut n k)
  pub marked : AllByRecursion (IsMark (cut n k)) (take i ns)
  pub rising : IsRising (take i ns)
  pub past : tables_at (take i ns) (cut n k) ≡ take i (tables_at ns k)
  pub now : slice_get (tables_at ns k) i ≡ Some (numbered_of (cut n k))

pub back : (k : Kept) (ns : List Sizes) (i : ℕ) (d : Sizes) → i < length ns → AllByRecursion (IsMark k) ns → IsRising ns → Back k ns i (get_or ns i d)
back k [] i d less marks rising = absurd (omega (arith, less))
back k (m ∷ ns) zero d less marks rising = record { state = marks.0.state; marked = tt; rising = tt; past = refl; now = refl }
back k (m ∷ ns) (suc i) d less marks rising =
    let n : Sizes = get_or ns i d in
    let within : i < length ns = omega (arith, less) in
    let rest = back k ns i d within marks.1 rising.1 in
    let up_to : AreUpTo m n = all_at (AreUpTo m) ns rising.0 i d within in
    let later : IsMark k n = all_at (IsMark k) ns marks.1 i d within in
    record {
      state = rest.state;
      marked = (mark_cut k m n marks.0 later up_to, rest.marked);
      rising = (taken (AreUpTo m) ns i rising.0, rest.rising);
      past = λ t. numbered_of (cut_cut m n k up_to t) ∷ rest.past t;
      now = rest.now;
    }

-- ---- what was kept at the marks
numbered_state : (k : Kept) → IsState k → IsNumberedSound (numbered_of k)
numbered_state k state = (state.sound, subst (AreSymbolsNumbered (numbered_of k)) state.counted (numbers_always k state.good))

each_sound : (k : Kept) (ns : List Sizes) → AllByRecursion (IsMark k) ns → AllByRecursion IsNumberedSound (tables_at ns k)
each_sound k [] marks = tt
each_sound k (n ∷ ns) marks = (numbered_state (cut n k) marks.0.state, each_sound k ns marks.1)

pub marks_sound : (k : Kept) (ns : List Sizes) → AllByRecursion (IsMark k) ns → All IsNumberedSound (tables_at ns k)
marks_sound k ns marks = all_at IsNumberedSound (tables_at ns k) (each_sound k ns marks)
