-- What holds of each atom of an object, and of each symbol: where it is weaker, and along lists.
use Rattle.std.proofs.Common.{◌≡◌, ℕ, List, [], ◌∷◌, map, Option, Some, None, unwrap_or, option_map, sym, ap, subst, ◌∙◌}
use Rattle.std.specs.Prelude.{All}
use Rattle.std.proofs.lemmas.List.Elements.{All-cons, All-head, All-tail, All-nil}
use Rattle.lisp_object.specs.declared.datum.Datum
use Rattle.lisp_object.specs.declared.datum.Datum.{Datum}
use Rattle.lisp_object.specs.Object as o
use Rattle.lisp_object.specs.Object.{Object, AllAtoms, AllSymbols, OfSymbol, pairs, nil}
use Rattle.lisp_object.specs.Datum.{object_of}
use Rattle.lisp_object.proofs.Objects.{object_of-List, object_of-dotted, object_of-Vector}

pub atoms_weaker : (P Q : Object → Type 0) → ((x : Object) → P x → Q x) → (x : Object) → AllAtoms P x → AllAtoms Q x
atoms_weaker P Q h (o.pair a b) all = (atoms_weaker P Q h a all.0, atoms_weaker P Q h b all.1)
atoms_weaker P Q h (o.vector xs) all = atoms_weaker P Q h xs all
atoms_weaker P Q h (o.integer n) all = h (o.integer n) all
atoms_weaker P Q h (o.rational n d) all = h (o.rational n d) all
atoms_weaker P Q h (o.character c) all = h (o.character c) all
atoms_weaker P Q h (o.text bytes) all = h (o.text bytes) all
atoms_weaker P Q h (o.symbol home name) all = h (o.symbol home name) all
atoms_weaker P Q h (o.uninterned name) all = h (o.uninterned name) all

of_symbol_weaker : (P Q : List ℕ → List ℕ → Type 0) → ((home name : List ℕ) → P home name → Q home name) → (x : Object)
    → OfSymbol P x → OfSymbol Q x
of_symbol_weaker P Q h (o.symbol home name) holds = h home name holds
of_symbol_weaker P Q h (o.pair a b) holds = tt
of_symbol_weaker P Q h (o.vector xs) holds = tt
of_symbol_weaker P Q h (o.integer n) holds = tt
of_symbol_weaker P Q h (o.rational n d) holds = tt
of_symbol_weaker P Q h (o.character c) holds = tt
of_symbol_weaker P Q h (o.text bytes) holds = tt
of_symbol_weaker P Q h (o.uninterned name) holds = tt

pub symbols_weaker : (P Q : List ℕ → List ℕ → Type 0) → ((home name : List ℕ) → P home name → Q home name) → (x : Object)
    → AllSymbols P x → AllSymbols Q x
symbols_weaker P Q h = atoms_weaker (OfSymbol P) (OfSymbol Q) (of_symbol_weaker P Q h)

module _ (P : Object → Type 0) where
  -- of items before an end, and back
  pub atoms_pairs : (xs : List Datum) (end : Object) → All (λ d. AllAtoms P (object_of d)) xs → AllAtoms P end
      → AllAtoms P (pairs (map object_of xs) end)
  atoms_pairs [] end all last = last
  atoms_pairs (x ∷ xs) end all last = (
    All-head (λ d. AllAtoms P (object_of d)) x xs all,
    atoms_pairs xs end (All-tail (λ d. AllAtoms P (object_of d)) x xs all) last,
  )

  pub pairs_atoms : (xs : List Datum) (end : Object) → AllAtoms P (pairs (map object_of xs) end)
      → All (λ d. AllAtoms P (object_of d)) xs × AllAtoms P end
  pairs_atoms [] end all = (All-nil (λ d. AllAtoms P (object_of d)), all)
  pairs_atoms (x ∷ xs) end all =
      let later = pairs_atoms xs end all.1 in
      (All-cons (λ d. AllAtoms P (object_of d)) x xs all.0 later.0, later.1)

  -- of a list and of a vector, by their items
  pub atoms_List : (items : List Datum) (tail : Option Datum) (d : Datum) → d ≡ Datum.List items tail
      → All (λ x. AllAtoms P (object_of x)) items → AllAtoms P (unwrap_or (option_map object_of tail) nil) → AllAtoms P (object_of d)
  atoms_List items None d is all end =
      subst (AllAtoms P) (sym (ap object_of is ∙ object_of-List items)) (atoms_pairs items nil all end)
  atoms_List items (Some t) d is all end =
      subst (AllAtoms P) (sym (ap object_of is ∙ object_of-dotted items t)) (atoms_pairs items (object_of t) all end)

  pub atoms_Vector : (items : List Datum) (d : Datum) → d ≡ Datum.Vector items → All (λ x. AllAtoms P (object_of x)) items → P nil
      → AllAtoms P (object_of d)
  atoms_Vector items d is all end =
      subst (AllAtoms P) (sym (ap object_of is ∙ object_of-Vector items)) (atoms_pairs items nil all end)
