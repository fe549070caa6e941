-- Pieces of a file, read one after the other.
use Rattle.std.proofs.Common.{◌≡◌, ℕ, ◌+◌, ◌<◌, ◌≤◌, List, [], ◌∷◌, ◌++◌, length, IsTrue, sym, ◌∙◌, ap, subst, arith}
use Rattle.std.proofs.lemmas.List.{length-append}
use Rattle.disk_trait.specs.Disk.{Image, file_of}
use Rattle.disk_trait.specs.declared.half.Half.{Half}
use Rattle.log_look.specs.Live.{IsHonestWatch, IsPiece, IsRead, Later, Watch, file_at}
use Rattle.log_look.specs.LookResults.{IsReadToEnd}

-- time goes on in turn
pub later_still : (a b c : Watch) → Later a b → Later b c → Later a c
later_still a b c first second = record {
  honest = second.honest ∙ first.honest;
  files = second.files ∙ first.files;
  later = omega (arith, first.later, second.later);
}

pub honest_still : (a b : Watch) → Later a b → IsHonestWatch a → IsHonestWatch b
honest_still a b later honest = subst IsTrue (sym later.honest) honest

pub file_still : (half : Half) (a b : Watch) → Later a b → file_at half b ≡ file_at half a
file_still half a b later =
    let view : (ℕ → Image) → ℕ → List ℕ = λ files t. file_of half (files t) in ap view later.files

-- what is read later is read after what was read
pub read_on : (file : ℕ → List ℕ) (at next : ℕ) (xs ys : List ℕ) (from middle to : ℕ) → IsRead file at xs from middle → next ≡ at + length xs → IsRead file next ys middle to → IsRead file at (xs ++ ys) from to
read_on file at next [] ys from middle to first is second =
    let same : next ≡ at = omega (arith, is) in
    waited file at ys from middle to first (subst (λ (n : ℕ). IsRead file n ys middle to) same second)
  where
    waited : (file : ℕ → List ℕ) (at : ℕ) (ys : List ℕ) (from middle to : ℕ) → from ≤ middle → IsRead file at ys middle to → IsRead file at ys from to
    waited file at [] from middle to le read = omega (arith, le, read)
    waited file at (y ∷ ys) from middle to le read = (read.0, omega (arith, le, read.1), read.2, read.3)
read_on file at next (x ∷ xs) ys from middle to first is second =
    (first.0, first.1, first.2, read_on file (at + 1) next xs ys first.0 middle to first.3 (omega (arith, is)) second)

-- nothing more is waited for
pub read_until : (file : ℕ → List ℕ) (at : ℕ) (xs : List ℕ) (from middle to : ℕ) → IsRead file at xs from middle → middle ≤ to → IsRead file at xs from to
read_until file at [] from middle to read le = omega (arith, le, read)
read_until file at (x ∷ xs) from middle to read le = (read.0, read.1, read.2, read_until file (at + 1) xs read.0 middle to read.3 le)

-- one piece more of a file, behind the bytes that were read
module _ (half : Half) (a b c : Watch) (bytes piece all : List ℕ) (at size : ℕ) (later : Later a b) (behind : at ≡ length bytes) (is : all ≡ bytes ++ piece)
    (before : IsHonestWatch a → IsRead (file_at half a) 0 bytes a.now b.now) (more : IsHonestWatch b → IsPiece (file_at half b) at size piece b.now c.now) where
  there : IsHonestWatch a → IsPiece (file_at half a) at size piece b.now c.now
  there honest = subst (λ (f : ℕ → List ℕ). IsPiece f at size piece b.now c.now) (file_still half a b later) (more (honest_still a b later honest))

  together : (honest : IsHonestWatch a) → IsRead (file_at half a) 0 all a.now (there honest).moment
  together honest =
      subst (λ (l : List ℕ). IsRead (file_at half a) 0 l a.now (there honest).moment) (sym is)
      (read_on (file_at half a) 0 at bytes piece a.now b.now (there honest).moment (before honest) (omega (arith, behind)) (there honest).read)

  pub piece_on : IsHonestWatch a → IsRead (file_at half a) 0 all a.now c.now
  piece_on honest = read_until (file_at half a) 0 all a.now (there honest).moment c.now (together honest) (there honest).not_after

  pub last_piece : length piece < size → IsHonestWatch a → IsReadToEnd (file_at half a) all a.now c.now
  last_piece few honest = record {
    moment = (there honest).moment;
    read = together honest;
    not_after = (there honest).not_after;
    ended = omega (arith, (there honest).ended few, behind, ap length is, length-append bytes piece);
  }
