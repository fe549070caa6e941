-- Calls of a stream that are made again after one that moved nothing.
use Rattle.std.proofs.Common.{◌≡◌, ℕ, List, Option, None, Some, refl, subst}
use Rattle.std.specs.Prelude.{Result, Ok, Err}
use Rattle.std.specs.Io.KnownBytes.{Keeps, ReadConsumes, WriteAppends}

pub kept : (bytes : Option (List ℕ)) → Keeps bytes bytes
kept None = tt
kept (Some xs) = refl

pub kept_twice : (old mid new : Option (List ℕ)) → Keeps old mid → Keeps mid new → Keeps old new
kept_twice None mid new first second = tt
kept_twice (Some xs) None new first second = absurd first
kept_twice (Some xs) (Some ys) new first second = subst (λ (zs : List ℕ). Keeps (Some zs) new) first second

pub read_again : {E : Type 0} (old mid new : Option (List ℕ)) (result : Result ℕ E) (buf : List ℕ) → Keeps old mid → ReadConsumes mid new result buf
    → ReadConsumes old new result buf
read_again None mid new (Ok n) buf before read = (tt, read.1)
read_again None mid new (Err e) buf before read = tt
read_again (Some xs) None new result buf before read = absurd before
read_again (Some xs) (Some ys) new result buf before read = subst (λ (zs : List ℕ). ReadConsumes (Some zs) new result buf) before read

pub written_again : {E : Type 0} (old mid new : Option (List ℕ)) (result : Result ℕ E) (buf : List ℕ) → Keeps old mid → WriteAppends mid new result buf
    → WriteAppends old new result buf
written_again None mid new (Ok n) buf before wrote = tt
written_again None mid new (Err e) buf before wrote = tt
written_again (Some xs) None new result buf before wrote = absurd before
written_again (Some xs) (Some ys) new result buf before wrote = subst (λ (zs : List ℕ). WriteAppends (Some zs) new result buf) before wrote

-- the call that was interrupted moved nothing
pub read_nothing : {E : Type 0} (old new : Option (List ℕ)) (result : Result ℕ E) (error : E) (buf : List ℕ) → result ≡ Err error → ReadConsumes old new result buf → Keeps old new
read_nothing old new result error buf is read = subst (λ r. ReadConsumes old new r buf) is read

pub wrote_nothing : {E : Type 0} (old new : Option (List ℕ)) (result : Result ℕ E) (error : E) (buf : List ℕ) → result ≡ Err error → WriteAppends old new result buf → Keeps old new
wrote_nothing old new result error buf is wrote = subst (λ r. WriteAppends old new r buf) is wrote
