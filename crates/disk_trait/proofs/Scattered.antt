-- The bytes of a write of which some are new, one by one.
use Rattle.std.proofs.Common.{◌≡◌, ℕ, suc, ◌+◌, ◌*◌, ◌%◌, ◌<◌, ◌≤◌, List, [], ◌∷◌, ◌++◌, length, drop, get_or, nat_lt, if◌then◌else◌, sym, ◌∙◌, ap, arith, append_assoc, append-nil}
use Rattle.std.proofs.lemmas.List.{drop_all, drop_more}
use Rattle.disk_trait.specs.Crash.{scattered_bytes}

pub scattered_step : (share place i value : ℕ) (bytes file next more : List ℕ) → i < length bytes
    → value ≡ (if nat_lt (place % 256 * 37 % 256) share then get_or bytes i 0 else get_or file place 0) → more ≡ next ++ value ∷ []
    → more ++ scattered_bytes share (place + 1) (drop (i + 1) bytes) file ≡ next ++ scattered_bytes share place (drop i bytes) file
unfolding scattered_bytes
scattered_step share place i value bytes file next more within is pushed =
    let rest : List ℕ = scattered_bytes share (place + 1) (drop (i + 1) bytes) file in
    ap (λ (l : List ℕ). l ++ rest) pushed
    ∙ append_assoc next (value ∷ []) rest
    ∙ ap (λ (v : ℕ). next ++ (v ∷ rest)) is
    ∙ ap (λ (n : ℕ). next ++ ((if nat_lt (place % 256 * 37 % 256) share then get_or bytes i 0 else get_or file place 0) ∷ scattered_bytes share n (drop (i + 1) bytes) file)) (omega arith)
    ∙ ap (λ (l : List ℕ). next ++ scattered_bytes share place l file) (sym (drop_more bytes i 0 within))

pub scattered_end : (share place i : ℕ) (bytes file next : List ℕ) → length bytes ≤ i → next ≡ next ++ scattered_bytes share place (drop i bytes) file
unfolding scattered_bytes
scattered_end share place i bytes file next past =
    sym (append-nil next) ∙ ap (λ (l : List ℕ). next ++ scattered_bytes share place l file) (sym (drop_all i bytes past))
