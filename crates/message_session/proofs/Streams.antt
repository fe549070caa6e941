-- What is written and read in parts.
use Rattle.std.proofs.Common.{ℕ, List, [], ◌++◌, Option, None, Some, refl, sym, ap, ◌∙◌, append_assoc}
use Rattle.std.specs.Io.KnownBytes.{Consumes, Keeps}
use Rattle.std.proofs.lemmas.List.{append-nil}
use Rattle.sessions.specs.Streams.{Writes}

-- ---- written

pub none_written : (held : Option (List ℕ)) → Writes held held []
none_written held = λ before is. is ∙ ap Some (sym (append-nil before))

pub writes_both : (held between written : Option (List ℕ)) (bytes more : List ℕ) → Writes held between bytes → Writes between written more → Writes held written (bytes ++ more)
writes_both held between written bytes more first second = λ before is. second (before ++ bytes) (first before is) ∙ ap Some (append_assoc before bytes more)

-- ---- read

pub none_read : (has : Option (List ℕ)) → Consumes has has []
none_read None = tt
none_read (Some bytes) = refl

pub read_both : (has between left : Option (List ℕ)) (bytes more : List ℕ) → Consumes has between bytes → Consumes between left more → Consumes has left (bytes ++ more)
read_both None between left bytes more first second = tt
read_both (Some xs) None left bytes more first second = absurd first
read_both (Some xs) (Some ys) None bytes more first second = absurd second
read_both (Some xs) (Some ys) (Some zs) bytes more first second = first ∙ ap (λ l. bytes ++ l) second ∙ sym (append_assoc bytes more zs)

pub read_kept : (has between left : Option (List ℕ)) (bytes : List ℕ) → Consumes has between bytes → Keeps between left → Consumes has left bytes
read_kept None between left bytes first keeps = tt
read_kept (Some xs) None left bytes first keeps = absurd first
read_kept (Some xs) (Some ys) None bytes first keeps = absurd keeps
read_kept (Some xs) (Some ys) (Some zs) bytes first keeps = first ∙ ap (λ l. bytes ++ l) (sym keeps)
