-- Where the words are taken, the status is of a session or of a fault.
use Rattle.std.proofs.Common.{◌≡◌, ◌⊎◌, Bool, ℕ, List, Option, [], ◌∷◌, true, false, true≢false, ap, refl, inl, inr, ◌∙◌, sym, subst, arith}
use Rattle.clap.specs.Words.{IsAmong, Kinds}
use Rattle.clap.specs.declared.error.kind.ErrorKind.{ErrorKind}
use Rattle.clap.specs.declared.error.kind.ErrorKind.TheVariants.{OutOfMemory}
use Rattle.sessions.specs.declared.ending.Ended.{Ended}
use Rattle.sessions.specs.declared.ending.Ended.TheVariants.{End, Store, Unaccepted, Unreadable}
use Rattle.session_words.specs.declared.wanted.SessionOptions.{SessionOptions}
use Rattle.store_commands.specs.declared.status.Status.{Status}
use Rattle.store_commands.specs.declared.status.Status.TheVariants.{Done, Helped, FormRefused, Unanswered, WordsRefused, LeftOut, Fault}
use Rattle.store_commands.specs.Commands.{IsEarlyFault, is_opening_fault}
use Rattle.store_commands.specs.Status.{EndsAfter, HasFaultNumber, IsAfterOneOf, IsStatusAfterWords, IsCarriedOut, IsFaultNumber, IsOfWords, TakesWords, status_after, status_of_ended, status_of_host}
use Rattle.store_commands.specs.EndLines.{TellsFault}
use Rattle.store_commands.specs.declared.told.Remark.TheVariants.{Nothing}
use Rattle.lisp_object.specs.declared.refusal.TheConstants.{NO_MEMORY, OUTPUT}
use Rattle.disk_trait.specs.declared.host.HostError.{HostError}
use Rattle.disk_trait.specs.declared.host.HostError.TheVariants as host

-- of a session
of_session : (ended : Ended) → TakesWords (status_of_ended ended)
of_session End = tt
of_session (Unreadable number place) = tt
of_session (Unaccepted number place) = tt
of_session (Store number) = tt

pub taken_at_end : (status given : Status) (ended : Ended) → status ≡ given → given ≡ status_of_ended ended → TakesWords status
taken_at_end status given ended same is = subst TakesWords (sym (same ∙ is)) (of_session ended)

-- of out of memory, or of the output
of_memory : (status : Status) → IsStatusAfterWords OutOfMemory status → TakesWords status
of_memory status (inl is) = subst TakesWords (sym is) tt
of_memory status (inr both) = subst TakesWords (sym both.1) tt

pub taken_at_memory : (status given : Status) (kind : ErrorKind) → status ≡ given → kind ≡ OutOfMemory → IsStatusAfterWords kind given → TakesWords status
taken_at_memory status given kind same memory after =
    subst TakesWords (sym same) (of_memory given (subst (λ k. IsStatusAfterWords k given) memory after))

-- the status after a session is that of its end, or a strict one answered nothing
pub status_so : (wanted : SessionOptions) (ended : Ended) (unanswered : Bool) (status : Status) → status ≡ status_after wanted.strict unanswered ended
    → ((status ≡ status_of_ended ended) ⊎ ((wanted.strict ≡ true) × (ended ≡ End) × (status ≡ Unanswered)))
status_so wanted End unanswered status is = go wanted.strict unanswered is
  where
    go : (strict none : Bool) → status ≡ status_after strict none End → ((status ≡ Done) ⊎ ((strict ≡ true) × (End ≡ End) × (status ≡ Unanswered)))
    go false none is = inl is
    go true false is = inl is
    go true true is = inr (refl, refl, is)
status_so wanted (Unreadable number place) unanswered status is = inl is
status_so wanted (Unaccepted number place) unanswered status is = inl is
status_so wanted (Store number) unanswered status is = inl is

-- a fault after a session is the number that the session ended with
end_is : (ended : Ended) (number : ℕ) → status_of_ended ended ≡ Fault number → ended ≡ Store number
end_is End number is = absurd (cc)
end_is (Unreadable code place) number is = absurd (cc)
end_is (Unaccepted code place) number is = absurd (cc)
end_is (Store code) number is = let same : code ≡ number = cc in ap (λ n. Store n) same

pub end_at : (status given : Status) (ended : Ended) (number : ℕ) → status ≡ given → given ≡ status_of_ended ended → status ≡ Fault number → ended ≡ Store number
end_at status given ended number same is fault = end_is ended number (sym is ∙ sym same ∙ fault)

-- of files that were not opened
host_status : (error : HostError) → IsEarlyFault (status_of_host error)
host_status host.OutOfMemory = inl refl
host_status host.Locked = inr (inr refl)
host_status host.NoStore = inr (inr refl)
host_status host.NoName = inr (inr refl)
host_status host.Linked = inr (inr refl)
host_status host.NoFile = inr (inr refl)
host_status (host.Failed call) = inr (inr refl)
host_status (host.System error) = inr (inr refl)

pub early_after : (status : Status) (error : HostError) → status ≡ status_of_host error → IsEarlyFault status
early_after status error is = subst IsEarlyFault (sym is) (host_status error)

pub taken_early : (status : Status) → IsEarlyFault status → TakesWords status
taken_early status (inl is) = subst TakesWords (sym is) tt
taken_early status (inr (inl is)) = subst TakesWords (sym is) tt
taken_early status (inr (inr is)) = subst TakesWords (sym is) tt

-- ---- after words that have mistakes

after_memory : (status : Status) → IsStatusAfterWords OutOfMemory status → status ≡ Fault NO_MEMORY
after_memory status (inl is) = is
after_memory status (inr both) = absurd (cc)

after_one : (kinds : Kinds) (kind : ErrorKind) (status : Status) → IsAmong kind kinds → IsStatusAfterWords kind status → IsAfterOneOf kinds status
after_one [] kind status none after = absurd none
after_one (k ∷ ks) kind status (inl is) after = inl (subst (λ x. IsStatusAfterWords x status) is after)
after_one (k ∷ ks) kind status (inr among) after = inr (after_one ks kind status among after)

pub ends_after : (kinds : Kinds) (kind : ErrorKind) (status : Status) → (kind ≡ OutOfMemory) ⊎ IsAmong kind kinds → IsStatusAfterWords kind status → EndsAfter kinds status
ends_after [] kind status (inl memory) after = of_memory status (subst (λ k. IsStatusAfterWords k status) memory after)
ends_after [] kind status (inr none) after = absurd none
ends_after (k ∷ ks) kind status (inl memory) after = inl (after_memory status (subst (λ x. IsStatusAfterWords x status) memory after))
ends_after (k ∷ ks) kind status (inr among) after = inr (after_one (k ∷ ks) kind status among after)

-- where there is no mistake only memory can be refused
pub only_memory : (kinds : Kinds) (kind : ErrorKind) → kinds ≡ [] → (kind ≡ OutOfMemory) ⊎ IsAmong kind kinds → kind ≡ OutOfMemory
only_memory kinds kind none (inl memory) = memory
only_memory kinds kind none (inr among) = absurd (subst (IsAmong kind) none among)

pub memory_at : (status given : Status) (kind : ErrorKind) → status ≡ given → kind ≡ OutOfMemory → IsStatusAfterWords kind given → status ≡ Fault NO_MEMORY
memory_at status given kind same memory after = same ∙ after_memory given (subst (λ k. IsStatusAfterWords k given) memory after)

-- ---- the numbers of an opening are those of nothing else

pub other_number : (number given : ℕ) → number ≡ given → is_opening_fault given ≡ false → is_opening_fault number ≡ true → ⊥
other_number number given is other of = true≢false (sym of ∙ ap is_opening_fault is ∙ other)

-- ---- after words that gave no command

pub words_carry_out : (status : Status) → IsOfWords status → IsCarriedOut status → ⊥
words_carry_out Done none carried = none
words_carry_out FormRefused none carried = none
words_carry_out Unanswered none carried = none
words_carry_out LeftOut none carried = none
words_carry_out Helped of (inl is) = absurd (cc)
words_carry_out Helped of (inr (inl is)) = absurd (cc)
words_carry_out Helped of (inr (inr is)) = absurd (cc)
words_carry_out WordsRefused of (inl is) = absurd (cc)
words_carry_out WordsRefused of (inr (inl is)) = absurd (cc)
words_carry_out WordsRefused of (inr (inr is)) = absurd (cc)
words_carry_out (Fault number) of (inl is) = absurd (cc)
words_carry_out (Fault number) of (inr (inl is)) = absurd (cc)
words_carry_out (Fault number) of (inr (inr is)) = absurd (cc)

number_of_words : (number : ℕ) → (number ≡ NO_MEMORY) ⊎ (number ≡ OUTPUT) → IsFaultNumber number
number_of_words number (inl memory) = inr (inr memory)
number_of_words number (inr output) = subst IsFaultNumber (sym output) (inr (inl (omega arith, omega arith)))

pub fault_of_words : (status : Status) → IsOfWords status → HasFaultNumber status
fault_of_words Done of = absurd of
fault_of_words FormRefused of = absurd of
fault_of_words Unanswered of = absurd of
fault_of_words LeftOut of = absurd of
fault_of_words Helped of = λ number is. absurd (cc)
fault_of_words WordsRefused of = λ number is. absurd (cc)
fault_of_words (Fault given) of = λ number is. let same : given ≡ number = cc in subst IsFaultNumber same (number_of_words given of)

opening_of_words : (given : ℕ) → (given ≡ NO_MEMORY) ⊎ (given ≡ OUTPUT) → is_opening_fault given ≡ true → ⊥
opening_of_words given (inl memory) = other_number given NO_MEMORY memory refl
opening_of_words given (inr output) = other_number given OUTPUT output refl

pub words_open : (status : Status) → IsOfWords status → (number : ℕ) → status ≡ Fault number → is_opening_fault number ≡ true → ⊥
words_open Done none number is of = none
words_open FormRefused none number is of = none
words_open Unanswered none number is of = none
words_open LeftOut none number is of = none
words_open Helped told number is of = absurd (cc)
words_open WordsRefused told number is of = absurd (cc)
words_open (Fault given) told number is of = let same : given ≡ number = cc in opening_of_words given told (ap is_opening_fault same ∙ of)

-- ---- what is told after them

pub told_after_words : (given status : Status) (old mid new : Option (List ℕ)) → status ≡ given → ((given ≡ WordsRefused → ⊥) → mid ≡ old)
    → TellsFault given Nothing mid new → TellsFault status Nothing old new
told_after_words given status old mid new same kept told = subst (λ (s : Status). TellsFault s Nothing old new) (sym same) (go given kept told)
  where
    go : (s : Status) → ((s ≡ WordsRefused → ⊥) → mid ≡ old) → TellsFault s Nothing mid new → TellsFault s Nothing old new
    go Done kept told = tt
    go Helped kept told = tt
    go WordsRefused kept told = tt
    go FormRefused kept told = told ∙ kept (λ is. absurd (cc))
    go Unanswered kept told = subst (λ (o : Option (List ℕ)). TellsFault Unanswered Nothing o new) (kept (λ is. absurd (cc))) told
    go LeftOut kept told = subst (λ (o : Option (List ℕ)). TellsFault LeftOut Nothing o new) (kept (λ is. absurd (cc))) told
    go (Fault number) kept told = subst (λ (o : Option (List ℕ)). TellsFault (Fault number) Nothing o new) (kept (λ is. absurd (cc))) told
