-- How runs of calls are told, moment by moment.
use Rattle.std.proofs.Common.{inl, inr, ⊎_elim, ℕ, ◌≤◌, ◌∙◌, arith}
use Rattle.disk_trait.specs.Disk.{Image, State, HoldsBytes, Elapses, IsSoundDisk, Throughout}

-- one call, from a disk whose crash would have left an image with P, to one whose crash leaves such an image
pub one_call : (old new : State) (P : Image → Type 0) → IsSoundDisk old → Elapses old new → ((c : Image) → old.may_leave c → P c) → ((c : Image) → new.may_leave c → P c) → Throughout old new P
one_call old new P sound time before after = record {
  later = time.later;
  each = λ c left. ⊎_elim (λ was. before c (sound.only_now c was)) (after c) (time.nothing_else old.moment c (omega arith) left);
  before = λ t c le left. ⊎_elim (λ was. inl was) (λ now. inr (after c now)) (time.nothing_else t c le left);
  performed = time.performed;
  mixes = time.mixes;
}

-- two runs, one after the other
pub joined : (a b c : State) (P Q : Image → Type 0) → Throughout a b P → Throughout b c Q → ((i : Image) → Q i → P i) → Throughout a c P
joined a b c P Q first second weaken = record {
  later = omega (arith, first.later, second.later);
  each = λ i left. ⊎_elim (first.each i) (weaken i) (second.before a.moment i first.later left);
  before = λ t i le left. ⊎_elim (first.before t i le) (λ now. inr (weaken i now)) (second.before t i (omega (arith, le, first.later)) left);
  performed = second.performed ∙ first.performed;
  mixes = second.mixes ∙ first.mixes;
}

-- what holds at each moment of a run does so where less is said of it
pub weaker : (a b : State) (P Q : Image → Type 0) → Throughout a b P → ((i : Image) → P i → Q i) → Throughout a b Q
weaker a b P Q run weaken = record {
  later = run.later;
  each = λ i left. weaken i (run.each i left);
  before = λ t i le left. ⊎_elim (λ was. inl was) (λ now. inr (weaken i now)) (run.before t i le left);
  performed = run.performed;
  mixes = run.mixes;
}

-- the count of failures has no part in it
pub recounted_sound : (s : State) (failures : ℕ) → IsSoundDisk s → IsSoundDisk (record s { failures = failures })
recounted_sound s failures sound = record { reads_stay = sound.reads_stay; counts_now = sound.counts_now; only_now = sound.only_now; bytes = sound.bytes }

-- all that an honest disk might have left is bytes
pub bytes_since : {P : Image → Type 0} (old new : State) → Throughout old new P → IsSoundDisk new → Throughout old new HoldsBytes
bytes_since old new run sound = record {
  later = run.later;
  each = λ c left. sound.bytes old.moment c left;
  before = λ t c le left. inr (sound.bytes t c left);
  performed = run.performed;
  mixes = run.mixes;
}
