-- What holds where a device answers so.
use Rattle.device_disk.specs.declared.device.DeviceAnswer.{DeviceAnswer}
use Rattle.device_disk.specs.declared.device.DeviceAnswer.TheVariants.{Done, Interrupted, Failed}

-- where it did what it was asked, where a signal came before that, and where it failed
abbrev pub MatchAnswer : {T : Type 0} → DeviceAnswer T → (T → Type 0) → Type 0 → Type 0 → Type 0
MatchAnswer (Done value) done interrupted failed = done value
MatchAnswer Interrupted done interrupted failed = interrupted
MatchAnswer (Failed error) done interrupted failed = failed
