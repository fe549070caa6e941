use Rattle.std.proofs.Common.{◌≡◌, true, sym, ◌∙◌, subst}
use Rattle.readtable_core.proofs.Sound.{function_sound, place_of, upper_is}
use Rattle.readtable_core.specs.Sound.{is_dispatching}
use Rattle.readtable_core.specs.Tables.{CharacterEntry}
use Rattle.readtable_core.specs.Entries.{character_entry}
use Rattle.readtable_core.proofs.entry.CharacterSlot.set_function.Goals as goal

pub invariant_of-self : goal.invariant_of-self
invariant_of-self c =
    let e = character_entry c.self.inside in
    let dispatching : is_dispatching e ≡ true = subst (λ (x : CharacterEntry). is_dispatching x ≡ true) (sym c.self.view_is) c.requires.dispatching in
    rw (c.from.ensures ∙ c.to_ascii_uppercase.ensures.value ∙ upper_is c.args.sub)
    (function_sound e c.args.sub c.args.name c.self.invariant (place_of e c.args.sub c.self.invariant dispatching c.requires.sub_character)
    c.requires.digit c.requires.name c.as_bytes.ensures.sound)
