use Rattle.std.specs.Prelude.{◌≡◌, ◌++◌, drop, map}
use Rattle.pazturrok_c.specs.JoinedTexts.{texts_in}
use Rattle.pazturrok_c.proofs.many.texts_of.Given as goal

-- the texts so far, and those that are left
abbrev pub invariant-loop-end : goal.invariant-loop-end
invariant-loop-end l = map (λ text. text.now) l.texts.items ++ texts_in l.start l.rest (drop l.end-index l.ends) ≡ texts_in 0 l.fn.bytes l.ends
