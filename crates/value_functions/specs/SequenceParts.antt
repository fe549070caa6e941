-- A sequence as the code has it.
use Rattle.lisp_operators.specs.EvaluationAnswers.{objects, AreProper, IsAscii}
use Rattle.value_functions.specs.declared.sequences.SequenceParts.{SequenceParts}
use Rattle.value_functions.specs.declared.sequences.SequenceParts.TheVariants as parts
use Rattle.value_functions.specs.Sequences.{Sequence, list, items, characters}

abbrev pub sequence_in : SequenceParts → Sequence
sequence_in (parts.List xs) = list (objects xs.now)
sequence_in (parts.Vector xs) = items (objects xs.now)
sequence_in (parts.Text cs) = characters cs.now

-- proper items, and characters below 128
abbrev pub AreProperParts : SequenceParts → Type 0
AreProperParts (parts.List xs) = AreProper xs.now
AreProperParts (parts.Vector xs) = AreProper xs.now
AreProperParts (parts.Text cs) = IsAscii cs.now
