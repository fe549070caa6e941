-- The two halves of a disk.
use Rattle.disk_trait.specs.declared.half.Half.{Half}
use Rattle.disk_trait.specs.declared.half.Half.TheVariants.{A, B}

-- the half that is not this one
abbrev pub opposite_of : Half → Half
opposite_of A = B
opposite_of B = A
