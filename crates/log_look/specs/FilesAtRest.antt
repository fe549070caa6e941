-- What a look gives of two files that nobody writes meanwhile.
use Rattle.std.specs.Prelude.{◌≡◌, ◌⊎◌, ℕ, ◌<◌, ◌≤◌, List, length, take}
use Rattle.disk_trait.specs.Disk.{Image, file_of, other_of}
use Rattle.disk_trait.specs.declared.half.Half.{Half}
use Rattle.disk_trait.specs.declared.half.Half.TheVariants.{A, B}
use Rattle.gate_log.specs.Layout.{HasOpenGate, generation_of}
use Rattle.log_look.specs.LookResults.{image_of}
use Rattle.log_look.specs.NeitherOpen.{AreShut}
use Rattle.log_look.specs.declared.error.LookError.{LookError}
use Rattle.log_look.specs.declared.error.LookError.TheVariants as looking

-- at each moment between two the files are these
pub record AreAtRest (files : ℕ → Image) (from to : ℕ) (image : Image) : Type 0 where
  pub are : (t : ℕ) → from ≤ t → t ≤ to → files t ≡ image

-- the file is open, has a whole header, and a generation from 1 on
pub record HasHeader (file : List ℕ) : Type 0 where
  pub is_open : HasOpenGate file
  pub whole : 16 ≤ length file
  pub from_one : 0 < generation_of file

-- the generation of the other half is not the newer one; of two that are the same that of half A is
abbrev pub IsNotNewer : Half → ℕ → ℕ → Type 0
IsNotNewer A other generation = other ≤ generation
IsNotNewer B other generation = other < generation

-- This half has a header, and the other one has none, or no newer generation. Where the two mean contents, it is the half in use.
pub record IsNewestHalf (half : Half) (image : Image) : Type 0 where
  pub header : HasHeader (file_of half image)
  pub newest : HasHeader (other_of half image) → IsNotNewer half (generation_of (other_of half image)) (generation_of (file_of half image))

-- it is the newest half, and its generation is this one
pub record IsNewestWith (half : Half) (generation : ℕ) (image : Image) : Type 0 where
  pub newest : IsNewestHalf half image
  pub is : generation_of (file_of half image) ≡ generation

-- The sight has this half byte for byte, and the first sixteen bytes of the other one.
pub record HasHalf (half : Half) (image seen : Image) : Type 0 where
  pub newest : IsNewestHalf half image
  pub is : seen ≡ image_of half (file_of half image) (take 16 (other_of half image))

-- No half has a header, and the sight has the first sixteen bytes of each: half B is empty, so that none was ever open, or one of the two
-- is open, and damaged.
pub record HasNoHeader (image seen : Image) : Type 0 where
  pub no_a : HasHeader image.a → ⊥
  pub no_b : HasHeader image.b → ⊥
  pub settled : (length image.b ≡ 0) ⊎ HasOpenGate image.a ⊎ HasOpenGate image.b
  pub is : seen ≡ record { a = take 16 image.a; b = take 16 image.b }

-- what a look gives of these files
abbrev pub IsSightOf : Image → Image → Type 0
IsSightOf image seen = ((half : Half) × HasHalf half image seen) ⊎ HasNoHeader image seen

-- why these files are not seen
abbrev pub AreFilesUnseen : LookError → Image → Type 0
AreFilesUnseen looking.OutOfMemory image = Unit {0}
AreFilesUnseen looking.DeviceFault image = Unit {0}
AreFilesUnseen looking.Changing image = ⊥
AreFilesUnseen looking.Shut image = AreShut image
