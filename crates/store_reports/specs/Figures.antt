-- What is told of the half in use, and the figures of a store.
use Rattle.std.specs.Prelude.{◌≡◌, ℕ, min, List, [], ◌∷◌, ◌++◌, length, codes, Option, Some}
use Rattle.std.specs.List.{sum_by}
use Rattle.disk_trait.specs.Disk.{Image, file_of}
use Rattle.disk_trait.specs.declared.half.Half.{Half}
use Rattle.disk_trait.specs.declared.half.Half.TheVariants.{A, B}
use Rattle.gate_log.specs.Layout.{Contents}
use Rattle.gate_log.specs.Log.{FilesMean, Holds, first_size_in, generation_in, records_in, size_in, version_in}
use Rattle.log_look.specs.declared.host.Figures.{Figures}
use Rattle.package_table.specs.Readers.{own_names, package_names}
use Rattle.package_table.specs.Table.{Table}
use Rattle.plist_state.specs.Changes.{plist}
use Rattle.plist_state.specs.Readers.{symbols_with_properties}
use Rattle.plist_state.specs.State.{WorldState}
use Rattle.store_reports.specs.HalfManners.{TellsManner, known_manner}
pub use Rattle.store_reports.specs.Notations.{figure, known_figure}
use Rattle.store_reports.specs.declared.figures.FigureCounts.{FigureCounts}
use Rattle.store_reports.specs.declared.figures.HalfFigures.{HalfFigures}
use Rattle.store_reports.specs.declared.numbers.Notation.{Notation}
use Rattle.store_reports.specs.declared.numbers.Notation.TheVariants.{Json, Lines}

-- these bytes mean contents, or no half is open, and the figures are of these
pub record AreFiguresOf (image : Image) (figures : HalfFigures) : Type 0 where
  pub contents : Option Contents
  pub means : FilesMean contents image
  pub half : (k : Contents) → contents ≡ Some k → Holds figures.half k image
  pub version : figures.version ≡ version_in contents
  pub generation : figures.generation ≡ generation_in contents
  pub records : figures.records ≡ records_in contents
  pub bytes : figures.bytes ≡ size_in contents
  pub first_bytes : figures.first_bytes ≡ first_size_in contents
  pub manner : (k : Contents) → contents ≡ Some k → TellsManner figures.manner k (file_of figures.half image)

-- ---- the figures of a store

-- what comes first: which half it is
abbrev pub half_figures_line : Notation → Half → List ℕ
half_figures_line Lines A = codes "half A" ++ 10 ∷ []
half_figures_line Lines B = codes "half B" ++ 10 ∷ []
half_figures_line Json A = codes "{\"half\":\"A\""
half_figures_line Json B = codes "{\"half\":\"B\""

-- what ends the figures: in JSON the brace of the object
abbrev pub end_of_figures : Notation → List ℕ
end_of_figures Lines = []
end_of_figures Json = codes "}\n"

-- what is told of an open store, as an object: its half in use, and the position of messages, where there is one
abbrev pub verified_text : Half → (generation records : ℕ) → Option ℕ → List ℕ
verified_text half generation records position =
    half_figures_line Json half ++ figure Json (codes "generation") generation ++ figure Json (codes "records") records
    ++ known_figure Json (codes "position") position ++ end_of_figures Json

-- as much of a number as one of 64 bits can tell
abbrev pub told_number : ℕ → ℕ
told_number n = min n 18446744073709551615

-- the symbols that are at home in a package, of all packages
abbrev pub symbol_count : Table → ℕ
symbol_count packages = sum_by (λ name. length (own_names packages name)) (package_names packages)

-- how many properties a world has
abbrev pub property_count : WorldState → ℕ
property_count world = sum_by (λ symbol. length (plist world symbol)) (symbols_with_properties world)

-- how much is in a world
abbrev pub counts_in : WorldState → FigureCounts
counts_in world = record {
  packages = length (package_names world.packages);
  symbols = told_number (symbol_count world.packages);
  owners = length (symbols_with_properties world);
  properties = told_number (property_count world);
}

module _ (notation : Notation) where
  -- of the half in use: its records, and the bytes with and before them
  abbrev pub sizes_text : HalfFigures → List ℕ
  sizes_text half =
      figure notation (codes "records") half.records
      ++ figure notation (codes "bytes") half.bytes
      ++ figure notation (codes "first-bytes") half.first_bytes

  -- its version, and its manner
  abbrev pub version_text : HalfFigures → List ℕ
  version_text half = figure notation (codes "version") half.version ++ known_manner notation half.manner

  -- the figures of the half in use
  abbrev pub half_text : HalfFigures → List ℕ
  half_text half =
      half_figures_line notation half.half
      ++ version_text half
      ++ figure notation (codes "generation") half.generation
      ++ sizes_text half

  -- the figures of a world
  abbrev pub counts_text : FigureCounts → List ℕ
  counts_text counts =
      figure notation (codes "packages") counts.packages
      ++ figure notation (codes "symbols") counts.symbols
      ++ figure notation (codes "symbols-with-properties") counts.owners
      ++ figure notation (codes "properties") counts.properties

  -- those of this world
  abbrev pub world_text : WorldState → List ℕ
  world_text world = counts_text (counts_in world)

  -- the figures of the two files
  abbrev pub files_text : Figures → List ℕ
  files_text files =
      figure notation (codes "half-a-bytes") files.bytes_a
      ++ figure notation (codes "half-b-bytes") files.bytes_b
      ++ known_figure notation (codes "half-a-age") files.age_a
      ++ known_figure notation (codes "half-b-age") files.age_b

  -- all figures: of the half, the world and the files
  abbrev pub info_text : HalfFigures → WorldState → Figures → List ℕ
  info_text half world files = half_text half ++ world_text world ++ files_text files ++ end_of_figures notation

  -- the figures of the half and the files alone
  abbrev pub file_info_text : HalfFigures → Figures → List ℕ
  file_info_text half files = half_text half ++ files_text files ++ end_of_figures notation
