use Rattle.std.proofs.Common.{◌≡◌, ◌++◌, take}
use Rattle.std.specs.List.{flat_map}
use Rattle.plist_state.specs.Readers.{borrowed_symbols}
use Rattle.world_forms.specs.Properties.{plist_lines, plist_left_out}
use Rattle.world_forms.proofs.properties.push_plists.Given as goal

-- the symbols so far
abbrev pub invariant-loop-symbol : goal.invariant-loop-symbol
invariant-loop-symbol l = record {
  text : l.text.items ≡ l.fn.text.items ++ flat_map (plist_lines l.world.0) (borrowed_symbols (take l.symbol-index l.symbols));
  left_out : l.left_out.items ≡ l.fn.left_out.items ++ flat_map (plist_left_out l.world.0) (borrowed_symbols (take l.symbol-index l.symbols));
}
