use Rattle.std.proofs.Common.{◌≡◌, ◌++◌, take}
use Rattle.std.specs.List.{flat_map}
use Rattle.plist_state.specs.Readers.{borrowed_symbol}
use Rattle.world_forms.specs.Properties.{property_line, left_out_line}
use Rattle.world_forms.proofs.properties.push_listed.Given as goal

-- the properties so far
abbrev pub invariant-loop-index : goal.invariant-loop-index
invariant-loop-index l = record {
  text : l.text.items ≡ l.fn.text.items ++ flat_map (property_line l.packages.0 (borrowed_symbol l.symbol)) (take l.index l.properties);
  left_out : l.left_out.items ≡ l.fn.left_out.items ++ flat_map (left_out_line l.packages.0 (borrowed_symbol l.symbol)) (take l.index l.properties);
}
