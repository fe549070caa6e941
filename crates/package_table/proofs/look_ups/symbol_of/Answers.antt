use Rattle.std.proofs.Common.{arith}
use Rattle.package_table.proofs.ByName.{symbol_given, symbol_missing}
use Rattle.package_table.proofs.look_ups.symbol_of.Goals as goal

pub returns-then-number-symbol_count : goal.returns-then-number-symbol_count
returns-then-number-symbol_count c = record {
  symbol = symbol_missing c.args.sets.now c.goodness.ensures c.args.number (omega arith);
  there = grind arith;
}

pub returns : goal.returns
returns c = record {
  symbol = symbol_given c.args.sets.now c.goodness.ensures c.args.number (omega arith) c.home_name.result.now c.symbol_name.result.now c.home_name.ensures c.symbol_name.ensures;
  there = grind arith;
}
