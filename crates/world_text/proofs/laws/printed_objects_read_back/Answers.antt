use Rattle.world_text.proofs.Whole.{object_read_back}
use Rattle.world_text.proofs.laws.printed_objects_read_back.Goals as goal

pub returns : goal.returns
returns c limits packages current functions x rest sound is symbols deep fits room few ends =
    object_read_back limits packages current functions sound room x (is, symbols, few) deep fits rest ends
