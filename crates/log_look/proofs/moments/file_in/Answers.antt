use Rattle.std.proofs.Common.{◌∙◌, arith}
use Rattle.disk_trait.specs.declared.half.Half.TheVariants.{A, B}
use Rattle.log_look.proofs.InMemory.{file_there, none_there}
use Rattle.log_look.proofs.moments.file_in.Goals as goal

pub returns-then-count-eq0 : goal.returns-then-count-eq0
returns-then-count-eq0 c = none_there c.args.half c.args.moments.now c.args.number (omega arith)

pub returns-in-A : goal.returns-in-A
returns-in-A c =
    rw c.in-A.is
    (c.deref.ensures.value ∙ file_there A c.args.moments.now c.args.number c.min-index.result c.index-moments-index.result (omega arith) (omega arith) c.index-moments-index.is)

pub returns-in-B : goal.returns-in-B
returns-in-B c =
    rw c.in-B.is
    (c.deref-in-B.ensures.value ∙ file_there B c.args.moments.now c.args.number c.min-index.result c.index-moments-index.result (omega arith) (omega arith) c.index-moments-index.is)
