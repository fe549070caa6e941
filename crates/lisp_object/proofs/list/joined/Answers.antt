use Rattle.std.proofs.Common.{refl}
use Rattle.lisp_object.proofs.Objects.{object_of-dotted}
use Rattle.lisp_object.proofs.Lists.{object_of-joined, is_proper-joined, proper_dotted, is_list-other}
use Rattle.lisp_object.proofs.list.joined.Goals as goal

pub returns-in_ok-followed_by-in-Ok-clause-object :
    goal.returns-in_ok-followed_by-in-Ok-clause-object
returns-in_ok-followed_by-in-Ok-clause-object c =
    rw (c.in-Ok.ensures.list, c.in_ok-followed_by-in-Ok.ensures) (object_of-joined c.args.items c.in-Ok.more c.in-Ok.tail)

pub returns-in_ok-followed_by-in-Ok-clause-proper :
    goal.returns-in_ok-followed_by-in-Ok-clause-proper
returns-in_ok-followed_by-in-Ok-clause-proper c =
    rw (c.in-Ok.ensures.list, c.in_ok-followed_by-in-Ok.ensures) (is_proper-joined c.args.items c.in-Ok.more c.in-Ok.tail c.requires.some)

pub returns-in_ok-new-in-Err : goal.returns-in_ok-new-in-Err
returns-in_ok-new-in-Err c = rw (c.in_ok-new-in-Err.ensures, c.in-Err.ensures.same) record {
  object = object_of-dotted c.args.items c.args.tail;
  proper = λ all proper. proper_dotted c.args.items c.args.tail c.requires.some all proper
      (is_list-other c.args.tail c.in-Err.ensures.other c.requires.not_nil);
  list_tail = λ more end is. absurd (c.in-Err.ensures.other more end is);
  other_tail = λ _. refl;
}
