use Rattle.std.proofs.Common.{◌≡◌, ◌∷◌, true, codes, IfSome, subst}
use Rattle.package_table.specs.Symbols.{are_there}
use Rattle.package_table.specs.Table.{Table as Packages}
use Rattle.plain_reader.specs.Plain.{IfStill}
use Rattle.plain_reader.specs.Written.{lisp, literal_of}
use Rattle.plain_reader.proofs.Writing.{setf_known, setf_sound, setf_taken}
use Rattle.plain_reader.proofs.plain.read_setf.Goals as goal

pub returns-in-Some-2-clause-form : goal.returns-in-Some-2-clause-form
returns-in-Some-2-clause-form c = λ functions more h i.
    setf_taken c.args.limits c.args.readtable.now c.args.base c.args.packages.now.0 c.args.current.now c.in-Some-quoting.with c.in-Some-quoting.ensures.hands
    c.args.bytes.now (40 ∷ c.in-Some.rest.now) more c.in_ok-written_setf.field-0 c.in-Some-2.taken h i functions c.in-Some.ensures.fits c.in-Some.ensures.behind c.in-Some-2.is
    (c.in_ok-written_setf.ensures.takes h i)

pub returns-in-Some-2-clause-known : goal.returns-in-Some-2-clause-known
returns-in-Some-2-clause-known c = λ h i.
    let call = c.in_ok-written_setf.ensures in
    let o = c.in_ok-written_setf.field-0 in
    let same = c.in-Some-quoting.ensures.hands.packages_are in
    setf_known c.args.packages.now.0 c.args.current.now o c.in-Some-2.taken c.written_setf.new.known h i c.soundness.ensures c.in-Some-2.is
    (subst (λ (t : Packages). IfStill true c.written_setf.new.known (IfSome o (λ w. are_there t (literal_of w.literal) ≡ true))) same call.known)
    (subst (λ (t : Packages). IfSome o (λ _. (are_there t (lisp (codes "SETF")) ≡ true) × (are_there t (lisp (codes "GET")) ≡ true))) same call.operators)

pub returns-in-Some-2-clause-sound : goal.returns-in-Some-2-clause-sound
returns-in-Some-2-clause-sound c = λ h i.
    let call = c.in_ok-written_setf.ensures in
    setf_sound c.args.packages.now.0 c.args.current.now c.in_ok-written_setf.field-0 c.in-Some-2.taken h i c.soundness.ensures c.requires.current c.in-Some-2.is
    call.names call.sound
