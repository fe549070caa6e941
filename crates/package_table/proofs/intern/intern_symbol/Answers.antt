use Rattle.std.proofs.Common.{◌≡◌, IfOk, sym, subst}
use Rattle.package_table.specs.Table.{Name, IsPackage}
use Rattle.package_table.specs.Changes.{after_intern, intern_changes, AnswersPackages}
use Rattle.package_table.specs.Meaning.{numbered_of}
use Rattle.package_table.proofs.intern.intern_symbol.Goals as goal

pub intern_in-requires-clause-package : goal.intern_in-requires-clause-package
intern_in-requires-clause-package c = subst (IsPackage (numbered_of c.args.sets.now).0) (sym c.in-Some.ensures.named.1) (sym c.in-Some.ensures.there)

pub returns-in-Some-clause-gives : goal.returns-in-Some-clause-gives
returns-in-Some-clause-gives c =
    subst (λ (p : Name). AnswersPackages (λ interned. (interned.home, (numbered_of c.intern_in.new.sets).0)) c.intern_in.result (after_intern (numbered_of c.args.sets.now).0 p c.args.name.now))
    c.in-Some.ensures.named.1 c.intern_in.ensures.gives

pub returns-in-Some-clause-is_new : goal.returns-in-Some-clause-is_new
returns-in-Some-clause-is_new c =
    subst (λ (p : Name). IfOk c.intern_in.result (λ interned. interned.is_new ≡ intern_changes (numbered_of c.args.sets.now).0 p c.args.name.now))
    c.in-Some.ensures.named.1 c.intern_in.ensures.is_new
