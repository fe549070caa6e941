use Rattle.std.proofs.Common.{◌≡◌, ◌∷◌, true, IfSome, sym, subst}
use Rattle.std.specs.List.{list_all}
use Rattle.package_table.specs.Symbols.{are_there}
use Rattle.plain_reader.specs.Plain.{Takes, AreSymbolsThere}
use Rattle.plain_reader.proofs.There.{more_there}
use Rattle.plain_reader.proofs.objects.put_string.Goals as goal

pub returns-in_ok-push-in-Some-clause-puts : goal.returns-in_ok-push-in-Some-clause-puts
returns-in_ok-push-in-Some-clause-puts c = λ room. record {
  token = c.in-Some.taken.token;
  object = c.in-Some.taken.object;
  items = c.in_ok-push-in-Some.ensures;
  takes = subst (λ o. IfSome o (Takes c.args.with.now room (34 ∷ c.args.text.now))) c.in-Some.is (c.in_ok-string.ensures.takes room);
}

pub returns-in_ok-push-in-Some-clause-there : goal.returns-in_ok-push-in-Some-clause-there
returns-in_ok-push-in-Some-clause-there c = λ all.
    let packages = c.args.with.now.packages.now.0 in
    subst (λ xs. list_all (are_there packages) xs ≡ true) (sym c.in_ok-push-in-Some.ensures)
    (more_there packages c.args.items.now c.in-Some.taken.object all
    (subst (λ o. IfSome o (λ t. AreSymbolsThere c.args.with.now t.object)) c.in-Some.is c.in_ok-string.ensures.there))
