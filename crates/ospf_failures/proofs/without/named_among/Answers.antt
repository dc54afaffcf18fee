use Rattle.std.proofs.Common.{rules, ◌≡◌, ◌≤◌, ◌++◌, ◌∷◌, [], List, String, arith, length, subst}
use Rattle.std.specs.List.{AllZip}
use Rattle.std.specs.declared.alloc.Global.{Global}
use Rattle.std.proofs.lemmas.List.{take_all}
use Rattle.ospf_harm.proofs.FoundLemmas.{zip_more}
use Rattle.ospf_failures.specs.Without.{IsFirstAmong, IsNamedBy, IsUnnamedHere}
use Rattle.ospf_failures.proofs.WithoutLemmas.{fault_weaker, first_among}
use Rattle.ospf_failures.proofs.without.named_among.Goals as goal

pub returns-in-Err-clause-fault : goal.returns-in-Err-clause-fault
returns-in-Err-clause-fault c =
    fault_weaker (IsUnnamedHere c.args.single.now c.name-item.result) (IsFirstAmong c.args.single.now c.args.names.now) c.in-Err.fault
    (first_among c.args.single.now c.args.names.now c.loop-name.name-index c.name-item.result c.loop-name.failures.items c.loop-name-test.true c.name-item.is
    c.loop-name.invariant) c.in-Err.ensures.fault

pub loop-name-preserved : goal.loop-name-preserved
loop-name-preserved c =
    let items : c.push.new.self.items ≡ c.loop-name.failures.items ++ c.in-Ok.failure ∷ [] = search rules in
    rw items (zip_more (IsNamedBy c.args.single.now) c.args.names.now c.loop-name.name-index c.name-item.result c.loop-name.failures.items c.in-Ok.failure c.loop-name-test.true
    c.name-item.is c.loop-name.invariant c.in-Ok.ensures.named)

pub returns-clause-named : goal.returns-clause-named
returns-clause-named c =
    let end : length c.args.names.now ≤ c.loop-name.name-index = omega (arith, c.loop-name-test.false) in
    subst (λ (l : List (String Global)). AllZip (IsNamedBy c.args.single.now) l c.loop-name.failures.items) (take_all c.loop-name.name-index c.args.names.now end) c.loop-name.invariant
