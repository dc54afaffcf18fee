use Rattle.std.proofs.Common.{refl, arith}
use Rattle.std.proofs.lemmas.Bool.{iff_false, false≢true}
use Rattle.ospf_config.proofs.HostLists.{none_so_far, taken_here, not_taken_here, none_at_all}
use Rattle.ospf_config.proofs.hosts.is_any_taken.Goals as goal

pub loop-place-init : goal.loop-place-init
loop-place-init c = none_so_far _ _ _

pub returns-then-is_taken : goal.returns-then-is_taken
returns-then-is_taken c =
    ((λ _. taken_here _ _ c.args.hosts.now c.requires c.loop-place.place _ _ c.loop-place-test.true c.index-hosts-place.is c.table_in.ensures (c.is_taken.ensures.0 c.if-is_taken.true)), λ _. refl)

pub loop-place-preserved : goal.loop-place-preserved
loop-place-preserved c =
    not_taken_here _ _ c.args.hosts.now c.requires c.loop-place.place _ _ c.loop-place-test.true c.index-hosts-place.is c.table_in.ensures
    (iff_false c.is_taken.ensures c.if-is_taken.false) c.loop-place.invariant

pub returns : goal.returns
returns c =
    ((λ yes. absurd (false≢true yes)), λ any. absurd (none_at_all _ _ c.args.hosts.now c.requires c.loop-place.place (omega (arith, c.loop-place-test.false)) c.loop-place.invariant any))
