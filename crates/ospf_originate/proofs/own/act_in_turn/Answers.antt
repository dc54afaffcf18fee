use Rattle.std.proofs.Common.{map}
use Rattle.ospf_originate.specs.Wants.Own.{wanted_value}
use Rattle.ospf_originate.proofs.OwnLemmas.{continues_on, continues_all}
use Rattle.ospf_originate.proofs.own.act_in_turn.Goals as goal

pub loop-d-preserved : goal.loop-d-preserved
loop-d-preserved c =
    continues_on (map wanted_value c.args.all.now) c.args.due.now c.loop-d.d-index _ c.args.area.now c.args.out.now c.loop-d.area c.loop-d.out c.act.new.area c.act.new.out
    c.loop-d-test.true c.in_ok-act.ensures c.loop-d.invariant

pub returns : goal.returns
returns c = continues_all (map wanted_value c.args.all.now) c.args.due.now c.loop-d.d-index c.args.area.now c.args.out.now c.loop-d.area c.loop-d.out c.loop-d-test.false c.loop-d.invariant
