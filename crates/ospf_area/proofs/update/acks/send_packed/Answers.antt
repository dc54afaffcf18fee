-- ospf_update/proofs/acks/send_packed/Answers.antt
use Rattle.std.proofs.Common.{◌∙◌, ap, sym, arith}
use Rattle.ospf_area.specs.Outboxes.{and_packets}
use Rattle.ospf_area.proofs.OutboxLemmas.{packets_none}
use Rattle.ospf_area.proofs.Updates.AckLemmas.{packed_end, packed_on}
use Rattle.ospf_area.proofs.update.acks.send_packed.Goals as goal

pub loop-rest-preserved : goal.loop-rest-preserved
loop-rest-preserved c =
    packed_on c.loop-rest.outbox c.send_ack.new.outbox c.args.destination c.args.room c.loop-rest.rest.now c.split_at.result.0.now c.split_at.result.1.now c.min.result
    (omega arith) (omega arith) c.min.ensures c.split_at.ensures.front c.split_at.ensures.back c.in_ok-send_ack.ensures
    ∙ c.loop-rest.invariant

pub returns : goal.returns
returns c =
    packets_none c.loop-rest.outbox
    ∙ ap (and_packets c.loop-rest.outbox) (sym (packed_end c.args.destination c.args.room c.loop-rest.rest.now c.loop-rest-test.false))
    ∙ c.loop-rest.invariant
