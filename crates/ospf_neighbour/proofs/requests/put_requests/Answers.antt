use Rattle.std.proofs.Common.{◌∙◌, arith}
use Rattle.ospf_neighbour.proofs.RequestLemmas.{put_more}
use Rattle.ospf_neighbour.proofs.requests.put_requests.Goals as goal

pub loop-header-preserved : goal.loop-header-preserved
loop-header-preserved c = record {
  put = c.in_ok-put_request.ensures.ok
      ∙ put_more c.loop-header.header-index c.args.headers.now c.header-item.result c.reserve.new.self.items _ c.loop-header-test.true c.header-item.is c.loop-header.invariant.put;
  names = c.in_ok-put_request.ensures.names;
  room = omega arith;
  spare = omega arith;
}
