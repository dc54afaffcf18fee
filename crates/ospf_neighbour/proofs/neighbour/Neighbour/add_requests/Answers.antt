use Rattle.std.proofs.Common.{◌≤◌, ◌∙◌, List, length, ap, sym, arith}
use Rattle.std.proofs.lemmas.Bool.{false≢true}
use Rattle.ospf_lsa.specs.declared.header.LsaHeader.{LsaHeader}
use Rattle.ospf_neighbour.specs.Lists.{requests_put}
use Rattle.ospf_neighbour.specs.Machine.{is_exchanging}
use Rattle.ospf_neighbour.specs.Neighbour.{NeighbourValue}
use Rattle.ospf_neighbour.specs.OneAKey.{AsksOnce}
use Rattle.ospf_neighbour.proofs.ListLemmas.{by_result}
use Rattle.ospf_neighbour.proofs.RequestLemmas.{AsksOnce-put, puts_longer}
use Rattle.ospf_neighbour.proofs.neighbour.Neighbour.add_requests.Goals as goal

pub invariant_of-self : goal.invariant_of-self
invariant_of-self c =
    let old = c.self.inside.requests in
    let put = requests_put c.args.headers.now old in
    record {
      no_summary = c.self.invariant.no_summary;
      no_last_dd = c.self.invariant.no_last_dd;
      no_requests = λ below. absurd (false≢true (sym below ∙ ap (λ (n : NeighbourValue). is_exchanging n.state) c.self.view_is ∙ c.requires));
      no_retransmission = c.self.invariant.no_retransmission;
      asked_within = by_result (λ (rs : List LsaHeader). c.self.inside.asked ≤ length rs) c.put.result put old c.put.new.self c.put.ensures.ok c.put.ensures.err
          (omega (arith, puts_longer c.args.headers.now old, c.self.invariant.asked_within)) c.self.invariant.asked_within;
      asks_once = by_result AsksOnce c.put.result put old c.put.new.self c.put.ensures.ok c.put.ensures.err
          (AsksOnce-put c.args.headers.now old c.self.invariant.asks_once) c.self.invariant.asks_once;
      alone_of_keys = c.self.invariant.alone_of_keys;
    }
