use Rattle.ospf_neighbour.specs.Lists.{requests_put}
use Rattle.ospf_neighbour.specs.OneAKey.{AsksOnce}
use Rattle.ospf_neighbour.proofs.ListLemmas.{by_result}
use Rattle.ospf_neighbour.proofs.RequestLemmas.{AsksOnce-put}
use Rattle.ospf_neighbour.proofs.requests.Requests.put.Goals as goal

pub invariant_of-self : goal.invariant_of-self
invariant_of-self c =
    let old = c.self.inside.entries.items in (
      c.put_requests.ensures.names,
      by_result AsksOnce c.put_requests.result (requests_put c.args.headers.now old) old c.put_requests.new.all.items c.put_requests.ensures.ok c.put_requests.ensures.err
          (AsksOnce-put c.args.headers.now old c.self.invariant.1) c.self.invariant.1,
    )
