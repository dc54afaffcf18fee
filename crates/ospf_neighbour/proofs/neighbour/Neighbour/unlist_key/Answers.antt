use Rattle.std.proofs.Common.{not}
use Rattle.ospf_neighbour.proofs.Words.{is_of_key}
use Rattle.ospf_neighbour.specs.declared.neighbour.Listed.{Listed}
use Rattle.ospf_neighbour.proofs.LawLemmas.{alone_kept}
use Rattle.ospf_neighbour.proofs.ListLemmas.{length-filter_empty}
use Rattle.ospf_neighbour.proofs.neighbour.Neighbour.unlist_key.Goals as goal

pub invariant_of-self : goal.invariant_of-self
invariant_of-self c =
    let test = λ (l : Listed). not (is_of_key c.args.key.now l) in
    let all = c.self.inside.retransmission in
    record {
      no_summary = c.self.invariant.no_summary;
      no_last_dd = c.self.invariant.no_last_dd;
      no_requests = c.self.invariant.no_requests;
      no_retransmission = λ below. rw c.remove_key.ensures (length-filter_empty test all (c.self.invariant.no_retransmission below));
      asked_within = c.self.invariant.asked_within;
      asks_once = c.self.invariant.asks_once;
      alone_of_keys = rw c.remove_key.ensures (alone_kept test all c.self.invariant.alone_of_keys);
    }
