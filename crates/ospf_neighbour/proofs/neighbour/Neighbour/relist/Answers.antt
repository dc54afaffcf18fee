use Rattle.std.proofs.Common.{◌∙◌, [], ◌∷◌, ◌++◌, ap, sym}
use Rattle.std.proofs.lemmas.Bool.{false≢true}
use Rattle.ospf_neighbour.specs.Lists.{without_key}
use Rattle.ospf_neighbour.specs.Machine.{is_exchanging}
use Rattle.ospf_neighbour.specs.Neighbour.{NeighbourValue}
use Rattle.ospf_neighbour.specs.OneAKey.{IsAloneOfKeys}
use Rattle.ospf_neighbour.specs.declared.neighbour.Listed.{Listed}
use Rattle.ospf_neighbour.proofs.LawLemmas.{alone_put}
use Rattle.ospf_neighbour.proofs.ListLemmas.{by_result}
use Rattle.ospf_neighbour.proofs.neighbour.Neighbour.relist.Goals as goal

pub invariant_of-self : goal.invariant_of-self
invariant_of-self c =
    let key = c.args.instance.key in
    let entry : Listed = record { instance = c.args.instance; sent_at = c.args.tick } in
    let old = c.self.inside.retransmission in
    record {
      no_summary = c.self.invariant.no_summary;
      no_last_dd = c.self.invariant.no_last_dd;
      no_requests = c.self.invariant.no_requests;
      no_retransmission = λ below. absurd (false≢true (sym below ∙ ap (λ (n : NeighbourValue). is_exchanging n.state) c.self.view_is ∙ c.requires));
      asked_within = c.self.invariant.asked_within;
      asks_once = c.self.invariant.asks_once;
      alone_of_keys = by_result IsAloneOfKeys c.put.result (without_key key old ++ entry ∷ []) old c.put.new.self c.put.ensures.ok c.put.ensures.err
          (alone_put old entry c.self.invariant.alone_of_keys) c.self.invariant.alone_of_keys;
    }
