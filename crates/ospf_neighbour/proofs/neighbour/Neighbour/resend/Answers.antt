use Rattle.std.proofs.Common.{◌∙◌, ap, sym, subst, length}
use Rattle.std.proofs.lemmas.List.{length-map}
use Rattle.ospf_neighbour.specs.Lists.{sent_again}
use Rattle.ospf_neighbour.specs.OneAKey.{IsAloneOfKeys}
use Rattle.ospf_neighbour.proofs.LawLemmas.{alone_sent}
use Rattle.ospf_neighbour.proofs.neighbour.Neighbour.resend.Goals as goal

pub invariant_of-self : goal.invariant_of-self
invariant_of-self c =
    let old = c.self.inside.retransmission in
    record {
      no_summary = c.self.invariant.no_summary;
      no_last_dd = c.self.invariant.no_last_dd;
      no_requests = c.self.invariant.no_requests;
      no_retransmission = λ below. ap length c.mark.ensures ∙ length-map old (sent_again c.args.instance.now c.args.tick) ∙ c.self.invariant.no_retransmission below;
      asked_within = c.self.invariant.asked_within;
      asks_once = c.self.invariant.asks_once;
      alone_of_keys = subst IsAloneOfKeys (sym c.mark.ensures) (alone_sent c.args.instance.now c.args.tick old c.self.invariant.alone_of_keys);
    }
