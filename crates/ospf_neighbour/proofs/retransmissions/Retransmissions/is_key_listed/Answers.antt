use Rattle.std.proofs.Common.{◌∙◌, sym, ap, is_some}
use Rattle.ospf_neighbour.specs.Lists.{is_key_listed}
use Rattle.ospf_neighbour.proofs.KeyLemmas.{key_told}
use Rattle.ospf_neighbour.proofs.retransmissions.Retransmissions.is_key_listed.Goals as goal

pub returns-then-self : goal.returns-then-self
returns-then-self c =
    let key = c.args.key.now in
    c.contains_key.ensures ∙ ap is_some (c.self.invariant.0 c.if-self.true key)
    ∙ sym (key_told key c.self.inside.entries.items) ∙ ap (is_key_listed key) c.self.view_is
