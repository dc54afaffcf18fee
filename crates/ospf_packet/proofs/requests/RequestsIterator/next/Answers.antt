use Rattle.std.proofs.Common.{length, sym, ap, ◌∙◌, arith}
use Rattle.std.proofs.lemmas.List.{take_rest}
use Rattle.ospf_packet.specs.Requests.{request_entry_at}
use Rattle.ospf_packet.proofs.EntryLemmas.{entries_step}
use Rattle.ospf_packet.proofs.requests.RequestsIterator.next.Goals as goal

pub returns-clause-steps : goal.returns-clause-steps
returns-clause-steps c =
    let w = c.self.inside in
    rw (take_rest w.rest.now 12, c.read-entry.ensures) (sym c.self.view_is ∙ entries_step 12 request_entry_at w.left w.rest.now (omega arith))

pub returns-clause-goes : goal.returns-clause-goes
returns-clause-goes c =
    let w = c.self.inside in
    let steps = sym c.self.view_is ∙ entries_step 12 request_entry_at w.left w.rest.now (omega arith) in
    record { on = λ f. (tt, tt, rw (take_rest w.rest.now 12) (omega (arith, ap length steps))); keeps = tt; rests = λ f. tt }
