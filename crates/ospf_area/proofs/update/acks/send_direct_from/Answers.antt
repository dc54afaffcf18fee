use Rattle.std.proofs.Common.{◌≡◌, ◌∙◌, ap, sym, Option, None, slice_get, arith}
use Rattle.std.proofs.lemmas.Option.{slice_get_past}
use Rattle.ospf_area.proofs.Updates.Words.{direct_out_on}
use Rattle.ospf_area.specs.Sending.{and_sends}
use Rattle.ospf_area.specs.State.{LinkValue}
use Rattle.ospf_area.proofs.SendingLemmas.{sends_none}
use Rattle.ospf_area.proofs.update.acks.send_direct_from.Goals as goal

pub returns-in-None : goal.returns-in-None
returns-in-None c =
    let none : slice_get c.args.links.now c.args.from.link ≡ None = slice_get_past c.args.links.now c.args.from.link (omega (arith, c.in-None.ensures.lookup)) in
    sends_none c.args.out.now ∙ ap (λ (o : Option LinkValue). and_sends c.args.out.now (direct_out_on c.args.own c.args.from c.args.headers.now o)) (sym none)
