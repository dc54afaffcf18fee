use Rattle.std.proofs.Common.{◌≡◌, ◌∙◌, ap, set, sym, get_or}
use Rattle.std.proofs.lemmas.List.Edits.{map_over_more}
use Rattle.ospf_adjacency.specs.LinkSteps.Parts.{hello_out}
use Rattle.ospf_adjacency.proofs.LinkSteps.Words.{hello_sent}
use Rattle.ospf_area.specs.State.{LinkValue}
use Rattle.ospf_area.proofs.PlaceLemmas.{map_read}
use Rattle.ospf_area.proofs.SendingLemmas.{sends_step_from}
use Rattle.ospf_adjacency.proofs.link_steps.ticks.send_hellos.Goals as goal

pub loop-number-preserved : goal.loop-number-preserved
loop-number-preserved c =
    let xs = c.args.links.now in
    let ys = c.loop-number.links in
    let i = c.loop-number.number in
    let x = c.index-links-number.result in
    let lt = c.loop-number-test.true in
    let read : x ≡ get_or xs i x = map_read hello_sent xs ys i x lt c.loop-number.invariant.told c.index-links-number.is in
    record {
      told = ap (λ (v : LinkValue). set ys i v) (c.in_ok-send_hello_on.ensures.after ∙ ap hello_sent (sym c.index-links-number.is)) ∙ map_over_more hello_sent xs ys i x lt c.loop-number.invariant.told c.index-links-number.is;
      sent = c.in_ok-send_hello_on.ensures.sent ∙ sends_step_from (hello_out c.args.own) c.args.out.now c.loop-number.out xs i x (get_or ys i x) lt (sym c.index-links-number.is) read c.loop-number.invariant.sent;
    }
