use Rattle.std.proofs.Common.{◌≡◌, ◌∙◌, ap, set, sym, get_or}
use Rattle.std.proofs.lemmas.List.Edits.{map_over_more}
use Rattle.ospf_area.specs.Updates.Acks.{delayed_out_on}
use Rattle.ospf_area.proofs.Updates.Words.{undelayed_link}
use Rattle.ospf_area.specs.State.{LinkValue}
use Rattle.ospf_area.proofs.PlaceLemmas.{map_read}
use Rattle.ospf_area.proofs.SendingLemmas.{sends_step_from}
use Rattle.ospf_area.proofs.update.acks.send_delayed.Goals as goal

pub loop-number-preserved : goal.loop-number-preserved
loop-number-preserved c =
    let xs = c.args.links.now in
    let ys = c.loop-number.links in
    let i = c.loop-number.number in
    let x = c.index-links-number.result in
    let lt = c.loop-number-test.true in
    let read : x ≡ get_or xs i x = map_read undelayed_link xs ys i x lt c.loop-number.invariant.undelayed c.index-links-number.is in
    record {
      undelayed = ap (λ (v : LinkValue). set ys i v) (c.in_ok-send_delayed_on.ensures.after ∙ ap undelayed_link (sym c.index-links-number.is)) ∙ map_over_more undelayed_link xs ys i x lt c.loop-number.invariant.undelayed c.index-links-number.is;
      sent = c.in_ok-send_delayed_on.ensures.sent ∙ sends_step_from (delayed_out_on c.args.own) c.args.out.now c.loop-number.out xs i x (get_or ys i x) lt (sym c.index-links-number.is) read c.loop-number.invariant.sent;
    }
