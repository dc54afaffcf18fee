use Rattle.ospf_commands.proofs.Deliveries.KeepFacts.{keeps_all, keeps_more, keeps_none}
use Rattle.ospf_commands.proofs.delivery.losses.kept_offers.Goals as goal

pub loop-offer-init : goal.loop-offer-init
loop-offer-init c = keeps_none _ _ _ _ c.new-kept.ensures.items

pub loop-offer-preserved : goal.loop-offer-preserved
loop-offer-preserved c =
    let grown = c.in_ok-push_kept.ensures in
    let drawn = c.next_word-word.ensures in
    keeps_more c.args.percent c.loop-offer.offer-index c.next_word-word.result c.args.offers.now c.loop-offer.kept.items c.push_kept.new.kept.items _ c.args.generator.now c.loop-offer.generator c.next_word-word.new.self c.loop-offer-test.true drawn grown c.loop-offer.invariant

pub returns : goal.returns
returns c = keeps_all _ _ _ _ _ _ c.loop-offer-test.false c.loop-offer.invariant
