use Rattle.std.proofs.Common.{◌≡◌, ◌∙◌, ap, set, sym, get_or}
use Rattle.std.proofs.lemmas.List.Edits.{map_over_more}
use Rattle.ospf_area.specs.State.{LinkValue}
use Rattle.ospf_area.proofs.PlaceLemmas.{map_read}
use Rattle.ospf_area.proofs.SendingLemmas.{sends_step_from}
use Rattle.ospf_adjacency.specs.LinkSteps.Repeats.{link_repeated, link_repeats_out}
use Rattle.ospf_adjacency.proofs.LinkSteps.Words.{keys_out}
use Rattle.ospf_adjacency.proofs.LinkSteps.MarkLemmas.{marks_step}
use Rattle.ospf_adjacency.proofs.link_steps.repeats.repeat_all.Goals as goal

pub loop-number-preserved : goal.loop-number-preserved
loop-number-preserved c =
    let f = link_repeated c.args.own c.args.database.now in
    let xs = c.args.links.now in
    let ys = c.loop-number.links in
    let i = c.loop-number.number in
    let x = c.index-links-number.result in
    let lt = c.loop-number-test.true in
    let read : x ≡ get_or xs i x = map_read f xs ys i x lt c.loop-number.invariant.repeated c.index-links-number.is in
    record {
      repeated = ap (λ (v : LinkValue). set ys i v) (c.in_ok-repeat_on.ensures.after ∙ ap f (sym c.index-links-number.is)) ∙ map_over_more f xs ys i x lt c.loop-number.invariant.repeated c.index-links-number.is;
      sent = c.in_ok-repeat_on.ensures.sent ∙ sends_step_from (link_repeats_out c.args.own c.args.database.now) c.args.out.now c.loop-number.out xs i x (get_or ys i x) lt (sym c.index-links-number.is) read c.loop-number.invariant.sent;
      marks = c.in_ok-repeat_on.ensures.marks ∙ marks_step (keys_out c.args.own c.args.database.now) c.args.sent.now.keys c.loop-number.sent.keys xs i x (get_or ys i x) lt (sym c.index-links-number.is) read c.loop-number.invariant.marks;
    }
