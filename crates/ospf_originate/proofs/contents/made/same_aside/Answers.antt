use Rattle.std.proofs.Common.{◌∙◌}
use Rattle.ospf_originate.proofs.Wants.MadeLemmas.{both_parts, and_true, and_false}
use Rattle.ospf_originate.proofs.contents.made.same_aside.Goals as goal

pub returns-then-front : goal.returns-then-front
returns-then-front c =
    and_true c.same_front-front.result c.same_rest-rest.result c.if-front.true
    ∙ both_parts c.args.a.now c.args.b.now c.as_bytes-a.result.now c.as_bytes-b.result.now c.same_front-front.result c.same_rest-rest.result
    c.as_bytes-a.ensures.long c.as_bytes-b.ensures.long c.as_bytes-a.ensures.bytes c.as_bytes-b.ensures.bytes c.same_front-front.ensures c.same_rest-rest.ensures

pub returns-else-front : goal.returns-else-front
returns-else-front c =
    and_false c.same_front-front.result c.same_rest-rest.result c.if-front.false
    ∙ both_parts c.args.a.now c.args.b.now c.as_bytes-a.result.now c.as_bytes-b.result.now c.same_front-front.result c.same_rest-rest.result
    c.as_bytes-a.ensures.long c.as_bytes-b.ensures.long c.as_bytes-a.ensures.bytes c.as_bytes-b.ensures.bytes c.same_front-front.ensures c.same_rest-rest.ensures
