use Rattle.std.proofs.Common.{◌∙◌, List, ap, take}
use Rattle.serde_json.specs.Data.{Data}
use Rattle.serde_json.specs.View.{items_of}
use Rattle.serde_json.specs.Written.{items_have_float}
use Rattle.ospf_failures.specs.Json.{overall_data}
use Rattle.ospf_failures.proofs.JsonLemmas.{overalls_none}
use Rattle.ospf_harm.proofs.JsonLemmas.{values_next}
use Rattle.ospf_failures.proofs.overall.overalls_json.Goals as goal

pub loop-overall-preserved : goal.loop-overall-preserved
loop-overall-preserved c =
    values_next (overall_data c.args.each c.args.hidden.now) c.args.overalls.now c.loop-overall.overall-index c.overall-item.result c.loop-overall.objects.items c.push.new.self.items
    c.in_ok-value.field-0 c.loop-overall-test.true c.overall-item.is c.in_ok-push.ensures.items c.loop-overall.invariant c.in_ok-value.ensures

pub objects_line-requires : goal.objects_line-requires
objects_line-requires c =
    ap (λ (ds : List Data). items_have_float (items_of ds)) c.loop-overall.invariant
    ∙ overalls_none c.args.each c.args.hidden.now (take c.loop-overall.overall-index c.args.overalls.now)
