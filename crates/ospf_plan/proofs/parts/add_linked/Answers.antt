use Rattle.std.proofs.Common.{◌≡◌, ◌∙◌, sym, None}
use Rattle.ospf_plan.specs.Parts.{linked_in}
use Rattle.ospf_plan.proofs.PartLemmas.{added, none_of}
use Rattle.ospf_plan.proofs.parts.add_linked.Goals as goal

pub returns-in-Ok : goal.returns-in-Ok
returns-in-Ok c k =
    let absent : linked_in c.args.links.now c.args.link ≡ None = none_of (linked_in c.args.links.now c.args.link) (sym c.contains_key.ensures ∙ c.if-contains_key.false) in
    added (linked_in c.args.links.now) (linked_in c.insert.new.self) c.args.link c.args.end absent c.in-Ok.ensures.updates.0 k
