use Rattle.std.proofs.Common.{sym, ◌∙◌}
use Rattle.ospf_spf.proofs.IncrementalSpf.GrowthSteps.{brought_there, no_start}
use Rattle.ospf_spf.proofs.incremental.grow.brings_nothing.Goals as goal

pub returns-in_default : goal.returns-in_default
returns-in_default c h x has =
    absurd (no_start _ c.args.found.now.reached.items c.requires.places c.args.edge.from x (sym c.place_of.ensures ∙ c.in_default.is) has)

pub returns : goal.returns
returns c h =
    brought_there _ c.args.found.now.reached.items c.requires.places c.args.edge c.in-Some.from c.args.to (sym c.place_of.ensures ∙ c.in-Some.is) c.requires.place
    c.index.result.now c.index-2.result.now c.index.ensures c.index-2.ensures (rw (c.deref.ensures.value, c.deref-2.ensures.value) at (c.are_there.ensures h))
