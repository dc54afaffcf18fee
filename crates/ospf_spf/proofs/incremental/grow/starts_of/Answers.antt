use Rattle.std.proofs.Common.{arith, sym, ◌∙◌}
use Rattle.ospf_spf.proofs.IncrementalSpf.GrowthSteps.{no_start, starts_stand}
use Rattle.ospf_spf.proofs.incremental.grow.starts_of.Goals as goal

pub returns-in-Some : goal.returns-in-Some
returns-in-Some c x =
    rw c.deref.ensures.value
    (starts_stand _ c.args.found.now.reached.items c.requires c.args.vertex c.in-Some.place (sym c.place_of.ensures ∙ c.in-Some.is) c.index.result.now c.index.ensures x)

pub returns-in-None : goal.returns-in-None
returns-in-None c x = (
  λ h. absurd (let low = h.1 in omega arith),
  λ has. absurd (no_start _ c.args.found.now.reached.items c.requires c.args.vertex x (sym c.place_of.ensures ∙ c.in-None.is) has),
)
