use Rattle.std.proofs.Common.{ap, sym, ◌∙◌}
use Rattle.std.proofs.lemmas.List.{get_or_default}
use Rattle.ospf_spf.proofs.IncrementalSpf.GrowthSteps.{reset_is}
use Rattle.ospf_spf.proofs.incremental.grow.reset_at.Goals as goal

pub returns-clause-reset : goal.returns-clause-reset
returns-clause-reset c v some =
    reset_is _ c.args.found.now.reached.items c.requires.places v c.args.way c.args.place some c.reset.new.one
    (λ d. ap (λ r. r.vertex) (get_or_default c.args.found.now.reached.items c.args.place d _ c.requires.place ∙ sym c.index_mut.ensures.value) ∙ sym c.reset.ensures.vertex)
    c.reset.ensures.distance c.reset.ensures.starts
