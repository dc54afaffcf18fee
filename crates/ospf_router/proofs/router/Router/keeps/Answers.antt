use Rattle.std.proofs.Common.{ap, ◌∙◌}
use Rattle.ospf_router.proofs.KeptFacts.{kept_of}
use Rattle.ospf_router.specs.Routers.{RouterValue}
use Rattle.ospf_router.proofs.router.Router.keeps.Goals as goal

pub returns : goal.returns
returns c = λ s at. kept_of c.self.inside.links c.self.inside.routes c.self.inside.area s c.self.invariant (ap (λ (r : RouterValue). r.area) c.self.view_is ∙ at)
