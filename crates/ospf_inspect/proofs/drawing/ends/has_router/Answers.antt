use Rattle.std.proofs.Common.{rules}
use borrow.Author.Tests.{tests}
use Rattle.std.specs.Prelude.{◌==◌}
use Rattle.std.proofs.lemmas.Iterator.Consumers.{YieldsList-from_first}
use Rattle.std.proofs.lemmas.Iterator.Search.{any_from_yields_List}
use Rattle.ospf_base.specs.declared.ids.RouterId.{RouterId}
use Rattle.ospf_inspect.proofs.drawing.ends.has_router.Goals as goal

pub returns : goal.returns
returns c =
    any_from_yields_List (λ (named : RouterId). named.0 == c.args.router.0) _ _ _ c.any.ensures.ran
    (YieldsList-from_first (λ x. x) (λ s. s) c.args.routers cc) (λ x b q k. search (rules, tests))
