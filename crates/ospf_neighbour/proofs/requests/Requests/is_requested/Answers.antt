use Rattle.std.proofs.Common.{◌∙◌, ap}
use Rattle.std.specs.HashSet.{contains}
use Rattle.ospf_neighbour.specs.Lists.{name_eq, name_of_key}
use Rattle.ospf_neighbour.proofs.Words.{is_requested}
use Rattle.ospf_neighbour.proofs.NameLemmas.{any_key}
use Rattle.ospf_neighbour.proofs.requests.Requests.is_requested.Goals as goal

pub returns : goal.returns
returns c =
    c.contains.ensures ∙ ap (contains name_eq c.self.inside.names) c.name_of_key.ensures ∙ c.self.invariant.0 (name_of_key c.args.key.now)
    ∙ any_key c.args.key.now c.self.inside.entries.items ∙ ap (is_requested c.args.key.now) c.self.view_is
