use Rattle.std.proofs.Common.{◌∙◌, ap, sym}
use Rattle.std.specs.HashSet.{contains}
use Rattle.ospf_neighbour.specs.Lists.{name_eq, name_of}
use Rattle.ospf_neighbour.specs.OneAKey.{is_of_one_lsa}
use Rattle.ospf_neighbour.proofs.KeyLemmas.{no_position}
use Rattle.ospf_neighbour.proofs.NameLemmas.{any_header}
use Rattle.ospf_neighbour.proofs.requests.place_of.Goals as goal

pub returns-else-contains : goal.returns-else-contains
returns-else-contains c =
    sym (no_position (is_of_one_lsa c.args.header.now) c.args.all.now
    (sym (any_header c.args.header.now c.args.all.now) ∙ sym (c.requires (name_of c.args.header.now)) ∙ ap (contains name_eq c.args.names.now) (sym c.name_of.ensures) ∙ sym c.contains.ensures ∙ c.if-contains.false))
