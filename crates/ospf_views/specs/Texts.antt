-- What is printed of a value.
use Rattle.std.specs.Prelude.{List, ◌++◌, codes, decimal, flat_map}
use Rattle.ospf_base.specs.Text.{number_text}
use Rattle.ospf_base.specs.declared.ids.Instance.{Instance}
use Rattle.ospf_base.specs.declared.ids.RouterId.{RouterId}
use Rattle.ospf_neighbour.specs.Text.{state_text}
use Rattle.ospf_script.specs.Texts.{floor_text, hexadecimal}
use Rattle.ospf_script.specs.Views.{lsa_kind_text}
use Rattle.ospf_script.specs.Words.{Text}
use Rattle.ospf_views.specs.declared.shown.NeighbourShown.{NeighbourShown}
use Rattle.ospf_views.specs.declared.shown.RefusalShown.{RefusalShown}
use Rattle.ospf_views.specs.declared.shown.WalkShown.{WalkShown}

-- a line that is refused, and why
abbrev pub refusal_text : RefusalShown → Text
refusal_text refusal = codes "line " ++ decimal refusal.number ++ codes ": " ++ refusal.fault.now

-- a neighbour: its link, its Router ID and its state
abbrev pub neighbour_text : NeighbourShown → Text
neighbour_text neighbour =
    decimal neighbour.link ++ codes " " ++ number_text neighbour.router.0 ++ codes " "
    ++ state_text neighbour.state

-- the kind, the Link State ID, the Advertising Router, the sequence number in eight hexadecimal
-- digits and the checksum in four
abbrev pub listed_text : Instance → Text
listed_text i =
    lsa_kind_text i.key.kind ++ codes " " ++ number_text i.key.id ++ codes " "
    ++ number_text i.key.router.0 ++ codes " "
    ++ floor_text i.number ++ codes " " ++ hexadecimal 4 i.sum

-- each Router ID before a space
abbrev pub routers_text : List RouterId → Text
routers_text routers = flat_map (λ router. number_text router.0 ++ codes " ") routers

-- a walk: the routers on it, its cost and how it ends
abbrev pub walk_text : WalkShown → Text
walk_text walk =
    routers_text walk.routers.now ++ codes "cost " ++ decimal walk.cost ++ codes " " ++ walk.end.now
