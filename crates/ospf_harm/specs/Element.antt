-- What fails, and how much that harms, as values of JSON (RFC 8259).
use Rattle.std.specs.Prelude.{◌∷◌, List, [], codes, map}
use Rattle.serde_json.specs.Data.{Data, Members, array, null, number, put, string, unsigned}
use Rattle.serde_json.specs.View.{items_of}
use Rattle.ospf_base.specs.Text.{number_text, prefix_text}
use Rattle.ospf_base.specs.declared.ids.RouterId.{RouterId}
use Rattle.ospf_table.specs.Objects.{count_data}
use Rattle.ospf_whatif.specs.declared.failure.AreaFailure.{AreaFailure}
use Rattle.ospf_whatif.specs.declared.failure.AreaFailure.TheVariants.{Attachment, End, Link, Links, Network, Router, Stub}
use Rattle.ospf_harm.specs.declared.harm.Harm.{Harm}

-- the routers that the name of a failure has
abbrev pub named_routers : AreaFailure → List RouterId
named_routers (Link a b subnet) = a ∷ b ∷ []
named_routers (End router other subnet) = router ∷ other ∷ []
named_routers (Links a b) = a ∷ b ∷ []
named_routers (Attachment router network) = router ∷ []
named_routers (Network network) = []
named_routers (Router router) = router ∷ []
named_routers (Stub router prefix) = router ∷ []

-- Router IDs as texts
abbrev pub ids_data : List RouterId → Data
ids_data routers = array (items_of (map (λ r. string (number_text r.0)) routers))

-- those of a failure
abbrev pub routers_data : AreaFailure → Data
routers_data f = ids_data (named_routers f)

-- the subnet of a link, or the prefix of a stub network
abbrev pub subnet_data : AreaFailure → Data
subnet_data (Link a b subnet) = string (prefix_text subnet)
subnet_data (End router other subnet) = string (prefix_text subnet)
subnet_data (Links a b) = null
subnet_data (Attachment router network) = null
subnet_data (Network network) = null
subnet_data (Router router) = null
subnet_data (Stub router prefix) = string (prefix_text prefix)

-- the Link State ID of a network
abbrev pub link_state_data : AreaFailure → Data
link_state_data (Link a b subnet) = null
link_state_data (End router other subnet) = null
link_state_data (Links a b) = null
link_state_data (Attachment router network) = string (number_text network)
link_state_data (Network network) = string (number_text network)
link_state_data (Router router) = null
link_state_data (Stub router prefix) = null

-- what fails is added to the other members
abbrev pub with_element : AreaFailure → Members → Members
with_element f members =
    put (codes "subnet") (subnet_data f)
    (put (codes "routers") (routers_data f)
    (put (codes "network") (link_state_data f) members))

-- and how much it harms
abbrev pub with_harm : Harm → Members → Members
with_harm h members =
    put (codes "worst_rise") (number (unsigned h.rise))
    (put (codes "own") (count_data h.own)
    (put (codes "rerouted") (count_data h.rerouted)
    (put (codes "lost") (count_data h.lost) members)))
