-- What a failure changes in tables as values of JSON (RFC 8259).
use Rattle.std.specs.Prelude.{ℕ, List, ◌++◌, ◌^◌, codes, decimal, if◌then◌else◌, map}
use Rattle.std.specs.Bool.{nat_lt}
use Rattle.serde_json.specs.Data.{Data, Members, array, number, object, string, unsigned, member, no_members}
use Rattle.serde_json.specs.View.{items_of}
use Rattle.serde_json.specs.Written.{compact_text}
use Rattle.ospf_base.specs.Text.{number_text, prefix_text}
use Rattle.ospf_base.specs.declared.ids.RouterId.{RouterId}
use Rattle.ospf_graph.specs.Text.{hop_text}
use Rattle.ospf_graph.specs.declared.hop.NextHop.{NextHop}
use Rattle.ospf_graph.specs.declared.route.Route.{Route}
use Rattle.ospf_whatif.specs.Name.{area_failure_text}
use Rattle.ospf_whatif.specs.declared.failure.AreaFailure.{AreaFailure}
use Rattle.ospf_whatif.specs.declared.failure.AreaFailure.TheVariants.{Attachment, End, Link, Links, Network, Router, Stub}
use Rattle.ospf_whatif.specs.declared.effect.Loss.{Loss}
use Rattle.ospf_whatif.specs.declared.effect.Loss.TheVariants.{Gone, Cut, Dearer, Moved}
use Rattle.ospf_whatif.specs.declared.effect.RouteChange.{RouteChange}

-- a value on a line, without spaces
abbrev pub data_line : Data → List ℕ
data_line d = compact_text d ++ codes "\n"

-- values as an array on a line
abbrev pub objects_line : List Data → List ℕ
objects_line ds = data_line (array (items_of ds))

-- ---- a route that a failure changes

-- hops, each by its text
abbrev pub hop_names : List NextHop → Data
hop_names hops = array (items_of (map (λ hop. string (hop_text hop)) hops))

-- what a route costs, and its hops
abbrev pub reach_data : Route → Data
reach_data r =
    object
    (member (codes "cost") (number (unsigned r.cost))
    (member (codes "hops") (hop_names r.hops) no_members))

-- the route as it was, what becomes of it, its prefix, and in whose table it is
abbrev pub lost_members : RouterId → Route → List ℕ → Members
lost_members router before loss =
    member (codes "before") (reach_data before)
    (member (codes "loss") (string loss)
    (member (codes "prefix") (string (prefix_text before.prefix))
    (member (codes "router") (string (number_text router.0)) no_members)))

-- the object of a route that is lost
abbrev pub lost_data : RouterId → Route → List ℕ → Data
lost_data router before loss = object (lost_members router before loss)

-- and the route that takes its place
abbrev pub turned_data : RouterId → Route → Route → List ℕ → Data
turned_data router before after loss =
    object (member (codes "after") (reach_data after) (lost_members router before loss))

-- by what becomes of it
abbrev pub loss_data : RouterId → Route → Loss → Data
loss_data router before Gone = lost_data router before (codes "gone")
loss_data router before Cut = lost_data router before (codes "cut")
loss_data router before (Dearer after) = turned_data router before after (codes "cost")
loss_data router before (Moved after) = turned_data router before after (codes "hops")

-- the object of a change in the table of a router
abbrev pub change_data : RouterId → RouteChange → Data
change_data router c = loss_data router c.before c.loss

-- ---- a failure

-- what a failure is of
abbrev pub failure_kind : AreaFailure → List ℕ
failure_kind (Link a b subnet) = codes "link"
failure_kind (End router other subnet) = codes "end"
failure_kind (Links a b) = codes "links"
failure_kind (Attachment router network) = codes "attachment"
failure_kind (Network network) = codes "network"
failure_kind (Router router) = codes "router"
failure_kind (Stub router prefix) = codes "stub"

-- how many as a number, or as its digits where it has more than 64 bits
abbrev pub count_data : ℕ → Data
count_data n = if nat_lt n (2 ^ 64) then number (unsigned n) else string (decimal n)

-- how many are changed, by how, the name of the failure and its kind; and what follows
abbrev pub counted_members : AreaFailure → (cut gone cost hops : ℕ) → Members → Members
counted_members failure cut gone cost hops rest =
    member (codes "cost") (count_data cost)
    (member (codes "cut") (count_data cut)
    (member (codes "failure") (string (area_failure_text failure))
    (member (codes "gone") (count_data gone)
    (member (codes "hops") (count_data hops)
    (member (codes "kind") (string (failure_kind failure)) rest)))))
