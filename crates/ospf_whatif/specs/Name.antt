-- Names of failures, one word each.
use Rattle.std.specs.Prelude.{ℕ, List, ◌++◌, codes}
use Rattle.ospf_base.specs.Text.{number_text, prefix_text}
use Rattle.ospf_whatif.specs.declared.failure.AreaFailure as failure
use Rattle.ospf_whatif.specs.declared.failure.AreaFailure.TheVariants.{Attachment, Links, Network, Router, Stub}
use Rattle.ospf_whatif.specs.declared.failure.AreaFailure.TheVariants as fails

-- the routers and the subnet of a link, or of the end of it at the first router, the two routers,
-- the router and the network's Link State ID, that ID alone, the router, or the router and the
-- prefix of a stub network
abbrev pub area_failure_text : failure.AreaFailure → List ℕ
area_failure_text (fails.Link a b subnet) =
    number_text a.0 ++ codes "-" ++ number_text b.0 ++ codes "@" ++ prefix_text subnet
area_failure_text (fails.End router other subnet) =
    number_text router.0 ++ codes ":" ++ number_text other.0 ++ codes "@" ++ prefix_text subnet
area_failure_text (Links a b) = number_text a.0 ++ codes "-" ++ number_text b.0
area_failure_text (Attachment router network) =
    number_text router.0 ++ codes "@" ++ number_text network
area_failure_text (Network network) = codes "@" ++ number_text network
area_failure_text (Router router) = number_text router.0
area_failure_text (Stub router prefix) = number_text router.0 ++ codes "@" ++ prefix_text prefix
