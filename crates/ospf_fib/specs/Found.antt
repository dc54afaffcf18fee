-- What a lookup found, as it is shown (RFC 2328, section 11).
use Rattle.std.specs.Prelude.{ℕ, List, ◌++◌, codes, decimal}
use Rattle.ospf_base.specs.Text.{number_text, prefix_text}
use Rattle.ospf_base.specs.declared.prefix.Prefix.{Prefix}
use Rattle.ospf_graph.specs.Text.{hop_text}
use Rattle.ospf_graph.specs.declared.hop.NextHop.{NextHop}

-- an address with the prefix and the cost of the route that it takes, and one of
-- its hops (RFC 2328, section 11.1)
abbrev pub found_text : ℕ → Prefix → ℕ → NextHop → List ℕ
found_text address prefix cost hop =
    codes "lookup " ++ number_text address ++ codes " " ++ prefix_text prefix ++ codes " "
    ++ decimal cost ++ codes " " ++ hop_text hop
