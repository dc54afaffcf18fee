-- Lines that show the routes of a table, and what a lookup found in it (RFC 2328, section 11).
use Rattle.std.specs.Prelude.{ℕ, List, ◌++◌, Option, None, Some, codes, flat_map}
use Rattle.ospf_base.specs.Text.{number_text}
use Rattle.ospf_fib.specs.Found.{found_text}
use Rattle.ospf_fib.specs.declared.answer.Answer.{Answer}
use Rattle.ospf_graph.specs.Text.{route_text}
use Rattle.ospf_graph.specs.declared.route.Route.{Route}

-- a route, a line
abbrev pub route_line : Route → List ℕ
route_line route = route_text route ++ codes "\n"

-- the routes in their order, a line each
abbrev pub routes_text : List Route → List ℕ
routes_text = flat_map route_line

-- the line of an address that no route leads to
abbrev pub lookup_none_line : ℕ → List ℕ
lookup_none_line address = codes "lookup " ++ number_text address ++ codes " none\n"

-- the line of an address and what a lookup found for it
abbrev pub lookup_line : ℕ → Option Answer → List ℕ
lookup_line address None = lookup_none_line address
lookup_line address (Some a) = found_text address a.prefix a.cost a.hop ++ codes "\n"
