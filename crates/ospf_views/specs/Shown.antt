-- What is shown of a router.
use Rattle.std.specs.Prelude.{ℕ, zero, suc, Bool, List, [], ◌++◌, Option, codes, decimal, flat_map, if◌then◌else◌}
use Rattle.ospf_area.specs.State.{AreaValue}
use Rattle.ospf_base.specs.Text.{number_text}
use Rattle.ospf_base.specs.declared.ids.RouterId.{RouterId}
use Rattle.ospf_lsa.specs.Lsa.{instance_of}
use Rattle.ospf_neighbour.specs.Neighbour.{NeighbourValue}
use Rattle.ospf_neighbour.specs.Text.{state_text}
use Rattle.ospf_router.specs.Routers.{RouterValue, greatest_in, listing_of, neighbours_on}
use Rattle.ospf_script.specs.Texts.{floor_text}
use Rattle.ospf_views.specs.Texts.{listed_text}
use Rattle.ospf_script.specs.Words.{Text}
use Rattle.ospf_files.specs.Shown.{routes_text}
use Rattle.ospf_script.specs.declared.command.View.{View}
use Rattle.ospf_script.specs.declared.command.View.TheVariants as view

-- a neighbour: the number of the link, its Router ID, its state
abbrev pub neighbour_line : ℕ → NeighbourValue → Text
neighbour_line link n =
    decimal link ++ codes " " ++ number_text n.router.0 ++ codes " " ++ state_text n.state
    ++ codes "\n"

-- the neighbours of a link, a line each
abbrev pub link_neighbour_lines : ℕ → List NeighbourValue → Text
link_neighbour_lines link neighbours = flat_map (neighbour_line link) neighbours

-- those of the first so many links
unfoldable pub links_lines : ℕ → Option AreaValue → Text
links_lines zero area = []
links_lines (suc link) area =
    links_lines link area ++ link_neighbour_lines link (neighbours_on area link)

-- those of all links, of which a configuration has at most 32, by link and Router ID
abbrev pub neighbours_lines : RouterValue → Text
neighbours_lines x = links_lines 32 x.area

-- an LSA that is listed: its kind, Link State ID, Advertising Router, sequence number and checksum
abbrev pub listed_line : List ℕ → Text
listed_line lsa = listed_text (instance_of lsa) ++ codes "\n"

-- the lines of what a router lists
abbrev pub listing_lines : RouterValue → Text
listing_lines x = flat_map listed_line (listing_of x.area)

-- the routing table, a line a route
abbrev pub table_view_lines : RouterValue → Text
table_view_lines x = routes_text x.table

-- the greatest of the floor of the start and all numbers of the router's own LSAs since
abbrev pub floor_alone_line : RouterValue → Text
floor_alone_line x = floor_text (greatest_in x.floor x.area) ++ codes "\n"

-- what is shown of a router
abbrev pub view_lines : View → RouterValue → Text
view_lines view.Neighbours = neighbours_lines
view_lines view.Listing = listing_lines
view_lines view.Table = table_view_lines
view_lines view.Floor = floor_alone_line

-- the line above it: what it is, of which router, and what a line contains
abbrev pub heading : View → RouterId → Text
heading view.Neighbours r =
    codes "neighbours of " ++ number_text r.0 ++ codes ": link, Router ID, state\n"
heading view.Listing r =
    codes "listing of " ++ number_text r.0
    ++ codes ": kind, Link State ID, Advertising Router, number, checksum\n"
heading view.Table r = codes "table of " ++ number_text r.0 ++ codes ": prefix, cost, next hops\n"
heading view.Floor r = codes "floor of " ++ number_text r.0 ++ codes "\n"

-- a line above a text, where labels are asked for
abbrev pub headed : Bool → Text → Text → Text
headed is_labelled line text = (if is_labelled then line else []) ++ text

-- what is shown of a router, below such a line
abbrev pub shown_lines : Bool → View → RouterId → RouterValue → Text
shown_lines is_labelled view r x = headed is_labelled (heading view r) (view_lines view x)
