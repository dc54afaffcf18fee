-- What is seen of routers: what changes as long as something is yet to come.
use Rattle.std.specs.Prelude.{List, [], ◌++◌, ℕ, Option, None, Some, codes, flat_map}
use Rattle.ospf_area.specs.State.{AreaValue}
use Rattle.ospf_base.specs.Sums.{contents}
use Rattle.ospf_base.specs.Text.{number_text}
use Rattle.ospf_world.specs.Slots.{SlotValue}
use Rattle.ospf_world.specs.World.{Running}
use Rattle.ospf_router.specs.Routers.{listing_of}
use Rattle.ospf_views.specs.Shown.{links_lines}

-- the LSAs that are listed, each whole but for its age (RFC 2328, section A.4.1)
abbrev pub area_listed : Option AreaValue → List ℕ
area_listed area = flat_map contents (listing_of area)

-- what is seen of a router that runs: its neighbours, as `neighbours`
-- prints them, and what it lists
abbrev pub area_sight : Option AreaValue → List ℕ
area_sight area = links_lines 32 area ++ area_listed area

-- nothing of one that does not run
abbrev pub running_sight : Option Running → List ℕ
running_sight None = []
running_sight (Some x) = area_sight (Some x.state)

-- of each router, behind its Router ID
abbrev pub slot_sight : SlotValue → List ℕ
slot_sight s = number_text s.config.router_id.0 ++ codes "\n" ++ running_sight s.running
