-- The drawing of what a network's first running router lists.
use Rattle.std.specs.Prelude.{ℕ, Bool, not, is_some, List, [], ◌∷◌, Option, None, Some, filter, map}
use Rattle.ospf_base.specs.declared.ids.RouterId.{RouterId}
use Rattle.ospf_inspect.specs.AreaDrawing.Graph.{graph_text}
use Rattle.ospf_world.specs.World.{Running, listing}
use Rattle.ospf_world.specs.Worlds.{SlotValue}

-- what a router lists, or else what another has
abbrev pub listing_or : Option Running → List (List ℕ) → List (List ℕ)
listing_or None others = others
listing_or (Some x) others = listing x

-- what the first router that runs lists, in the order of the
-- configurations; nothing where none runs
abbrev pub first_listing : List SlotValue → List (List ℕ)
first_listing [] = []
first_listing (s ∷ slots) = listing_or s.running (first_listing slots)

-- the router does not run
abbrev pub is_stopped : SlotValue → Bool
is_stopped s = not (is_some s.running)

-- the routers that do not run
abbrev pub stopped_in : List SlotValue → List RouterId
stopped_in slots = map (λ s. s.config.router_id) (filter is_stopped slots)

-- with the walk that met these routers
abbrev pub drawing_of : List SlotValue → (walked : List RouterId) → List ℕ
drawing_of slots walked = graph_text (first_listing slots) (stopped_in slots) walked
