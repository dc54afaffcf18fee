-- What `expect headline` decides, in the words of the headline.
use Rattle.std.specs.Prelude.{◌≡◌, ◌↔◌, None, Ok, Option, Some, false, true}
use Rattle.ospf_base.specs.declared.ids.RouterId.{RouterId}
use Rattle.ospf_world.specs.Walks.{AllReachedAgree}
use Rattle.ospf_world.specs.World.{Running, World, router_at}
use Rattle.ospf_script.specs.Words.{Text}
use Rattle.ospf_world.specs.Worlds.{WorldValue, world_of}
use Rattle.ospf_commands.specs.Judged.{IsOfHeadline}
use Rattle.ospf_commands.specs.Simulations.{Answer}

-- `expect headline` is met in this network: of a router, or of all that run if none is given
abbrev pub IsHeadlineMet : Option RouterId → WorldValue → Type 0
IsHeadlineMet router w = (answer : Answer) × (text : Text) × IsOfHeadline router w answer text false

-- it is answered, and not met
abbrev pub IsHeadlineUnmet : Option RouterId → WorldValue → Type 0
IsHeadlineUnmet router w = (text : Text) × IsOfHeadline router w (Ok tt) text true

-- the premise holds for every router that runs
abbrev pub AllReachedAgreeOfAll : World → Type 0
AllReachedAgreeOfAll w =
    (r : RouterId) (x : Running) → router_at w r ≡ Some x → AllReachedAgree w r x

-- of a running router it can be met exactly where the premise of the headline holds, and is unmet
-- nowhere else
abbrev pub HeadlineOfOne : Type 0
HeadlineOfOne =
    (w : WorldValue) (r : RouterId) (x : Running) → router_at (world_of w) r ≡ Some x
    → (IsHeadlineMet (Some r) w ↔ AllReachedAgree (world_of w) r x)
    × (IsHeadlineUnmet (Some r) w → AllReachedAgree (world_of w) r x → ⊥)

-- of all, exactly where it holds for every router that runs
abbrev pub HeadlineOfAll : Type 0
HeadlineOfAll =
    (w : WorldValue) → (IsHeadlineMet None w ↔ AllReachedAgreeOfAll (world_of w))
    × (IsHeadlineUnmet None w → AllReachedAgreeOfAll (world_of w) → ⊥)
