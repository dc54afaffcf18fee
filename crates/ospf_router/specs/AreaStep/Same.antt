-- What no step changes of a router.
use Rattle.std.specs.Prelude.{◌≡◌, length}
use Rattle.ospf_area.specs.State.{AreaValue}

-- its Router ID, and how many links it has
pub record IsSameRouter (before after : AreaValue) : Type 0 where
  pub router : after.router ≡ before.router
  pub links : length after.links ≡ length before.links
