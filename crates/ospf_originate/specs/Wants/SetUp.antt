-- Links for which own LSAs can be made and distinguished (RFC 2328, section 12.4).
use Rattle.std.specs.Prelude.{◌≡◌, ◌≢◌, ◌≤◌, ℕ, List, [], ◌∷◌, length}
use Rattle.std.specs.List.{AllByRecursion}
use Rattle.ospf_base.specs.Masks.{IsMask}
use Rattle.ospf_base.specs.declared.interface.InterfaceKind.TheVariants.{PointToPoint}
use Rattle.ospf_neighbour.specs.Neighbours.{max_neighbours}
use Rattle.ospf_area.specs.State.{LinkValue}

-- a link as a router has it: its mask has no hole, it has few neighbours, and
-- one at most where it has two ends
pub record IsSetUp (link : LinkValue) : Type 0 where
  pub mask : IsMask link.iface.settings.mask
  pub few : length link.neighbours ≤ max_neighbours
  pub two_ends : link.iface.settings.kind ≡ PointToPoint → length link.neighbours ≤ 1

-- no two links have one address
abbrev pub AreApart : List LinkValue → Type 0
AreApart [] = Unit {0}
AreApart (l ∷ ls) =
    AllByRecursion (λ o. o.iface.settings.address.0 ≢ l.iface.settings.address.0) ls × AreApart ls

-- the most links that a router has
abbrev pub max_links : ℕ
max_links = 32

-- the most stub networks that a router lists behind its links
abbrev pub max_stubs : ℕ
max_stubs = 63

-- not too many, each set up, of different addresses
pub record AreSetUp (links : List LinkValue) : Type 0 where
  pub few : length links ≤ max_links
  pub each : AllByRecursion IsSetUp links
  pub apart : AreApart links
