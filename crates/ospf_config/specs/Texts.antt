-- The texts for Router IDs, areas, kinds and addresses of interfaces.
use Rattle.std.specs.Prelude.{◌≡◌, ℕ, ◌^◌, ◌<◌, Bool, true, false, List, ◌++◌, codes, decimal}
use Rattle.ospf_base.specs.Text.{IsDottedNumber}
use Rattle.ospf_base.specs.declared.ids.RouterId.{RouterId}
use Rattle.ospf_base.specs.declared.ids.Addr.{Addr}
use Rattle.ospf_base.specs.declared.ids.AreaId.{AreaId}
use Rattle.ospf_config.specs.declared.address.InterfaceAddress.{InterfaceAddress}
use Rattle.ospf_config.specs.Host.{IsUnicast}
use Rattle.ospf_base.specs.declared.interface.InterfaceKind.{InterfaceKind}
use Rattle.ospf_base.specs.declared.interface.InterfaceKind.TheVariants.{PointToPoint, Broadcast}

-- a dotted number other than 0.0.0.0
pub record IsRouterIdText (text : List ℕ) (id : RouterId) : Type 0 where
  pub spelled : IsDottedNumber text id.0
  pub not_zero : 0 < id.0
  pub fits : id.0 < 2 ^ 32

-- four decimal numbers with dots, as an Area ID is written (RFC 2328, section C.2)
pub record IsAreaText (text : List ℕ) (area : AreaId) : Type 0 where
  pub spelled : IsDottedNumber text area.0
  pub fits : area.0 < 2 ^ 32

-- how the kind of an interface is written
abbrev pub kind_text : InterfaceKind → List ℕ
kind_text PointToPoint = codes "point-to-point"
kind_text Broadcast = codes "broadcast"

-- the text denotes this kind of interface
abbrev pub IsKindText : List ℕ → InterfaceKind → Type 0
IsKindText text kind = text ≡ kind_text kind

-- the text that says whether LSAs of LS types 3 to 5 are passed over
abbrev pub other_lsas_text : Bool → List ℕ
other_lsas_text false = codes "refuse"
other_lsas_text true = codes "pass over"

-- the text says whether LSAs of LS types 3, 4 and 5 are passed over or refused
abbrev pub IsOtherLsasText : List ℕ → Bool → Type 0
IsOtherLsasText text passes_over = text ≡ other_lsas_text passes_over

-- a dotted number, a slash and a decimal number without leading zeros
pub record IsPrefixText (text : List ℕ) (address prefix_length : ℕ) : Type 0 where
  pub dotted : List ℕ
  pub address_spelled : IsDottedNumber dotted address
  pub spelled : text ≡ dotted ++ (codes "/" ++ decimal prefix_length)

-- the text denotes an interface's address and the length of its mask, which is 31 only where that
-- is allowed
pub record IsAddressText (Allowed : Type 0) (text : List ℕ) (a : InterfaceAddress) : Type 0 where
  pub prefix : IsPrefixText text a.address.0 a.length
  pub allowed : a.length ≡ 31 → Allowed

-- the text denotes the address of a host: a dotted number that is a unicast address
pub record IsHostText (text : List ℕ) (a : Addr) : Type 0 where
  pub spelled : IsDottedNumber text a.0
  pub unicast : IsUnicast a.0
