-- What an LSA is, and what it says (RFC 2328, sections 12.1 and 13 (1) to (3), appendix A.4).
use Rattle.std.specs.Prelude.{◌≡◌, ◌≢◌, ℕ, ◌-◌, ◌%◌, ◌<◌, ◌≤◌, ◌⊎◌, ⊤, ◌==◌, if◌then◌else◌, List, ◌++◌, length, drop, slice_index}
use Rattle.std.specs.List.{All}
use Rattle.ospf_base.specs.Bytes.{number_at, number_bytes, signed_at}
use Rattle.ospf_base.specs.Faults as faults
use Rattle.ospf_base.specs.Sums.{HasRightSum}
use Rattle.ospf_base.specs.Masks.{IsMask}
use Rattle.ospf_base.specs.declared.ids.RouterId.{RouterId}
use Rattle.ospf_base.specs.declared.ids.Kind.{Kind}
use Rattle.ospf_base.specs.declared.ids.Kind.TheVariants.{Router, Network}
use Rattle.ospf_base.specs.declared.ids.LsaKey.{LsaKey}
use Rattle.ospf_base.specs.declared.ids.Instance.{Instance}
use Rattle.ospf_lsa.specs.Link.{links_in, AreLinks}
use Rattle.ospf_lsa.specs.Attached.{routers_in}
use Rattle.ospf_lsa.specs.declared.fault.LsaFault.{LsaFault}
use Rattle.ospf_lsa.specs.declared.fault.LsaFault.TheVariants as fault
use Rattle.ospf_lsa.specs.declared.link.Link.{Link}
use Rattle.ospf_lsa.specs.declared.link.LinkKind.TheVariants.{PointToPoint, Transit, Stub}

-- ---- what an LSA says

-- the LS type: 1 for a router-LSA, 2 for a network-LSA
abbrev pub type_of : List ℕ → ℕ
type_of lsa = slice_index lsa 3

-- its LS type is that of a router-LSA (12.1.3)
abbrev pub IsRouterLsa : List ℕ → Type 0
IsRouterLsa lsa = type_of lsa ≡ 1

-- its LS type is that of a network-LSA (12.1.3)
abbrev pub IsNetworkLsa : List ℕ → Type 0
IsNetworkLsa lsa = type_of lsa ≡ 2

-- the kind by the LS type (appendix A.4.1): network for 2, router for any other. What is an LSA
-- (`IsLsa`) has LS type 1 or 2
abbrev pub kind_of : List ℕ → Kind
kind_of lsa = if type_of lsa == 2 then Network else Router

-- what names the LSA (section 12.1)
abbrev pub key_of : List ℕ → LsaKey
key_of lsa = record {
  kind = kind_of lsa;
  id = number_at 4 4 lsa;
  router = record { 0 = number_at 8 4 lsa };
}

-- what distinguishes it from other instances of its key
abbrev pub instance_of : List ℕ → Instance
instance_of lsa = record { key = key_of lsa; number = signed_at 12 lsa; sum = number_at 16 2 lsa }

-- the links of a router-LSA
abbrev pub links_of : List ℕ → List Link
links_of lsa = links_in (number_at 22 2 lsa) (drop 24 lsa)

-- the address mask of a network-LSA
abbrev pub network_mask_of : List ℕ → ℕ
network_mask_of lsa = number_at 20 4 lsa

-- the routers attached to the network of a network-LSA
abbrev pub attached_of : List ℕ → List RouterId
attached_of lsa = routers_in (drop 24 lsa)

-- the LSA at another age, which changes nothing else
abbrev pub with_age : ℕ → List ℕ → List ℕ
with_age age lsa = number_bytes 2 age ++ drop 2 lsa

-- ---- what bytes are an LSA

-- a link whose mask, if it has one, has no hole
abbrev pub HasMask : Link → Type 0
HasMask l = l.kind ≡ Stub → IsMask l.link_data

-- a link to a router or to a transit network costs something
abbrev pub HasCost : Link → Type 0
HasCost l = (l.kind ≡ PointToPoint) ⊎ (l.kind ≡ Transit) → 0 < l.metric

-- the body of a router-LSA: four bytes and exactly the counted links
abbrev pub HasLinks : List ℕ → Type 0
HasLinks lsa = (24 ≤ length lsa) × AreLinks (number_at 22 2 lsa) (drop 24 lsa)

-- the body of a network-LSA: a mask and Router IDs, of four bytes each
abbrev pub HasRouters : List ℕ → Type 0
HasRouters lsa = (24 ≤ length lsa) × ((length lsa - 20) % 4 ≡ 0)

-- the bytes are free of this fault
abbrev pub IsFreeOf : LsaFault → List ℕ → Type 0
IsFreeOf fault.Short lsa = (20 ≤ length lsa) × (number_at 18 2 lsa ≤ length lsa)
IsFreeOf fault.Length lsa = length lsa ≤ number_at 18 2 lsa
IsFreeOf fault.Sum lsa = HasRightSum lsa
IsFreeOf fault.Kind lsa = IsRouterLsa lsa ⊎ IsNetworkLsa lsa
IsFreeOf fault.Links lsa = (IsRouterLsa lsa → HasLinks lsa) × (IsNetworkLsa lsa → HasRouters lsa)
IsFreeOf fault.Mask lsa =
    (IsRouterLsa lsa → All HasMask (links_of lsa))
    × (IsNetworkLsa lsa → IsMask (network_mask_of lsa))
IsFreeOf fault.ZeroMetric lsa = IsRouterLsa lsa → All HasCost (links_of lsa)
IsFreeOf fault.IdMismatch lsa = IsRouterLsa lsa → number_at 4 4 lsa ≡ number_at 8 4 lsa
IsFreeOf fault.Number lsa = number_at 12 4 lsa ≢ 0x8000_0000
IsFreeOf fault.Memory lsa = ⊤

-- the bytes are an LSA
abbrev pub IsLsa : List ℕ → Type 0
IsLsa lsa = (f : LsaFault) → IsFreeOf f lsa

-- the order in which faults are reported
abbrev pub lsa_fault_number : LsaFault → ℕ
lsa_fault_number fault.Short = 1
lsa_fault_number fault.Length = 2
lsa_fault_number fault.Sum = 3
lsa_fault_number fault.Kind = 4
lsa_fault_number fault.Links = 5
lsa_fault_number fault.Mask = 6
lsa_fault_number fault.ZeroMetric = 7
lsa_fault_number fault.IdMismatch = 8
lsa_fault_number fault.Number = 9
lsa_fault_number fault.Memory = 10

-- the rule of this fault does not hold, and each of a lower number does
abbrev pub IsFirstRuleBroken : (LsaFault → Type 0) → LsaFault → Type 0
IsFirstRuleBroken Rule f = faults.IsFirstBroken lsa_fault_number Rule f

-- the bytes have this fault, and none of a lower number
abbrev pub IsFirstFault : List ℕ → LsaFault → Type 0
IsFirstFault lsa f = IsFirstRuleBroken (λ g. IsFreeOf g lsa) f
