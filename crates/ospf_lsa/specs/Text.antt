-- What is printed of faults.
use Rattle.std.specs.Prelude.{ℕ, List, codes}
use Rattle.ospf_lsa.specs.declared.fault.LsaFault.{LsaFault}
use Rattle.ospf_lsa.specs.declared.fault.LsaFault.TheVariants as lsa
use Rattle.ospf_lsa.specs.declared.listing.ListingFault.{ListingFault}
use Rattle.ospf_lsa.specs.declared.listing.ListingFault.TheVariants as listing

-- the number and the name of a fault of an LSA
abbrev pub lsa_fault_text : LsaFault → List ℕ
lsa_fault_text lsa.Short = codes "L1 Short"
lsa_fault_text lsa.Length = codes "L2 Length"
lsa_fault_text lsa.Sum = codes "L3 Sum"
lsa_fault_text lsa.Kind = codes "L4 Kind"
lsa_fault_text lsa.Links = codes "L5 Links"
lsa_fault_text lsa.Mask = codes "L6 Mask"
lsa_fault_text lsa.ZeroMetric = codes "L7 ZeroMetric"
lsa_fault_text lsa.IdMismatch = codes "L8 IdMismatch"
lsa_fault_text lsa.Number = codes "L9 Number"
lsa_fault_text lsa.Memory = codes "L10 Memory"

-- the number and the name of a fault of a listing
abbrev pub listing_fault_text : ListingFault → List ℕ
listing_fault_text listing.Twice = codes "K1 Twice"
listing_fault_text listing.MaxAge = codes "K2 MaxAge"
listing_fault_text listing.Memory = codes "K3 Memory"
