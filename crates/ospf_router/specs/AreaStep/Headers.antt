-- The instances that headers name (RFC 2328, section 12.1).
use Rattle.std.specs.Prelude.{◌≡◌, List, Some, Contains}
use Rattle.ospf_base.specs.declared.ids.Instance.{Instance}
use Rattle.ospf_lsa.specs.declared.header.LsaHeader.{LsaHeader}
use Rattle.ospf_lsa.specs.Header.{key_of_header}

-- the header is of the instance. One of an LS type other than 1 and 2 is of none
pub record IsOfInstance (h : LsaHeader) (i : Instance) : Type 0 where
  pub key : key_of_header h ≡ Some i.key
  pub number : h.number ≡ i.number
  pub sum : h.sum ≡ i.sum

-- a header of the list is of the instance
abbrev pub Lists : List LsaHeader → Instance → Type 0
Lists headers i = (h : LsaHeader) × Contains headers h × IsOfInstance h i
