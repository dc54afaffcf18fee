-- The links of a router-LSA (RFC 2328, appendix A.4.2).
use Rattle.std.specs.Prelude.{◌≡◌, ℕ, zero, suc, ◌+◌, ◌*◌, ◌^◌, ◌<◌, ◌≤◌, List, [], ◌∷◌, ◌++◌, length, map, take, drop, slice_index}
use Rattle.std.specs.List.{flat_map, AllByRecursion}
use Rattle.ospf_base.specs.Bytes.{number_at, number_bytes, AreBytes}
use Rattle.ospf_lsa.specs.declared.link.Link.{Link}
use Rattle.ospf_lsa.specs.declared.link.LinkKind.{LinkKind}
use Rattle.ospf_lsa.specs.declared.link.LinkKind.TheVariants.{PointToPoint, Transit, Stub, Virtual}

-- the number of each type of link (A.4.2)
abbrev pub kind_byte : LinkKind → ℕ
kind_byte PointToPoint = 1
kind_byte Transit = 2
kind_byte Stub = 3
kind_byte Virtual = 4

-- a link as it is in an LSA, with its TOS metrics, which are carried and not used
pub record LinkEntry : Type 0 where
  pub link : Link
  pub tos_count : ℕ
  pub tos : List ℕ

-- the bytes of a link, with the metrics of other TOS that follow it
abbrev pub entry_bytes : LinkEntry → List ℕ
entry_bytes e =
    number_bytes 4 e.link.id ++ number_bytes 4 e.link.link_data
    ++ (kind_byte e.link.kind ∷ e.tos_count ∷ number_bytes 2 e.link.metric)
    ++ e.tos

-- a link without TOS metrics
abbrev pub plain : Link → LinkEntry
plain l = record { link = l; tos_count = 0; tos = [] }

-- the 12 bytes of a link without other TOS
abbrev pub link_bytes : Link → List ℕ
link_bytes l = entry_bytes (plain l)

-- the numbers of a link fit their fields
pub record LinkFits (l : Link) : Type 0 where
  pub id : l.id < 2 ^ 32
  pub link_data : l.link_data < 2 ^ 32
  pub metric : l.metric < 2 ^ 16

-- the numbers of an entry of a router-LSA fit their fields, and it has four bytes a TOS metric
pub record EntryFits (e : LinkEntry) : Type 0 where
  pub link : LinkFits e.link
  pub count : e.tos_count < 256
  pub tos_length : length e.tos ≡ 4 * e.tos_count
  pub tos_bytes : AreBytes e.tos

-- the bytes are this many links, one after the other, and nothing else
pub record AreLinks (count : ℕ) (bytes : List ℕ) : Type 0 where
  pub entries : List LinkEntry
  pub counted : length entries ≡ count
  pub fit : AllByRecursion EntryFits entries
  pub spelled : bytes ≡ flat_map entry_bytes entries

-- ---- reading

-- the type of a number (appendix A.4.2): 4 is Virtual, and so are 0 and the numbers above 4, which
-- no link of an LSA has
abbrev pub link_kind : ℕ → LinkKind
link_kind zero = Virtual
link_kind (suc zero) = PointToPoint
link_kind (suc (suc zero)) = Transit
link_kind (suc (suc (suc zero))) = Stub
link_kind (suc (suc (suc (suc n)))) = Virtual

-- the link at the front
abbrev pub link_at : List ℕ → Link
link_at bytes = record {
  id = number_at 0 4 bytes;
  link_data = number_at 4 4 bytes;
  kind = link_kind (slice_index bytes 8);
  metric = number_at 10 2 bytes;
}

-- how many bytes the link at the front takes, with its TOS metrics
abbrev pub link_length : List ℕ → ℕ
link_length bytes = 12 + 4 * slice_index bytes 9

-- the link at the front, with its TOS metrics
abbrev pub entry_at : List ℕ → LinkEntry
entry_at bytes =
    record {
      link = link_at bytes;
      tos_count = slice_index bytes 9;
      tos = take (4 * slice_index bytes 9) (drop 12 bytes);
    }

-- this many links with their TOS metrics, one after the other
abbrev pub entries_in : ℕ → List ℕ → List LinkEntry
entries_in zero bytes = []
entries_in (suc n) bytes = entry_at bytes ∷ entries_in n (drop (link_length bytes) bytes)

-- this many links, one after the other
abbrev pub links_in : ℕ → List ℕ → List Link
links_in n bytes = map (λ (e : LinkEntry). e.link) (entries_in n bytes)

-- a link is at the front: its type is known, and it is whole
pub record IsLink (bytes : List ℕ) : Type 0 where
  pub whole : 12 ≤ length bytes
  pub tos : link_length bytes ≤ length bytes
  pub kind_low : 1 ≤ slice_index bytes 8
  pub kind_high : slice_index bytes 8 ≤ 4

-- this link is at the front, and these bytes follow it
pub record IsFirstLink (bytes : List ℕ) (link : Link) (rest : List ℕ) : Type 0 where
  pub is : IsLink bytes
  pub link_is : link ≡ link_at bytes
  pub rest_is : rest ≡ drop (link_length bytes) bytes
