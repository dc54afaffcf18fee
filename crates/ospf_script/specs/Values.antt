-- What a word of a line spells: a number, a floor, a Router ID, an address, a prefix.
use Rattle.std.specs.Prelude.{◌≡◌, ⊤, ℕ, ℤ, List, ◌^◌, ◌<◌, ◌∷◌, ◌++◌, bit_and, length}
use Rattle.std.specs.Int.{w32, cast_signed}
use Rattle.std.specs.Net.Grammar.{IsNumber}
use Rattle.std.specs.List.{AllZip}
use Rattle.ospf_base.specs.Masks.{mask_of}
use Rattle.ospf_base.specs.Text.{IsDottedNumber}
use Rattle.ospf_base.specs.declared.ids.Addr.{Addr}
use Rattle.ospf_base.specs.declared.ids.RouterId.{RouterId}
use Rattle.ospf_base.specs.declared.prefix.Prefix.{Prefix}
use Rattle.ospf_graph.specs.Text.{hop_text}
use Rattle.ospf_graph.specs.declared.hop.NextHop.{NextHop}
use Rattle.ospf_graph.specs.declared.hop.NextHop.TheVariants.{Attached, PointToPoint, Lan}
use Rattle.ospf_script.specs.Words.{Text}

-- decimal digits, one or more, that spell a number of so many bits
abbrev pub IsDecimal : ℕ → Text → ℕ → Type 0
IsDecimal bits word n = IsNumber 10 word n × (n < 2 ^ bits)

-- decimal digits, one or more, that spell how many of a hundred
abbrev pub IsPercent : Text → ℕ → Type 0
IsPercent word n = IsNumber 10 word n × (n < 101)

-- eight hexadecimal digits, and the signed number that they are in two's complement
pub record IsFloor (word : Text) (floor : ℤ) : Type 0 where
  pub bits : ℕ
  pub spelled : IsNumber 16 word bits
  pub eight : length word ≡ 8
  pub floor_is : floor ≡ cast_signed w32 bits

-- the floor that is none: each LS sequence number is above it (RFC 2328, section 12.1.6)
abbrev pub no_floor : ℤ
no_floor = cast_signed w32 0x80000000

-- the number that a dotted text spells
abbrev pub IsDotted32 : Text → ℕ → Type 0
IsDotted32 word n = IsDottedNumber word n × (n < 2 ^ 32)

-- the word is a Router ID
abbrev pub IsRouterWord : Text → RouterId → Type 0
IsRouterWord word router = IsDotted32 word router.0

-- the word is an address
abbrev pub IsAddress : Text → Addr → Type 0
IsAddress word address = IsDotted32 word address.0

-- an address, a slash, and how many of its leading bits count, behind which none is set
pub record IsPrefix (word : Text) (prefix : Prefix) : Type 0 where
  pub dotted : Text
  pub digits : Text
  pub spelled : word ≡ dotted ++ 47 ∷ digits
  pub address_spelled : IsAddress dotted prefix.address
  pub length_spelled : IsNumber 10 digits prefix.length
  pub short : prefix.length < 33
  pub masked : bit_and prefix.address.0 (mask_of prefix.length) ≡ prefix.address.0

-- its addresses and its Router ID are numbers of 32 bits
abbrev pub FitsHop : NextHop → Type 0
FitsHop Attached = ⊤
FitsHop (PointToPoint local router) = (local.0 < 2 ^ 32) × (router.0 < 2 ^ 32)
FitsHop (Lan local router address) = (local.0 < 2 ^ 32) × (router.0 < 2 ^ 32) × (address.0 < 2 ^ 32)

-- a next hop, as a routing table is printed with it
abbrev pub IsHopWord : Text → NextHop → Type 0
IsHopWord word hop = (word ≡ hop_text hop) × FitsHop hop

-- each word spells some value
abbrev pub AreSomeSpelled : {A : Type 0} → (Text → A → Type 0) → List Text → Type 0
AreSomeSpelled {A} P ws = (xs : List A) × AllZip P ws xs

-- the words spell values, one or more
abbrev pub AreManySpelled : {A : Type 0} → (Text → A → Type 0) → List Text → Type 0
AreManySpelled {A} P ws = (xs : List A) × AllZip P ws xs × (0 < length xs)
