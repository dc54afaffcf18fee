-- Addresses and Router IDs as text: dotted decimal numbers.
use Rattle.std.specs.Prelude.{◌≡◌, ℕ, List, ◌++◌, codes, decimal, Result}
use Rattle.std.specs.List.{All}
use Rattle.std.specs.declared.net.parser.AddrParseError.{AddrParseError}
use Rattle.std.specs.Net.Grammar.{IsDotted, Parses}
use Rattle.std.specs.Net.Text.{ipv4_text}
use Rattle.std.specs.Int.{w32, to_be_bytes}
use Rattle.ospf_base.specs.declared.ids.Addr.{Addr}
use Rattle.ospf_base.specs.declared.ids.RouterId.{RouterId}
use Rattle.ospf_base.specs.declared.prefix.Prefix.{Prefix}

-- four decimal numbers below 256 without leading zeros, and dots
-- between them: the bytes of the number
abbrev pub IsDottedNumber : List ℕ → ℕ → Type 0
IsDottedNumber text n = IsDotted text (to_be_bytes w32 n)

-- the text is an address, or refused
abbrev pub ReadsAddress : List ℕ → Result Addr AddrParseError → Type 0
ReadsAddress = Parses (λ text a. IsDottedNumber text a.0)

-- the text is a Router ID, or refused
abbrev pub ReadsRouterId : List ℕ → Result RouterId AddrParseError → Type 0
ReadsRouterId = Parses (λ text r. IsDottedNumber text r.0)

-- a number as an address is written: its four bytes as decimal numbers, with dots between them
unfoldable pub number_text : ℕ → List ℕ
number_text n = ipv4_text (to_be_bytes w32 n)

-- an address, a slash and the length
abbrev pub prefix_text : Prefix → List ℕ
prefix_text p = number_text p.address.0 ++ codes "/" ++ decimal p.length

-- only spaces, or nothing
abbrev pub IsBlank : List ℕ → Type 0
IsBlank = All (λ byte. byte ≡ 32)
