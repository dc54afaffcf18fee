-- LSAs of LS types that a router refuses.
use Rattle.std.specs.Prelude.{◌==◌, ◌&&◌, not, nat_le, ℕ, Bool, List, Option, None, Some, find, map, option_map}
use Rattle.ospf_exchange.specs.Rules.{is_other}
use Rattle.ospf_lsa.specs.Lsa.{type_of}
use Rattle.ospf_notes.specs.Refused.{ToldSet, untaken_from}
use Rattle.ospf_notes.specs.declared.refused.RefusedLsa.{RefusedLsa}
use Rattle.ospf_notes.specs.declared.refused.Untaken.{Untaken}
use Rattle.ospf_notes.specs.declared.refused.Untaken.TheVariants.{Described, Sent}
use Rattle.ospf_packet.specs.Meaning.{BodyMeaning, Meaning, hello, description, request, update, acknowledgment}

-- ---- what is refused

-- an LS type that the router refuses: not that of router-LSAs or network-LSAs, nor one that it
-- passes over (RFC 2328, sections 10.6 and 13 (2) and (3))
abbrev pub is_refused : (passes_over : Bool) → ℕ → Bool
is_refused passes_over kind =
    not (kind == 1) && (not (kind == 2) && not (passes_over && is_other kind))

-- the first LS type of these that it refuses
abbrev pub first_refused : (passes_over : Bool) → List ℕ → Option ℕ
first_refused passes_over kinds = find (is_refused passes_over) kinds

-- an LS type of opaque LSAs: 9, 10 and 11
abbrev pub is_opaque : ℕ → Bool
is_opaque kind = nat_le 9 kind && nat_le kind 11

-- an LS type that the router refuses and whose sender waits for an acknowledgment. An opaque LSA is
-- multicast on a network where two other routers accept it, and its sender does not expect an
-- acknowledgment from a router that has not set the O bit (RFC 5250, section 3.1)
abbrev pub is_unwanted : (passes_over : Bool) → ℕ → Bool
is_unwanted passes_over kind = not (is_opaque kind) && is_refused passes_over kind

-- the first such LS type of these
abbrev pub first_unwanted : (passes_over : Bool) → List ℕ → Option ℕ
first_unwanted passes_over kinds = find (is_unwanted passes_over) kinds

-- of the LSAs that a packet describes or sends, the first of an LS type that the router refuses: in
-- a Database Description, or in a Link State Update, if its sender waits for an acknowledgment
abbrev pub untaken_of : (passes_over : Bool) → BodyMeaning → Option Untaken
untaken_of passes_over (hello fields heard) = None
untaken_of passes_over (description fields headers) =
    option_map Described (first_refused passes_over (map (λ h. h.kind) headers))
untaken_of passes_over (request entries) = None
untaken_of passes_over (update lsas) =
    option_map Sent (first_unwanted passes_over (map type_of lsas))
untaken_of passes_over (acknowledgment headers) = None

-- the LSA in a packet on a link that the router refuses, if there is one
abbrev pub refused_in : (passes_over : Bool) → ℕ → Option Meaning → Option RefusedLsa
refused_in passes_over link None = None
refused_in passes_over link (Some m) =
    option_map (untaken_from link m.router) (untaken_of passes_over m.body)

-- ---- what is reported

-- whether the router passes over LSAs of LS types 3, 4 and 5; the refused LSA in the last packet
-- that arrived; and the neighbours reported so far
pub record OthersValue : Type 0 where
  pub passes_over : Bool
  pub heard : Option RefusedLsa
  pub told : ToldSet
