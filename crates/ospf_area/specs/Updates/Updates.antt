-- A Link State Update (RFC 2328, section 13).
use Rattle.std.specs.Prelude.{◌≡◌, ◌≤◌, ◌++◌, ◌⊎◌, ℕ, Bool, true, false, length, Option, Some, List, [], ◌∷◌, map}
use Rattle.ospf_area.specs.Places.{flat_from}
use Rattle.ospf_area.specs.Asking.{turn_requests_on, turned_link}
use Rattle.ospf_flood.specs.declared.rule.LsaRule.{LsaRule}
use Rattle.ospf_flood.specs.declared.rule.LsaRule.TheVariants.{BadRequest, Installs}
use Rattle.ospf_base.specs.Bytes.{number_at}
use Rattle.ospf_base.specs.Constants.{lsa_header}
use Rattle.ospf_base.specs.Sums.{HasRightSum}
use Rattle.ospf_exchange.specs.Rules.{is_other}
use Rattle.ospf_lsa.specs.Header.{header_of}
use Rattle.ospf_lsa.specs.Lsa.{IsLsa, type_of}
use Rattle.ospf_area.specs.Updates.Acks.{direct_out}
use Rattle.ospf_area.specs.Updates.Aging.{turned_area, turn_out}
use Rattle.ospf_area.specs.Acting.{InTurn}
use Rattle.ospf_area.specs.Updates.Meets.{MeetsLsa}
use Rattle.ospf_area.specs.Outputs.{OutputsValue}
use Rattle.ospf_area.specs.Sending.{and_sends, context_of}
use Rattle.ospf_area.specs.State.{AreaValue, LinkValue, neighbour_at, state_in}
use Rattle.ospf_area.specs.declared.flooding.PacketSource.{PacketSource}
use Rattle.ospf_area.specs.declared.sending.RouterContext.{RouterContext}
use Rattle.ospf_neighbour.specs.Machine.{is_exchanging}

-- the bytes are an LSA of LS type 3, 4 or 5, as far as that is looked at: they are as long as it
-- says, and its checksum holds (13, step 1)
pub record IsOtherLsa (bytes : List ℕ) : Type 0 where
  pub long : lsa_header ≤ length bytes
  pub length_is : number_at 18 2 bytes ≡ length bytes
  pub kind : is_other (type_of bytes) ≡ true
  pub sum : HasRightSum bytes

-- a slice that is no LSA of a known LS type: nothing happens. But where those of LS types 3, 4 and
-- 5 are passed over, one of these from a neighbour in Exchange or above is acknowledged (13.5)
abbrev pub PassesOver : Bool → PacketSource → List ℕ → AreaValue → AreaValue → Type 0
PassesOver false f bytes before after = after ≡ before
PassesOver true f bytes before after =
    let sender = state_in (neighbour_at before.links f.link f.router) in
    let Comes = (is_exchanging sender ≡ true) × IsOtherLsa bytes in
    (Comes × (after ≡ record before { direct = before.direct ++ header_of bytes ∷ [] }))
    ⊎ ((Comes → ⊥) × (after ≡ before))

-- a slice is an LSA, which meets its rule, and directly after it come LoadingDone and the next
-- Requests; or it is passed over (13, steps 1 to 3)
pub data TakesSlice (f : PacketSource) (bytes : List ℕ) (before : AreaValue)
    (out out' : OutputsValue)
    (after : AreaValue) : Type 0 where
  Met : IsLsa bytes → (mid : AreaValue) (so_far : OutputsValue)
      → MeetsLsa f bytes before out so_far mid
      → after ≡ turned_area mid → out' ≡ and_sends so_far (turn_out mid)
      → TakesSlice f bytes before out out' after
  PassedOver : (IsLsa bytes → ⊥) → PassesOver before.passes_over f bytes before after → out' ≡ out
      → TakesSlice f bytes before out out' after

-- an Update: its LSAs, and then the direct acknowledgements
pub record TakesUpdate (f : PacketSource) (slices : List (List ℕ)) (before : AreaValue)
    (out out' : OutputsValue) (after : AreaValue) : Type 0 where
  pub mid : AreaValue
  pub so_far : OutputsValue
  pub takes : InTurn (TakesSlice f) slices before out so_far mid
  pub state : after ≡ record mid { direct = [] }
  pub outputs : out' ≡ and_sends so_far (direct_out f mid)

-- ---- where no turn is needed

-- no neighbour waits for a turn: it would change none, and send nothing
pub record AreTurned (own : RouterContext) (links : List LinkValue) : Type 0 where
  pub still : map (turned_link own) links ≡ links
  pub quiet : flat_from (turn_requests_on own) 0 links ≡ []

-- no neighbour of the router waits for a turn
abbrev pub IsTurned : AreaValue → Type 0
IsTurned s = AreTurned (context_of s) s.links

-- an LSA of this rule leaves the state and the request list of each neighbour as they are
abbrev pub leaves_turned : Option LsaRule → Bool
leaves_turned (Some Installs) = false
leaves_turned (Some BadRequest) = false
leaves_turned _ = true
