-- What is read of neighbours after an LSA was stored.
use Rattle.std.proofs.Common.{◌≡◌, ◌⊎◌, ℕ, inl, inr, true, Option, None, Some, List, ap, ◌∙◌}
use Rattle.std.specs.Option.{option_map}
use Rattle.ospf_base.specs.declared.ids.Instance.{Instance}
use Rattle.ospf_base.specs.declared.ids.LsaKey.{LsaKey}
use Rattle.ospf_base.specs.declared.ids.RouterId.{RouterId}
use Rattle.ospf_flood.specs.Offers.{instance_with}
use Rattle.ospf_lsa.specs.declared.header.LsaHeader.{LsaHeader}
use Rattle.ospf_neighbour.specs.Laws.{Waits}
use Rattle.ospf_neighbour.specs.Lists.{key_unlisted}
use Rattle.ospf_neighbour.specs.Machine.{is_exchanging}
use Rattle.ospf_neighbour.specs.Neighbour.{NeighbourValue}
use Rattle.ospf_area.specs.Flooding.{flooded_links, on_link, released}
use Rattle.ospf_area.specs.Laws.{IsSpared}
use Rattle.ospf_area.specs.Laws.IsSpared.{Came, Described}
use Rattle.ospf_area.specs.State.{LinkValue, WaitsIn, neighbour_at}
use Rattle.ospf_area.specs.declared.flooding.PacketSource.{PacketSource}
use Rattle.ospf_area.proofs.LawLemmas.{flooded_there, released_there}
use Rattle.ospf_area.proofs.WaitLemmas.{flood_waits, reaches as flood_reaches, release_waits}
use Rattle.ospf_area.proofs.Words.{flooded_neighbour}

pub stored : (key : LsaKey) (h : LsaHeader) (from : Option PacketSource) (tick : ℕ) (links : List LinkValue) (l : ℕ) (q : RouterId)
    → neighbour_at (flooded_links key h from tick (released key links)) l q
    ≡ option_map (flooded_neighbour key h (on_link from l) tick) (option_map (key_unlisted key) (neighbour_at links l q))
stored key h from tick links l q =
    flooded_there key h from tick (released key links) l q
    ∙ ap (option_map (flooded_neighbour key h (on_link from l) tick)) (released_there key links l q)

-- the old copies leave, and the LSA is flooded
pub waits_on : (key : LsaKey) (h : LsaHeader) (here : Option PacketSource) (tick : ℕ) (o : Option NeighbourValue) (j : Instance)
    → WaitsIn o j → WaitsIn (option_map (flooded_neighbour key h here tick) (option_map (key_unlisted key) o)) j ⊎ (j.key ≡ key)
waits_on key h here tick o j waits = elim (release_waits key o j waits) [
  | inl on ↦ flood_waits key h here tick (option_map (key_unlisted key) o) j on
  | inr is ↦ inr is
]

-- a neighbour is spared for the same reason while the old copies are on its list
still_spared : (key : LsaKey) (h : LsaHeader) (here : Option PacketSource) (n : NeighbourValue) → IsSpared key h here (key_unlisted key n) → IsSpared key h here n
still_spared key h None n (Came is) = Came is
still_spared key h (Some f) n (Came is) = Came is
still_spared key h here n (Described entry is not) = Described entry is not

-- a neighbour in Exchange or above waits for it, or is spared
pub reaches : (key : LsaKey) (h : LsaHeader) (here : Option PacketSource) (tick : ℕ) (n : NeighbourValue) → is_exchanging n.state ≡ true
    → Waits (flooded_neighbour key h here tick (key_unlisted key n)) (instance_with key h) ⊎ IsSpared key h here n
reaches key h here tick n up = elim (flood_reaches key h here tick (key_unlisted key n) up) [
  | inl waits ↦ inl waits
  | inr why ↦ inr (still_spared key h here n why)
]
