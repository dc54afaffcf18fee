-- How copies of the database are packed into Updates (RFC 2328, sections 10.7, 13.3 and 13.6).
use Rattle.std.specs.Prelude.{◌+◌, ◌-◌, ◌++◌, ◌||◌, ℕ, Bool, List, [], ◌∷◌, None, Some, length, map, nat_le, if◌then◌else◌}
use Rattle.ospf_base.specs.Constants.{ip_header, packet_header}
use Rattle.ospf_base.specs.declared.ids.Addr.{Addr}
use Rattle.ospf_base.specs.declared.ids.LsaKey.{LsaKey}
use Rattle.ospf_lsdb.specs.Database.{Held, entry_of, lsa_of}
use Rattle.ospf_neighbour.specs.Neighbour.{is_empty}
use Rattle.ospf_packet.specs.Meaning.{update}
use Rattle.ospf_area.specs.Sending.{sent_lsa}
use Rattle.ospf_area.specs.Packets.{PendingPacket}

-- ---- copies

-- the copies of these keys, where there are any, as they are sent: InfTransDelay older (13.3)
abbrev pub copies_of : List Held → ℕ → List LsaKey → List (List ℕ)
copies_of db delay [] = []
copies_of db delay (k ∷ ks) =
    elim (entry_of db k) [
      | None ↦ copies_of db delay ks
      | Some e ↦ sent_lsa delay (lsa_of e) ∷ copies_of db delay ks
    ]

-- ---- Updates

-- the bytes of the number of LSAs in an Update (A.3.5)
abbrev pub update_count : ℕ
update_count = 4

-- how many bytes all these LSAs have
abbrev pub bytes_in : List (List ℕ) → ℕ
bytes_in [] = 0
bytes_in (lsa ∷ lsas) = length lsa + bytes_in lsas

-- an LSA fits in an Update after these: a first one always does
abbrev pub goes_in : ℕ → List (List ℕ) → List ℕ → Bool
goes_in room batch lsa = is_empty batch || nat_le (length lsa) (room - bytes_in batch)

-- LSAs in their order, as many in an Update as fit, after those that are in the first one already
abbrev pub packed : ℕ → List (List ℕ) → List (List ℕ) → List (List (List ℕ))
packed room batch [] = elim batch [ [] ↦ [] | lsa ∷ lsas ↦ (lsa ∷ lsas) ∷ [] ]
packed room batch (lsa ∷ lsas) =
    if goes_in room batch lsa then packed room (batch ++ lsa ∷ []) lsas
    else batch ∷ packed room (lsa ∷ []) lsas

-- the Updates with the copies of these keys, to this address: an Update has the room that an IP
-- header, a packet header and the number of LSAs leave (10.7, 13.3, 13.6)
abbrev pub updates_of : Addr → ℕ → ℕ → List Held → List LsaKey → List PendingPacket
updates_of destination mtu delay db keys =
    map (λ lsas. record { destination = destination; body = update lsas })
    (packed (mtu - (ip_header + packet_header + update_count)) [] (copies_of db delay keys))
