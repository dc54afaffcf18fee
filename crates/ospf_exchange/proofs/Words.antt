-- Parts of definitions of specs/ by names of their own, for the proofs.
use Rattle.std.specs.Prelude.{List, [], ◌∷◌, filter, map, ℕ, not, Bool, is_some, true, false, Option, None, Some, Result, Ok, Err, ◌+◌, ◌-◌, ◌/◌, ◌%◌, ◌^◌, option_and_then, if◌then◌else◌}
use Rattle.ospf_lsa.specs.declared.header.LsaHeader.{LsaHeader}
use Rattle.ospf_lsa.specs.Recency.{recency}
use Rattle.ospf_lsa.specs.declared.recency.Recency.TheVariants.{Newer}
use Rattle.ospf_lsdb.specs.Database.{Entry, entry_of, header_at, instance_at, is_fresh, Held}
use Rattle.ospf_packet.specs.declared.body.Description.{Description}
use Rattle.ospf_neighbour.specs.Neighbour.{NeighbourValue}
use Rattle.ospf_neighbour.specs.declared.neighbour.Exchanging.{Exchanging}
use Rattle.ospf_neighbour.specs.declared.neighbour.Listed.{Listed}
use Rattle.ospf_exchange.specs.Exchange.{all_told, begun, describes, ends, taken, taken_answer}
use Rattle.ospf_exchange.specs.Rules.{all_known, considered}
use Rattle.ospf_exchange.specs.declared.description.DdAnswer.{DdAnswer}
use Rattle.ospf_exchange.specs.declared.description.DdAnswer.TheVariants as answer
use Rattle.ospf_exchange.specs.declared.fault.ExchangeFault.{ExchangeFault}
use Rattle.ospf_exchange.specs.declared.fault.ExchangeFault.TheVariants as fault
use Rattle.ospf_exchange.specs.declared.rule.Local.{Local}
use Rattle.ospf_exchange.specs.declared.rule.DdRule.{DdRule}
use Rattle.ospf_exchange.specs.declared.rule.DdRule.TheVariants.{TooLong, NotTaken, MakesSlave, MakesMaster, PassedOver, Repeats, Mismatch, Next}
use Rattle.ospf_packet.specs.declared.entry.RequestEntry.{RequestEntry}
use Rattle.ospf_base.specs.declared.ids.LsaKey.{LsaKey}
use Rattle.ospf_base.specs.Keys.{key_from, same_key}
use Rattle.ospf_lsa.specs.Header.{key_of_header}
use Rattle.ospf_base.specs.Constants.{ip_header, packet_header}
use Rattle.ospf_packet.specs.Requests.{request_size}

-- the headers of the LSAs below MaxAge
abbrev pub headers_of : List Entry → List LsaHeader
headers_of es = map header_at (filter is_fresh es)

-- an entry that waits for an acknowledgement, put on the list at this tick
abbrev pub listed_at : ℕ → Entry → Listed
listed_at tick e = record { instance = instance_at e; sent_at = tick }

-- and those at MaxAge, as they wait
abbrev pub expired_of : ℕ → List Entry → List Listed
expired_of tick es = map (listed_at tick) (filter (λ e. not (is_fresh e)) es)

-- the key that an entry asks for, if its LS type is known
abbrev pub key_asked : RequestEntry → Option LsaKey
key_asked e = key_from e.kind e.id e.router

-- the database copy of a key
abbrev pub copy_in_database : List Held → Option LsaKey → Option Entry
copy_in_database db key = option_and_then (entry_of db) key

-- the database has what an entry asks for
abbrev pub is_held : List Held → RequestEntry → Bool
is_held db e = is_some (copy_in_database db (key_asked e))

abbrev pub is_key : Option LsaKey → LsaKey → Bool
is_key o key = elim o [
  | None ↦ false
  | Some k ↦ same_key k key
]

abbrev pub is_wanted : List Held → LsaHeader → Bool
is_wanted db h = elim (copy_in_database db (key_of_header h)) [
  | None ↦ true
  | Some copy ↦ elim (recency h (header_at copy)) [ Newer ↦ true | _ ↦ false ]
]

-- how many entries a Request has room for behind an IP header and a packet header
abbrev pub request_room : ℕ → ℕ
request_room mtu = (mtu - (ip_header + packet_header)) / request_size

-- the master ends the exchange, or counts up and sends the next packet (10.8)
abbrev pub turn_of_master : Local → Description → NeighbourValue → NeighbourValue
turn_of_master local d n = if all_told n.exchanging d then ends n else describes local ((n.exchanging.number + 1) % 2 ^ 32) n

-- the slave answers with the number that it received, and may have ended the exchange with it (10.8)
abbrev pub turn_of_slave : Local → Description → NeighbourValue → NeighbourValue
turn_of_slave local d n = if all_told (describes local d.number n).exchanging d then ends (describes local d.number n) else describes local d.number n

-- what the headers change of a rule
abbrev pub rule_with : Bool → DdRule → List LsaHeader → DdRule
rule_with passes_over rule headers = elim rule [
  | MakesSlave ↦ elim headers [ [] ↦ MakesSlave | h ∷ hs ↦ NotTaken ]
  | Next ↦ (if all_known (considered passes_over headers) then Next else Mismatch)
  | other ↦ other
]

-- the neighbour after a rule
abbrev pub after_rule : DdRule → Local → Description → List LsaHeader → List Held → NeighbourValue → NeighbourValue
after_rule rule local d headers db n = elim rule [
  | Next ↦ taken local d headers db n
  | MakesSlave ↦ taken local d headers db (begun false local.tick db n)
  | MakesMaster ↦ (if all_known headers then taken local d headers db (begun true local.tick db n) else begun true local.tick db n)
  | _ ↦ n
]

-- what is answered, by the rule that a packet meets
abbrev pub answer_to : DdRule → Description → List LsaHeader → Exchanging → Result DdAnswer ExchangeFault
answer_to rule d headers x = elim rule [
  | TooLong ↦ Err fault.Mtu
  | NotTaken ↦ Ok answer.NotTaken
  | PassedOver ↦ Ok answer.PassedOver
  | Repeats ↦ Ok answer.Repeats
  | Mismatch ↦ Err fault.Mismatch
  | MakesSlave ↦ Ok answer.Sends
  | MakesMaster ↦ (if all_known headers then Ok (taken_answer (record x { is_master = true; accepted = None }) d) else Err fault.Mismatch)
  | Next ↦ Ok (taken_answer x d)
]
