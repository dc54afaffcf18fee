-- Copies where there is no key.
use Rattle.std.proofs.Common.{◌≡◌, ℕ, List, [], ◌∷◌, length, ap}
use Rattle.std.proofs.lemmas.List.{append-nil}
use Rattle.ospf_base.specs.declared.ids.LsaKey.{LsaKey}
use Rattle.ospf_area.specs.Turns.{Turn}
use Rattle.ospf_area.specs.Packets.{PendingPacket}
use Rattle.ospf_exchange.specs.declared.rule.Local.{Local}
use Rattle.ospf_neighbour.specs.declared.iface.machine.Iface.{Iface}
use Rattle.ospf_lsdb.specs.Database.{Held}
use Rattle.ospf_adjacency.specs.Answers.{copies_turn}

-- no copy goes out where there is no key
pub none_sent : (i : Iface) (local : Local) (delay : ℕ) (db : List Held) (keys : List LsaKey) (t : Turn) → length keys ≡ 0 → copies_turn i local delay db keys t ≡ t
none_sent i local delay db [] t none = ap (λ (sent : List PendingPacket). record t { sent = sent }) (append-nil t.sent)
none_sent i local delay db (key ∷ keys) t none = absurd (cc)
