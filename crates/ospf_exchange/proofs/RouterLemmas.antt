-- A Database Description makes no other neighbour of one.
use Rattle.std.proofs.Common.{ℕ, ◌+◌, ◌%◌, ◌^◌, Bool, true, false, List, refl, ◌∙◌, if◌then◌else◌}
use Rattle.ospf_lsa.specs.declared.header.LsaHeader.{LsaHeader}
use Rattle.ospf_lsdb.specs.Database.{Held}
use Rattle.ospf_packet.specs.declared.body.Description.{Description}
use Rattle.ospf_neighbour.specs.Neighbour.{NeighbourValue}
use Rattle.ospf_exchange.specs.Exchange.{begun, accepted, describes, ends, all_told, taken, after_dd}
use Rattle.ospf_exchange.specs.Headers.{wanted}
use Rattle.ospf_exchange.proofs.Words.{after_rule, turn_of_master, turn_of_slave}
use Rattle.ospf_exchange.specs.Laws.{DescriptionsKeepRouters, KeepsRouter}
use Rattle.ospf_exchange.specs.Rules.{all_known, dd_rule, considered}
use Rattle.ospf_exchange.specs.declared.rule.Local.{Local}
use Rattle.ospf_exchange.specs.declared.rule.DdRule.{DdRule}
use Rattle.ospf_exchange.specs.declared.rule.DdRule.TheVariants.{TooLong, NotTaken, MakesSlave, MakesMaster, PassedOver, Repeats, Mismatch, Next}

same : (n : NeighbourValue) → KeepsRouter n n
same n = record { router = refl; address = refl }

both : (n m k : NeighbourValue) → KeepsRouter n m → KeepsRouter m k → KeepsRouter n k
both n m k p q = record { router = q.router ∙ p.router; address = q.address ∙ p.address }

either : (b : Bool) (n a c : NeighbourValue) → KeepsRouter n a → KeepsRouter n c → KeepsRouter n (if b then a else c)
either true n a c p q = p
either false n a c p q = q

by_describes : (local : Local) (number : ℕ) (n : NeighbourValue) → KeepsRouter n (describes local number n)
unfolding describes
by_describes local number n = record { router = refl; address = refl }

by_ends : (n : NeighbourValue) → KeepsRouter n (ends n)
by_ends n = record { router = refl; address = refl }

by_told : (d : Description) (hs : List LsaHeader) (n : NeighbourValue) → KeepsRouter n (accepted d hs n)
by_told d hs n = record { router = refl; address = refl }

by_begun : (is_master : Bool) (tick : ℕ) (db : List Held) (n : NeighbourValue) → KeepsRouter n (begun is_master tick db n)
by_begun is_master tick db n = record { router = refl; address = refl }

by_master : (local : Local) (d : Description) (n : NeighbourValue) → KeepsRouter n (turn_of_master local d n)
by_master local d n = either (all_told n.exchanging d) n (ends n) (describes local ((n.exchanging.number + 1) % 2 ^ 32) n) (by_ends n) (by_describes local ((n.exchanging.number + 1) % 2 ^ 32) n)

by_slave : (local : Local) (d : Description) (n : NeighbourValue) → KeepsRouter n (turn_of_slave local d n)
by_slave local d n =
    let m = describes local d.number n in
    let p = by_describes local d.number n in
    either (all_told m.exchanging d) n (ends m) m (both n m (ends m) p (by_ends m)) p

by_taken : (local : Local) (d : Description) (headers : List LsaHeader) (db : List Held) (n : NeighbourValue) → KeepsRouter n (taken local d headers db n)
unfolding taken
by_taken local d headers db n =
    let m = accepted d (wanted db headers) n in
    let p = by_told d (wanted db headers) n in
    either n.exchanging.is_master n (turn_of_master local d m) (turn_of_slave local d m) (both n m (turn_of_master local d m) p (by_master local d m)) (both n m (turn_of_slave local d m) p (by_slave local d m))

by_rule : (rule : DdRule) (local : Local) (d : Description) (headers : List LsaHeader) (db : List Held) (n : NeighbourValue) → KeepsRouter n (after_rule rule local d headers db n)
by_rule TooLong local d headers db n = same n
by_rule NotTaken local d headers db n = same n
by_rule PassedOver local d headers db n = same n
by_rule Repeats local d headers db n = same n
by_rule Mismatch local d headers db n = same n
by_rule Next local d headers db n = by_taken local d headers db n
by_rule MakesSlave local d headers db n =
    let m = begun false local.tick db n in
    both n m (taken local d headers db m) (by_begun false local.tick db n) (by_taken local d headers db m)
by_rule MakesMaster local d headers db n =
    let m = begun true local.tick db n in
    let p = by_begun true local.tick db n in
    either (all_known headers) n (taken local d headers db m) m (both n m (taken local d headers db m) p (by_taken local d headers db m)) p

pub keep_routers : DescriptionsKeepRouters
unfolding after_dd
keep_routers local sender d headers db n = by_rule (dd_rule local sender d headers n) local d (considered local.passes_over headers) db n
