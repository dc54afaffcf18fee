-- AdjOK? at one neighbour more, and the election.
use Rattle.std.proofs.Common.{◌≡◌, ◌≢◌, ◌⊎◌, inl, inr, subst, ℕ, suc, ◌+◌, ◌<◌, Bool, true, false, List, [], ◌∷◌, ◌++◌, length, get_or, set, take, drop, refl, sym, ap, ◌∙◌, arith, map, filter, if◌then◌else◌}
use Rattle.std.specs.List.{AllByRecursion}
use Rattle.std.proofs.lemmas.List.{append_assoc, append-nil, take_more, length-take-le}
use Rattle.std.proofs.lemmas.List.Kept.{AllPairs-cons}
use Rattle.std.proofs.lemmas.List.Elements.{All-from_recursion}
use Rattle.ospf_base.specs.declared.ids.RouterId.{RouterId}
use Rattle.ospf_neighbour.specs.declared.iface.candidate.Candidate.{Candidate}
use Rattle.ospf_neighbour.specs.Interface.Election.{AreDistinct, IsElected}
use Rattle.ospf_neighbour.specs.declared.iface.machine.Iface.{Iface}
use Rattle.ospf_neighbour.specs.declared.iface.machine.IfaceChange.{IfaceChange}
use Rattle.ospf_neighbour.specs.Interface.Machine.{Elects, is_changed, own_candidate}
use Rattle.ospf_neighbour.specs.declared.machine.NbrEvent.{NbrEvent}
use Rattle.ospf_neighbour.specs.Machine.{is_two_way}
use Rattle.ospf_neighbour.specs.Neighbour.{NeighbourValue}
use Rattle.ospf_neighbour.specs.Neighbours.{AreNeighboursRising}
use Rattle.ospf_adjacency.specs.Adjacency.{begins_by, event_taken, number_by}
use Rattle.ospf_adjacency.specs.Elections.{AreOfLink, ElectsOn, adjusted, number_after, first_dds, candidates_of}
use Rattle.ospf_adjacency.proofs.Words.{adj_ok_for, candidate_of, taking_part}
use Rattle.ospf_area.specs.Packets.{PendingPacket, dd_packet, packet_if}
use Rattle.ospf_area.proofs.PlaceLemmas.{read_left, write_left}

-- ---- who takes part

-- ---- AdjOK?

pub length-adjusted : (i : Iface) (tick next : ℕ) (ns : List NeighbourValue) → length (adjusted i tick next ns) ≡ length ns
length-adjusted i tick next [] = refl
length-adjusted i tick next (n ∷ ns) = ap suc (length-adjusted i tick (number_by (adj_ok_for i n) n next) ns)

adjusted-push : (i : Iface) (tick next : ℕ) (ns : List NeighbourValue) (n : NeighbourValue)
    → adjusted i tick next (ns ++ n ∷ []) ≡ adjusted i tick next ns ++ event_taken (adj_ok_for i n) i.settings.dead (number_after i next ns) tick n ∷ []
adjusted-push i tick next [] n = refl
adjusted-push i tick next (m ∷ ns) n = ap (λ rest. event_taken (adj_ok_for i m) i.settings.dead next tick m ∷ rest) (adjusted-push i tick (number_by (adj_ok_for i m) m next) ns n)

number_after-push : (i : Iface) (next : ℕ) (ns : List NeighbourValue) (n : NeighbourValue) → number_after i next (ns ++ n ∷ []) ≡ number_by (adj_ok_for i n) n (number_after i next ns)
number_after-push i next [] n = refl
number_after-push i next (m ∷ ns) n = number_after-push i (number_by (adj_ok_for i m) m next) ns n

first_dds-push : (i : Iface) (mtu tick next : ℕ) (ns : List NeighbourValue) (n : NeighbourValue)
    → first_dds i mtu tick next (ns ++ n ∷ []) ≡ first_dds i mtu tick next ns ++ packet_if (begins_by (adj_ok_for i n) n) (dd_packet i mtu (event_taken (adj_ok_for i n) i.settings.dead (number_after i next ns) tick n))
first_dds-push i mtu tick next [] n = append-nil (packet_if (begins_by (adj_ok_for i n) n) (dd_packet i mtu (event_taken (adj_ok_for i n) i.settings.dead next tick n)))
first_dds-push i mtu tick next (m ∷ ns) n =
    let first = packet_if (begins_by (adj_ok_for i m) m) (dd_packet i mtu (event_taken (adj_ok_for i m) i.settings.dead next tick m)) in
    let after = number_by (adj_ok_for i m) m next in
    ap (λ rest. first ++ rest) (first_dds-push i mtu tick after ns n) ∙ sym (append_assoc first (first_dds i mtu tick after ns) _)

-- where AdjOK? has come to the first neighbours
pub record AreAdjusted (i : Iface) (mtu tick next : ℕ) (ns : List NeighbourValue) (k : ℕ) (now : List NeighbourValue) (number : ℕ) (before sent : List PendingPacket) : Type 0 where
  pub neighbours : now ≡ adjusted i tick next (take k ns) ++ drop k ns
  pub number_is : number ≡ number_after i next (take k ns)
  pub sent_are : sent ≡ before ++ first_dds i mtu tick next (take k ns)

pub adjusted-more : (i : Iface) (mtu tick next : ℕ) (ns : List NeighbourValue) (k : ℕ) (now : List NeighbourValue) (number number' : ℕ) (before sent sent' : List PendingPacket) (e : NbrEvent) (n m : NeighbourValue)
    → AreAdjusted i mtu tick next ns k now number before sent → k < length ns → n ≡ get_or now k n → e ≡ adj_ok_for i n
    → m ≡ event_taken e i.settings.dead number tick n → number' ≡ number_by e n number
    → sent' ≡ sent ++ packet_if (begins_by e n) (dd_packet i mtu (event_taken e i.settings.dead number tick n))
    → AreAdjusted i mtu tick next ns (k + 1) (set now k m) number' before sent'
adjusted-more i mtu tick next ns k now number number' before sent sent' e n m are within there asked after number_after_it sent_after =
    let front = take k ns in
    let ok = adj_ok_for i n in
    let dead = i.settings.dead in
    let c = number_after i next front in
    let long : length (adjusted i tick next front) ≡ k = length-adjusted i tick next front ∙ length-take-le k ns (omega arith) in
    let is : n ≡ get_or ns k n = read_left (adjusted i tick next front) ns now k n long within are.neighbours there in
    let more : take (k + 1) ns ≡ front ++ n ∷ [] = take_more ns k n within ∙ ap (λ x. front ++ x ∷ []) (sym is) in
    let m_is : m ≡ event_taken ok dead c tick n = after ∙ ap (λ (x : NbrEvent). event_taken x dead number tick n) asked ∙ ap (λ (x : ℕ). event_taken ok dead x tick n) are.number_is in
    let first = λ (x : NbrEvent) (y : ℕ). packet_if (begins_by x n) (dd_packet i mtu (event_taken x dead y tick n)) in
    record {
      neighbours =
          write_left (adjusted i tick next front) ns now k n m long within are.neighbours
          ∙ ap (λ x. (adjusted i tick next front ++ x ∷ []) ++ drop (k + 1) ns) m_is
          ∙ ap (λ xs. xs ++ drop (k + 1) ns) (sym (adjusted-push i tick next front n))
          ∙ ap (λ xs. adjusted i tick next xs ++ drop (k + 1) ns) (sym more);
      number_is = number_after_it ∙ ap (λ (x : NbrEvent). number_by x n number) asked ∙ ap (λ x. number_by ok n x) are.number_is ∙ sym (number_after-push i next front n) ∙ ap (number_after i next) (sym more);
      sent_are =
          sent_after
          ∙ ap (λ (x : NbrEvent). sent ++ first x number) asked
          ∙ ap (λ (x : ℕ). sent ++ first ok x) are.number_is
          ∙ ap (λ (ps : List PendingPacket). ps ++ first ok c) are.sent_are
          ∙ append_assoc before (first_dds i mtu tick next front) (first ok c)
          ∙ ap (λ (ps : List PendingPacket). before ++ ps) (sym (first_dds-push i mtu tick next front n))
          ∙ ap (λ (xs : List NeighbourValue). before ++ first_dds i mtu tick next xs) (sym more);
    }

-- ---- the election

-- AdjOK? has come where it was due
pub elects_changed : (mtu tick next next' : ℕ) (i i' : Iface) (ns ns' : List NeighbourValue) (cs : List Candidate) (change : IfaceChange) (sent : List PendingPacket)
    → Elects cs i i' change → cs ≡ candidates_of i ns → true ≡ change.adj_ok
    → ns' ≡ adjusted i' tick next ns → next' ≡ number_after i' next ns → sent ≡ first_dds i' mtu tick next ns
    → ElectsOn mtu tick i ns next sent i' ns' next'
elects_changed mtu tick next next' i i' ns ns' cs change sent elects are due neighbours number sends =
    let changed : true ≡ is_changed i elects.result = due ∙ ap (λ (x : IfaceChange). x.adj_ok) elects.tells in
    record {
      result = elects.result;
      is_elected = subst (λ (x : List Candidate). IsElected x i.settings.router elects.result) are elects.is_elected;
      interface = elects.state;
      neighbours = neighbours ∙ ap (λ b. if b then adjusted i' tick next ns else ns) changed;
      number = number ∙ ap (λ b. if b then number_after i' next ns else next) changed;
      sends = sends ∙ ap (λ b. if b then first_dds i' mtu tick next ns else []) changed;
    }

-- it was not due
pub elects_same : (mtu tick next : ℕ) (i i' : Iface) (ns : List NeighbourValue) (cs : List Candidate) (change : IfaceChange)
    → Elects cs i i' change → cs ≡ candidates_of i ns → false ≡ change.adj_ok
    → ElectsOn mtu tick i ns next [] i' ns next
elects_same mtu tick next i i' ns cs change elects are due =
    let same : false ≡ is_changed i elects.result = due ∙ ap (λ (x : IfaceChange). x.adj_ok) elects.tells in
    record {
      result = elects.result;
      is_elected = subst (λ (x : List Candidate). IsElected x i.settings.router elects.result) are elects.is_elected;
      interface = elects.state;
      neighbours = ap (λ b. if b then adjusted i' tick next ns else ns) same;
      number = ap (λ b. if b then number_after i' next ns else next) same;
      sends = ap (λ b. if b then first_dds i' mtu tick next ns else []) same;
    }

-- ---- those who take part are different routers

bool_cases : (b : Bool) → (b ≡ true) ⊎ (b ≡ false)
bool_cases true = inl refl
bool_cases false = inr refl

-- what holds of the Router IDs of neighbours holds of those who take part
ids_kept : (P : ℕ → Type 0) (ns : List NeighbourValue) → AllByRecursion (λ n. P n.router.0) ns → AllByRecursion (λ (c : Candidate). P c.id.0) (taking_part ns)
ids_kept P [] h = tt
ids_kept P (n ∷ ns) h = elim (bool_cases (is_two_way n.state)) [ inl t ↦ (rw t (h.0, ids_kept P ns h.1)) | inr f ↦ (rw f (ids_kept P ns h.1)) ]

others : (c : Candidate) (cs : List Candidate) → AllByRecursion (λ (d : Candidate). d.id.0 ≢ c.id.0) cs → AllByRecursion (λ (d : Candidate). c.id ≢ d.id) cs
others c [] h = tt
others c (d ∷ ds) h = ((λ e. h.0 (sym (ap (λ (r : RouterId). r.0) e))), others c ds h.1)

above_differ : (q : ℕ) (ns : List NeighbourValue) → AllByRecursion (λ n. q < n.router.0) ns → AllByRecursion (λ n. n.router.0 ≢ q) ns
above_differ q [] h = tt
above_differ q (n ∷ ns) h = ((λ e. omega (arith, h.0, e)), above_differ q ns h.1)

cons_distinct : (c : Candidate) (cs : List Candidate) → AllByRecursion (λ (d : Candidate). d.id.0 ≢ c.id.0) cs → AreDistinct cs → AreDistinct (c ∷ cs)
cons_distinct c cs h = AllPairs-cons (λ a b. a.id ≢ b.id) c cs (All-from_recursion (λ (d : Candidate). c.id ≢ d.id) cs (others c cs h))

taking_part-distinct : (ns : List NeighbourValue) → AreNeighboursRising ns → AreDistinct (taking_part ns)
taking_part-distinct [] rises = λ i j d lt long. absurd (omega arith)
taking_part-distinct (n ∷ ns) rises =
    let rest = taking_part-distinct ns rises.1 in
    let apart = ids_kept (λ k. k ≢ n.router.0) ns (above_differ n.router.0 ns rises.0) in
    elim (bool_cases (is_two_way n.state)) [
      | inl t ↦ (rw t (cons_distinct (candidate_of n) (taking_part ns) apart rest))
      | inr f ↦ (rw f rest)
    ]

pub candidates_differ : (i : Iface) (ns : List NeighbourValue) → AreOfLink i ns → AreDistinct (candidates_of i ns)
candidates_differ i ns is = cons_distinct (own_candidate i) (taking_part ns) (ids_kept (λ k. k ≢ i.settings.router.0) ns is.others) (taking_part-distinct ns is.rising)
