-- The neighbours of a link after a Request is answered.
use Rattle.std.proofs.Common.{◌≡◌, ◌∙◌, ℕ, false, List, Option, None, Some, ap, refl, set, slice_get, sym}
use Rattle.ospf_base.specs.declared.ids.RouterId.{RouterId}
use Rattle.ospf_neighbour.specs.declared.iface.machine.Iface.{Iface}
use Rattle.ospf_lsdb.specs.Database.{Held}
use Rattle.ospf_neighbour.specs.Neighbour.{NeighbourValue}
use Rattle.ospf_neighbour.specs.Neighbours.{AreNeighbours, neighbour_of, place_for}
use Rattle.ospf_packet.specs.declared.entry.RequestEntry.{RequestEntry}
use Rattle.ospf_exchange.specs.declared.rule.Local.{Local}
use Rattle.ospf_area.specs.Turns.{Turn, turn}
use Rattle.ospf_area.specs.Outboxes.{OutboxValue}
use Rattle.ospf_adjacency.specs.Heard.{Neighbourhood, neighbourhood, put_back, turn_of}
use Rattle.ospf_adjacency.proofs.StayLemmas.{put_rises}
use Rattle.ospf_adjacency.specs.Answers.{answer_turn}
use Rattle.ospf_adjacency.proofs.QuietLemmas.{answers_are_quiet}
use Rattle.ospf_adjacency.specs.LinkSteps.Parts.{request_on}
use Rattle.ospf_adjacency.proofs.LinkSteps.Words.{request_by}
use Rattle.ospf_adjacency.proofs.LinkSteps.NeighbourLemmas.{few_by}
use Rattle.ospf_adjacency.proofs.LinkSteps.WorkLemmas.{is_found, is_put, named_by}

answered_router : (i : Iface) (local : Local) (delay : ℕ) (db : List Held) (es : List RequestEntry) (t : Turn) → (answer_turn i local delay db es t).neighbour.router ≡ t.neighbour.router
answered_router i local delay db es t = (answers_are_quiet i local delay db es t).same.router

pub requested_found : (i : Iface) (local : Local) (q : RouterId) (delay : ℕ) (db : List Held) (es : List RequestEntry) (ns : List NeighbourValue) (p p' : OutboxValue) (k : ℕ) (e m : NeighbourValue)
    → k ≡ place_for ns q.0 → slice_get ns k ≡ Some e → e.router ≡ q
    → turn m p' ≡ answer_turn i local delay db es (turn e p)
    → neighbourhood (set ns k m) false p' ≡ request_on i local q delay db es (neighbourhood ns false p)
requested_found i local q delay db es ns p p' k e m at there e_is is =
    let x = neighbourhood ns false p in
    let same : m.router ≡ e.router = ap (λ (t : Turn). t.neighbour.router) is ∙ answered_router i local delay db es (turn e p) in
    ap (λ (l : List NeighbourValue). neighbourhood l false p') (is_put ns k q e m at there e_is same)
    ∙ ap (λ (u : Turn). put_back false u x) is
    ∙ ap (λ (o : Option NeighbourValue). request_by o i local delay db es x) (sym (is_found ns k q e at there e_is))

requested_stays_by : (i : Iface) (local : Local) (q : RouterId) (delay : ℕ) (db : List Held) (es : List RequestEntry) (x : Neighbourhood) → AreNeighbours x.neighbours → (o : Option NeighbourValue) → neighbour_of x.neighbours q ≡ o
    → ((n : NeighbourValue) → o ≡ Some n → n.router ≡ q) → AreNeighbours (request_by o i local delay db es x).neighbours
requested_stays_by i local q delay db es x are None is named = are
requested_stays_by i local q delay db es x are (Some n) is named =
    let m = (answer_turn i local delay db es (turn_of n x)).neighbour in
    let m_is : m.router ≡ q = answered_router i local delay db es (turn_of n x) ∙ named n refl in
    record {
      rising = put_rises m x.neighbours are.rising;
      few = few_by m x.neighbours are.rising are.few (λ none. absurd (let no : Some n ≡ None = sym is ∙ ap (neighbour_of x.neighbours) (sym m_is) ∙ none in cc)) (slice_get x.neighbours (place_for x.neighbours m.router.0)) refl;
    }

pub requested_stays : (i : Iface) (local : Local) (q : RouterId) (delay : ℕ) (db : List Held) (es : List RequestEntry) (x : Neighbourhood) → AreNeighbours x.neighbours → AreNeighbours (request_on i local q delay db es x).neighbours
requested_stays i local q delay db es x are = requested_stays_by i local q delay db es x are (neighbour_of x.neighbours q) refl (λ n is. named_by x.neighbours q n is)
