-- LSAs that neighbours have and a router refuses, each neighbour reported once.
use Rattle.std.specs.Prelude.{◌≡◌, ◌⊎◌, ◌==◌, ◌&&◌, ◌||◌, ◌++◌, not, ℕ, Bool, List, Option, None, Some, codes, decimal, if◌then◌else◌}
use Rattle.std.specs.BTreeSet as sorted
use Rattle.std.specs.List.{list_any}
use Rattle.std.specs.Ordering.{nat_cmp, ordering_then}
use Rattle.ospf_base.specs.Text.{number_text}
use Rattle.ospf_base.specs.declared.ids.RouterId.{RouterId}
use Rattle.ospf_lsa.specs.Text.{lsa_fault_text}
use Rattle.ospf_neighbour.specs.Neighbour.{NeighbourValue}
use Rattle.ospf_notes.specs.declared.refused.RefusedLsa.{RefusedLsa}
use Rattle.ospf_notes.specs.declared.refused.Untaken.{Untaken}
use Rattle.ospf_notes.specs.declared.refused.Untaken.TheVariants.{Described, Sent, Invalid}
use Rattle.ospf_router.specs.Routers.{RouterValue, neighbours_on}

-- ---- what is refused

-- a router on a link, and its LSA that the router here refuses
abbrev pub untaken_from : ℕ → RouterId → Untaken → RefusedLsa
untaken_from link q u = record { link = link; neighbour = q; untaken = u }

-- the LS type, and why LSAs of it are refused
abbrev pub of_type_text : ℕ → List ℕ
of_type_text kind =
    decimal kind ++ codes ": this area has what this router does not take (other_lsas)"

-- what a neighbour with such an LSA does
abbrev pub untaken_text : Untaken → List ℕ
untaken_text (Described kind) = codes "describes an LSA of type " ++ of_type_text kind
untaken_text (Sent kind) = codes "sends an LSA of type " ++ of_type_text kind
untaken_text (Invalid f) =
    codes "sends an LSA that is refused: " ++ lsa_fault_text f ++ codes ": it is never acknowledged"

-- the message that a neighbour has one, with the name of the router's file
abbrev pub refused_text : List ℕ → RefusedLsa → List ℕ
refused_text file r =
    file ++ codes ": link " ++ decimal r.link ++ codes ": " ++ number_text r.neighbour.0
    ++ codes " " ++ untaken_text r.untaken

-- ---- what is reported

-- links, and Router IDs of neighbours there
abbrev pub ToldSet : Type 0
ToldSet = sorted.BTreeSet (ℕ × ℕ)

-- the set contains this link and neighbour
abbrev pub has_told : ToldSet → ℕ × ℕ → Bool
has_told s q =
    sorted.contains (λ (a b : ℕ × ℕ). ordering_then (nat_cmp a.0 b.0) (nat_cmp a.1 b.1)) s q

-- a neighbour of this Router ID
abbrev pub is_neighbour_of : RouterId → NeighbourValue → Bool
is_neighbour_of q n = n.router.0 == q.0

-- the router with the LSA is a neighbour of this router on the link
abbrev pub is_of_neighbour : RouterValue → RefusedLsa → Bool
is_of_neighbour x r = list_any (is_neighbour_of r.neighbour) (neighbours_on x.area r.link)

-- it was reported
abbrev pub was_told_of : ToldSet → RefusedLsa → Bool
was_told_of told r = has_told told (r.link, r.neighbour.0)

-- it is reported now: each neighbour once
abbrev pub is_told_now : RouterValue → ToldSet → RefusedLsa → Bool
is_told_now x told r = is_of_neighbour x r && not (was_told_of told r)

-- what must be reported after a step, for the packet that arrived last
abbrev pub refused_due : RouterValue → ToldSet → Option RefusedLsa → Option RefusedLsa
refused_due x told None = None
refused_due x told (Some r) = if is_told_now x told r then Some r else None

-- what was reported before is still in the set, and this is added
abbrev pub MarksNeighbour : ToldSet → RefusedLsa → ToldSet → Type 0
MarksNeighbour old r new =
    (q : ℕ × ℕ) → has_told new q ≡ (has_told old q || (r.link == q.0 && r.neighbour.0 == q.1))

-- if there was room to remember it
abbrev pub IsToldOnce : ToldSet → RefusedLsa → ToldSet → Type 0
IsToldOnce old r new = (new ≡ old) ⊎ MarksNeighbour old r new
