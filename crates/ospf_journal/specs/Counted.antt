-- What a router dropped, by link and cause (RFC 2328, section 8.2).
use Rattle.std.specs.Prelude.{◌==◌, ◌++◌, ◌∷◌, [], ℕ, List, codes, decimal, flat_map, if◌then◌else◌}
use Rattle.std.specs.List.{enumerate_from}
use Rattle.ospf_router.specs.AreaStep.Counts.{drops_for}
use Rattle.ospf_router.specs.AreaStep.Text.{dropped_text}
use Rattle.ospf_router.specs.declared.step.counts.DropCounts.{DropCounts}
use Rattle.ospf_router.specs.declared.step.dropped.Dropped.{Dropped}
use Rattle.ospf_router.specs.declared.step.dropped.Dropped.TheVariants as dropped

-- the causes, in the order of their numbers
abbrev pub causes : List Dropped
causes =
    dropped.Packet ∷ dropped.Area ∷ dropped.OwnPacket ∷ dropped.Destination ∷ dropped.Subnet
    ∷ dropped.HelloMismatch
    ∷ dropped.NoNeighbour ∷ dropped.WrongRouter ∷ dropped.State ∷ []

-- so many were dropped on a link for a cause
abbrev pub drops_text : ℕ → Dropped → ℕ → List ℕ
drops_text link cause count =
    codes "drops " ++ decimal link ++ codes " " ++ dropped_text cause ++ codes " " ++ decimal count

-- the line of a link and a cause, if some were dropped
abbrev pub cause_line : ℕ × DropCounts → Dropped → List ℕ
cause_line l cause =
    if drops_for cause l.1 == 0 then []
    else drops_text l.0 cause (drops_for cause l.1) ++ codes "\n"

-- the lines of a link
abbrev pub link_lines : ℕ × DropCounts → List ℕ
link_lines l = flat_map (cause_line l) causes

-- the lines of all links
abbrev pub drop_lines : List DropCounts → List ℕ
drop_lines links = flat_map link_lines (enumerate_from 0 links)
