-- What a router drops.
use Rattle.std.specs.Prelude.{Option, None, Some}
use Rattle.ospf_journal.specs.declared.change.DroppedAt.{DroppedAt}
use Rattle.ospf_notes.specs.declared.dropped.Heard.{Heard}
use Rattle.ospf_router.specs.declared.step.dropped.Dropped.{Dropped}

-- the drop of the packet that had arrived, if one had and the step has a cause
abbrev pub dropped_in : Option Heard → Option Dropped → Option DroppedAt
dropped_in None cause = None
dropped_in (Some h) None = None
dropped_in (Some h) (Some cause) =
    Some (record { link = h.link; source = h.source; cause = cause })
