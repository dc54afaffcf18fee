-- What a step of a router reports to a journal.
use Rattle.std.specs.Prelude.{List, [], Option, None}
use Rattle.ospf_base.specs.declared.ids.Instance.{Instance}
use Rattle.ospf_journal.specs.declared.change.DroppedAt.{DroppedAt}

-- the datagram that it dropped, if it did (8.2), and the instances of the router's own LSAs that it
-- issued, in the order in which it did (12.4)
pub record ReportedValue : Type 0 where
  pub dropped : Option DroppedAt
  pub issued : List Instance

-- a step that drops nothing and issues nothing
abbrev pub nothing_reported : ReportedValue
nothing_reported = record { dropped = None; issued = [] }
