use Rattle.std.proofs.Common.{take}
use Rattle.std.specs.List.{AllZip}
use Rattle.ospf_graph.specs.EdgeLists.Listed.{advertisements_of}
use Rattle.ospf_harm.specs.Reports.{IsReportOf}
use Rattle.ospf_harm.proofs.cases.reports_in_turn.Given as goal

-- the reports so far
abbrev pub invariant-loop-breakdown : goal.invariant-loop-breakdown
invariant-loop-breakdown l =
    AllZip (IsReportOf (advertisements_of l.listing) l.cases.before.root l.cases.before.table) (take l.breakdown-index l.breakdown-items) l.reports.items
