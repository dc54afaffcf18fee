-- The report of an input that may not be known.
use Rattle.std.proofs.Common.{ℕ, List, [], Option, None, Some, IfSome}
use Rattle.ospf_files.specs.declared.report.Report.{Report}
use Rattle.ospf_table.specs.Line.{LeavesOut, Reads, Refuses}
use Rattle.ospf_table.specs.Refusal.{refusal_line}
use Rattle.ospf_table.specs.Report.{Shows}
use Rattle.ospf_table.specs.declared.table.EntryFault.{EntryFault}
use Rattle.ospf_inspect.specs.Answer.{IsInspectAnswer, IsInspectReport, of_line, of_listing}
use Rattle.ospf_inspect.specs.declared.answer.InspectJob.{InspectJob}

-- that of its listing
pub listing_answered : (input : Option (List ℕ)) (job : InspectJob) (listing : List (List ℕ)) (left_out : ℕ) (report : Report)
    → IfSome input (λ bytes. Reads bytes [] listing) → IfSome input (λ bytes. LeavesOut bytes left_out) → IsInspectAnswer job listing left_out report
    → IfSome input (λ bytes. IsInspectReport job bytes report)
listing_answered None job listing left_out report reads counted is = tt
listing_answered (Some bytes) job listing left_out report reads counted is = of_listing listing left_out reads counted is

-- that of its first refused line
pub line_answered : (input : Option (List ℕ)) (job : InspectJob) (number : ℕ) (fault : EntryFault) (report : Report)
    → IfSome input (λ bytes. Refuses bytes [] number fault) → Shows report (refusal_line number fault) [] 3
    → IfSome input (λ bytes. IsInspectReport job bytes report)
line_answered None job number fault report refused shown = tt
line_answered (Some bytes) job number fault report refused shown = of_line number fault refused shown
