-- The report of a table.
use Rattle.std.proofs.Common.{◌≡◌, ℕ, List, [], subst}
use Rattle.ospf_base.specs.declared.ids.RouterId.{RouterId}
use Rattle.ospf_files.specs.declared.report.Report.{Report}
use Rattle.ospf_table.specs.Line.{Refuses}
use Rattle.ospf_table.specs.Refusal.{refusal_line}
use Rattle.ospf_table.specs.Report.{Shows}
use Rattle.ospf_table.specs.declared.table.EntryFault.{EntryFault}
use Rattle.ospf_c.specs.Tables.{IsTableReport, of_line}

-- that of the first refused line
pub line_reported : (input : List ℕ) (root : RouterId) (addresses : List ℕ) (number n : ℕ) (fault f : EntryFault) (report : Report)
    → n ≡ number → f ≡ fault → Refuses input [] number fault → Shows report (refusal_line n f) [] 3 → IsTableReport input root addresses report
line_reported input root addresses number n fault f report is_number is_fault refused shown =
    of_line number fault refused
    (subst (λ (e : EntryFault). Shows report (refusal_line number e) [] 3) is_fault (subst (λ (m : ℕ). Shows report (refusal_line m f) [] 3) is_number shown))
