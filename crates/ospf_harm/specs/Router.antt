-- What is reported of the failures of the area whose LSAs are the lines of an input, at one of its
-- routers.
use Rattle.std.specs.Prelude.{◌≡◌, ◌++◌, ℕ, List, [], IfSome, Option, Result, Ok, Err, string_bytes}
use Rattle.ospf_graph.specs.EdgeLists.Listed.{advertisements_of}
use Rattle.ospf_files.specs.Streams.{IsOfInput}
use Rattle.ospf_files.specs.declared.report.Report.{Report}
use Rattle.ospf_files.specs.declared.status.Failure.{Failure}
use Rattle.ospf_table.specs.Line.{LeavesOut, Reads}
use Rattle.ospf_table.specs.Report.{Shows}
use Rattle.ospf_whatif.specs.Failure.{HasLarge}
use Rattle.ospf_harm.specs.Asked.{IsRebuiltFor, exit_code_of}
use Rattle.ospf_harm.specs.Input.{IsAreaRefusal}
use Rattle.ospf_harm.specs.Said.{SaysChanges, form_head}
use Rattle.ospf_harm.specs.Warnings.{WarnsAt}
use Rattle.ospf_harm.specs.declared.asked.FailuresStatus.{FailuresStatus}
use Rattle.ospf_harm.specs.declared.asked.RouterFailures.{RouterFailures}

-- the answer of the area whose LSAs the lines of the input are, none of whose routers has too many
-- links where router-LSAs are rebuilt; and what it warns of. A line about the input may come before
-- what is asked
pub record IsRouterAnswer (asked : RouterFailures) (end : FailuresStatus)
    (input text warning : List ℕ) : Type 0 where
  pub listing : List (List ℕ)
  pub reads : Reads input [] listing
  pub left_out : ℕ
  pub leaves_out : LeavesOut input left_out
  pub small : IsRebuiltFor asked → HasLarge (advertisements_of listing) → ⊥
  pub warned : WarnsAt asked.root asked.carrier listing warning
  pub body : List ℕ
  pub says : SaysChanges asked (advertisements_of listing) body end
  pub text_is : text ≡ form_head asked.form listing left_out warning ++ body

-- the report is the answer, its warning and its status; or the text that refuses the input alone
pub data IsRouterReport (asked : RouterFailures) (input : List ℕ) (report : Report)
    : Type 0 where
  answered : (end : FailuresStatus)
      → IsRouterAnswer asked end input (string_bytes report.text) (string_bytes report.warnings)
      → report.status ≡ exit_code_of end → IsRouterReport asked input report
  refused : (text : List ℕ) → IsAreaRefusal (IsRebuiltFor asked) input text
      → Shows report text [] 3 → IsRouterReport asked input report

-- the report, or why there is none: memory ran out, or the input was not read
abbrev pub IsRouterResult
    : RouterFailures → Option (List ℕ) → Result Report Failure → Type 0
IsRouterResult asked input (Ok report) = IfSome input (λ bytes. IsRouterReport asked bytes report)
IsRouterResult asked input (Err failure) = IsOfInput failure
