-- Calls that ask for a changed area, or for what changed between two databases.
use Rattle.std.specs.Prelude.{◌≡◌, ℕ, List, Option, Some, Result, Err, codes, vec_items}
use Rattle.ospf_base.specs.declared.ids.RouterId.{RouterId}
use Rattle.ospf_files.specs.declared.report.Report.{Report}
use Rattle.ospf_files.specs.declared.status.Failure.{Failure}
use Rattle.ospf_files.specs.declared.status.Failure.TheVariants.{Memory}
use Rattle.ospf_change.specs.Edit.Answer.{IsEditResult}
use Rattle.ospf_change.specs.declared.edit.words.EditJob.{EditJob}
use Rattle.ospf_change.specs.Diff.Report.{IsDiffResult}
use Rattle.ospf_change.specs.declared.diff.report.DiffJob.{DiffJob}
use Rattle.ospf_change.specs.declared.diff.report.DiffNames.{DiffNames}
use Rattle.ospf_c.specs.Words.{AreWords}
use Rattle.ospf_c.specs.Tables.{router_of}

-- ---- changed areas

-- the words of the job are the lines of three texts
pub record AreJobWords (down costs drains : List ℕ) (job : EditJob) : Type 0 where
  pub down_are : AreWords down (vec_items job.down)
  pub costs_are : AreWords costs (vec_items job.costs)
  pub drains_are : AreWords drains (vec_items job.drains)

-- what is answered of an area after changes: what the program prints of it, or that memory ran out
-- before
pub data IsEditOf (lsas down costs drains : List ℕ) (result : Result Report Failure) : Type 0 where
  no_room : result ≡ Err Memory → IsEditOf lsas down costs drains result
  of_job : (job : EditJob) → AreJobWords down costs drains job
      → IsEditResult job (Some lsas) result → IsEditOf lsas down costs drains result

-- ---- differences

-- the router of this Router ID as the one whose tables are compared
abbrev pub root_of : ℕ → Option RouterId
root_of number = Some (router_of number)

-- the databases are called so
abbrev pub AreBeforeAndAfter : DiffNames → Type 0
AreBeforeAndAfter names = (names.before.now ≡ codes "before") × (names.after.now ≡ codes "after")

-- what is answered of two databases: what the program prints of files of these names
abbrev pub IsDiffOf : Option RouterId → List ℕ → List ℕ → Result Report Failure → Type 0
IsDiffOf root before after result =
    (names : DiffNames) × AreBeforeAndAfter names
    × IsDiffResult (record { root = root }) names (Some before) (Some after) result
