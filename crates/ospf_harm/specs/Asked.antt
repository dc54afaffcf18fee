-- What is asked about the failures of an area at a router, and how that ends.
use Rattle.std.specs.Prelude.{◌≡◌, ◌⊎◌, ◌&&◌, ◌||◌, ℕ, Bool, not, true, if◌then◌else◌}
use Rattle.ospf_files.specs.Status.{code_of}
use Rattle.ospf_files.specs.declared.status.Status.TheVariants as status
use Rattle.ospf_harm.specs.declared.carrier.Carrier.TheVariants.{Direct}
use Rattle.ospf_harm.specs.declared.asked.FailuresStatus.{FailuresStatus}
use Rattle.ospf_harm.specs.declared.asked.FailuresStatus.TheVariants.{Ended, Unmet}
use Rattle.ospf_harm.specs.declared.asked.RouterFailures.{RouterFailures}

-- on direct cables some failures happen together, and router-LSAs are rebuilt for that
abbrev pub IsRebuiltFor : RouterFailures → Type 0
IsRebuiltFor asked = asked.carrier ≡ Direct

-- ---- statuses

-- the number of a status
abbrev pub exit_code_of : FailuresStatus → ℕ
exit_code_of (Ended s) = code_of s
exit_code_of Unmet = 1

-- with `--strict`, the status reports whether P holds
abbrev pub IsEndBy : Bool → Type 0 → FailuresStatus → Type 0
IsEndBy strict P (Ended s) = (s ≡ status.Done) × ((strict ≡ true) → P → ⊥)
IsEndBy strict P Unmet = (strict ≡ true) × P

-- how it ends where all was printed: by `--strict`, whether something is cut off, and whether what
-- is asked of is listed
abbrev pub end_by : (strict cut listed : Bool) → FailuresStatus
end_by strict cut listed = if strict && (cut || not listed) then Unmet else Ended status.Done

-- all is printed
abbrev pub IsAllPrinted : FailuresStatus → Type 0
IsAllPrinted end = (end ≡ Ended status.Done) ⊎ (end ≡ Unmet)
