-- How far the numbers of a router's own LSAs have come, and when each was last issued (RFC
-- 2328, sections 12.1.6 and 12.4).
use Rattle.std.specs.Prelude.{ℕ, Bool, false, List, None, Some, map, not, option_and_then, if◌then◌else◌}
use Rattle.ospf_base.specs.Ticks.{have_passed}
use Rattle.ospf_base.specs.declared.ids.LsaKey.{LsaKey}
use Rattle.ospf_area.specs.State.{numbering_of}
use Rattle.ospf_area.specs.declared.state.Numbering.{Numbering}
use Rattle.ospf_base.specs.Keys.{same_key}
pub use Rattle.ospf_originate.specs.Wants.Made.{first_number}

-- MinLSInterval: the ticks between two issues of an LSA (appendix B)
abbrev pub min_ls_interval : ℕ
min_ls_interval = 5

-- the key was issued at all, and less than MinLSInterval ago (12.4)
abbrev pub waits : ℕ → List Numbering → LsaKey → Bool
waits tick ns key = elim (option_and_then (λ n. n.issued_at) (numbering_of ns key)) [
  | None ↦ false
  | Some issued ↦ not (have_passed min_ls_interval issued tick)
]

-- of the keys, this one was issued at this tick
abbrev pub issued : LsaKey → ℕ → List Numbering → List Numbering
issued key tick ns =
    map (λ (n : Numbering). if same_key n.key key then record n { issued_at = Some tick } else n) ns
