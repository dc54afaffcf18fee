-- A router that has just started is one whose steps are lawful.
use Rattle.std.proofs.Common.{◌≡◌, ◌≤◌, ℕ, ℤ, Some, length, sym, subst, ◌∙◌, arith}
use Rattle.std.proofs.lemmas.Option.{same_Some}
use Rattle.ospf_area.specs.State.{AreaValue}
use Rattle.ospf_config.specs.declared.config.Config.{Config}
use Rattle.ospf_router.specs.Chains.{HasKeptState, StartedAreKept}
use Rattle.ospf_originate.specs.Laws.{StartsSound}
use Rattle.ospf_router.proofs.StartLemmas.{area_fit, area_sound}
use Rattle.ospf_router.specs.Routers.{IsKept, RouterValue}
use Rattle.ospf_router.specs.Starts.{IsAreaOf, IsStarted}

module _ (law : StartsSound) where
  area_kept : (config : Config) (dd_start : ℕ) (floor : ℤ) (s : AreaValue) → IsAreaOf config dd_start floor s → IsKept s
  area_kept config dd_start floor s is =
      let many = config.interfaces.ok.0 in
      let most = config.few_interfaces in
      let count : length config.interfaces.items ≤ 32 = omega (arith, many, most) in
      let stubs = config.stubs.ok.0 in
      let few_stubs = config.few_stubs in
      let few : length config.stubs.items ≤ 63 = omega (arith, stubs, few_stubs) in
      record { fit = area_fit law config dd_start floor s is count few; sound = area_sound config dd_start floor s is }

  pub started_kept : StartedAreKept
  started_kept config dd_start floor r is s runs = subst IsKept (same_Some is.area s (sym is.runs ∙ runs)) (area_kept config dd_start floor is.area is.is)
