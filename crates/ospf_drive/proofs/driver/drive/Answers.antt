use Rattle.std.proofs.Common.{ap, ◌∙◌}
use Rattle.ospf_router.specs.Routers.{RouterValue}
use Rattle.ospf_drive.proofs.Lawful.{throughout}
use Rattle.ospf_drive.proofs.driver.drive.Goals as goal

pub returns-clause-lawful : goal.returns-clause-lawful
returns-clause-lawful g c = λ ds is.
    c.chains_are_lawful.ensures (g.M.Machine.value c.args.machine.now)
    (λ s runs. c.keeps.ensures s (ap (λ (r : RouterValue). r.area) c.router.ensures ∙ runs)) ds is

pub returns-clause-laws : goal.returns-clause-laws
returns-clause-laws g c =
    throughout c.steps_keep_laws.ensures.lists _ _ _ _ (c.drives_are_whole.ensures _ _ _ c.take_turns.ensures)
    (λ s runs. c.keeps.ensures s (ap (λ (r : RouterValue). r.area) c.router.ensures ∙ runs))
