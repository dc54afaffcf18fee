-- Why routers do not run to their end.
use Rattle.std.proofs.Common.{List, subst, sym}
use Rattle.ospf_files.specs.declared.files.NamedFile.{NamedFile}
use Rattle.ospf_files.specs.declared.status.Failure.{Failure}
use Rattle.ospf_files.specs.declared.status.Failure.TheVariants as failure
use Rattle.ospf_drive.specs.UdpWire.Obstacles.{IsUnplanned}
use Rattle.ospf_drive.specs.UdpWire.Plans.{HasPlan}
use Rattle.ospf_drive.specs.declared.udp.stop.Obstacle.TheVariants as obstacle
use Rattle.ospf_drive.specs.declared.udp.stop.Stop.{Stop}
use Rattle.ospf_drive.specs.declared.udp.stop.Stop.TheVariants as stop
use Rattle.ospf_run.specs.Cut.{FailsPlan, IsEarly, IsStop, closed, no_memory}
use Rattle.ospf_run.specs.Runs.{Asked}

-- there is no plan
pub stop_unplanned : (asked : Asked) (files : List NamedFile) (s : Stop) → IsUnplanned asked.floor files s → IsStop asked files s
stop_unplanned asked files (stop.Obstacle obstacle.NoNumber) is = is
stop_unplanned asked files (stop.Obstacle obstacle.GreatestFloor) is = is
stop_unplanned asked files (stop.Obstacle (obstacle.Unread file)) is = is
stop_unplanned asked files (stop.Obstacle (obstacle.NoConfig file fault)) is = is
stop_unplanned asked files (stop.Obstacle (obstacle.SameRouter twins)) is = is
stop_unplanned asked files (stop.Obstacle (obstacle.NoPort file number)) is = is
stop_unplanned asked files (stop.Obstacle (obstacle.NoSocket file none)) is = absurd is
stop_unplanned asked files (stop.Failure f) is = subst (λ (x : Failure). IsEarly asked files x) (sym is) no_memory

-- the plan fails
pub early_of_plan : (asked : Asked) (files : List NamedFile) (f : Failure) → HasPlan asked.floor files → FailsPlan asked.lookup files f → IsEarly asked files f
early_of_plan asked files failure.Memory has fails = no_memory
early_of_plan asked files failure.Closed has fails = closed fails.0 fails.1 has
early_of_plan asked files failure.Input has fails = absurd fails
early_of_plan asked files failure.Output has fails = absurd fails
early_of_plan asked files failure.Error has fails = absurd fails
