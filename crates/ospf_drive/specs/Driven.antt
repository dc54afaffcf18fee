-- The results of drivers in threads of their own.
use Rattle.std.specs.Prelude.{⊤, ◌≡◌, ℕ, Option, Result, Ok, Err}
use Rattle.ospf_fib.specs.PrefixIndex.Known.{Known}
use Rattle.ospf_router.specs.Routers.{RouterValue}
use Rattle.ospf_drive.specs.Drives.{Drives}
use Rattle.ospf_drive.specs.Machines.{Rules}
use Rattle.ospf_drive.specs.Moments.{Moment, at}
use Rattle.ospf_drive.specs.Traffic.{Carried}
use Rattle.ospf_drive.specs.declared.fault.DriveFault.{DriveFault}
use Rattle.ospf_drive.specs.declared.fault.DriveFault.TheVariants as fault

-- a router, its writer, and the message of the last publish; or why the driver ended
abbrev pub Outcome : Type 0
Outcome = Result (RouterValue × Known × Option Known) DriveFault

-- the driver reached the end of what its wire delivered, with these
pub record DrivesToEnd (rules : Rules) (a : Moment) (router : RouterValue) (known : Known)
    (told : Option Known) : Type 0 where
  pub traffic : Carried
  pub failed : ℕ
  pub drives : Drives rules a (at router traffic failed known) (Ok told)

-- the driver ended before that
pub record DrivesInto (rules : Rules) (a : Moment) (f : DriveFault) : Type 0 where
  pub last : Moment
  pub drives : Drives rules a last (Err f)

-- the result of a driver that began there, or its thread did not start
abbrev pub IsDriven : Rules → Moment → Outcome → Type 0
IsDriven rules a (Ok driven) = DrivesToEnd rules a driven.0 driven.1 driven.2
IsDriven rules a (Err fault.Thread) = ⊤
IsDriven rules a (Err f) = DrivesInto rules a f

-- a driver that began there runs, or its thread did not start
abbrev pub IsDriverStarted : Moment → Result Moment DriveFault → Type 0
IsDriverStarted a (Ok begins) = begins ≡ a
IsDriverStarted a (Err f) = f ≡ fault.Thread

-- what came of a thread
abbrev pub IsThreadJoined : Rules → Result Moment DriveFault → Outcome → Type 0
IsThreadJoined rules (Ok begins) outcome = IsDriven rules begins outcome
IsThreadJoined rules (Err f) outcome = outcome ≡ Err f
