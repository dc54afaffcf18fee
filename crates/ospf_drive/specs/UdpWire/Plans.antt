-- What is found before any socket is made: the floor, the files, the
-- configurations in them, and their ports.
use Rattle.std.specs.Prelude.{◌≡◌, ◌≢◌, ◌<◌, ℕ, ℤ, List, All, Option, None, Some, IsSome, slice_get, take}
use Rattle.ospf_config.specs.Configs.{ShareRouter}
use Rattle.ospf_config.specs.declared.config.Config.{Config}
use Rattle.ospf_config.specs.declared.interface.Interface.{Interface}
use Rattle.ospf_files.specs.Listed.{AreConfigs, AreFilesRead}
use Rattle.ospf_files.specs.declared.files.NamedFile.{NamedFile}
use Rattle.ospf_flood.specs.Rules.{max_sequence_number}
use Rattle.ospf_script.specs.Values.{IsFloor, no_floor}
use Rattle.ospf_drive.specs.declared.udp.plan.Plan.{Plan}

-- ---- the floor

-- the floor of a text: below all numbers where there is none
abbrev pub IsFloorOf : Option (List ℕ) → ℤ → Type 0
IsFloorOf None floor = floor ≡ no_floor
IsFloorOf (Some text) floor = IsFloor text floor

-- there is a floor, and a number above it (RFC 2328, section 12.1.6)
pub record HasFloor (text : Option (List ℕ)) (floor : ℤ) : Type 0 where
  pub is : IsFloorOf text floor
  pub below : floor ≢ max_sequence_number

-- ---- the configurations

-- each interface has a port
abbrev pub HasPorts : Config → Type 0
HasPorts config = All (λ interface. IsSome interface.port) config.interfaces.items

-- the first file with an interface that has no port, and the number of the first such of it, from 0
pub record IsFirstPortless (file : NamedFile) (number : ℕ) (files : List NamedFile)
    (configs : List Config) : Type 0 where
  pub place : ℕ
  pub config : Config
  pub file_at : slice_get files place ≡ Some file
  pub config_at : slice_get configs place ≡ Some config
  pub interface : Interface
  pub portless : slice_get config.interfaces.items number ≡ Some interface
  pub no_port : interface.port ≡ None
  pub ported : All (λ other. IsSome other.port) (take number config.interfaces.items)
  pub before : (k : ℕ) (other : Config) → k < place → slice_get configs k ≡ Some other
      → HasPorts other

-- ---- all of it

-- what is to run: the floor, and the configurations in the files, of one Router ID each, with ports
pub record IsPlan (floor : Option (List ℕ)) (files : List NamedFile) (configs : List Config)
    (least : ℤ) : Type 0 where
  pub has_floor : HasFloor floor least
  pub read : AreFilesRead files
  pub are_configs : AreConfigs files configs
  pub one_each : ShareRouter configs → ⊥
  pub ports : All HasPorts configs

-- there is something to run
pub record HasPlan (floor : Option (List ℕ)) (files : List NamedFile) : Type 0 where
  pub configs : List Config
  pub least : ℤ
  pub plan : IsPlan floor files configs least

-- such a plan
abbrev pub IsPlanAt : Option (List ℕ) → List NamedFile → Plan → Type 0
IsPlanAt floor files plan = IsPlan floor files plan.configs.items plan.floor
