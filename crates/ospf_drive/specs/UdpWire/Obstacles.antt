-- What keeps the routers of files from running, and what is printed about it.
use Rattle.std.specs.Prelude.{◌≡◌, ◌++◌, ℕ, ℤ, List, Option, Some, Result, Ok, Err, codes, decimal, slice_get, string_bytes}
use Rattle.ospf_config.specs.declared.config.Config.{Config}
use Rattle.ospf_config.specs.declared.fault.ConfigFault.{ConfigFault}
use Rattle.ospf_files.specs.Files.{IsConfigIn, IsRefusedFor, refused_line, text_in, unread_line}
use Rattle.ospf_files.specs.Listed.{AreConfigs, AreFilesRead, IsFirstRefused, IsFirstUnread}
use Rattle.ospf_files.specs.Twins.{AreFirstTwins, same_router_lines}
use Rattle.ospf_files.specs.declared.files.NamedFile.{NamedFile}
use Rattle.ospf_files.specs.declared.status.Failure.TheVariants as failure
use Rattle.ospf_files.specs.declared.status.Status.{Status}
use Rattle.ospf_files.specs.declared.status.Status.TheVariants as status
use Rattle.ospf_flood.specs.Rules.{max_sequence_number}
use Rattle.ospf_drive.specs.UdpWire.Faults.{IsPortIn, no_socket_text}
use Rattle.ospf_drive.specs.declared.udp.fault.NoSocket.{NoSocket}
use Rattle.ospf_config.specs.Configs.{ShareRouter}
use Rattle.ospf_drive.specs.UdpWire.Plans.{HasFloor, IsFirstPortless, IsFloorOf, IsPlan}
use Rattle.ospf_drive.specs.declared.udp.stop.Obstacle.{Obstacle}
use Rattle.ospf_drive.specs.declared.udp.stop.Obstacle.TheVariants as obstacle
use Rattle.ospf_drive.specs.declared.udp.stop.Stop.{Stop}
use Rattle.ospf_drive.specs.declared.udp.stop.Stop.TheVariants as stop

-- what a file holds: a configuration, or it has a fault
abbrev pub IsReadAs : NamedFile → Result Config ConfigFault → Type 0
IsReadAs file (Ok config) = IsConfigIn (text_in file) config
IsReadAs file (Err fault) = IsRefusedFor (text_in file) fault

-- there is a floor, all files could be read, and they hold these configurations
pub record Hold (floor : Option (List ℕ)) (files : List NamedFile) (configs : List Config)
    : Type 0 where
  pub least : ℤ
  pub has_floor : HasFloor floor least
  pub read : AreFilesRead files
  pub are_configs : AreConfigs files configs

-- a socket of the router of a file could not be made; a port that is named
-- is that of one of its interfaces
pub record IsSocketless (file : NamedFile) (files : List NamedFile) (configs : List Config)
    (no_socket : NoSocket) : Type 0 where
  pub place : ℕ
  pub config : Config
  pub file_at : slice_get files place ≡ Some file
  pub config_at : slice_get configs place ≡ Some config
  pub port : IsPortIn config.interfaces.items no_socket.port

-- what keeps the routers of files from running, the first of these that does: the floor; a file
-- that could not be read; one that holds no configuration; two routers of one Router ID; an
-- interface without a port; a socket that could not be made
abbrev pub Hinders : Option (List ℕ) → List NamedFile → Obstacle → Type 0
Hinders floor files obstacle.NoNumber = (least : ℤ) → IsFloorOf floor least → ⊥
Hinders floor files obstacle.GreatestFloor = IsFloorOf floor max_sequence_number
Hinders floor files (obstacle.Unread file) =
    (least : ℤ) × HasFloor floor least × IsFirstUnread file.now files
Hinders floor files (obstacle.NoConfig file fault) =
    (least : ℤ) × HasFloor floor least × AreFilesRead files × IsFirstRefused file.now fault files
Hinders floor files (obstacle.SameRouter twins) =
    (configs : List Config) × Hold floor files configs × AreFirstTwins files configs twins
Hinders floor files (obstacle.NoPort file number) =
    (configs : List Config) × Hold floor files configs × (ShareRouter configs → ⊥)
    × IsFirstPortless file.now number files configs
Hinders floor files (obstacle.NoSocket file no_socket) =
    (configs : List Config) × (least : ℤ) × IsPlan floor files configs least
    × IsSocketless file.now files configs no_socket

-- the line that says this about a file
abbrev pub line_about : NamedFile → List ℕ → List ℕ
line_about file text = string_bytes file.name ++ codes ": " ++ text ++ codes "\n"

-- what is written where this keeps the routers from running: a line, and below it what is wanted,
-- or what it is about; of a file alone there is no more than the line
abbrev pub obstacle_line : Obstacle → List ℕ
obstacle_line obstacle.NoNumber = codes "floor: not a number\n  eight hexadecimal digits wanted\n"
obstacle_line obstacle.GreatestFloor = codes "floor: S2 Floor\n  no number is above 7fffffff\n"
obstacle_line (obstacle.Unread file) = unread_line file.now
obstacle_line (obstacle.NoConfig file fault) = refused_line file.now fault
obstacle_line (obstacle.SameRouter twins) = same_router_lines twins
obstacle_line (obstacle.NoPort file number) =
    line_about file.now
    (codes "no port\n  interface " ++ decimal number ++ codes ": port: 1024 to 65535 wanted")
obstacle_line (obstacle.NoSocket file no_socket) =
    line_about file.now (codes "socket\n  " ++ no_socket_text no_socket)

-- the status that it ends with: a file or a socket failed, or else something is refused
abbrev pub obstacle_status : Obstacle → Status
obstacle_status (obstacle.Unread file) = status.Stream
obstacle_status (obstacle.NoSocket file no_socket) = status.Stream
obstacle_status _ = status.Refused

-- why there is no plan: what keeps the routers from running, before any socket is made; or memory
-- ran out
abbrev pub IsUnplanned : Option (List ℕ) → List NamedFile → Stop → Type 0
IsUnplanned floor files (stop.Obstacle (obstacle.NoSocket file no_socket)) = ⊥
IsUnplanned floor files (stop.Obstacle obstacle) = Hinders floor files obstacle
IsUnplanned floor files (stop.Failure f) = f ≡ failure.Memory

-- ---- on the way

-- why there is no plan of files that were read, where there is a floor
abbrev pub IsUnplannedOfRead : List NamedFile → Stop → Type 0
IsUnplannedOfRead files s =
    (floor : Option (List ℕ)) (least : ℤ) → HasFloor floor least → AreFilesRead files
    → IsUnplanned floor files s
