-- Wires that are made.
use Rattle.std.proofs.Common.{◌≡◌, ap, subst, ◌<◌, ◌+◌, ◌^◌, ℕ, All, arith, List, Result, Ok, Err, None, IfErr, IfOk, IsSome, length, get_or}
use Rattle.std.proofs.lemmas.List.Elements.{All-contains}
use Rattle.ospf_config.specs.declared.config.Config.{Config}
use Rattle.ospf_config.specs.declared.interface.Interface.{Interface}
use Rattle.ospf_drive.specs.Traffic.Carried.{Ticks}
use Rattle.ospf_drive.specs.declared.span.Span.{Span}
use Rattle.ospf_files.specs.declared.files.NamedFile.{NamedFile}
use Rattle.ospf_drive.proofs.UdpWire.Planned.{at_item}
use Rattle.ospf_drive.specs.UdpWire.Obstacles.{IsSocketless}
use Rattle.ospf_run.specs.Wires.{IsFresh}
use Rattle.ospf_drive.proofs.UdpWire.Opened.{failing_in}
use Rattle.ospf_drive.specs.UdpWire.Faults.{FailsAt, IsPortIn}
use Rattle.ospf_drive.specs.UdpWire.Plans.{HasPorts}
use Rattle.ospf_drive.specs.UdpWire.Wires.{UdpValue}
use Rattle.ospf_drive.specs.declared.udp.fault.NoSocket.{NoSocket}

-- a wire that came is fresh
pub has_wire : (span : Span) (found : Result UdpValue NoSocket) (wire : UdpValue) → found ≡ Ok wire → IfOk found (IsFresh span) → IsFresh span wire
has_wire span found wire is fresh = subst (λ (w : Result UdpValue NoSocket). IfOk w (IsFresh span)) is fresh

-- such wires may fail once more
pub all_fresh : (span : Span) (wires : List UdpValue) → All (IsFresh span) wires → All (λ wire. wire.failed + 1 < 2 ^ 64) wires
all_fresh span wires all = λ k d within. let none : (get_or wires k d).failed ≡ 0 = ap (λ (w : UdpValue). w.failed) (all k d within) in omega (arith, none)

-- and their ticks are counted
pub all_counted : (span : Span) (wires : List UdpValue) → All (IsFresh span) wires → All (λ wire. Ticks wire.handed wire.span ≡ Ticks 0 span) wires
all_counted span wires all = λ k d within. ap (λ (w : UdpValue). Ticks w.handed w.span) (all k d within)

-- the socket that could not be made is of the file at a place
pub socketless : (files : List NamedFile) (configs : List Config) (i : ℕ) (file : NamedFile) (config : Config) (none : NoSocket) → i < length files → file ≡ get_or files i file
    → i < length configs → config ≡ get_or configs i config → IsPortIn config.interfaces.items none.port → IsSocketless file files configs none
socketless files configs i file config none in_files file_is in_configs config_is port = record {
  place = i;
  config = config;
  file_at = at_item files i file in_files file_is;
  config_at = at_item configs i config in_configs config_is;
  port = port;
}

-- the fault of a wire that was not opened
pub not_opened : (found : Result UdpValue NoSocket) (none : NoSocket) (interfaces : List Interface) → found ≡ Err none → IfErr found (λ n. IsPortIn interfaces n.port)
    → IsPortIn interfaces none.port
not_opened found none interfaces is port = subst (λ (w : Result UdpValue NoSocket). IfErr w (λ n. IsPortIn interfaces n.port)) is port

-- no port is missing where each interface has one
pub none_missing : (config : Config) → HasPorts config → FailsAt config.interfaces.items None → ⊥
none_missing config ports fails =
    let has = All-contains (λ (i : Interface). IsSome i.port) config.interfaces.items fails.interface ports (failing_in config.interfaces.items None fails) in
    absurd (cc (subst (λ port. IsSome port) fails.port_is has))
