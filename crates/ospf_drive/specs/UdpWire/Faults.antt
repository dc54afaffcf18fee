-- Why a wire is not opened.
use Rattle.std.specs.Prelude.{⊤, ◌≡◌, ◌++◌, ◌∷◌, List, ℕ, All, Contains, Option, None, Some, IfSome, IsSome, codes, decimal}
use Rattle.ospf_config.specs.declared.interface.Interface.{Interface}
use Rattle.ospf_config.specs.declared.interface.Port.{Port}
use Rattle.ospf_drive.specs.declared.udp.fault.NoSocket.{NoSocket}
use Rattle.ospf_drive.specs.declared.udp.fault.OpenFault.{OpenFault}
use Rattle.ospf_drive.specs.declared.udp.fault.OpenFault.TheVariants as fault
use Rattle.ospf_drive.specs.declared.udp.fault.SocketCause.{SocketCause}
use Rattle.ospf_drive.specs.declared.udp.fault.SocketCause.TheVariants as cause

-- the text after the port
abbrev pub cause_text : SocketCause → List ℕ
cause_text cause.InUse = codes " is in use"
cause_text cause.NotPermitted = codes ": permission denied"
cause_text cause.NotAvailable = codes ": address not available"
cause_text cause.TooMany = codes ": too many open files"
cause_text cause.Refused = codes ": refused by the system"

-- the port, or all sockets where it is none of them
abbrev pub sockets_text : Option Port → List ℕ
sockets_text (Some port) = codes "port " ++ decimal port.number
sockets_text None = codes "sockets"

-- what is printed of a socket that could not be made
abbrev pub no_socket_text : NoSocket → List ℕ
no_socket_text fault = sockets_text fault.port ++ cause_text fault.cause

-- a port that is named is that of an interface
abbrev pub IsPortIn : List Interface → Option Port → Type 0
IsPortIn interfaces (Some port) =
    (interface : Interface) × Contains interfaces interface × (interface.port ≡ Some port)
IsPortIn interfaces None = ⊤

-- opening the interfaces in their order fails at one with this port, or with none: each before it
-- has a port
pub record FailsAt (interfaces : List Interface) (port : Option Port) : Type 0 where
  pub before : List Interface
  pub interface : Interface
  pub after : List Interface
  pub interfaces_are : interfaces ≡ before ++ interface ∷ after
  pub ports : All (λ i. IsSome i.port) before
  pub port_is : interface.port ≡ port

-- why no wire is opened for these interfaces: the first that has no port; the socket of a port
-- before any is missing, or all sockets, were refused; or memory ran out
abbrev pub IsUnopened : List Interface → OpenFault → Type 0
IsUnopened interfaces fault.NoPort = FailsAt interfaces None
IsUnopened interfaces (fault.Socket no_socket) =
    IfSome no_socket.port (λ port. FailsAt interfaces (Some port))
IsUnopened interfaces fault.Memory = ⊤

-- the socket of a port, or no socket at all, was refused, or memory ran out
abbrev pub IsRefusedAt : Option Port → OpenFault → Type 0
IsRefusedAt port fault.NoPort = ⊥
IsRefusedAt port (fault.Socket no_socket) = no_socket.port ≡ port
IsRefusedAt port fault.Memory = ⊤

-- why an interface with this port, or with none, has no socket
abbrev pub IsUnopenedAt : Option Port → OpenFault → Type 0
IsUnopenedAt port fault.NoPort = port ≡ None
IsUnopenedAt port (fault.Socket no_socket) = no_socket.port ≡ port
IsUnopenedAt port fault.Memory = ⊤
