-- Interfaces whose sockets are made one after the other.
use Rattle.std.proofs.Common.{◌≡◌, ◌∙◌, ap, sym, subst, ◌+◌, ◌<◌, ℕ, suc, List, [], ◌∷◌, ◌++◌, length, take, drop, get_or, Option, None, Some, All, IfSome, IsSome}
use Rattle.std.proofs.lemmas.List.{take_more, take-append-drop}
use Rattle.std.proofs.lemmas.List.Elements.{All-append, All-cons, All-nil, Contains-append_left, Contains-append_right, Contains-push}
use Rattle.std.proofs.Math.Seq.{drop-cons}
use Rattle.std.specs.Prelude.{Contains}
use Rattle.ospf_config.specs.declared.interface.Interface.{Interface}
use Rattle.ospf_config.specs.declared.interface.Port.{Port}
use Rattle.ospf_drive.specs.UdpWire.Faults.{FailsAt, IsPortIn, IsUnopened, IsUnopenedAt}
use Rattle.ospf_drive.specs.declared.udp.fault.OpenFault.{OpenFault}
use Rattle.ospf_drive.specs.declared.udp.fault.OpenFault.TheVariants as fault

-- the interfaces before one, that one, and those behind it
interfaces_split : (interfaces : List Interface) (i : ℕ) (interface : Interface) → i < length interfaces → interface ≡ get_or interfaces i interface
    → interfaces ≡ take i interfaces ++ interface ∷ drop (suc i) interfaces
interfaces_split interfaces i interface within is =
    sym (ap (λ x. take i interfaces ++ x ∷ drop (suc i) interfaces) is ∙ ap (λ rest. take i interfaces ++ rest) (sym (drop-cons interfaces i interface within)) ∙ take-append-drop i interfaces)

-- one interface more has a port
pub ports_more : (interfaces : List Interface) (i : ℕ) (interface : Interface) → i < length interfaces → interface ≡ get_or interfaces i interface
    → All (λ x. IsSome x.port) (take i interfaces) → IsSome interface.port → All (λ x. IsSome x.port) (take (i + 1) interfaces)
ports_more interfaces i interface within is ports here =
    subst (λ (xs : List Interface). All (λ x. IsSome x.port) xs) (sym (take_more interfaces i interface within ∙ ap (λ last. take i interfaces ++ last ∷ []) (sym is)))
    (All-append (λ x. IsSome x.port) (take i interfaces) (interface ∷ []) ports (All-cons (λ x. IsSome x.port) interface [] here (All-nil (λ x. IsSome x.port))))

-- opening fails at an interface, where each before it has a port
fails_at : (interfaces : List Interface) (i : ℕ) (interface : Interface) (port : Option Port) → i < length interfaces → interface ≡ get_or interfaces i interface
    → All (λ x. IsSome x.port) (take i interfaces) → interface.port ≡ port → FailsAt interfaces port
fails_at interfaces i interface port within is ports port_is = record {
  before = take i interfaces;
  interface = interface;
  after = drop (suc i) interfaces;
  interfaces_are = interfaces_split interfaces i interface within is;
  ports = ports;
  port_is = port_is;
}

fails_at_port : (interfaces : List Interface) (i : ℕ) (interface : Interface) (port : Option Port) → i < length interfaces → interface ≡ get_or interfaces i interface
    → All (λ x. IsSome x.port) (take i interfaces) → interface.port ≡ port → IfSome port (λ p. FailsAt interfaces (Some p))
fails_at_port interfaces i interface None within is ports port_is = tt
fails_at_port interfaces i interface (Some p) within is ports port_is = fails_at interfaces i interface (Some p) within is ports port_is

pub unopened : (interfaces : List Interface) (i : ℕ) (interface : Interface) (f : OpenFault) → i < length interfaces → interface ≡ get_or interfaces i interface
    → All (λ x. IsSome x.port) (take i interfaces) → IsUnopenedAt interface.port f → IsUnopened interfaces f
unopened interfaces i interface fault.NoPort within is ports at = fails_at interfaces i interface None within is ports at
unopened interfaces i interface (fault.Socket none) within is ports at = fails_at_port interfaces i interface none.port within is ports (sym at)
unopened interfaces i interface fault.Memory within is ports at = tt

-- the interface at which opening fails is one of them
pub failing_in : (interfaces : List Interface) (port : Option Port) (fails : FailsAt interfaces port) → Contains interfaces fails.interface
failing_in interfaces port fails =
    subst (λ (is : List Interface). Contains is fails.interface) (sym fails.interfaces_are)
    (Contains-append_right fails.before (fails.interface ∷ fails.after) fails.interface
    (Contains-append_left (fails.interface ∷ []) fails.after fails.interface (Contains-push [] fails.interface)))

-- and its port is that of an interface
pub port_in : (interfaces : List Interface) (port : Option Port) → IfSome port (λ p. FailsAt interfaces (Some p)) → IsPortIn interfaces port
port_in interfaces None fails = tt
port_in interfaces (Some p) fails = (fails.interface, failing_in interfaces (Some p) fails, fails.port_is)
