-- The sockets of routers.
use Rattle.std.specs.Prelude.{◌≡◌, ℕ, List, All, length}
use Rattle.ospf_drive.specs.declared.span.Span.{Span}
use Rattle.ospf_drive.specs.UdpWire.Wires.{UdpValue}

-- a wire that has not failed yet and has delivered no tick, with this span
abbrev pub IsFresh : Span → UdpValue → Type 0
IsFresh span wire = wire ≡ record { failed = 0; handed = 0; span = span }

-- this many such wires
abbrev pub AreWires : Span → ℕ → List UdpValue → Type 0
AreWires span count wires = (length wires ≡ count) × All (IsFresh span) wires
