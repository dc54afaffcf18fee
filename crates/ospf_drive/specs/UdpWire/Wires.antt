-- A wire of sockets: nobody can say what a socket carries, but its ticks are counted.
use Rattle.std.specs.Prelude.{ℕ}
use Rattle.ospf_drive.specs.declared.span.Span.{Span}

-- how often it has failed, how many ticks it has delivered, and when the end comes
pub record UdpValue : Type 0 where
  pub failed : ℕ
  pub handed : ℕ
  pub span : Span
