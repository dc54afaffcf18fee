-- Seats from which an address is looked up while a driver runs.
use Rattle.std.specs.Prelude.{◌≡◌, ⊤}
use mathlib.Core.List.{IsPrefix}
use Rattle.ospf_fib.specs.PrefixIndex.Known.{Known}
use Rattle.ospf_run.specs.declared.look.RouterSeat.{RouterSeat}
use Rattle.ospf_run.specs.declared.look.RouterSeat.TheVariants as router_seat

-- what a seat knows later: the same table, and no fewer versions than before
pub record Follows (old new : Known) : Type 0 where
  pub fib : new.fib ≡ old.fib
  pub tables : IsPrefix old.tables new.tables

-- a seat that knew this before any lookup from it
abbrev pub IsFrom : Known → RouterSeat → Type 0
IsFrom known (router_seat.Idle seat) = seat ≡ known
IsFrom known (router_seat.Looking began) = began ≡ known
IsFrom known router_seat.NotStarted = ⊤
