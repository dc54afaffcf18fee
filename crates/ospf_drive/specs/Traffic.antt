-- What a wire has delivered and sent.
use Rattle.std.specs.Prelude.{⊤, ◌≡◌, ◌+◌, ◌≤◌, ℕ, Bool, true, false, Option, None, Some, List, [], ◌∷◌, ◌++◌, take}
use Rattle.ospf_base.specs.declared.ids.Addr.{Addr}
use Rattle.ospf_area.specs.Outputs.{SentValue}
use Rattle.ospf_drive.specs.declared.span.Span.{Span}
use Rattle.ospf_drive.specs.declared.wire.Arrival.{Arrival}
use Rattle.ospf_drive.specs.declared.wire.Arrival.TheVariants as arrival

-- an arrival, a datagram with its length and the bytes that were written to the buffer
pub data Heard : Type 0 where
  Datagram : (link : ℕ) (source destination : Addr) (length : ℕ) (bytes : List ℕ) → Heard
  Tick : Heard
  LinkUp : (link : ℕ) → Heard
  LinkDown : (link : ℕ) → Heard
  End : Heard

-- the arrival, with the bytes in the buffer
abbrev pub heard_from : Arrival → List ℕ → Heard
heard_from (arrival.Datagram link source destination length) buffer =
    Datagram link source destination length (take length buffer)
heard_from arrival.Tick buffer = Tick
heard_from (arrival.LinkUp link) buffer = LinkUp link
heard_from (arrival.LinkDown link) buffer = LinkDown link
heard_from arrival.End buffer = End

-- the arrivals delivered, and the datagrams that went out
pub record Traffic : Type 0 where
  pub taken : List Heard
  pub out : List SentValue

-- what a wire reports of that: all of it; only how many ticks it has delivered, and
-- when the end comes; or nothing
pub data Carried : Type 0 where
  Full : Traffic → Carried
  Ticks : (handed : ℕ) (span : Span) → Carried
  Untold : Carried

-- how many ticks an arrival is
abbrev pub tick_in : Heard → ℕ
tick_in Tick = 1
tick_in _ = 0

-- and how many are among arrivals
abbrev pub ticks_in : List Heard → ℕ
ticks_in [] = 0
ticks_in (h ∷ hs) = tick_in h + ticks_in hs

-- and then this arrival
abbrev pub and_hears : Heard → Carried → Carried
and_hears h (Full t) = Full (record { taken = t.taken ++ h ∷ []; out = t.out })
and_hears h (Ticks handed span) = Ticks (handed + tick_in h) span
and_hears h Untold = Untold

-- and then these datagrams
abbrev pub and_sent : List SentValue → Carried → Carried
and_sent sent (Full t) = Full (record { taken = t.taken; out = t.out ++ sent })
and_sent sent (Ticks handed span) = Ticks handed span
and_sent sent Untold = Untold

-- and then these arrivals and these datagrams
abbrev pub and_goes : List Heard → List SentValue → Carried → Carried
and_goes taken out (Full t) = Full (record { taken = t.taken ++ taken; out = t.out ++ out })
and_goes taken out (Ticks handed span) = Ticks (handed + ticks_in taken) span
and_goes taken out Untold = Untold

-- the end may come when this many ticks were delivered: all that there are, or at most these if the
-- wire may be signalled to end; any number if it can be signalled and there is no last tick; and
-- never if there is none and it cannot
abbrev pub MayEndAfter : Option ℕ → Bool → ℕ → Type 0
MayEndAfter (Some ticks) false handed = handed ≡ ticks
MayEndAfter (Some ticks) true handed = handed ≤ ticks
MayEndAfter None false handed = ⊥
MayEndAfter None true handed = ⊤

-- the span lets the end come after so many ticks
abbrev pub EndsAfter : Span → ℕ → Type 0
EndsAfter span handed = MayEndAfter span.ticks span.may_be_told handed

-- where the ticks are counted, the end may come now
abbrev pub IsOver : Carried → Type 0
IsOver (Ticks handed span) = EndsAfter span handed
IsOver _ = ⊤
