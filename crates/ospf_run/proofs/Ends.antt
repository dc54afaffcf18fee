-- What a driver that came to its end leaves.
use Rattle.std.proofs.Common.{◌≡◌, ◌∙◌, ap, sym, subst, List, [], ◌∷◌, ◌++◌, Option, None, Some, Ok, IfSome}
use Rattle.std.proofs.lemmas.List.{append-nil}
use mathlib.Core.List.{IsPrefix}
use Rattle.ospf_drive.specs.Driven.{DrivesToEnd, IsDriven, Outcome as Driven}
use Rattle.ospf_drive.specs.Drives.{last_told}
use Rattle.ospf_drive.specs.Machines.{Rules}
use Rattle.ospf_drive.specs.Moments.{Moment, tables_published}
use Rattle.ospf_fib.specs.PrefixIndex.Known.{Known, Table, opening}
use Rattle.ospf_router.specs.Routers.{RouterValue}
use Rattle.ospf_run.proofs.Known.{both_begin, prefix_trans}
use Rattle.ospf_run.specs.Lookups.{Follows}
use Rattle.ospf_run.specs.Runs.{IsPublishTold, Ran}
use Rattle.ospf_run.specs.declared.look.RouterSeat.{RouterSeat}

told_by : (tables : List Table) (known : Known) (told : Option Known) (before : List Table) → known.tables ≡ before ++ tables → before ≡ opening
    → told ≡ last_told tables known → IsPublishTold known told
told_by [] known None before is first told_is = is ∙ append-nil before ∙ first
told_by [] known (Some t) before is first told_is = absurd (cc told_is)
told_by (x ∷ xs) known None before is first told_is = absurd (cc told_is)
told_by (x ∷ xs) known (Some t) before is first told_is = cc told_is

-- and the forwarding table is the one that it began with
pub fib_at_end : {rules : Rules} (a : Moment) (router : RouterValue) (known : Known) (told : Option Known) → DrivesToEnd rules a router known told → known.fib ≡ a.known.fib
fib_at_end {rules} a router known told d = ap (λ (k : Known). k.fib) d.drives.ends.0.known ∙ d.drives.goes_on.fib

-- what is told is of the table at which the seat is
pub told_fib : (told : Option Known) (writer seat : Known) → seat.fib ≡ writer.fib → IsPublishTold writer told → IfSome told (λ t. t.fib ≡ seat.fib)
told_fib None writer seat same is = tt
told_fib (Some t) writer seat same is = ap (λ (k : Known). k.fib) is ∙ sym same

-- a seat that has learned what was told, and has looked, knows all that was published and no more
pub all_known : (told : Option Known) (writer began learned looked : Known) → IsPrefix opening began.tables → IsPublishTold writer told → IsPrefix began.tables learned.tables
    → IfSome told (λ t. IsPrefix t.tables learned.tables) → IsPrefix learned.tables looked.tables → IsPrefix looked.tables writer.tables → looked.tables ≡ writer.tables
all_known None writer began learned looked first is own told more covers =
    both_begin looked.tables writer.tables covers
    (subst (λ (tables : List Table). IsPrefix tables looked.tables) (sym is)
    (prefix_trans opening began.tables looked.tables first (prefix_trans began.tables learned.tables looked.tables own more)))
all_known (Some t) writer began learned looked first is own told more covers =
    both_begin looked.tables writer.tables covers
    (prefix_trans writer.tables learned.tables looked.tables (subst (λ (k : Known). IsPrefix k.tables learned.tables) is told) more)

-- a driver that came to its end
pub to_end : {rules : Rules} (a : Moment) (driven : Driven) (router_seat : RouterSeat) (d : RouterValue × Known × Option Known) → driven ≡ Ok d → Ran rules a driven router_seat → DrivesToEnd rules a d.0 d.1 d.2
to_end {rules} a driven router_seat d is ran = subst (λ (x : Driven). IsDriven rules a x) is ran.ended

-- its seat is still at its table
pub seat_fib : {rules : Rules} (a : Moment) (driven : Driven) (router_seat : RouterSeat) (d : RouterValue × Known × Option Known) (seat : Known) → driven ≡ Ok d → Ran rules a driven router_seat → Follows a.known seat
    → seat.fib ≡ d.1.fib
seat_fib {rules} a driven router_seat d seat is ran follows = follows.fib ∙ sym (fib_at_end a d.0 d.1 d.2 (to_end a driven router_seat d is ran))

-- and knows the opening table
pub seat_began : {rules : Rules} (a : Moment) (driven : Driven) (router_seat : RouterSeat) (seat : Known) → Ran rules a driven router_seat → Follows a.known seat → IsPrefix opening seat.tables
seat_began {rules} a driven router_seat seat ran follows = subst (λ (tables : List Table). IsPrefix tables seat.tables) ran.opened follows.tables
