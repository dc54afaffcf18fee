-- Where words are not what an event takes, they spell none of that name.
use Rattle.std.proofs.Common.{ℕ, ℤ, List}
use Rattle.ospf_base.specs.declared.ids.Addr.{Addr}
use Rattle.ospf_base.specs.declared.ids.RouterId.{RouterId}
use Rattle.ospf_base.specs.declared.event.event.WorldEvent.{WorldEvent}
use Rattle.ospf_base.specs.declared.event.event.WorldEvent.TheVariants as event
use Rattle.ospf_script.specs.Commands.{AreEventsOf, IsAddressAlone, IsEventOf, IsRouterAlone, IsRouterAndLink, IsStart}
use Rattle.ospf_script.specs.Words.{Text}
use Rattle.ospf_script.specs.declared.command.Many.{Many}
use Rattle.ospf_script.specs.declared.command.Many.TheVariants as many
use Rattle.ospf_script.specs.declared.name.Name.TheVariants as names

pub no_start : (ws : List Text) → ((found : RouterId × ℕ × ℤ) → IsStart ws found.0 found.1 found.2 → ⊥) → (e : WorldEvent) → IsEventOf names.Start ws e → ⊥
no_start ws h (event.Start router dd_start floor) is = h (router, dd_start, floor) is.1
no_start ws h e is = let other = is.0 in cc

pub no_stop : (ws : List Text) → ((router : RouterId) → IsRouterAlone ws router → ⊥) → (e : WorldEvent) → IsEventOf names.Stop ws e → ⊥
no_stop ws h (event.Stop router) is = h router is.1
no_stop ws h e is = let other = is.0 in cc

pub no_tick : (ws : List Text) → ((router : RouterId) → IsRouterAlone ws router → ⊥) → (e : WorldEvent) → IsEventOf names.Tick ws e → ⊥
no_tick ws h (event.Tick router) is = h router is.1
no_tick ws h e is = let other = is.0 in cc

pub no_up : (ws : List Text) → ((found : RouterId × ℕ) → IsRouterAndLink ws found.0 found.1 → ⊥) → (e : WorldEvent) → IsEventOf names.Up ws e → ⊥
no_up ws h (event.LinkUp router link) is = h (router, link) is.1
no_up ws h e is = let other = is.0 in cc

pub no_down : (ws : List Text) → ((found : RouterId × ℕ) → IsRouterAndLink ws found.0 found.1 → ⊥) → (e : WorldEvent) → IsEventOf names.Down ws e → ⊥
no_down ws h (event.LinkDown router link) is = h (router, link) is.1
no_down ws h e is = let other = is.0 in cc

pub no_cut : (ws : List Text) → ((network : Addr) → IsAddressAlone ws network → ⊥) → (m : Many) → AreEventsOf names.Cut ws m → ⊥
no_cut ws h (many.Cut network) is = h network is.1
no_cut ws h m is = let other = is.0 in cc

pub no_mend : (ws : List Text) → ((network : Addr) → IsAddressAlone ws network → ⊥) → (m : Many) → AreEventsOf names.Mend ws m → ⊥
no_mend ws h (many.Mend network) is = h network is.1
no_mend ws h m is = let other = is.0 in cc
