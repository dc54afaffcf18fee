use Rattle.ospf_script.proofs.Plain.{finds_none}
use Rattle.ospf_script.proofs.NoEvent.{no_start, no_stop, no_tick, no_up, no_down}
use Rattle.ospf_script.proofs.events.event_in.Goals as goal

pub returns-in_err-router-in-Start : goal.returns-in_err-router-in-Start
returns-in_err-router-in-Start c =
    let none = rw c.in_err-router-in-Start.was at c.start_in.ensures in
    finds_none _ _ c.from_residual.ensures (rw c.in-Start.is (no_start _ none))

pub returns-in_err-router_in-in-Stop : goal.returns-in_err-router_in-in-Stop
returns-in_err-router_in-in-Stop c =
    let none = rw c.in_err-router_in-in-Stop.was at c.router_in.ensures in
    finds_none _ _ c.from_residual-in_err-router_in-in-Stop.ensures (rw c.in-Stop.is (no_stop _ none))

pub returns-in_err-router_in-in-Tick : goal.returns-in_err-router_in-in-Tick
returns-in_err-router_in-in-Tick c =
    let none = rw c.in_err-router_in-in-Tick.was at c.router_in-in-Tick.ensures in
    finds_none _ _ c.from_residual-in_err-router_in-in-Tick.ensures (rw c.in-Tick.is (no_tick _ none))

pub returns-in_err-router-in-Up : goal.returns-in_err-router-in-Up
returns-in_err-router-in-Up c =
    let none = rw c.in_err-router-in-Up.was at c.router_and_link_in.ensures in
    finds_none _ _ c.from_residual-in_err-router-in-Up.ensures (rw c.in-Up.is (no_up _ none))

pub returns-in_err-router-in-Down : goal.returns-in_err-router-in-Down
returns-in_err-router-in-Down c =
    let none = rw c.in_err-router-in-Down.was at c.router_and_link_in-in-Down.ensures in
    finds_none _ _ c.from_residual-in_err-router-in-Down.ensures (rw c.in-Down.is (no_down _ none))
