use Rattle.std.proofs.Common.{◌≡◌, rules}
use Rattle.ospf_area.specs.State.{database_entry}
use Rattle.ospf_originate.specs.Actions.{is_due}
use Rattle.ospf_originate.specs.Idle.{own_router}
use Rattle.ospf_originate.specs.Wants.Wanted.{wanted_key}
use Rattle.ospf_originate.proofs.IdleLemmas.{wanted_left_is}
use Rattle.ospf_originate.proofs.idle.router_is_left.Goals as goal

pub returns : goal.returns
returns c =
    let s = c.args.area.now in
    let view = c.area.view_is in
    let key = c.router_key-key.result in
    let of_key : key ≡ wanted_key (own_router s) = search rules in
    let copy : c.get-copy.result ≡ database_entry s key = search rules in
    let due : c.router_is_due-due.result ≡ is_due (own_router s) c.get-copy.result = search rules in
    wanted_left_is s (own_router s) key c.get-copy.result c.router_is_due-due.result c.stays.result of_key copy due c.stays.ensures
