use Rattle.std.proofs.Common.{◌≡◌, rules}
use Rattle.ospf_area.specs.State.{database_entry}
use Rattle.ospf_originate.specs.Actions.{is_due}
use Rattle.ospf_originate.specs.Wants.Wanted.{network_of, wanted_key}
use Rattle.ospf_originate.proofs.IdleLemmas.{wanted_left_is}
use Rattle.ospf_originate.proofs.idle.network_stays.Goals as goal

pub returns : goal.returns
returns c =
    let s = c.args.area.now in
    let view = c.area.view_is in
    let wanted = network_of s.router c.args.link.now in
    let key = c.network_key-key.result in
    let of_key : key ≡ wanted_key wanted = search rules in
    let copy : c.get-copy.result ≡ database_entry s key = search rules in
    let due : c.network_is_due-due.result ≡ is_due wanted c.get-copy.result = search rules in
    wanted_left_is s wanted key c.get-copy.result c.network_is_due-due.result c.stays.result of_key copy due c.stays.ensures
