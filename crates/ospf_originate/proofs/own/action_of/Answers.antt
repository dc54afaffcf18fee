use Rattle.std.proofs.Common.{◌≡◌, map, rules, subst, List, Option}
use Rattle.std.specs.Int.{w32}
use mir.Val.{to_z, of_z}
use Rattle.ospf_area.specs.State.{database_entry, kept_number}
use Rattle.ospf_originate.specs.Wants.Made.{IsUnmadeIf}
use Rattle.ospf_originate.specs.Wants.Own.{wanted_value}
use Rattle.ospf_originate.specs.Steps.{wants}
use Rattle.ospf_originate.specs.Wants.Wanted.{WantedValue, wanted_of}
use Rattle.ospf_originate.proofs.DueLemmas.{action_is}
use Rattle.ospf_originate.proofs.Wants.MakeLemmas.{found_memory}
use Rattle.ospf_originate.proofs.own.action_of.Goals as goal

pub want_of_memory-requires : goal.want_of_memory-requires
want_of_memory-requires c =
    found_memory (wants c.args.area.now) c.args.key.now c.in-Err.fault c.requires.made
    (subst (λ (ws : List WantedValue). IsUnmadeIf (wanted_of ws c.args.key.now) c.in-Err.fault) c.requires.wants
    (subst (λ (o : Option WantedValue). IsUnmadeIf o c.in-Err.fault) c.wanted_of-wanted.ensures c.in-Err.ensures.fault))

pub returns-in-Ok-clause-is : goal.returns-in-Ok-clause-is
returns-in-Ok-clause-is c =
    let s = c.args.area.now in
    let key = c.args.key.now in
    let view = c.area.view_is in
    let copy : c.get-copy.result ≡ database_entry s key = search rules in
    let kept : to_z w32 (of_z w32 c.kept_number-kept.result) ≡ kept_number s key = search rules in
    action_is s key (map wanted_value c.args.all.now) _ c.get-copy.result c.is_heard-heard.result c.is_own-own.result c.waits-waits.result (to_z w32 (of_z w32 c.kept_number-kept.result)) c.in-Ok.action
    c.requires.wants c.wanted_of-wanted.ensures copy (search rules) (search rules) (search rules) kept c.in-Ok.ensures.is
