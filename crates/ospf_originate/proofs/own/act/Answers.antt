use Rattle.std.proofs.Common.{◌≡◌, ℤ, Option, map, rules, sym, subst}
use Rattle.std.specs.Int.{w32}
use mir.Val.{to_z, of_z}
use Rattle.ospf_originate.specs.Actions.{IsUsed}
use Rattle.ospf_originate.specs.Wants.Made.{CanBeMadeIf}
use Rattle.ospf_originate.specs.Wants.Own.{wanted_value}
use Rattle.ospf_originate.specs.Wants.Wanted.{WantedValue, wanted_of}
use Rattle.ospf_originate.specs.declared.action.OwnAction.{OwnAction}
use Rattle.ospf_originate.proofs.Wants.MakeLemmas.{found_made}
use Rattle.ospf_originate.proofs.own.act.Goals as goal

pub issue_key-requires : goal.issue_key-requires
issue_key-requires c =
    let ws = map wanted_value c.args.all.now in
    let signed : to_z w32 (of_z w32 c.in-Issue.number) ≡ c.in-Issue.number = search rules in
    subst (λ (o : Option WantedValue). CanBeMadeIf (to_z w32 (of_z w32 c.in-Issue.number)) o) (sym c.wanted_of.ensures)
    (subst (λ (n : ℤ). CanBeMadeIf n (wanted_of ws c.args.due.now.key)) (sym signed)
    (found_made ws c.args.due.now.key c.in-Issue.number c.requires.made (subst (λ (a : OwnAction). IsUsed a) c.in-Issue.is c.requires.used)))
