use Rattle.std.proofs.Common.{◌∙◌, List, ap, filter}
use Rattle.std.proofs.lemmas.List.{take_all}
use Rattle.ospf_base.specs.declared.ids.LsaKey.{LsaKey}
use Rattle.ospf_area.proofs.Updates.RemovalLemmas.{leaves, leaving_expired}
use Rattle.ospf_area.proofs.update.removal.leaving_of.Goals as goal

pub returns : goal.returns
returns c =
    let all = take_all c.loop-key.key-index c.expired_keys-key-items.result.now c.loop-key-test.false in
    c.loop-key.invariant ∙ ap (λ (ks : List LsaKey). filter (leaves c.args.links.now c.args.database.now) ks) (all ∙ c.expired_keys-key-items.ensures.keys)
    ∙ leaving_expired c.args.links.now c.args.database.now c.expired_keys-key-items.ensures.database
