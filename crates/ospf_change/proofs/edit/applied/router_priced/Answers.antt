use Rattle.std.proofs.Common.{◌≡◌, List, ap, ◌∙◌}
use Rattle.ospf_base.specs.declared.ids.LsaKey.{LsaKey}
use Rattle.ospf_whatif.proofs.WithoutLemmas.{IfOk-map, OnOk-map, made_key}
use Rattle.ospf_change.specs.Edit.Change.{priced_links}
use Rattle.ospf_change.proofs.Edits.MadeLemmas.{made_changed, small_made}
use Rattle.ospf_change.proofs.edit.applied.router_priced.Goals as goal

pub returns-in-Ok-links_priced-clause-advertisement : goal.returns-in-Ok-links_priced-clause-advertisement
returns-in-Ok-links_priced-clause-advertisement c =
    let keep = priced_links c.args.change.now in
    let r = c.key.result.router in
    IfOk-map c.router.result _ _ c.router.ensures.ok
    (λ new made. made_changed keep r _ c.deref-in-Ok-links_priced.result.now new made c.args.lsa.now c.requires.router (ap (λ (k : LsaKey). k.router) c.key.ensures)
    (c.deref-in-Ok-links_priced.ensures.value ∙ c.in-Ok-links_priced.ensures ∙ ap (keep r) (c.deref-2.ensures.value ∙ c.in-Ok.ensures ∙ c.links.ensures)))

pub returns-in-Ok-links_priced-clause-key : goal.returns-in-Ok-links_priced-clause-key
returns-in-Ok-links_priced-clause-key c =
    IfOk-map c.router.result _ _ c.router.ensures.ok
    (λ new made. made_key c.key.result.router _ c.deref-in-Ok-links_priced.result.now new made c.args.lsa.now c.requires.router c.requires.listed.0
    (ap (λ (k : LsaKey). k.router) c.key.ensures))

pub returns-in-Ok-links_priced-clause-small : goal.returns-in-Ok-links_priced-clause-small
returns-in-Ok-links_priced-clause-small c =
    let keep = priced_links c.args.change.now in
    let r = c.key.result.router in
    OnOk-map c.router.result _ _ c.router.ensures.needs
    (small_made keep r _ c.deref-in-Ok-links_priced.result.now c.args.lsa.now c.requires.router (ap (λ (k : LsaKey). k.router) c.key.ensures)
    (c.deref-in-Ok-links_priced.ensures.value ∙ c.in-Ok-links_priced.ensures ∙ ap (keep r) (c.deref-2.ensures.value ∙ c.in-Ok.ensures ∙ c.links.ensures)))
