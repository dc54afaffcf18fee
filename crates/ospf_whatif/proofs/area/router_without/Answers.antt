use Rattle.std.proofs.Common.{◌≡◌, ap, subst, sym, ◌∙◌}
use Rattle.ospf_base.specs.declared.ids.LsaKey.{LsaKey}
use Rattle.ospf_whatif.specs.Failure.{kept_links}
use Rattle.ospf_whatif.proofs.OutageLemmas.{false_true}
use Rattle.ospf_whatif.proofs.WithoutLemmas.{IfOk-map, OnOk-map, err_at, large_left, made_kept, made_key, small_left}
use Rattle.ospf_whatif.proofs.area.router_without.Goals as goal

pub returns-in-Ok-clause-advertisement : goal.returns-in-Ok-clause-advertisement
returns-in-Ok-clause-advertisement c =
    IfOk-map c.router.result _ _ c.router.ensures.ok
    (λ left made. made_kept c.key.result.router _ c.deref.result.now left made c.args.inner.now c.args.failure.now c.args.lsa.now c.requires.router
    (ap (λ (k : LsaKey). k.router) c.key.ensures)
    (c.deref.ensures.value ∙ c.in-Ok.ensures ∙ ap (λ ls. kept_links c.args.inner.now c.args.failure.now c.key.result.router ls) c.links-2.ensures))

pub returns-in-Ok-clause-key : goal.returns-in-Ok-clause-key
returns-in-Ok-clause-key c =
    IfOk-map c.router.result _ _ c.router.ensures.ok
    (λ left made. made_key c.key.result.router _ c.deref.result.now left made c.args.lsa.now c.requires.router c.requires.listed.0
    (ap (λ (k : LsaKey). k.router) c.key.ensures))

pub returns-in-Ok-clause-large : goal.returns-in-Ok-clause-large
returns-in-Ok-clause-large c = λ is.
    large_left c.args.inner.now c.args.failure.now c.key.result.router _ c.deref.result.now c.args.lsa.now c.requires.router
    (ap (λ (k : LsaKey). k.router) c.key.ensures)
    (c.deref.ensures.value ∙ c.in-Ok.ensures ∙ ap (λ ls. kept_links c.args.inner.now c.args.failure.now c.key.result.router ls) c.links-2.ensures)
    (λ same. false_true c.keeps_all.result c.if-keeps_all.false
    (c.keeps_all.ensures.1 (subst (λ ls. kept_links c.args.inner.now c.args.failure.now c.key.result.router ls ≡ ls) (sym c.links.ensures) same)))
    (err_at c.router.result _ _ c.router.ensures.fault is)

pub returns-in-Ok-clause-small : goal.returns-in-Ok-clause-small
returns-in-Ok-clause-small c =
    OnOk-map c.router.result _ _ c.router.ensures.needs
    (small_left c.args.inner.now c.args.failure.now c.key.result.router _ c.deref.result.now c.args.lsa.now c.requires.router
    (ap (λ (k : LsaKey). k.router) c.key.ensures)
    (c.deref.ensures.value ∙ c.in-Ok.ensures ∙ ap (λ ls. kept_links c.args.inner.now c.args.failure.now c.key.result.router ls) c.links-2.ensures))
