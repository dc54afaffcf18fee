use Rattle.std.proofs.Common.{ℤ, List, sym, subst}
use Rattle.std.specs.Int.{w32}
use Rattle.std.specs.Prelude.{IfErr}
use Rattle.std.proofs.lemmas.Int.{to_z-of_z}
use Rattle.ospf_lsa.specs.Value.{IsUnmade, RouterNeeds}
use Rattle.ospf_lsa.specs.declared.link.Link.{Link}
use Rattle.ospf_originate.specs.Wants.Made.{Needs}
use Rattle.ospf_originate.specs.Wants.Own.{wanted_value}
use Rattle.ospf_originate.specs.declared.contents.wants.OwnLsa.{OwnLsa}
use Rattle.ospf_originate.proofs.contents.wants.OwnLsa.make.Goals as goal

pub returns-in-Router-clause-fault : goal.returns-in-Router-clause-fault
returns-in-Router-clause-fault c =
    let signed = to_z-of_z w32 c.args.number c.ranges.number in
    subst (λ (o : OwnLsa). IfErr c.router.result (λ f. IsUnmade (Needs c.args.number (wanted_value o)) f)) (sym c.in-Router.is)
    (subst (λ (ls : List Link). IfErr c.router.result (λ f. IsUnmade (RouterNeeds c.args.number ls) f)) c.deref.ensures.value
    (subst (λ (n : ℤ). IfErr c.router.result (λ f. IsUnmade (RouterNeeds n c.deref.result.now) f)) signed c.router.ensures.fault))
