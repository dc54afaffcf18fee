use Rattle.std.proofs.Common.{◌∙◌, ℕ, List, Option, IfSome, ap, get_or, below_more, subst}
use Rattle.std.proofs.lemmas.List.{get_or_default}
use Rattle.ospf_base.specs.declared.ids.LsaKey.{LsaKey}
use Rattle.ospf_lsa.specs.Lsa.{key_of}
use Rattle.ospf_router.specs.Kept.{IsGrownFrom}
use Rattle.ospf_router.specs.Listings.{AreListedAt, StayListed}
use Rattle.ospf_router.proofs.ServedLemmas.{grown_more}
use Rattle.ospf_router.proofs.followed.with_issued.Goals as goal
use Rattle.ospf_router.specs.declared.followed.Grown.{Grown}

pub loop-lsa-preserved : goal.loop-lsa-preserved
loop-lsa-preserved c =
    let db = c.args.database.now in
    let issued = c.args.issued.now in
    let i = c.loop-lsa.lsa-index in
    let mid = c.loop-lsa.next in
    let new = c.in-Some.more in
    let inv = c.loop-lsa.invariant in
    let stay = subst (λ (o : Option Grown). IfSome o (λ g. StayListed db mid.tree.listing g.tree.listing)) c.in-Some.is c.in_ok-more.ensures.stay in
    let here = subst (λ (o : Option Grown). IfSome o (λ g. AreListedAt db c.key.result g.tree.listing)) c.in-Some.is c.in_ok-more.ensures.listed in
    let key_is = c.key.ensures ∙ ap key_of (c.view.ensures.same ∙ c.lsa-item.is) in
    record {
      grown = grown_more c.args.grown.tree c.args.grown.touched.items mid new inv.grown
          (subst (λ (o : Option Grown). IfSome o (λ g. IsGrownFrom mid.tree mid.touched.items g)) c.in-Some.is c.in_ok-more.ensures.grown);
      listed = λ k d lt. below_more (λ (j : ℕ). (x : List ℕ) → AreListedAt db (key_of (get_or issued j x)) new.tree.listing) i
          (λ j less x. stay (key_of (get_or issued j x)) (inv.listed j x less))
          (λ x. subst (λ (y : LsaKey). AreListedAt db y new.tree.listing) (key_is ∙ ap key_of (get_or_default issued i _ x c.loop-lsa-test.true)) here) k lt d;
      stay = λ key was. stay key (inv.stay key was);
    }
