use Rattle.std.proofs.Common.{ℕ, Option, IfSome, get_or, below_more, subst}
use Rattle.std.proofs.lemmas.List.{get_or_default}
use Rattle.ospf_base.specs.declared.ids.Instance.{Instance}
use Rattle.ospf_router.specs.Kept.{IsGrownFrom}
use Rattle.ospf_router.specs.Listings.{AreListedAt, StayListed}
use Rattle.ospf_router.proofs.ServedLemmas.{grown_more}
use Rattle.ospf_router.proofs.followed.with_taken.Goals as goal
use Rattle.ospf_router.specs.declared.followed.Grown.{Grown}

pub loop-instance-preserved : goal.loop-instance-preserved
loop-instance-preserved c =
    let db = c.args.database.now in
    let taken = c.args.taken.now in
    let i = c.loop-instance.instance-index in
    let mid = c.loop-instance.next in
    let new = c.in-Some.more in
    let inv = c.loop-instance.invariant in
    let stay = subst (λ (o : Option Grown). IfSome o (λ g. StayListed db mid.tree.listing g.tree.listing)) c.in-Some.is c.in_ok-more.ensures.stay in
    let here = rw c.in-Some.is at c.in_ok-more.ensures.listed in
    record {
      grown = grown_more c.args.grown.tree c.args.grown.touched.items mid new inv.grown
          (subst (λ (o : Option Grown). IfSome o (λ g. IsGrownFrom mid.tree mid.touched.items g)) c.in-Some.is c.in_ok-more.ensures.grown);
      listed = λ k d lt. below_more (λ (j : ℕ). (x : Instance) → AreListedAt db (get_or taken j x).key new.tree.listing) i
          (λ j less x. stay (get_or taken j x).key (inv.listed j x less))
          (λ x. subst (λ (y : Instance). AreListedAt db y.key new.tree.listing) (get_or_default taken i _ x c.loop-instance-test.true) here) k lt d;
      stay = λ key was. stay key (inv.stay key was);
    }
