use Rattle.std.proofs.Common.{◌<◌, ℕ, get_or}
use Rattle.ospf_base.specs.declared.ids.Instance.{Instance}
use Rattle.ospf_router.specs.Kept.{IsGrownFrom}
use Rattle.ospf_router.specs.Listings.{AreListedAt, StayListed}
use Rattle.ospf_router.proofs.followed.with_taken.Given as goal

abbrev pub invariant-loop-instance : goal.invariant-loop-instance
invariant-loop-instance l =
    record {
      grown : IsGrownFrom l.fn.grown.tree l.fn.grown.touched.items l.next;
      listed : (k : ℕ) (d : Instance) → k < l.instance-index → AreListedAt l.database (get_or l.taken k d).key l.next.tree.listing;
      stay : StayListed l.database l.fn.grown.tree.listing l.next.tree.listing;
    }
