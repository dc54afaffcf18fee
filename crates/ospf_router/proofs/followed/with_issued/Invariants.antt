use Rattle.std.proofs.Common.{◌<◌, ℕ, List, get_or}
use Rattle.ospf_lsa.specs.Lsa.{key_of}
use Rattle.ospf_router.specs.Kept.{IsGrownFrom}
use Rattle.ospf_router.specs.Listings.{AreListedAt, StayListed}
use Rattle.ospf_router.proofs.followed.with_issued.Given as goal

abbrev pub invariant-loop-lsa : goal.invariant-loop-lsa
invariant-loop-lsa l =
    record {
      grown : IsGrownFrom l.fn.grown.tree l.fn.grown.touched.items l.next;
      listed : (k : ℕ) (d : List ℕ) → k < l.lsa-index → AreListedAt l.database (key_of (get_or l.issued k d)) l.next.tree.listing;
      stay : StayListed l.database l.fn.grown.tree.listing l.next.tree.listing;
    }
