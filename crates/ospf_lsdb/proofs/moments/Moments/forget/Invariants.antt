use Rattle.std.proofs.Common.{◌≡◌, length, false, true}
use Rattle.ospf_lsdb.specs.declared.moments.AgeDue.{AgeDue}
use Rattle.ospf_lsdb.specs.Moments.{has_due, is_due_at}
use Rattle.ospf_lsdb.proofs.moments.Moments.forget.Given as goal

abbrev pub invariant-loop-key : goal.invariant-loop-key
invariant-loop-key l = record {
  others : (q : AgeDue) → is_due_at l.moment l.age q ≡ false → has_due l.self q ≡ has_due l.fn.self q;
  fewer : (q : AgeDue) → has_due l.self q ≡ true → has_due l.fn.self q ≡ true;
}

abbrev pub decreases-loop-key : goal.decreases-loop-key
decreases-loop-key l = length l.self
