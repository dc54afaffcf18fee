use Rattle.std.proofs.Common.{ℤ, subst}
use Rattle.std.specs.Int.{w32}
use Rattle.std.proofs.lemmas.Int.{to_z-of_z}
use Rattle.ospf_originate.specs.Wants.Own.{wanted_value}
use Rattle.ospf_originate.specs.Steps.{Issues}
use Rattle.ospf_originate.proofs.own.issue_one.Goals as goal

pub returns : goal.returns
returns c = record {
  mid = c.issue.new.area;
  mid_out = c.issue.new.out;
  issues = subst (λ (n : ℤ). Issues (wanted_value c.args.wanted.now) n c.args.area.now c.args.out.now c.issue.new.out c.issue.new.area) (to_z-of_z w32 c.args.number c.ranges.number) c.in_ok-issue.ensures;
  turned = c.in_ok-turn_in.ensures.after;
  outputs = c.in_ok-turn_in.ensures.sent;
}
