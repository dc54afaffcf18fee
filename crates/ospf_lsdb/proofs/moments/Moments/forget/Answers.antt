use Rattle.std.proofs.Common.{◌&&◌, Bool, not, ap, sym, ◌∙◌}
use Rattle.ospf_lsdb.specs.Moments.{has_due, same_due, is_due_at}
use Rattle.ospf_lsdb.proofs.MomentLemmas.{keys_at-first, keys_at-none, apart_at, and_right, forgotten}
use Rattle.ospf_lsdb.proofs.moments.Moments.forget.Goals as goal

pub loop-key-smaller : goal.loop-key-smaller
loop-key-smaller c =
    c.remove_reached.ensures.fewer (keys_at-first c.args.moment c.args.age c.loop-key.self c.in-Some.key c.next.new.self (sym c.at.ensures.keys ∙ c.in-Some.ensures.steps))

pub loop-key-preserved : goal.loop-key-preserved
loop-key-preserved c = record {
  others = λ q apart. c.remove_reached.ensures.gone q
      ∙ ap (λ (b : Bool). not b && has_due c.loop-key.self q) (apart_at c.args.moment c.args.age c.in-Some.key q apart)
      ∙ c.loop-key.invariant.others q apart;
  fewer = λ q there. c.loop-key.invariant.fewer q (and_right (not (same_due (record { moment = c.args.moment; age = c.args.age; key = c.in-Some.key }) q)) (has_due c.loop-key.self q) (sym (c.remove_reached.ensures.gone q) ∙ there));
}

pub returns : goal.returns
returns c = λ q.
    forgotten (is_due_at c.args.moment c.args.age q) (has_due c.loop-key.self q) (has_due c.args.self.now q)
    (λ at. keys_at-none c.args.moment c.args.age c.loop-key.self (sym c.at.ensures.keys ∙ c.in_default.ensures.steps.0) q at)
    (λ apart. c.loop-key.invariant.others q apart)
