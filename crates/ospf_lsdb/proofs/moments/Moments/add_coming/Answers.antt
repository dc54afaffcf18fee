use Rattle.std.proofs.Common.{◌||◌, ◌&&◌, Bool, not, ap, ◌∙◌, true, nat_lt, List}
use Rattle.ospf_lsdb.specs.declared.moments.AgeDue.{AgeDue}
use Rattle.ospf_lsdb.specs.Moments.{has_due, same_due, coming, is_coming}
use Rattle.ospf_lsdb.proofs.MomentLemmas.{or_twice, undone}
use Rattle.ospf_lsdb.proofs.moments.Moments.add_coming.Goals as goal

pub returns-in-Ok-clause-ok : goal.returns-in-Ok-clause-ok
unfolding is_coming
returns-in-Ok-clause-ok c = λ q.
    let first = c.in_ok-is_new.ensures.ok q in
    let second = c.in-Ok.ensures.ok q in
    second ∙ ap (λ (b : Bool). (nat_lt c.args.age 3600 && same_due c.coming-expiry.result q) || b) first
    ∙ or_twice (nat_lt c.args.age 3600 && same_due c.coming-expiry.result q) (nat_lt c.args.age 1800 && same_due c.coming-refresh.result q) (has_due c.args.self.now q) true
    ∙ ap (λ (d : AgeDue). ((nat_lt c.args.age 1800 && same_due d q) || (nat_lt c.args.age 3600 && same_due c.coming-expiry.result q)) || has_due c.args.self.now q) c.coming-refresh.ensures
    ∙ ap (λ (d : AgeDue). ((nat_lt c.args.age 1800 && same_due (coming c.args.clock c.args.age 1800 c.args.key) q) || (nat_lt c.args.age 3600 && same_due d q)) || has_due c.args.self.now q) c.coming-expiry.ensures

pub returns-in-Err-clause-err : goal.returns-in-Err-clause-err
returns-in-Err-clause-err c = λ q.
    c.remove_if.ensures q
    ∙ ap (λ (db : List AgeDue). not (c.in_ok-is_new.is_new && same_due c.coming-refresh.result q) && has_due db q) c.in-Err.ensures.err
    ∙ ap (λ (b : Bool). not (b && same_due c.coming-refresh.result q) && has_due c.add_if.new.self q) c.in_ok-is_new.ensures.added
    ∙ ap (λ (b : Bool). not ((nat_lt c.args.age 1800 && not (has_due c.args.self.now c.coming-refresh.result)) && same_due c.coming-refresh.result q) && b) (c.in_ok-is_new.ensures.ok q)
    ∙ undone c.coming-refresh.result q (nat_lt c.args.age 1800) c.args.self.now
