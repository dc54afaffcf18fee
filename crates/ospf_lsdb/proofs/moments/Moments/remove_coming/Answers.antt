use Rattle.std.proofs.Common.{◌||◌, ◌&&◌, Bool, not, ap, ◌∙◌, nat_lt}
use Rattle.ospf_lsdb.specs.declared.moments.AgeDue.{AgeDue}
use Rattle.ospf_lsdb.specs.Moments.{has_due, same_due, coming, is_coming}
use Rattle.ospf_lsdb.proofs.MomentLemmas.{and_twice}
use Rattle.ospf_lsdb.proofs.moments.Moments.remove_coming.Goals as goal

pub returns : goal.returns
unfolding is_coming
returns c = λ q.
    c.remove_if-2.ensures q
    ∙ ap (λ (b : Bool). not (nat_lt c.args.age 3600 && same_due c.coming-2.result q) && b) (c.remove_if.ensures q)
    ∙ and_twice (nat_lt c.args.age 3600 && same_due c.coming-2.result q) (nat_lt c.args.age 1800 && same_due c.coming.result q) (has_due c.args.self.now q)
    ∙ ap (λ (d : AgeDue). not ((nat_lt c.args.age 1800 && same_due d q) || (nat_lt c.args.age 3600 && same_due c.coming-2.result q)) && has_due c.args.self.now q) c.coming.ensures
    ∙ ap (λ (d : AgeDue). not ((nat_lt c.args.age 1800 && same_due (coming c.args.clock c.args.age 1800 c.args.key) q) || (nat_lt c.args.age 3600 && same_due d q)) && has_due c.args.self.now q) c.coming-2.ensures
