use Rattle.std.proofs.Common.{◌≡◌, ◌+◌, ◌&&◌, not, ap, ◌∙◌, true, length, List, arith}
use Rattle.ospf_lsdb.specs.declared.moments.AgeDue.{AgeDue}
use Rattle.ospf_lsdb.specs.Moments.{has_due, same_due}
use Rattle.ospf_lsdb.proofs.MomentLemmas.{has-removed, has-contains}
use Rattle.ospf_lsdb.proofs.moments.Moments.remove.Goals as goal

pub returns-clause-gone : goal.returns-clause-gone
returns-clause-gone c = λ q.
    has-removed c.self.inside.set c.remove.new.self c.args.due c.remove.ensures.updates q
    ∙ ap (λ (db : List AgeDue). not (same_due c.args.due q) && has_due db q) c.self.view_is

pub returns-clause-fewer : goal.returns-clause-fewer
returns-clause-fewer c = λ there.
    let found : c.remove.result ≡ true = c.remove.ensures.test ∙ has-contains c.self.inside.set c.args.due ∙ ap (λ (db : List AgeDue). has_due db c.args.due) c.self.view_is ∙ there in
    let count : length c.remove.new.self.keys + 1 ≡ length c.self.inside.set.keys = rw found at c.remove.ensures.len in
    let same : length c.self.inside.set.keys ≡ length c.args.self.now = ap (λ (db : List AgeDue). length db) c.self.view_is in
    omega arith
