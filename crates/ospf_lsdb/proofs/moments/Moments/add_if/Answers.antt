use Rattle.std.proofs.Common.{◌||◌, not, ap, ◌∙◌, List}
use Rattle.ospf_lsdb.specs.declared.moments.AgeDue.{AgeDue}
use Rattle.ospf_lsdb.specs.Moments.{has_due, same_due}
use Rattle.ospf_lsdb.proofs.MomentLemmas.{has-added, has-contains, and_true, or_step}
use Rattle.ospf_lsdb.proofs.moments.Moments.add_if.Goals as goal

pub returns-clause-added : goal.returns-clause-added
returns-clause-added c =
    and_true c.args.is_due c.in_ok-is_new.is_new (not (has_due c.args.self.now c.args.due)) c.if-not-is_due.false
    (c.in_ok-is_new.ensures.added ∙ ap not (has-contains c.self.inside.set c.args.due ∙ ap (λ (db : List AgeDue). has_due db c.args.due) c.self.view_is))

pub returns-clause-ok : goal.returns-clause-ok
returns-clause-ok c = λ q.
    or_step c.args.is_due (has_due c.insert.new.self.keys q) (has_due c.args.self.now q) (same_due c.args.due q) c.if-not-is_due.false
    (has-added c.self.inside.set c.insert.new.self c.args.due c.in_ok-is_new.ensures.updates q ∙ ap (λ (db : List AgeDue). same_due c.args.due q || has_due db q) c.self.view_is)
