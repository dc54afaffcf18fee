use Rattle.std.proofs.Common.{rules}
use borrow.Author.Tests.{tests}
use Rattle.std.proofs.lemmas.Iterator.{YieldsList-from_slice, cases_from_any}
use Rattle.ospf_config.specs.Conflicts.{Conflict}
use Rattle.ospf_config.proofs.TableLists.{any_by}
use Rattle.ospf_config.proofs.rules.conflicts_with_any.Goals as goal

pub returns : goal.returns
returns c =
    any_by (Conflict c.args.address.now) c.any.result c.args.others.now
    (cases_from_any _ _ _ (Conflict c.args.address.now) (λ other. Conflict c.args.address.now other → ⊥) c.any.ensures.ran (YieldsList-from_slice c.args.others.now cc)
    (λ x q k. search (rules, tests)) (λ x q k. search (rules, tests)))
