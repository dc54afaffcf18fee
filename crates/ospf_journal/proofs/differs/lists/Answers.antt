use Rattle.std.proofs.Common.{rules}
use Rattle.ospf_journal.proofs.Listings.{lists_found, lists_none}
use Rattle.ospf_journal.proofs.differs.lists.Goals as goal

pub returns-in-Some : goal.returns-in-Some
returns-in-Some c =
    let found = lists_found c.args.lsas.now c.in-Some.lsa.now c.args.instance.now c.in-Some.ensures.listing c.in-Some.ensures.found.0 c.in-Some.ensures.found.1 in
    search (rules, found)

pub returns-in-None : goal.returns-in-None
returns-in-None c = lists_none c.args.lsas.now c.args.instance.now c.in-None.ensures.none
