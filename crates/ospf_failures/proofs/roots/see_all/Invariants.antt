use Rattle.ospf_graph.specs.EdgeLists.Listed.{advertisements_of}
use Rattle.ospf_failures.proofs.RootLemmas.{HasSeen}
use Rattle.ospf_failures.proofs.roots.see_all.Given as goal

-- the failures so far have seen the router
abbrev pub invariant-loop-place : goal.invariant-loop-place
invariant-loop-place l = HasSeen (advertisements_of l.listing) l.before l.detail l.outages l.fn.overalls.items l.place l.overall-items
