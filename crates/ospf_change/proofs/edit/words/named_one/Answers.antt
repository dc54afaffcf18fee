use Rattle.std.proofs.Common.{◌≡◌, ℕ, List, subst, sym}
use Rattle.ospf_graph.specs.EdgeLists.Listed.{advertisements_of}
use Rattle.ospf_change.specs.Edit.Words.{IsMessage, IsUnknownHere, Names}
use Rattle.ospf_change.proofs.Edits.WordLemmas.{fault_weaker}
use Rattle.ospf_change.proofs.edit.words.named_one.Goals as goal

pub returns-in-None-clause-fault : goal.returns-in-None-clause-fault
returns-in-None-clause-fault c =
    let A = advertisements_of c.args.listing.now in
    let none = rw c.in-None.is at c.in_ok-change.ensures.none in
    fault_weaker (IsMessage c.args.single.now c.args.kind c.args.word.now) (IsUnknownHere A c.args.single.now c.args.kind c.args.word.now) c.unnamed.result
    (λ text is. ((λ d m. none d (subst (λ (t : List ℕ). Names A c.args.single.now c.args.kind t d) (sym c.deref.ensures) m)), is)) c.unnamed.ensures
