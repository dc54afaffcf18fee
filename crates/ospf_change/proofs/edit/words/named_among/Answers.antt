use Rattle.std.proofs.Common.{rules, ◌≡◌, ◌≤◌, ◌++◌, ◌∷◌, [], List, String, arith, length, subst}
use Rattle.std.specs.List.{AllZip}
use Rattle.std.specs.declared.alloc.Global.{Global}
use Rattle.std.proofs.lemmas.List.{take_all}
use Rattle.ospf_graph.specs.EdgeLists.Listed.{advertisements_of}
use Rattle.ospf_change.specs.Edit.Words.{IsFirstUnknownAmong, IsWordFor, IsUnknownHere}
use Rattle.ospf_change.proofs.Edits.WordLemmas.{fault_weaker, first_among, zip_more}
use Rattle.ospf_change.proofs.edit.words.named_among.Goals as goal

pub returns-in-Err-clause-fault : goal.returns-in-Err-clause-fault
returns-in-Err-clause-fault c =
    let A = advertisements_of c.args.listing.now in
    fault_weaker (IsUnknownHere A c.args.single.now c.args.kind c.word-item.result) (IsFirstUnknownAmong A c.args.single.now c.args.kind c.args.words.now) c.in-Err.fault
    (first_among A c.args.single.now c.args.kind c.args.words.now c.loop-word.word-index c.word-item.result c.loop-word.changes.items c.loop-word-test.true c.word-item.is
    c.loop-word.invariant) c.in-Err.ensures.fault

pub loop-word-preserved : goal.loop-word-preserved
loop-word-preserved c =
    let A = advertisements_of c.args.listing.now in
    let items : c.push.new.self.items ≡ c.loop-word.changes.items ++ c.in-Ok.change ∷ [] = search rules in
    rw items (zip_more (IsWordFor A c.args.single.now c.args.kind) c.args.words.now c.loop-word.word-index c.word-item.result c.loop-word.changes.items c.in-Ok.change
    c.loop-word-test.true c.word-item.is c.loop-word.invariant c.in-Ok.ensures.named)

pub returns-clause-named : goal.returns-clause-named
returns-clause-named c =
    let A = advertisements_of c.args.listing.now in
    let end : length c.args.words.now ≤ c.loop-word.word-index = omega (arith, c.loop-word-test.false) in
    subst (λ (l : List (String Global)). AllZip (IsWordFor A c.args.single.now c.args.kind) l c.loop-word.changes.items) (take_all c.loop-word.word-index c.args.words.now end)
    c.loop-word.invariant
