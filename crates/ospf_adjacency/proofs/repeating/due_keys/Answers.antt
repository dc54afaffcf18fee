use Rattle.std.proofs.Common.{◌∙◌, ap, sym, List}
use Rattle.std.specs.List.{list_any}
use Rattle.std.proofs.lemmas.List.{take_all}
use Rattle.ospf_lsdb.proofs.TimerLemmas.{rising_from-sorted}
use Rattle.ospf_neighbour.specs.declared.neighbour.Listed.{Listed}
use Rattle.ospf_adjacency.proofs.DueLemmas.{is_due_of, due_are, due_more, due_same}
use Rattle.ospf_adjacency.proofs.repeating.due_keys.Goals as goal
use Rattle.ospf_adjacency.proofs.repeating.due_keys.Goals.{then-goes_again+in_ok-insert, else-goes_again}

pub loop-listed-preserved : goal.loop-listed-preserved
loop-listed-preserved c = elim c.if-goes_again.branch [
  | then-goes_again+in_ok-insert w ↦ rw w.keys-is (record {
    whole = due_more c.args.retransmit c.args.tick c.args.database.now c.retransmission-listed-items.result.now c.loop-listed.listed-index _ c.loop-listed.keys w.insert.new.self c.loop-listed-test.true
        (sym w.if-goes_again.true ∙ c.goes_again.ensures) w.in_ok-insert.ensures.updates c.loop-listed.invariant.whole;
    ordered = w.in_ok-insert.ensures.ordered;
  })
  | else-goes_again w ↦ rw w.keys-is (record {
    whole = due_same c.args.retransmit c.args.tick c.args.database.now c.retransmission-listed-items.result.now c.loop-listed.listed-index _ c.loop-listed.keys.keys c.loop-listed-test.true
        (sym w.if-goes_again.false ∙ c.goes_again.ensures) c.loop-listed.invariant.whole;
    ordered = c.loop-listed.invariant.ordered;
  })
]

pub returns : goal.returns
returns c = due_are c.args.retransmit c.args.tick c.args.database.now c.args.neighbour.now c.loop-listed.keys.keys
    c.entries-entries.ensures.database.rising
    (rising_from-sorted c.loop-listed.keys.keys c.loop-listed.invariant.ordered)
    (λ q. c.loop-listed.invariant.whole q
    ∙ ap (λ (ls : List Listed). list_any (is_due_of c.args.retransmit c.args.tick c.args.database.now q) ls) (take_all c.loop-listed.listed-index c.retransmission-listed-items.result.now c.loop-listed-test.false ∙ c.retransmission-listed-items.ensures))
