use Rattle.std.proofs.Common.{subst}
use Rattle.ospf_spf.specs.IncrementalSpf.Left.{Copies}
use Rattle.ospf_spf.proofs.IncrementalSpf.LeftLemmas.{beside_more, beside_root, beside_skip}
use Rattle.ospf_spf.proofs.IncrementalSpf.ShrinkSteps.{false_true}
use Rattle.ospf_spf.proofs.incremental.left.beside.Goals as goal
use Rattle.ospf_spf.proofs.incremental.left.beside.Goals.{then-not-is_among+in_ok-copy_to-2, else-not-is_among}

pub loop-edge-init : goal.loop-edge-init
loop-edge-init c =
    let f = c.args.found.now.reached.items in
    let own = c.copy_to.new.own.reached.items in
    record {
      beside = beside_root f c.args.root c.args.gone.now own (subst (λ l. Copies c.args.root f l own) c.new.ensures.items c.in_ok-copy_to.ensures.copies);
      places = c.in_ok-copy_to.ensures.places;
      near = c.in_ok-copy_to.ensures.near;
    }

pub loop-edge-preserved : goal.loop-edge-preserved
loop-edge-preserved c =
    let f = c.args.found.now.reached.items in
    let some = c.args.some.now in
    let gone = c.args.gone.now in
    let i = c.loop-edge.edge-index in
    let inv = c.loop-edge.invariant in
    elim c.if-not-is_among.branch [
      | then-not-is_among+in_ok-copy_to-2 w ↦ rw w.own-is (record {
        beside = beside_more f c.args.root some gone i _ c.loop-edge-test.true c.loop-edge.own.reached.items inv.beside w.copy_to-then-not-is_among.new.own.reached.items
            (λ m. false_true c.is_among.result w.if-not-is_among.true (c.is_among.ensures.1 m)) w.in_ok-copy_to-2.ensures.copies;
        places = w.in_ok-copy_to-2.ensures.places;
        near = w.in_ok-copy_to-2.ensures.near;
      })
      | else-not-is_among w ↦ rw w.own-is (record {
        beside = beside_skip f c.args.root some gone i _ c.loop-edge-test.true c.loop-edge.own.reached.items inv.beside (c.is_among.ensures.0 w.if-not-is_among.false);
        places = inv.places;
        near = inv.near;
      })
    ]
