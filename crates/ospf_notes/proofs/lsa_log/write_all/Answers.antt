use Rattle.ospf_files.proofs.Written.{piece_begun, piece_written, whole_begun}
use Rattle.ospf_notes.specs.LsaLines.{lsa_entry}
use Rattle.ospf_notes.proofs.lsa_log.write_all.Goals as goal

pub loop-change-preserved : goal.loop-change-preserved
loop-change-preserved g c =
    piece_written (lsa_entry c.args.is_json c.args.tick c.args.router) _ _ _ c.args.changes.now c.loop-change.change-index c.change-item.result c.loop-change-test.true c.change-item.is c.loop-change.invariant c.in_ok-write_one.ensures.written

pub returns-in_err-write_one-clause-begun : goal.returns-in_err-write_one-clause-begun
returns-in_err-write_one-clause-begun g c =
    piece_begun (lsa_entry c.args.is_json c.args.tick c.args.router) _ _ _ c.args.changes.now c.loop-change.change-index c.change-item.result c.loop-change-test.true c.change-item.is c.loop-change.invariant c.in_err-write_one.ensures.begun
