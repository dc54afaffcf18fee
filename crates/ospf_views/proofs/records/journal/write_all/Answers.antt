use Rattle.ospf_files.proofs.Written.{piece_begun, piece_written, whole_begun}
use Rattle.ospf_views.specs.RecordFiles.Journals.{entries_text, entry_text}
use Rattle.ospf_views.proofs.records.journal.write_all.Goals as goal

pub loop-change-preserved : goal.loop-change-preserved
loop-change-preserved g c =
    piece_written (entry_text c.args.is_json c.args.tick c.args.router) _ _ _ c.args.changes.now c.loop-change.change-index c.change-item.result c.loop-change-test.true c.change-item.is c.loop-change.invariant c.in_ok-write_one.ensures.written

pub returns-in_err-write_one-clause-begun : goal.returns-in_err-write_one-clause-begun
returns-in_err-write_one-clause-begun g c =
    piece_begun (entry_text c.args.is_json c.args.tick c.args.router) _ _ _ c.args.changes.now c.loop-change.change-index c.change-item.result c.loop-change-test.true c.change-item.is c.loop-change.invariant c.in_err-write_one.ensures.begun
