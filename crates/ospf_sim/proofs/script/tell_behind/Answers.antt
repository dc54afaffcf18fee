use Rattle.std.proofs.Common.{refl}
use Rattle.ospf_files.specs.Streams.{IsErrorCut, written_on}
use Rattle.ospf_files.proofs.Cut.{always, cut_then, for_failure, ok_then}
use Rattle.ospf_sim.specs.Begun.{IsTellingCut, in_telling, not_flushed}
use Rattle.ospf_sim.proofs.Cuts.{flushed}
use Rattle.ospf_sim.proofs.script.tell_behind.Goals as goal

pub returns-in_err-flush-clause-cut : goal.returns-in_err-flush-clause-cut
returns-in_err-flush-clause-cut g c =
    for_failure c.from_residual.result c.in_err-flush.field-0.0
    (IsTellingCut c.args.line.now c.flush.new.self (written_on (g.O.Write.contents c.args.out.now) (g.E.Write.contents c.args.err.now)) (written_on (g.O.Write.contents c.flush.new.out) (g.E.Write.contents c.args.err.now)))
    c.from_residual.ensures.1 (not_flushed c.in_err-flush.ensures.cut (flushed _ _ c.flush.ensures.bytes) refl)

pub returns-clause-out : goal.returns-clause-out
returns-clause-out g c = always c.tell.result (flushed _ _ c.flush.ensures.bytes)

pub returns-clause-err : goal.returns-clause-err
returns-clause-err g c = ok_then c.tell.result (λ told. told.1) c.tell.ensures.told

pub returns-clause-cut : goal.returns-clause-cut
returns-clause-cut g c =
    cut_then c.tell.result (IsErrorCut c.tell.new.self)
    (IsTellingCut c.args.line.now c.tell.new.self (written_on (g.O.Write.contents c.args.out.now) (g.E.Write.contents c.args.err.now)) (written_on (g.O.Write.contents c.flush.new.out) (g.E.Write.contents c.tell.new.err)))
    (λ f begun cut. in_telling cut (flushed _ _ c.flush.ensures.bytes) begun) c.tell.ensures.begun c.tell.ensures.cut
