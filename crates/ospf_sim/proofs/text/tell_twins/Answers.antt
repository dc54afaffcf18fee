use Rattle.std.proofs.Common.{refl}
use Rattle.ospf_files.specs.Streams.{IsErrorCut}
use Rattle.ospf_files.proofs.Cut.{cut_then, for_memory, ok_then}
use Rattle.ospf_sim.specs.Begun.{IsOpeningCut, in_twins, no_room}
use Rattle.ospf_sim.specs.Twins.{SharesRouter}
use Rattle.ospf_sim.proofs.text.tell_twins.Goals as goal

pub returns-in_err-lines-clause-cut : goal.returns-in_err-lines-clause-cut
returns-in_err-lines-clause-cut g c =
    for_memory c.from_residual.result
    (IsOpeningCut c.args.files.now c.args.configs.now c.args.streams.now (g.E.Write.contents c.args.err.now) (g.E.Write.contents c.args.err.now))
    c.from_residual.ensures.1 (no_room refl)

pub returns-clause-told : goal.returns-clause-told
returns-clause-told g c =
    let shared : SharesRouter c.args.files.now c.args.configs.now c.deref.result.now = record { twins = c.args.twins; first = c.requires; text_is = rw c.deref.ensures c.in_ok-lines.ensures } in
    ok_then c.tell.result (λ told. (c.deref.result.now, shared, told.1)) c.tell.ensures.told

pub returns-clause-cut : goal.returns-clause-cut
returns-clause-cut g c =
    let shared : SharesRouter c.args.files.now c.args.configs.now c.deref.result.now = record { twins = c.args.twins; first = c.requires; text_is = rw c.deref.ensures c.in_ok-lines.ensures } in
    cut_then c.tell.result (IsErrorCut c.tell.new.self)
    (IsOpeningCut c.args.files.now c.args.configs.now c.tell.new.self (g.E.Write.contents c.args.err.now) (g.E.Write.contents c.tell.new.err))
    (λ f begun cut. in_twins c.deref.result.now cut shared begun) c.tell.ensures.begun c.tell.ensures.cut
