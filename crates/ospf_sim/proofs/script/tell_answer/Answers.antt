use Rattle.std.proofs.lemmas.Result.{IfErr-weaker}
use Rattle.ospf_files.specs.Streams.{written_on}
use Rattle.ospf_sim.specs.Begun.{IsEventAnswerCut, IsTellingCut}
use Rattle.ospf_sim.specs.Scripts.{world_refusal_line}
use Rattle.ospf_sim.proofs.script.tell_answer.Goals as goal

pub returns-in-Err-clause-cut : goal.returns-in-Err-clause-cut
returns-in-Err-clause-cut g c =
    IfErr-weaker c.tell_refusal.result
    (IsTellingCut (world_refusal_line c.args.number c.in-Err.fault) c.tell_refusal.new.streams (written_on (g.O.Write.contents c.args.out.now) (g.E.Write.contents c.args.err.now)) (written_on (g.O.Write.contents c.tell_refusal.new.out) (g.E.Write.contents c.tell_refusal.new.err)))
    (IsEventAnswerCut c.args.number c.args.answer c.tell_refusal.new.streams (written_on (g.O.Write.contents c.args.out.now) (g.E.Write.contents c.args.err.now)) (written_on (g.O.Write.contents c.tell_refusal.new.out) (g.E.Write.contents c.tell_refusal.new.err)))
    (λ _ cut. record { fault = c.in-Err.fault; refused = c.in-Err.is; told = cut }) c.tell_refusal.ensures.cut
