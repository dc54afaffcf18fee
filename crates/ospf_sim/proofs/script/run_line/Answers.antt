use Rattle.std.proofs.Common.{[], refl, rules}
use Rattle.ospf_files.proofs.Cut.{for_failure}
use Rattle.ospf_files.proofs.Written.{nothing_written}
use Rattle.ospf_files.specs.Streams.{written_on}
use Rattle.ospf_commands.proofs.Deliveries.ProgressFacts.{on_further, on_nowhere, on_word}
use Rattle.ospf_sim.specs.Begun.{IsLineCut, in_print, no_room_for}
use Rattle.ospf_sim.specs.Scripts.{is_passed_over}
use Rattle.ospf_sim.proofs.Cuts.{refusal_cut}
use Rattle.ospf_sim.proofs.Lines.{line_taken}
use Rattle.ospf_sim.proofs.script.run_line.Goals as goal

pub returns-in-Ok-None-clause-comes : goal.returns-in-Ok-None-clause-comes
returns-in-Ok-None-clause-comes g c =
    let blank = rw c.in-Ok-None.field-0-is at c.in-Ok-None.ensures.blank in
    record {
      out = [];
      err = [];
      runs = is_passed_over (blank.0 refl) refl refl refl;
      out_written = nothing_written _;
      err_written = nothing_written _;
    }

pub returns-in_ok-tell_answer-in-Ok-Some-clause-comes : goal.returns-in_ok-tell_answer-in-Ok-Some-clause-comes
returns-in_ok-tell_answer-in-Ok-Some-clause-comes g c =
    let spelled = rw c.in-Ok-Some.field-0-is at c.in-Ok-Some.ensures.command in
    line_taken _ _ _ _ _ _ _ _ _ _ _ _ spelled c.in_ok-answer-in-Ok-Some.ensures.done c.note_answer.ensures.noted c.in_ok-tell_answer-in-Ok-Some.ensures.out c.in_ok-tell_answer-in-Ok-Some.ensures.err

pub returns-in_err-answer-in-Ok-Some-clause-cut : goal.returns-in_err-answer-in-Ok-Some-clause-cut
returns-in_err-answer-in-Ok-Some-clause-cut g c =
    let spelled = rw c.in-Ok-Some.field-0-is at c.in-Ok-Some.ensures.command in
    for_failure c.from_residual.result c.in_err-answer-in-Ok-Some.field-0.0
    (IsLineCut c.args.line.now.number c.args.line.now.text.now c.args.simulation.now c.run_command.new.streams (written_on (g.O.Write.contents c.args.out.now) (g.E.Write.contents c.args.err.now)) (written_on (g.O.Write.contents c.run_command.new.out) (g.E.Write.contents c.args.err.now)))
    c.from_residual.ensures.1
    (in_print c.in_err-answer-in-Ok-Some.ensures.cut
    (record { command = c.in-Ok-Some.command; end = c.run_command.new.simulation; spelled = spelled; done = c.in_err-answer-in-Ok-Some.ensures.begun }) refl)

pub returns-in_err-tell_answer-in-Ok-Some-clause-cut : goal.returns-in_err-tell_answer-in-Ok-Some-clause-cut
returns-in_err-tell_answer-in-Ok-Some-clause-cut g c =
    let spelled = rw c.in-Ok-Some.field-0-is at c.in-Ok-Some.ensures.command in
    for_failure c.from_residual-in_err-tell_answer-in-Ok-Some.result c.in_err-tell_answer-in-Ok-Some.field-0.0
    (IsLineCut c.args.line.now.number c.args.line.now.text.now c.args.simulation.now c.tell_answer.new.streams (written_on (g.O.Write.contents c.args.out.now) (g.E.Write.contents c.args.err.now)) (written_on (g.O.Write.contents c.tell_answer.new.out) (g.E.Write.contents c.tell_answer.new.err)))
    c.from_residual-in_err-tell_answer-in-Ok-Some.ensures.1
    (refusal_cut _ _ _ _ _ _ _ _ _ _ _ _ _ spelled c.in_ok-answer-in-Ok-Some.ensures.done c.in_err-tell_answer-in-Ok-Some.ensures.cut)

pub returns-in-Err-Memory-clause-cut : goal.returns-in-Err-Memory-clause-cut
returns-in-Err-Memory-clause-cut g c = no_room_for (c.in-Err-Memory.ensures.memory c.in-Err-Memory.field-0-is) refl

pub returns-in-Ok-None-clause-told : goal.returns-in-Ok-None-clause-told
returns-in-Ok-None-clause-told g c = search (rules, on_nowhere)

pub returns-in_ok-tell_answer-in-Ok-Some-clause-told : goal.returns-in_ok-tell_answer-in-Ok-Some-clause-told
returns-in_ok-tell_answer-in-Ok-Some-clause-told g c = rw c.note_answer.ensures.world (search (rules, on_further, on_word))

pub returns-in_err-tell_answer-in-Ok-Some-clause-told : goal.returns-in_err-tell_answer-in-Ok-Some-clause-told
returns-in_err-tell_answer-in-Ok-Some-clause-told g c = rw c.note_answer.ensures.world (search (rules, on_further, on_word))

pub returns-in_err-answer-in-Ok-Some-clause-told : goal.returns-in_err-answer-in-Ok-Some-clause-told
returns-in_err-answer-in-Ok-Some-clause-told g c = c.run_command.ensures.told

pub returns-in-Err-NotACommand-clause-told : goal.returns-in-Err-NotACommand-clause-told
returns-in-Err-NotACommand-clause-told g c = on_nowhere _ _ _ _ _ refl

pub returns-in-Err-Memory-clause-told : goal.returns-in-Err-Memory-clause-told
returns-in-Err-Memory-clause-told g c = on_nowhere _ _ _ _ _ refl
