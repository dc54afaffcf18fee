use Rattle.std.proofs.Common.{inl, subst}
use Rattle.ospf_files.specs.declared.status.Status.{Status}
use Rattle.ospf_files.specs.Streams.{written_on}
use Rattle.ospf_sim.specs.Consoles.{ConsoleComes, is_failure}
use Rattle.ospf_sim.proofs.Worlds.{told_of_none}
use Rattle.ospf_sim.proofs.Consoles.{console_unread}
use Rattle.ospf_sim.proofs.console.console_text.Goals as goal

pub returns-in-Ok-clause-done : goal.returns-in-Ok-clause-done
returns-in-Ok-clause-done g c = rw (c.judged.ensures.status, c.judged.ensures.left) (λ is.
    subst (λ (status : Status). ConsoleComes status (g.R.Read.remaining c.args.console.input) c.args.console.prompt.now c.args.files.now c.in-Ok.simulated.left (written_on (g.O.Write.contents c.args.out.now) (g.E.Write.contents c.args.err.now)) (written_on (g.O.Write.contents c.converse.new.out) (g.E.Write.contents c.converse.new.err)))
    is c.in-Ok.ensures.comes)

pub returns-in-Ok-clause-refused : goal.returns-in-Ok-clause-refused
returns-in-Ok-clause-refused g c = rw (c.judged.ensures.status, c.judged.ensures.left) (λ is.
    subst (λ (status : Status). ConsoleComes status (g.R.Read.remaining c.args.console.input) c.args.console.prompt.now c.args.files.now c.in-Ok.simulated.left (written_on (g.O.Write.contents c.args.out.now) (g.E.Write.contents c.args.err.now)) (written_on (g.O.Write.contents c.converse.new.out) (g.E.Write.contents c.converse.new.err)))
    is c.in-Ok.ensures.comes)

pub returns-in-Ok-clause-unread : goal.returns-in-Ok-clause-unread
returns-in-Ok-clause-unread g c = rw c.judged.ensures.status (λ file first. inl (c.in-Ok.ensures.unread file first))

pub returns-in-Ok-clause-stopped : goal.returns-in-Ok-clause-stopped
returns-in-Ok-clause-stopped g c = rw (c.judged.ensures.status, c.judged.ensures.left) (λ ended.
    (c.converse.new.streams, console_unread _ _ _ c.in-Ok.simulated _ _ _ c.in-Ok.ensures.not_memory c.in-Ok.ensures.stream ended))

pub returns-in-Err-clause-stopped : goal.returns-in-Err-clause-stopped
returns-in-Err-clause-stopped g c = rw (c.judged-in-Err.ensures.status, c.judged-in-Err.ensures.left) (λ _. (
  c.end_failed.new.streams,
  is_failure c.end_failed.ensures.left (record {
    cause = c.in-Err.failure;
    failed_then = c.converse.new.streams;
    err_then = g.E.Write.contents c.converse.new.err;
    cut = c.in-Err.ensures.cut;
    last = c.end_failed.ensures.told;
    status_is = c.end_failed.ensures.status;
  }),
))

pub returns-in-Err-clause-told : goal.returns-in-Err-clause-told
returns-in-Err-clause-told g c = rw c.judged-in-Err.ensures.left (told_of_none _ _ _ _ _ _ _ c.end_failed.ensures.left)
