use Rattle.std.proofs.Common.{◌≡◌, ◌∙◌, List, Option, ℕ, ap, inl, inr, refl}
use Rattle.ospf_files.specs.Report.{IsLineWritten}
use Rattle.ospf_files.specs.Status.{code_of, failure_line}
use Rattle.ospf_files.specs.Streams.{IsTold}
use Rattle.ospf_files.specs.declared.status.Failure.{Failure}
use Rattle.ospf_files.specs.declared.streams.FailedStreams.{FailedStreams}
use Rattle.ospf_files.proofs.Written.{whole_begun}
use Rattle.ospf_files.proofs.report.print_noted.Goals as goal

-- the line of a failure, as far as it was written
line_written : (before after : FailedStreams) (cause : Failure) (old new : Option (List ℕ))
    → IsTold before after old new (failure_line cause) → IsLineWritten after cause old new
line_written before after cause old new (inl (same, whole)) =
    record { begun = whole_begun old new (failure_line cause) whole; whole = λ _. whole }
line_written before after cause old new (inr (cut, begun)) =
    record { begun = begun; whole = λ unfailed. absurd (unfailed (ap (λ (s : FailedStreams). s.error) cut)) }

pub returns-in-Ok-write_report : goal.returns-in-Ok-write_report
returns-in-Ok-write_report g c = inl (record {
  done = c.in-Ok.report;
  report_is = c.in-Ok.is;
  written = c.in-Ok-write_report.ensures.written;
  status_is = refl;
})

pub returns-in-Ok : goal.returns-in-Ok
returns-in-Ok g c = inr (record {
  cause = c.in-Err-write_report.failure;
  failed_then = c.write_report.new.streams;
  err_then = g.E.Write.contents c.write_report.new.err;
  cut = rw c.in-Ok.is c.in-Err-write_report.ensures.cut;
  line = line_written c.write_report.new.streams c.tell.new.streams c.in-Err-write_report.failure (g.E.Write.contents c.write_report.new.err) (g.E.Write.contents c.tell.new.err) c.tell.ensures.told;
  status_is = c.code.ensures ∙ ap code_of c.tell.ensures.status;
})

pub returns : goal.returns
returns g c = inr (record {
  cause = c.in-Err.failure;
  failed_then = c.args.streams.now;
  err_then = g.E.Write.contents c.args.err.now;
  cut = rw c.in-Err.is (refl, refl, refl);
  line = line_written c.args.streams.now c.tell-in-Err.new.streams c.in-Err.failure (g.E.Write.contents c.args.err.now) (g.E.Write.contents c.tell-in-Err.new.err) c.tell-in-Err.ensures.told;
  status_is = c.code-in-Err.ensures ∙ ap code_of c.tell-in-Err.ensures.status;
})
