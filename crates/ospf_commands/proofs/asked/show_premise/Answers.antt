use Rattle.std.proofs.Common.{◌≡◌, ◌∙◌, [], Ok, refl}
use Rattle.ospf_files.proofs.Cut.{for_memory}
use Rattle.ospf_files.proofs.Written.{nothing_begun, nothing_written, whatever}
use Rattle.ospf_files.specs.Streams.{IsOutputCut, no_room}
use Rattle.ospf_commands.specs.Asked.{IsWhyHeadlineAnswered, premise_is_not_told, premise_is_told}
use Rattle.ospf_views.specs.Disagreements.{why_headline_line}
use Rattle.ospf_commands.specs.Printed.{IsPrintedBegun}
use Rattle.ospf_commands.proofs.asked.show_premise.Goals as goal

pub returns-in-Err-clause-answered : goal.returns-in-Err-clause-answered
returns-in-Err-clause-answered g c = record {
  text = [];
  is_so = premise_is_not_told c.in-Err.fault c.in-Err.ensures refl refl;
  written = nothing_written _;
}

pub returns-in_err-line-clause-begun : goal.returns-in_err-line-clause-begun
returns-in_err-line-clause-begun g c =
    let text = why_headline_line c.args.router c.in-Ok.found in
    let begun : IsPrintedBegun (IsWhyHeadlineAnswered c.args.router c.args.simulation.now) (g.O.Write.contents c.args.out.now) (g.O.Write.contents c.args.out.now) = record {
      answer = Ok tt;
      text = text;
      is_so = premise_is_told c.in-Ok.found c.in-Ok.ensures refl refl;
      begun = nothing_begun _ text;
    } in
    whatever _ begun

pub returns-in_err-line-clause-cut : goal.returns-in_err-line-clause-cut
returns-in_err-line-clause-cut g c = for_memory c.from_residual.result (IsOutputCut c.args.streams.now) c.from_residual.ensures.1 no_room

pub returns-in_err-write-clause-begun : goal.returns-in_err-write-clause-begun
returns-in_err-write-clause-begun g c =
    let told : c.deref.result.now ≡ why_headline_line c.args.router c.in-Ok.found = c.deref.ensures ∙ c.in_ok-line.ensures in
    let begun : IsPrintedBegun (IsWhyHeadlineAnswered c.args.router c.args.simulation.now) (g.O.Write.contents c.args.out.now) (g.O.Write.contents c.write.new.out) = record {
      answer = Ok tt;
      text = c.deref.result.now;
      is_so = premise_is_told c.in-Ok.found c.in-Ok.ensures refl told;
      begun = c.in_err-write.ensures.begun;
    } in
    whatever _ begun

pub returns-clause-answered : goal.returns-clause-answered
returns-clause-answered g c =
    let told : c.deref.result.now ≡ why_headline_line c.args.router c.in-Ok.found = c.deref.ensures ∙ c.in_ok-line.ensures in
    record {
      text = c.deref.result.now;
      is_so = premise_is_told c.in-Ok.found c.in-Ok.ensures refl told;
      written = c.in_ok-write.ensures.written;
    }
