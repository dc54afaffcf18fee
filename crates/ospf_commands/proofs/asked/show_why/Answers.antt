use Rattle.std.proofs.Common.{◌≡◌, [], Ok, Some, refl}
use Rattle.ospf_files.proofs.Cut.{for_memory}
use Rattle.ospf_files.proofs.Written.{nothing_written, whatever}
use Rattle.ospf_files.specs.Streams.{IsOutputCut, no_room}
use Rattle.ospf_commands.specs.Asked.{IsWhyAnswered, is_explained, is_not_explained, is_on_no_link}
use Rattle.ospf_views.specs.Offered.{why_lines}
use Rattle.ospf_commands.specs.Printed.{IsPrintedBegun}
use Rattle.ospf_commands.proofs.Lent.{lent, not_lent, why_not_begun, why_said, why_unsaid}
use Rattle.ospf_commands.proofs.asked.show_why.Goals as goal

pub returns-in-Err-clause-explained : goal.returns-in-Err-clause-explained
returns-in-Err-clause-explained g c = record {
  text = [];
  is_so = is_not_explained c.in-Err.fault (not_lent c.args.simulation.now.world c.args.place.0 c.in-Err.fault c.in-Err.ensures) refl refl;
  written = nothing_written _;
}

pub returns-in_err-lines-clause-begun : goal.returns-in_err-lines-clause-begun
returns-in_err-lines-clause-begun g c =
    whatever _ (why_not_begun c.args.simulation.now c.args.place.0 c.args.place.1 c.args.neighbour c.in-Ok.lent.now (g.O.Write.contents c.args.out.now)
    (lent c.args.simulation.now.world c.args.place.0 c.in-Ok.lent c.in-Ok.ensures))

pub returns-in_err-lines-clause-cut : goal.returns-in_err-lines-clause-cut
returns-in_err-lines-clause-cut g c = for_memory c.from_residual.result (IsOutputCut c.args.streams.now) c.from_residual.ensures.1 no_room

pub returns-in_err-write-in-Some-clause-begun : goal.returns-in_err-write-in-Some-clause-begun
returns-in_err-write-in-Some-clause-begun g c =
    let said : why_lines c.args.simulation.now.world c.args.place.0 c.args.place.1 c.args.neighbour c.in-Ok.lent.now.area ≡ Some c.deref.result.now =
    rw c.deref.ensures (why_said c.in_ok-lines.field-0 c.in-Some.lines _ c.in-Some.is c.in_ok-lines.ensures) in
    let begun : IsPrintedBegun (IsWhyAnswered c.args.place.0 c.args.place.1 c.args.neighbour c.args.simulation.now) (g.O.Write.contents c.args.out.now) (g.O.Write.contents c.write.new.out) = record {
      answer = Ok tt;
      text = c.deref.result.now;
      is_so = is_explained c.in-Ok.lent.now (lent c.args.simulation.now.world c.args.place.0 c.in-Ok.lent c.in-Ok.ensures) said refl;
      begun = c.in_err-write-in-Some.ensures.begun;
    } in
    whatever _ begun

pub returns-in_ok-write-in-Some-clause-explained : goal.returns-in_ok-write-in-Some-clause-explained
returns-in_ok-write-in-Some-clause-explained g c =
    let said : why_lines c.args.simulation.now.world c.args.place.0 c.args.place.1 c.args.neighbour c.in-Ok.lent.now.area ≡ Some c.deref.result.now =
    rw c.deref.ensures (why_said c.in_ok-lines.field-0 c.in-Some.lines _ c.in-Some.is c.in_ok-lines.ensures) in
    record {
      text = c.deref.result.now;
      is_so = is_explained c.in-Ok.lent.now (lent c.args.simulation.now.world c.args.place.0 c.in-Ok.lent c.in-Ok.ensures) said refl;
      written = c.in_ok-write-in-Some.ensures.written;
    }

pub returns-in-None-clause-explained : goal.returns-in-None-clause-explained
returns-in-None-clause-explained g c = record {
  text = [];
  is_so = is_on_no_link c.in-Ok.lent.now (lent c.args.simulation.now.world c.args.place.0 c.in-Ok.lent c.in-Ok.ensures) (why_unsaid c.in_ok-lines.field-0 _ c.in-None.is c.in_ok-lines.ensures) refl refl;
  written = nothing_written _;
}
