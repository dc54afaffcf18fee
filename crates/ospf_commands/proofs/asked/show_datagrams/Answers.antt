use Rattle.std.proofs.Common.{◌≡◌, ◌∙◌, [], Ok, ap, refl}
use Rattle.ospf_files.proofs.Cut.{for_memory}
use Rattle.ospf_files.proofs.Written.{nothing_begun, nothing_written, whatever}
use Rattle.ospf_files.specs.Streams.{IsOutputCut, no_room}
use Rattle.ospf_views.specs.Datagrams.{datagram_lines}
use Rattle.ospf_commands.specs.Asked.{AreDatagramsShown, are_not_shown, are_shown, most_shown}
use Rattle.ospf_commands.specs.Printed.{IsPrintedBegun}
use Rattle.ospf_commands.proofs.Lent.{lent, not_lent}
use Rattle.ospf_commands.proofs.asked.show_datagrams.Goals as goal

pub returns-in-Err-clause-shown : goal.returns-in-Err-clause-shown
returns-in-Err-clause-shown g c = record {
  text = [];
  is_so = are_not_shown c.in-Err.fault (not_lent c.args.simulation.now.world c.args.router c.in-Err.fault c.in-Err.ensures) refl refl;
  written = nothing_written _;
}

pub returns-in_err-lines-clause-begun : goal.returns-in_err-lines-clause-begun
returns-in_err-lines-clause-begun g c =
    let text = datagram_lines c.args.simulation.now.world c.args.router (most_shown c.args.most) c.in-Ok.lent.now.area in
    let begun : IsPrintedBegun (AreDatagramsShown c.args.router c.args.most c.args.simulation.now) (g.O.Write.contents c.args.out.now) (g.O.Write.contents c.args.out.now) = record {
      answer = Ok tt;
      text = text;
      is_so = are_shown c.in-Ok.lent.now (lent c.args.simulation.now.world c.args.router c.in-Ok.lent c.in-Ok.ensures) refl refl;
      begun = nothing_begun _ text;
    } in
    whatever _ begun

pub returns-in_err-lines-clause-cut : goal.returns-in_err-lines-clause-cut
returns-in_err-lines-clause-cut g c = for_memory c.from_residual.result (IsOutputCut c.args.streams.now) c.from_residual.ensures.1 no_room

pub returns-in_err-write-clause-begun : goal.returns-in_err-write-clause-begun
returns-in_err-write-clause-begun g c =
    let told : c.deref.result.now ≡ datagram_lines c.args.simulation.now.world c.args.router (most_shown c.args.most) c.in-Ok.lent.now.area =
    c.deref.ensures ∙ c.in_ok-lines.ensures
    ∙ ap (λ n. datagram_lines c.args.simulation.now.world c.args.router n c.in-Ok.lent.now.area) c.unwrap_or-most.ensures in
    let begun : IsPrintedBegun (AreDatagramsShown c.args.router c.args.most c.args.simulation.now) (g.O.Write.contents c.args.out.now) (g.O.Write.contents c.write.new.out) = record {
      answer = Ok tt;
      text = c.deref.result.now;
      is_so = are_shown c.in-Ok.lent.now (lent c.args.simulation.now.world c.args.router c.in-Ok.lent c.in-Ok.ensures) refl told;
      begun = c.in_err-write.ensures.begun;
    } in
    whatever _ begun

pub returns-clause-shown : goal.returns-clause-shown
returns-clause-shown g c =
    let told : c.deref.result.now ≡ datagram_lines c.args.simulation.now.world c.args.router (most_shown c.args.most) c.in-Ok.lent.now.area =
    c.deref.ensures ∙ c.in_ok-lines.ensures
    ∙ ap (λ n. datagram_lines c.args.simulation.now.world c.args.router n c.in-Ok.lent.now.area) c.unwrap_or-most.ensures in
    record {
      text = c.deref.result.now;
      is_so = are_shown c.in-Ok.lent.now (lent c.args.simulation.now.world c.args.router c.in-Ok.lent c.in-Ok.ensures) refl told;
      written = c.in_ok-write.ensures.written;
    }
