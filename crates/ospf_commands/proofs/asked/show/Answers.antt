use Rattle.std.proofs.Common.{[], Ok, refl}
use Rattle.ospf_files.proofs.Written.{nothing_written, whatever}
use Rattle.ospf_commands.specs.Asked.{IsViewShown, is_not_shown, is_shown}
use Rattle.ospf_commands.specs.Printed.{IsPrintedBegun}
use Rattle.ospf_views.specs.Shown.{shown_lines}
use Rattle.ospf_commands.proofs.Lent.{lent, not_lent}
use Rattle.ospf_commands.proofs.asked.show.Goals as goal

pub returns-in_err-write_shown-in-Ok-clause-begun : goal.returns-in_err-write_shown-in-Ok-clause-begun
returns-in_err-write_shown-in-Ok-clause-begun g c =
    let begun : IsPrintedBegun (IsViewShown c.args.view c.args.router c.args.simulation.now) (g.O.Write.contents c.args.out.now) (g.O.Write.contents c.write_shown.new.out) = record {
      answer = Ok tt;
      text = shown_lines c.args.simulation.now.is_labelled c.args.view c.args.router c.in-Ok.lent.now;
      is_so = is_shown c.in-Ok.lent.now (lent c.args.simulation.now.world c.args.router c.in-Ok.lent c.in-Ok.ensures) refl refl;
      begun = c.in_err-write_shown-in-Ok.ensures.begun;
    } in
    whatever _ begun

pub returns-in_ok-write_shown-in-Ok-clause-shown : goal.returns-in_ok-write_shown-in-Ok-clause-shown
returns-in_ok-write_shown-in-Ok-clause-shown g c = record {
  text = shown_lines c.args.simulation.now.is_labelled c.args.view c.args.router c.in-Ok.lent.now;
  is_so = is_shown c.in-Ok.lent.now (lent c.args.simulation.now.world c.args.router c.in-Ok.lent c.in-Ok.ensures) refl refl;
  written = c.in_ok-write_shown-in-Ok.ensures.written;
}

pub returns-in-Err-clause-shown : goal.returns-in-Err-clause-shown
returns-in-Err-clause-shown g c = record {
  text = [];
  is_so = is_not_shown c.in-Err.fault (not_lent c.args.simulation.now.world c.args.router c.in-Err.fault c.in-Err.ensures) refl refl;
  written = nothing_written _;
}
