use Rattle.std.proofs.Common.{[], Ok, Some, refl}
use Rattle.ospf_files.proofs.Written.{nothing_written, whatever}
use Rattle.ospf_commands.specs.Asked.{IsWalked, is_not_walked, is_walked}
use Rattle.ospf_commands.specs.Printed.{IsPrintedBegun}
use Rattle.ospf_commands.specs.Shown.{walked_lines}
use Rattle.ospf_commands.proofs.asked.show_walk.Goals as goal

pub returns-in_err-written-in-Ok-clause-begun : goal.returns-in_err-written-in-Ok-clause-begun
returns-in_err-written-in-Ok-clause-begun g c =
    let begun : IsPrintedBegun (IsWalked c.args.ends.0 c.args.ends.1 c.args.choices.now c.args.simulation.now (record c.args.simulation.now { walk = Some c.in-Ok.walk })) (g.O.Write.contents c.args.out.now) (g.O.Write.contents c.write_walked-written.new.out) = record {
      answer = Ok tt;
      text = walked_lines c.args.simulation.now.is_labelled c.args.ends.0 c.args.ends.1 c.in-Ok.walk;
      is_so = is_walked c.in-Ok.walk c.in-Ok.ensures.walks refl refl refl;
      begun = c.in_err-written-in-Ok.ensures.begun;
    } in
    whatever _ begun

pub returns-in_ok-written-in-Ok-clause-walked : goal.returns-in_ok-written-in-Ok-clause-walked
returns-in_ok-written-in-Ok-clause-walked g c = record {
  text = walked_lines c.args.simulation.now.is_labelled c.args.ends.0 c.args.ends.1 c.in-Ok.walk;
  is_so = is_walked c.in-Ok.walk c.in-Ok.ensures.walks refl refl refl;
  written = c.in_ok-written-in-Ok.ensures.written;
}

pub returns-in-Err-clause-walked : goal.returns-in-Err-clause-walked
returns-in-Err-clause-walked g c = record {
  text = [];
  is_so = is_not_walked c.in-Err.fault c.in-Err.ensures.walks refl refl refl;
  written = nothing_written _;
}
