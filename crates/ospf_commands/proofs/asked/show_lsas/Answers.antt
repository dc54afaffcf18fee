use Rattle.std.proofs.Common.{[], Ok, subst, sym, refl}
use Rattle.ospf_files.proofs.Written.{nothing_written, whatever}
use Rattle.ospf_commands.specs.Asked.{AreLsasBelow, AreLsasShown, lsas_are_not_shown, lsas_are_shown, no_room_for_lsas}
use Rattle.ospf_commands.specs.Printed.{IsPrintedBegun}
use Rattle.ospf_commands.proofs.Lent.{lent, not_lent}
use Rattle.ospf_commands.proofs.asked.show_lsas.Goals as goal

pub returns-in-Err-clause-shown : goal.returns-in-Err-clause-shown
returns-in-Err-clause-shown g c = record {
  text = [];
  is_so = lsas_are_not_shown c.in-Err.fault (not_lent c.args.simulation.now.world c.args.router c.in-Err.fault c.in-Err.ensures) refl refl;
  written = nothing_written _;
}

pub returns-in_default-clause-shown : goal.returns-in_default-clause-shown
returns-in_default-clause-shown g c = record { text = []; is_so = no_room_for_lsas refl refl; written = nothing_written _ }

pub returns-in_err-write-clause-begun : goal.returns-in_err-write-clause-begun
returns-in_err-write-clause-begun g c =
    let begun : IsPrintedBegun (AreLsasShown c.args.router c.args.simulation.now) (g.O.Write.contents c.args.out.now) (g.O.Write.contents c.write.new.out) = record {
      answer = Ok tt;
      text = c.deref.result.now;
      is_so = lsas_are_shown c.in-Ok.lent.now (lent c.args.simulation.now.world c.args.router c.in-Ok.lent c.in-Ok.ensures) refl (subst (AreLsasBelow c.args.simulation.now.is_labelled c.args.router c.in-Ok.lent.now.area) (sym c.deref.ensures) c.in-Ok-lsa_lines.ensures);
      begun = c.in_err-write.ensures.begun;
    } in
    whatever _ begun

pub returns-clause-shown : goal.returns-clause-shown
returns-clause-shown g c = record {
  text = c.deref.result.now;
  is_so = lsas_are_shown c.in-Ok.lent.now (lent c.args.simulation.now.world c.args.router c.in-Ok.lent c.in-Ok.ensures) refl (subst (AreLsasBelow c.args.simulation.now.is_labelled c.args.router c.in-Ok.lent.now.area) (sym c.deref.ensures) c.in-Ok-lsa_lines.ensures);
  written = c.in_ok-write.ensures.written;
}
