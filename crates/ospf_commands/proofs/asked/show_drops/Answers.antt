use Rattle.std.proofs.Common.{◌≡◌, ◌∙◌, [], Ok, refl, sym}
use Rattle.ospf_files.proofs.Cut.{for_memory}
use Rattle.ospf_files.proofs.Written.{nothing_begun, nothing_written, whatever}
use Rattle.ospf_files.specs.Streams.{IsOutputCut, no_room}
use Rattle.ospf_journal.specs.Counted.{drop_lines}
use Rattle.ospf_commands.specs.Asked.{AreDropsShown, drops_are_shown, of_nobody, of_one_stopped}
use Rattle.ospf_commands.specs.Printed.{IsPrintedBegun}
use Rattle.ospf_commands.proofs.asked.show_drops.Goals as goal

pub returns-in-None-clause-shown : goal.returns-in-None-clause-shown
returns-in-None-clause-shown g c = record {
  text = [];
  is_so = of_nobody (c.in-None.ensures.none refl) refl refl;
  written = nothing_written _;
}

pub returns-then-not-runs-clause-shown : goal.returns-then-not-runs-clause-shown
returns-then-not-runs-clause-shown g c = record {
  text = [];
  is_so = of_one_stopped c.in-Some.slot.now c.in-Some.ensures.some (sym c.runs.ensures ∙ c.if-not-runs.true) refl refl;
  written = nothing_written _;
}

pub returns-in_err-lines-clause-begun : goal.returns-in_err-lines-clause-begun
returns-in_err-lines-clause-begun g c =
    let text = drop_lines c.in-Some.slot.now.drops in
    let begun : IsPrintedBegun (AreDropsShown c.args.router c.args.simulation.now) (g.O.Write.contents c.args.out.now) (g.O.Write.contents c.args.out.now) = record {
      answer = Ok tt;
      text = text;
      is_so = drops_are_shown c.in-Some.slot.now c.in-Some.ensures.some (sym c.runs.ensures ∙ c.if-not-runs.false) refl refl;
      begun = nothing_begun _ text;
    } in
    whatever _ begun

pub returns-in_err-lines-clause-cut : goal.returns-in_err-lines-clause-cut
returns-in_err-lines-clause-cut g c = for_memory c.from_residual.result (IsOutputCut c.args.streams.now) c.from_residual.ensures.1 no_room

pub returns-in_err-write-clause-begun : goal.returns-in_err-write-clause-begun
returns-in_err-write-clause-begun g c =
    let told : c.deref.result.now ≡ drop_lines c.in-Some.slot.now.drops = c.deref.ensures ∙ rw c.drops.ensures at c.in_ok-lines.ensures in
    let begun : IsPrintedBegun (AreDropsShown c.args.router c.args.simulation.now) (g.O.Write.contents c.args.out.now) (g.O.Write.contents c.write.new.out) = record {
      answer = Ok tt;
      text = c.deref.result.now;
      is_so = drops_are_shown c.in-Some.slot.now c.in-Some.ensures.some (sym c.runs.ensures ∙ c.if-not-runs.false) refl told;
      begun = c.in_err-write.ensures.begun;
    } in
    whatever _ begun

pub returns-clause-shown : goal.returns-clause-shown
returns-clause-shown g c =
    let told : c.deref.result.now ≡ drop_lines c.in-Some.slot.now.drops = c.deref.ensures ∙ rw c.drops.ensures at c.in_ok-lines.ensures in
    record {
      text = c.deref.result.now;
      is_so = drops_are_shown c.in-Some.slot.now c.in-Some.ensures.some (sym c.runs.ensures ∙ c.if-not-runs.false) refl told;
      written = c.in_ok-write.ensures.written;
    }
