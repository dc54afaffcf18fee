use Rattle.std.proofs.Common.{◌≡◌, ◌∙◌, sym, subst, [], ◌++◌, Ok, true, false, refl}
use Rattle.std.specs.Io.KnownBytes.{Appends}
use Rattle.ospf_files.proofs.Cut.{for_memory}
use Rattle.ospf_files.proofs.Written.{nothing_begun, nothing_written, whatever}
use Rattle.ospf_files.specs.Streams.{IsBegun, IsOutputCut, no_room}
use Rattle.ospf_script.specs.declared.expected.Expected.TheVariants as expected
use Rattle.ospf_commands.specs.Expectations.{unmet_line}
use Rattle.ospf_commands.specs.Judged.{JudgedSo, arrives, has_arrived, has_not_arrived, is_no_walk}
use Rattle.ospf_commands.specs.Printed.{IsPrintedBegun}
use Rattle.ospf_commands.specs.Shown.{walk_line}
use Rattle.ospf_commands.proofs.judge.judge_walk.Goals as goal

pub returns-in-Err-clause-judged : goal.returns-in-Err-clause-judged
returns-in-Err-clause-judged g c =
    record { text = []; is_so = (true, is_no_walk c.in-Err.fault c.in-Err.ensures.walks refl refl refl, refl); written = nothing_written _ }

pub returns-then-arrives-clause-judged : goal.returns-then-arrives-clause-judged
returns-then-arrives-clause-judged g c =
    let met : arrives c.args.cost c.in-Ok.walk ≡ true = sym c.arrives.ensures ∙ c.if-arrives.true in
    record { text = []; is_so = (false, has_arrived c.in-Ok.walk c.in-Ok.ensures.walks met refl refl refl, refl); written = nothing_written _ }

pub returns-in_err-lines-clause-begun : goal.returns-in_err-lines-clause-begun
returns-in_err-lines-clause-begun g c =
    let unmet : arrives c.args.cost c.in-Ok.walk ≡ false = sym c.arrives.ensures ∙ c.if-arrives.false in
    let begun : IsPrintedBegun (JudgedSo (expected.Walk c.args.ends.0 c.args.ends.1 c.args.cost) c.args.simulation.now (record c.args.simulation.now { is_unmet = true })) (g.O.Write.contents c.args.out.now) (g.O.Write.contents c.args.out.now) = record {
      answer = Ok tt;
      text = unmet_line (expected.Walk c.args.ends.0 c.args.ends.1 c.args.cost) ++ walk_line c.in-Ok.walk;
      is_so = (true, has_not_arrived c.in-Ok.walk c.in-Ok.ensures.walks unmet refl refl refl, refl);
      begun = nothing_begun _ _;
    } in
    whatever _ begun

pub returns-in_err-lines-clause-cut : goal.returns-in_err-lines-clause-cut
returns-in_err-lines-clause-cut g c = for_memory c.from_residual.result (IsOutputCut c.args.streams.now) c.from_residual.ensures.1 no_room

pub returns-in_err-write-clause-begun : goal.returns-in_err-write-clause-begun
returns-in_err-write-clause-begun g c =
    let unmet : arrives c.args.cost c.in-Ok.walk ≡ false = sym c.arrives.ensures ∙ c.if-arrives.false in
    let same : c.deref.result.now ≡ unmet_line (expected.Walk c.args.ends.0 c.args.ends.1 c.args.cost) ++ walk_line c.in-Ok.walk = c.deref.ensures ∙ c.in_ok-lines.ensures in
    let begun : IsPrintedBegun (JudgedSo (expected.Walk c.args.ends.0 c.args.ends.1 c.args.cost) c.args.simulation.now (record c.args.simulation.now { is_unmet = true })) (g.O.Write.contents c.args.out.now) (g.O.Write.contents c.write.new.out) = record {
      answer = Ok tt;
      text = unmet_line (expected.Walk c.args.ends.0 c.args.ends.1 c.args.cost) ++ walk_line c.in-Ok.walk;
      is_so = (true, has_not_arrived c.in-Ok.walk c.in-Ok.ensures.walks unmet refl refl refl, refl);
      begun = subst (IsBegun (g.O.Write.contents c.args.out.now) (g.O.Write.contents c.write.new.out)) same c.in_err-write.ensures.begun;
    } in
    whatever _ begun

pub returns-clause-judged : goal.returns-clause-judged
returns-clause-judged g c =
    let unmet : arrives c.args.cost c.in-Ok.walk ≡ false = sym c.arrives.ensures ∙ c.if-arrives.false in
    let same : c.deref.result.now ≡ unmet_line (expected.Walk c.args.ends.0 c.args.ends.1 c.args.cost) ++ walk_line c.in-Ok.walk = c.deref.ensures ∙ c.in_ok-lines.ensures in
    record {
      text = unmet_line (expected.Walk c.args.ends.0 c.args.ends.1 c.args.cost) ++ walk_line c.in-Ok.walk;
      is_so = (true, has_not_arrived c.in-Ok.walk c.in-Ok.ensures.walks unmet refl refl refl, refl);
      written = subst (Appends (g.O.Write.contents c.args.out.now) (g.O.Write.contents c.write.new.out)) same c.in_ok-write.ensures.written;
    }
