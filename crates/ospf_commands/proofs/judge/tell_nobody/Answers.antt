use Rattle.std.proofs.Common.{◌≡◌, ◌∙◌, subst, ◌++◌, Ok, true, refl}
use Rattle.std.specs.Io.KnownBytes.{Appends}
use Rattle.ospf_files.proofs.Cut.{for_memory}
use Rattle.ospf_files.proofs.Written.{nothing_begun, whatever}
use Rattle.ospf_files.specs.Streams.{IsBegun, IsOutputCut, no_room}
use Rattle.ospf_script.specs.declared.expected.Expected.TheVariants as expected
use Rattle.ospf_commands.specs.Expectations.{unmet_line}
use Rattle.ospf_commands.specs.Judged.{JudgedSo, nobody_line, nobody_runs}
use Rattle.ospf_commands.specs.Printed.{IsPrintedBegun}
use Rattle.ospf_commands.proofs.judge.tell_nobody.Goals as goal

pub returns-in_err-lines-clause-begun : goal.returns-in_err-lines-clause-begun
returns-in_err-lines-clause-begun g c =
    let begun : IsPrintedBegun (JudgedSo expected.Agree c.args.simulation.now (record c.args.simulation.now { is_unmet = true })) (g.O.Write.contents c.args.out.now) (g.O.Write.contents c.args.out.now) = record {
      answer = Ok tt;
      text = unmet_line expected.Agree ++ nobody_line;
      is_so = (true, nobody_runs c.requires refl refl refl, refl);
      begun = nothing_begun _ _;
    } in
    whatever _ begun

pub returns-in_err-lines-clause-cut : goal.returns-in_err-lines-clause-cut
returns-in_err-lines-clause-cut g c = for_memory c.from_residual.result (IsOutputCut c.args.streams.now) c.from_residual.ensures.1 no_room

pub returns-in_err-write-clause-begun : goal.returns-in_err-write-clause-begun
returns-in_err-write-clause-begun g c =
    let same : c.deref.result.now ≡ unmet_line expected.Agree ++ nobody_line = c.deref.ensures ∙ c.in_ok-lines.ensures in
    let begun : IsPrintedBegun (JudgedSo expected.Agree c.args.simulation.now (record c.args.simulation.now { is_unmet = true })) (g.O.Write.contents c.args.out.now) (g.O.Write.contents c.write.new.out) = record {
      answer = Ok tt;
      text = unmet_line expected.Agree ++ nobody_line;
      is_so = (true, nobody_runs c.requires refl refl refl, refl);
      begun = subst (IsBegun (g.O.Write.contents c.args.out.now) (g.O.Write.contents c.write.new.out)) same c.in_err-write.ensures.begun;
    } in
    whatever _ begun

pub returns-clause-judged : goal.returns-clause-judged
returns-clause-judged g c =
    let same : c.deref.result.now ≡ unmet_line expected.Agree ++ nobody_line = c.deref.ensures ∙ c.in_ok-lines.ensures in
    record {
      text = unmet_line expected.Agree ++ nobody_line;
      is_so = (true, nobody_runs c.requires refl refl refl, refl);
      written = subst (Appends (g.O.Write.contents c.args.out.now) (g.O.Write.contents c.write.new.out)) same c.in_ok-write.ensures.written;
    }
