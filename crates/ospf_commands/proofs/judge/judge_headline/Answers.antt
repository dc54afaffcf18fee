use Rattle.std.proofs.Common.{◌≡◌, ◌∙◌, subst, [], ◌++◌, None, Ok, Some, false, true, refl}
use Rattle.std.specs.Io.KnownBytes.{Appends}
use Rattle.ospf_files.proofs.Cut.{for_memory}
use Rattle.ospf_files.proofs.Written.{nothing_begun, nothing_written, whatever}
use Rattle.ospf_files.specs.Streams.{IsBegun, IsOutputCut, no_room}
use Rattle.ospf_script.specs.declared.expected.Expected.TheVariants as expected
use Rattle.ospf_commands.specs.Expectations.{unmet_line}
use Rattle.ospf_commands.specs.Judged.{JudgedSo, headline_fails, headline_holds, headline_is_not_judged}
use Rattle.ospf_commands.specs.Premise.{IsPremise}
use Rattle.ospf_views.specs.Disagreements.{from_line}
use Rattle.ospf_commands.specs.Printed.{IsPrintedBegun}
use Rattle.ospf_commands.proofs.judge.judge_headline.Goals as goal

pub returns-in-Ok-None-clause-judged : goal.returns-in-Ok-None-clause-judged
returns-in-Ok-None-clause-judged g c =
    let holds : IsPremise c.args.router c.args.simulation.now.world (Ok None) = subst (λ found. IsPremise c.args.router c.args.simulation.now.world (Ok found)) c.in-Ok-None.field-0-is c.in-Ok-None.ensures in
    record { text = []; is_so = (false, headline_holds holds refl refl refl, refl); written = nothing_written _ }

pub returns-in_err-lines-in-Ok-Some-clause-begun : goal.returns-in_err-lines-in-Ok-Some-clause-begun
returns-in_err-lines-in-Ok-Some-clause-begun g c =
    let fails : IsPremise c.args.router c.args.simulation.now.world (Ok (Some c.in-Ok-Some.found)) = subst (λ found. IsPremise c.args.router c.args.simulation.now.world (Ok found)) c.in-Ok-Some.field-0-is c.in-Ok-Some.ensures in
    let begun : IsPrintedBegun (JudgedSo (expected.Headline c.args.router) c.args.simulation.now (record c.args.simulation.now { is_unmet = true })) (g.O.Write.contents c.args.out.now) (g.O.Write.contents c.args.out.now) = record {
      answer = Ok tt;
      text = unmet_line (expected.Headline c.args.router) ++ from_line c.in-Ok-Some.found;
      is_so = (true, headline_fails c.in-Ok-Some.found fails refl refl refl, refl);
      begun = nothing_begun _ _;
    } in
    whatever _ begun

pub returns-in_err-lines-in-Ok-Some-clause-cut : goal.returns-in_err-lines-in-Ok-Some-clause-cut
returns-in_err-lines-in-Ok-Some-clause-cut g c = for_memory c.from_residual.result (IsOutputCut c.args.streams.now) c.from_residual.ensures.1 no_room

pub returns-in_err-write-in-Ok-Some-clause-begun : goal.returns-in_err-write-in-Ok-Some-clause-begun
returns-in_err-write-in-Ok-Some-clause-begun g c =
    let fails : IsPremise c.args.router c.args.simulation.now.world (Ok (Some c.in-Ok-Some.found)) = subst (λ found. IsPremise c.args.router c.args.simulation.now.world (Ok found)) c.in-Ok-Some.field-0-is c.in-Ok-Some.ensures in
    let same : c.deref.result.now ≡ unmet_line (expected.Headline c.args.router) ++ from_line c.in-Ok-Some.found = c.deref.ensures ∙ c.in_ok-lines-in-Ok-Some.ensures in
    let begun : IsPrintedBegun (JudgedSo (expected.Headline c.args.router) c.args.simulation.now (record c.args.simulation.now { is_unmet = true })) (g.O.Write.contents c.args.out.now) (g.O.Write.contents c.write.new.out) = record {
      answer = Ok tt;
      text = unmet_line (expected.Headline c.args.router) ++ from_line c.in-Ok-Some.found;
      is_so = (true, headline_fails c.in-Ok-Some.found fails refl refl refl, refl);
      begun = subst (IsBegun (g.O.Write.contents c.args.out.now) (g.O.Write.contents c.write.new.out)) same c.in_err-write-in-Ok-Some.ensures.begun;
    } in
    whatever _ begun

pub returns-in_ok-write-in-Ok-Some-clause-judged : goal.returns-in_ok-write-in-Ok-Some-clause-judged
returns-in_ok-write-in-Ok-Some-clause-judged g c =
    let fails : IsPremise c.args.router c.args.simulation.now.world (Ok (Some c.in-Ok-Some.found)) = subst (λ found. IsPremise c.args.router c.args.simulation.now.world (Ok found)) c.in-Ok-Some.field-0-is c.in-Ok-Some.ensures in
    let same : c.deref.result.now ≡ unmet_line (expected.Headline c.args.router) ++ from_line c.in-Ok-Some.found = c.deref.ensures ∙ c.in_ok-lines-in-Ok-Some.ensures in
    record {
      text = unmet_line (expected.Headline c.args.router) ++ from_line c.in-Ok-Some.found;
      is_so = (true, headline_fails c.in-Ok-Some.found fails refl refl refl, refl);
      written = subst (Appends (g.O.Write.contents c.args.out.now) (g.O.Write.contents c.write.new.out)) same c.in_ok-write-in-Ok-Some.ensures.written;
    }

pub returns-in-Err-clause-judged : goal.returns-in-Err-clause-judged
returns-in-Err-clause-judged g c =
    record { text = []; is_so = (true, headline_is_not_judged c.in-Err.fault c.in-Err.ensures refl refl refl, refl); written = nothing_written _ }
