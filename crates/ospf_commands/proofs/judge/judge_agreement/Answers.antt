use Rattle.std.proofs.Common.{◌≡◌, ◌∙◌, ap, subst, sym, List, [], ◌++◌, None, Ok, Some, false, true, refl}
use Rattle.std.specs.Io.KnownBytes.{Appends}
use Rattle.ospf_files.proofs.Cut.{for_memory}
use Rattle.ospf_files.proofs.Written.{nothing_begun, nothing_written, whatever}
use Rattle.ospf_files.specs.Streams.{IsBegun, IsOutputCut, no_room}
use Rattle.ospf_script.specs.declared.expected.Expected.TheVariants as expected
use Rattle.ospf_commands.specs.Expectations.{unmet_line}
use Rattle.ospf_commands.specs.Judged.{AreFirstToDiffer, JudgedSo, apart_line, some_run, they_agree, they_differ}
use Rattle.ospf_commands.specs.Printed.{IsPrintedBegun}
use Rattle.ospf_commands.specs.Worlds.{SlotValue}
use Rattle.ospf_commands.proofs.judge.judge_agreement.Goals as goal

pub returns-in-Ok-None-clause-judged : goal.returns-in-Ok-None-clause-judged
returns-in-Ok-None-clause-judged g c =
    let some : some_run c.args.simulation.now.world.slots ≡ true = sym (ap some_run c.slots.ensures) ∙ sym c.some_run.ensures ∙ c.if-not-some_run.false in
    let agree : AreFirstToDiffer c.args.simulation.now.world.slots None = subst (λ (slots : List SlotValue). AreFirstToDiffer slots None) c.slots-2.ensures (subst (AreFirstToDiffer c.slots-2.result.now) c.in-Ok-None.field-0-is c.in-Ok-None.ensures) in
    record { text = []; is_so = (false, they_agree some agree refl refl refl, refl); written = nothing_written _ }

pub returns-in_err-lines-in-Ok-Some-clause-begun : goal.returns-in_err-lines-in-Ok-Some-clause-begun
returns-in_err-lines-in-Ok-Some-clause-begun g c =
    let apart : AreFirstToDiffer c.args.simulation.now.world.slots (Some c.in-Ok-Some.two) = subst (λ (slots : List SlotValue). AreFirstToDiffer slots (Some c.in-Ok-Some.two)) c.slots-2.ensures (subst (AreFirstToDiffer c.slots-2.result.now) c.in-Ok-Some.field-0-is c.in-Ok-Some.ensures) in
    let begun : IsPrintedBegun (JudgedSo expected.Agree c.args.simulation.now (record c.args.simulation.now { is_unmet = true })) (g.O.Write.contents c.args.out.now) (g.O.Write.contents c.args.out.now) = record {
      answer = Ok tt;
      text = unmet_line expected.Agree ++ apart_line c.in-Ok-Some.two;
      is_so = (true, they_differ c.in-Ok-Some.two apart refl refl refl, refl);
      begun = nothing_begun _ _;
    } in
    whatever _ begun

pub returns-in_err-lines-in-Ok-Some-clause-cut : goal.returns-in_err-lines-in-Ok-Some-clause-cut
returns-in_err-lines-in-Ok-Some-clause-cut g c = for_memory c.from_residual.result (IsOutputCut c.args.streams.now) c.from_residual.ensures.1 no_room

pub returns-in_err-write-in-Ok-Some-clause-begun : goal.returns-in_err-write-in-Ok-Some-clause-begun
returns-in_err-write-in-Ok-Some-clause-begun g c =
    let apart : AreFirstToDiffer c.args.simulation.now.world.slots (Some c.in-Ok-Some.two) = subst (λ (slots : List SlotValue). AreFirstToDiffer slots (Some c.in-Ok-Some.two)) c.slots-2.ensures (subst (AreFirstToDiffer c.slots-2.result.now) c.in-Ok-Some.field-0-is c.in-Ok-Some.ensures) in
    let same : c.deref.result.now ≡ unmet_line expected.Agree ++ apart_line c.in-Ok-Some.two = c.deref.ensures ∙ c.in_ok-lines-in-Ok-Some.ensures in
    let begun : IsPrintedBegun (JudgedSo expected.Agree c.args.simulation.now (record c.args.simulation.now { is_unmet = true })) (g.O.Write.contents c.args.out.now) (g.O.Write.contents c.write.new.out) = record {
      answer = Ok tt;
      text = unmet_line expected.Agree ++ apart_line c.in-Ok-Some.two;
      is_so = (true, they_differ c.in-Ok-Some.two apart refl refl refl, refl);
      begun = subst (IsBegun (g.O.Write.contents c.args.out.now) (g.O.Write.contents c.write.new.out)) same c.in_err-write-in-Ok-Some.ensures.begun;
    } in
    whatever _ begun

pub returns-in_ok-write-in-Ok-Some-clause-judged : goal.returns-in_ok-write-in-Ok-Some-clause-judged
returns-in_ok-write-in-Ok-Some-clause-judged g c =
    let apart : AreFirstToDiffer c.args.simulation.now.world.slots (Some c.in-Ok-Some.two) = subst (λ (slots : List SlotValue). AreFirstToDiffer slots (Some c.in-Ok-Some.two)) c.slots-2.ensures (subst (AreFirstToDiffer c.slots-2.result.now) c.in-Ok-Some.field-0-is c.in-Ok-Some.ensures) in
    let same : c.deref.result.now ≡ unmet_line expected.Agree ++ apart_line c.in-Ok-Some.two = c.deref.ensures ∙ c.in_ok-lines-in-Ok-Some.ensures in
    record {
      text = unmet_line expected.Agree ++ apart_line c.in-Ok-Some.two;
      is_so = (true, they_differ c.in-Ok-Some.two apart refl refl refl, refl);
      written = subst (Appends (g.O.Write.contents c.args.out.now) (g.O.Write.contents c.write.new.out)) same c.in_ok-write-in-Ok-Some.ensures.written;
    }
