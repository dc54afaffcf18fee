use Rattle.std.proofs.Common.{◌≡◌, ◌∙◌, sym, subst, Bool, Ok, true, refl}
use Rattle.std.specs.Io.KnownBytes.{Appends}
use Rattle.ospf_files.proofs.Cut.{for_memory}
use Rattle.ospf_files.specs.Streams.{IsOutputCut, no_room}
use Rattle.ospf_script.specs.declared.expected.Expected.TheVariants as expected
use Rattle.ospf_commands.specs.Expectations.{unmet_line}
use Rattle.ospf_commands.specs.Judged.{IsOfSettling}
use Rattle.ospf_commands.proofs.judge.judge_settling.Goals as goal

pub returns-in_err-line-clause-cut : goal.returns-in_err-line-clause-cut
returns-in_err-line-clause-cut g c = for_memory c.from_residual.result (IsOutputCut c.args.streams.now) c.from_residual.ensures.1 no_room

pub returns-clause-judged : goal.returns-clause-judged
returns-clause-judged g c =
    let same : c.deref.result.now ≡ unmet_line expected.Settled = c.deref.ensures ∙ c.in_ok-line.ensures in
    let so : IsOfSettling c.args.simulation.now.is_settled (Ok tt) (unmet_line expected.Settled) true =
    subst (λ (b : Bool). IsOfSettling b (Ok tt) (unmet_line expected.Settled) true) (sym c.if-simulation.false) (refl, refl, refl) in
    record {
      text = unmet_line expected.Settled;
      is_so = (true, so, refl);
      written = subst (Appends (g.O.Write.contents c.args.out.now) (g.O.Write.contents c.write.new.out)) same c.in_ok-write.ensures.written;
    }
