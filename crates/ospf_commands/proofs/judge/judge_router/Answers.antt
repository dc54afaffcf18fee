use Rattle.std.proofs.Common.{[], Ok, Err, true, false, refl}
use Rattle.std.proofs.lemmas.Bool.{iff_false}
use Rattle.ospf_files.proofs.Written.{nothing_written, whatever}
use Rattle.ospf_script.specs.declared.expected.Expected.TheVariants as expected
use Rattle.ospf_commands.specs.Judged.{IsJudged, JudgedSo, is_as_expected, is_not_asked, is_otherwise}
use Rattle.ospf_commands.specs.Printed.{IsPrintedBegun}
use Rattle.ospf_commands.specs.Expectations.{IsMet, unmet_lines}
use Rattle.ospf_commands.proofs.Lent.{lent, not_lent}
use Rattle.ospf_commands.proofs.judge.judge_router.Goals as goal

pub returns-in-Err-clause-judged : goal.returns-in-Err-clause-judged
returns-in-Err-clause-judged g c =
    let judged : IsJudged (expected.Router c.args.router c.args.wanted.now) c.args.simulation.now (Err c.in-Err.fault) [] true =
    is_not_asked c.in-Err.fault (not_lent c.args.simulation.now.world c.args.router c.in-Err.fault c.in-Err.ensures) refl refl refl in
    record { text = []; is_so = (true, judged, refl); written = nothing_written _ }

pub returns-then-is_met-clause-judged : goal.returns-then-is_met-clause-judged
returns-then-is_met-clause-judged g c =
    let met : IsMet c.args.wanted.now c.in-Ok.lent.now = c.is_met.ensures.0 c.if-is_met.true in
    let judged : IsJudged (expected.Router c.args.router c.args.wanted.now) c.args.simulation.now (Ok tt) [] false =
    is_as_expected c.in-Ok.lent.now (lent c.args.simulation.now.world c.args.router c.in-Ok.lent c.in-Ok.ensures) met refl refl refl in
    record { text = []; is_so = (false, judged, refl); written = nothing_written _ }

pub returns-in_err-write_unmet-clause-begun : goal.returns-in_err-write_unmet-clause-begun
returns-in_err-write_unmet-clause-begun g c =
    let unmet : IsMet c.args.wanted.now c.in-Ok.lent.now → ⊥ = iff_false c.is_met.ensures c.if-is_met.false in
    let judged : IsJudged (expected.Router c.args.router c.args.wanted.now) c.args.simulation.now (Ok tt) (unmet_lines c.args.router c.args.wanted.now c.in-Ok.lent.now) true =
    is_otherwise c.in-Ok.lent.now (lent c.args.simulation.now.world c.args.router c.in-Ok.lent c.in-Ok.ensures) unmet refl refl refl in
    let begun : IsPrintedBegun (JudgedSo (expected.Router c.args.router c.args.wanted.now) c.args.simulation.now (record c.args.simulation.now { is_unmet = true })) (g.O.Write.contents c.args.out.now) (g.O.Write.contents c.write_unmet.new.out) = record {
      answer = Ok tt;
      text = unmet_lines c.args.router c.args.wanted.now c.in-Ok.lent.now;
      is_so = (true, judged, refl);
      begun = c.in_err-write_unmet.ensures.begun;
    } in
    whatever _ begun

pub returns-clause-judged : goal.returns-clause-judged
returns-clause-judged g c =
    let unmet : IsMet c.args.wanted.now c.in-Ok.lent.now → ⊥ = iff_false c.is_met.ensures c.if-is_met.false in
    let judged : IsJudged (expected.Router c.args.router c.args.wanted.now) c.args.simulation.now (Ok tt) (unmet_lines c.args.router c.args.wanted.now c.in-Ok.lent.now) true =
    is_otherwise c.in-Ok.lent.now (lent c.args.simulation.now.world c.args.router c.in-Ok.lent c.in-Ok.ensures) unmet refl refl refl in
    record { text = unmet_lines c.args.router c.args.wanted.now c.in-Ok.lent.now; is_so = (true, judged, refl); written = c.in_ok-write_unmet.ensures.written }
