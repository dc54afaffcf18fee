use Rattle.std.proofs.Common.{◌≡◌, ◌≤◌, ℕ, List, ap, ◌∙◌, arith, length, map, refl, subst}
use Rattle.ospf_commands.proofs.Deliveries.ProgressFacts.{on_further, on_nowhere}
use Rattle.ospf_files.proofs.Cut.{for_failure, for_memory}
use Rattle.ospf_files.specs.Lines.{numbered_line, numbered_from}
use Rattle.ospf_script.specs.Words.{Text}
use Rattle.ospf_files.specs.Streams.{written_on}
use Rattle.ospf_sim.specs.Begun.{IsCutAtLine, IsScriptCut, behind_lines, in_line, no_lines as none_cut}
use Rattle.ospf_sim.proofs.Cuts.{early_cut, line_cut}
use Rattle.ospf_sim.proofs.Lines.{early_at, line_ends, line_run, no_lines, whole_at}
use Rattle.ospf_sim.proofs.script.run_script.Goals as goal

pub returns-in_err-lines-clause-cut : goal.returns-in_err-lines-clause-cut
returns-in_err-lines-clause-cut g c =
    for_memory c.from_residual.result
    (IsScriptCut c.args.script.now c.args.simulation.now c.args.streams.now (written_on (g.O.Write.contents c.args.out.now) (g.E.Write.contents c.args.err.now)) (written_on (g.O.Write.contents c.args.out.now) (g.E.Write.contents c.args.err.now)))
    c.from_residual.ensures.1 (none_cut refl)

pub loop-line-init : goal.loop-line-init
loop-line-init g c = record { comes = no_lines _ _; told = on_nowhere _ _ _ _ _ refl }

pub loop-line-preserved : goal.loop-line-preserved
loop-line-preserved g c = record {
  comes = line_run c.deref-line-items.result.now c.loop-line.line-index _ _ _ _ _ _ _ c.in_ok-is_read.is_read c.loop-line-test.true c.if-not-is_read.false c.loop-line.invariant.comes
      c.in_ok-is_read.ensures.comes;
  told = on_further _ _ _ _ _ _ c.loop-line.invariant.told c.run_line.ensures.told;
}

pub returns-in_err-is_read-clause-cut : goal.returns-in_err-is_read-clause-cut
returns-in_err-is_read-clause-cut g c =
    let entries : map numbered_line c.deref-line-items.result.now ≡ numbered_from 1 c.args.script.now = ap (map numbered_line) c.deref-line-items.ensures.value ∙ c.in_ok-lines.ensures in
    for_failure c.from_residual-in_err-is_read.result c.in_err-is_read.field-0.0
    (IsScriptCut c.args.script.now c.args.simulation.now c.run_line.new.streams (written_on (g.O.Write.contents c.args.out.now) (g.E.Write.contents c.args.err.now)) (written_on (g.O.Write.contents c.run_line.new.out) (g.E.Write.contents c.run_line.new.err)))
    c.from_residual-in_err-is_read.ensures.1
    (in_line (subst (λ (lines : List (ℕ × Text)). IsCutAtLine lines c.args.simulation.now c.run_line.new.streams (written_on (g.O.Write.contents c.args.out.now) (g.E.Write.contents c.args.err.now)) (written_on (g.O.Write.contents c.run_line.new.out) (g.E.Write.contents c.run_line.new.err)) c.in_err-is_read.field-0.0)
    entries (line_cut c.deref-line-items.result.now c.loop-line.line-index _ _ _ _ _ _ _ _ c.loop-line-test.true c.loop-line.invariant.comes c.in_err-is_read.ensures.cut)))

pub returns-in_err-tell_unreadable-clause-cut : goal.returns-in_err-tell_unreadable-clause-cut
returns-in_err-tell_unreadable-clause-cut g c =
    let entries : map numbered_line c.deref-line-items.result.now ≡ numbered_from 1 c.args.script.now = ap (map numbered_line) c.deref-line-items.ensures.value ∙ c.in_ok-lines.ensures in
    for_failure c.from_residual-in_err-tell_unreadable.result c.in_err-tell_unreadable.field-0.0
    (IsScriptCut c.args.script.now c.args.simulation.now c.tell_unreadable.new.streams (written_on (g.O.Write.contents c.args.out.now) (g.E.Write.contents c.args.err.now)) (written_on (g.O.Write.contents c.tell_unreadable.new.out) (g.E.Write.contents c.tell_unreadable.new.err)))
    c.from_residual-in_err-tell_unreadable.ensures.1
    (in_line (early_cut c.deref-line-items.result.now _ _ c.args.script.now _ _ _ _ _ _ _ entries
    (line_ends c.deref-line-items.result.now c.loop-line.line-index _ _ _ _ _ _ _ c.in_ok-is_read.is_read c.loop-line-test.true c.if-not-is_read.true c.loop-line.invariant.comes c.in_ok-is_read.ensures.comes)
    c.in_err-tell_unreadable.ensures.cut))

pub returns-then-not-is_read-clause-comes : goal.returns-then-not-is_read-clause-comes
returns-then-not-is_read-clause-comes g c =
    let entries : map numbered_line c.deref-line-items.result.now ≡ numbered_from 1 c.args.script.now = ap (map numbered_line) c.deref-line-items.ensures.value ∙ c.in_ok-lines.ensures in
    early_at c.deref-line-items.result.now _ _ c.args.script.now _ _ _ _ _ _ _ entries
    (line_ends c.deref-line-items.result.now c.loop-line.line-index _ _ _ _ _ _ _ c.in_ok-is_read.is_read c.loop-line-test.true c.if-not-is_read.true c.loop-line.invariant.comes c.in_ok-is_read.ensures.comes)
    c.in_ok-tell_unreadable.ensures.out c.in_ok-tell_unreadable.ensures.err

pub returns-in_err-flush-clause-cut : goal.returns-in_err-flush-clause-cut
returns-in_err-flush-clause-cut g c =
    let entries : map numbered_line c.deref-line-items.result.now ≡ numbered_from 1 c.args.script.now = ap (map numbered_line) c.deref-line-items.ensures.value ∙ c.in_ok-lines.ensures in
    let past : length c.deref-line-items.result.now ≤ c.loop-line.line-index = omega arith in
    for_failure c.from_residual-in_err-flush.result c.in_err-flush.field-0.0
    (IsScriptCut c.args.script.now c.args.simulation.now c.flush.new.self (written_on (g.O.Write.contents c.args.out.now) (g.E.Write.contents c.args.err.now)) (written_on (g.O.Write.contents c.flush.new.out) (g.E.Write.contents c.loop-line.err)))
    c.from_residual-in_err-flush.ensures.1
    (behind_lines c.loop-line.simulation c.in_err-flush.ensures.cut (whole_at c.deref-line-items.result.now c.loop-line.line-index c.args.script.now _ _ _ _ _ _ past entries c.loop-line.invariant.comes c.flush.ensures.bytes))

pub returns-clause-comes : goal.returns-clause-comes
returns-clause-comes g c =
    let entries : map numbered_line c.deref-line-items.result.now ≡ numbered_from 1 c.args.script.now = ap (map numbered_line) c.deref-line-items.ensures.value ∙ c.in_ok-lines.ensures in
    let past : length c.deref-line-items.result.now ≤ c.loop-line.line-index = omega arith in
    whole_at c.deref-line-items.result.now c.loop-line.line-index c.args.script.now _ _ _ _ _ _ past entries c.loop-line.invariant.comes c.flush.ensures.bytes

pub returns-in_err-lines-clause-told : goal.returns-in_err-lines-clause-told
returns-in_err-lines-clause-told g c = on_nowhere _ _ _ _ _ refl

pub returns-in_err-is_read-clause-told : goal.returns-in_err-is_read-clause-told
returns-in_err-is_read-clause-told g c = on_further _ _ _ _ _ _ c.loop-line.invariant.told c.run_line.ensures.told

pub returns-in_err-tell_unreadable-clause-told : goal.returns-in_err-tell_unreadable-clause-told
returns-in_err-tell_unreadable-clause-told g c = on_further _ _ _ _ _ _ c.loop-line.invariant.told c.run_line.ensures.told

pub returns-then-not-is_read-clause-told : goal.returns-then-not-is_read-clause-told
returns-then-not-is_read-clause-told g c = on_further _ _ _ _ _ _ c.loop-line.invariant.told c.run_line.ensures.told
