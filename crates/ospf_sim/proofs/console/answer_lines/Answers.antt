use Rattle.std.proofs.Common.{◌≡◌, ◌∙◌, ap, sym, refl, inl, inr, arith, map, true, false, [], ◌∷◌}
use Rattle.std.specs.Io.BufRead.{ends_with_byte}
use Rattle.ospf_commands.proofs.Deliveries.ProgressFacts.{on_further, on_nowhere}
use Rattle.ospf_files.proofs.Cut.{for_failure, for_memory}
use Rattle.ospf_files.specs.Lines.{numbered_line, numbered_from}
use Rattle.ospf_files.specs.Streams.{written_on}
use Rattle.ospf_sim.specs.Consoles.{IsSessionCut, in_answer, in_first_prompt}
use Rattle.ospf_sim.proofs.Pieces.{numbered_one, some_lines}
use Rattle.ospf_sim.proofs.Sessions.{begins, end_there, ends_before, ends_here, goes_on, output_cut, piece_there, prompt_cut, reading_cut, turn_cut}
use Rattle.ospf_sim.proofs.console.answer_lines.Goals as goal

pub returns-in_err-print-clause-cut : goal.returns-in_err-print-clause-cut
returns-in_err-print-clause-cut g c =
    for_failure c.from_residual.result c.in_err-print.field-0.0
    (IsSessionCut (g.R.Read.remaining c.args.console.input) c.args.console.prompt.now c.args.simulation.now c.print.new.self (written_on (g.O.Write.contents c.args.out.now) (g.E.Write.contents c.args.err.now)) (written_on (g.O.Write.contents c.print.new.out) (g.E.Write.contents c.args.err.now)))
    c.from_residual.ensures.1 (in_first_prompt (output_cut c.args.streams.now _ _ c.in_err-print.ensures.failed c.in_err-print.ensures.failure) c.in_err-print.ensures.begun refl)

pub loop-number-init : goal.loop-number-init
loop-number-init g c = record { comes = begins _ _ _ _ _ _ c.in_ok-print.ensures.printed.1; told = on_nowhere _ _ _ _ _ refl }

pub returns-in_err-read_piece-clause-cut : goal.returns-in_err-read_piece-clause-cut
returns-in_err-read_piece-clause-cut g c =
    for_failure c.from_residual-in_err-read_piece.result c.in_err-read_piece.field-0.0
    (IsSessionCut (g.R.Read.remaining c.args.console.input) c.args.console.prompt.now c.args.simulation.now c.loop-number.streams (written_on (g.O.Write.contents c.args.out.now) (g.E.Write.contents c.args.err.now)) (written_on (g.O.Write.contents c.loop-number.out) (g.E.Write.contents c.loop-number.err)))
    c.from_residual-in_err-read_piece.ensures.1 (reading_cut _ _ _ _ _ _ _ _ _ _ c.loop-number.invariant.comes c.in_err-read_piece.ensures.unread)

pub returns-then-not-branch-clause-answered : goal.returns-then-not-branch-clause-answered
returns-then-not-branch-clause-answered g c =
    let ends = end_there c.in_ok-read_piece.field-0 c.read_piece.new.piece.items (g.R.Read.remaining c.loop-number.input) (g.R.Read.remaining c.read_piece.new.input) c.if-not-branch.true c.in_ok-read_piece.ensures.read in
    ends_before _ _ (g.R.Read.remaining c.loop-number.input) _ _ _ _ _ c.loop-number.invariant.comes ends

pub returns-in_err-lines-clause-cut : goal.returns-in_err-lines-clause-cut
returns-in_err-lines-clause-cut g c =
    for_memory c.from_residual-in_err-lines.result
    (IsSessionCut (g.R.Read.remaining c.args.console.input) c.args.console.prompt.now c.args.simulation.now c.loop-number.streams (written_on (g.O.Write.contents c.args.out.now) (g.E.Write.contents c.args.err.now)) (written_on (g.O.Write.contents c.loop-number.out) (g.E.Write.contents c.loop-number.err)))
    c.from_residual-in_err-lines.ensures.1 (reading_cut _ _ _ _ _ _ _ _ _ _ c.loop-number.invariant.comes (inl refl))

pub index-requires : goal.index-requires
index-requires g c =
    let read = piece_there c.in_ok-read_piece.field-0 c.read_piece.new.piece.items (g.R.Read.remaining c.loop-number.input) (g.R.Read.remaining c.read_piece.new.input) c.if-not-branch.false c.in_ok-read_piece.ensures.read in
    let entries : map numbered_line c.in_ok-lines.lines.items ≡ numbered_from 1 c.read_piece.new.piece.items = c.in_ok-lines.ensures ∙ ap (numbered_from 1) c.deref.ensures.value in
    omega (arith, c.in_ok-lines.lines.ok.0, some_lines c.read_piece.new.piece.items c.in_ok-lines.lines.items read.some read.stops entries)

pub returns-in_err-answer_line-clause-cut : goal.returns-in_err-answer_line-clause-cut
returns-in_err-answer_line-clause-cut g c =
    let read = piece_there c.in_ok-read_piece.field-0 c.read_piece.new.piece.items (g.R.Read.remaining c.loop-number.input) (g.R.Read.remaining c.read_piece.new.input) c.if-not-branch.false c.in_ok-read_piece.ensures.read in
    let entries : map numbered_line c.in_ok-lines.lines.items ≡ numbered_from 1 c.read_piece.new.piece.items = c.in_ok-lines.ensures ∙ ap (numbered_from 1) c.deref.ensures.value in
    let one : numbered_from c.loop-number.number c.read_piece.new.piece.items ≡ (c.loop-number.number, c.index.result.now.text.now) ∷ [] =
    numbered_one c.loop-number.number c.read_piece.new.piece.items c.in_ok-lines.lines.items c.index.result.now read.some read.stops entries c.index.ensures in
    for_failure c.from_residual-in_err-answer_line.result c.in_err-answer_line.field-0.0
    (IsSessionCut (g.R.Read.remaining c.args.console.input) c.args.console.prompt.now c.args.simulation.now c.answer_line.new.streams (written_on (g.O.Write.contents c.args.out.now) (g.E.Write.contents c.args.err.now)) (written_on (g.O.Write.contents c.answer_line.new.out) (g.E.Write.contents c.answer_line.new.err)))
    c.from_residual-in_err-answer_line.ensures.1
    (turn_cut _ _ _ (g.R.Read.remaining c.read_piece.new.input) _ _ _ _ _ _ _ _ _ _ c.loop-number.invariant.comes read one (in_answer c.in_err-answer_line.ensures.cut))

pub returns-in_err-print-2-clause-cut : goal.returns-in_err-print-2-clause-cut
returns-in_err-print-2-clause-cut g c =
    let read = piece_there c.in_ok-read_piece.field-0 c.read_piece.new.piece.items (g.R.Read.remaining c.loop-number.input) (g.R.Read.remaining c.read_piece.new.input) c.if-not-branch.false c.in_ok-read_piece.ensures.read in
    let entries : map numbered_line c.in_ok-lines.lines.items ≡ numbered_from 1 c.read_piece.new.piece.items = c.in_ok-lines.ensures ∙ ap (numbered_from 1) c.deref.ensures.value in
    let one : numbered_from c.loop-number.number c.read_piece.new.piece.items ≡ (c.loop-number.number, c.index.result.now.text.now) ∷ [] =
    numbered_one c.loop-number.number c.read_piece.new.piece.items c.in_ok-lines.lines.items c.index.result.now read.some read.stops entries c.index.ensures in
    for_failure c.from_residual-in_err-print-2.result c.in_err-print-2.field-0.0
    (IsSessionCut (g.R.Read.remaining c.args.console.input) c.args.console.prompt.now c.args.simulation.now c.print-in-loop-number.new.self (written_on (g.O.Write.contents c.args.out.now) (g.E.Write.contents c.args.err.now)) (written_on (g.O.Write.contents c.print-in-loop-number.new.out) (g.E.Write.contents c.answer_line.new.err)))
    c.from_residual-in_err-print-2.ensures.1
    (turn_cut _ _ _ (g.R.Read.remaining c.read_piece.new.input) _ _ _ _ _ _ _ _ _ _ c.loop-number.invariant.comes read one
    (prompt_cut _ _ _ _ _ _ _ _ _ _ _ c.in_ok-answer_line.ensures.answered c.in_err-print-2.ensures.begun
    (output_cut c.answer_line.new.streams _ _ c.in_err-print-2.ensures.failed c.in_err-print-2.ensures.failure)))

pub returns-then-not-is_ended-clause-answered : goal.returns-then-not-is_ended-clause-answered
returns-then-not-is_ended-clause-answered g c =
    let read = piece_there c.in_ok-read_piece.field-0 c.read_piece.new.piece.items (g.R.Read.remaining c.loop-number.input) (g.R.Read.remaining c.read_piece.new.input) c.if-not-branch.false c.in_ok-read_piece.ensures.read in
    let entries : map numbered_line c.in_ok-lines.lines.items ≡ numbered_from 1 c.read_piece.new.piece.items = c.in_ok-lines.ensures ∙ ap (numbered_from 1) c.deref.ensures.value in
    let one : numbered_from c.loop-number.number c.read_piece.new.piece.items ≡ (c.loop-number.number, c.index.result.now.text.now) ∷ [] =
    numbered_one c.loop-number.number c.read_piece.new.piece.items c.in_ok-lines.lines.items c.index.result.now read.some read.stops entries c.index.ensures in
    let unended : ends_with_byte 10 c.read_piece.new.piece.items ≡ false =
    sym (c.is_ended.ensures ∙ ap (ends_with_byte 10) c.deref-in-loop-number.ensures.value) ∙ c.if-not-is_ended.true in
    ends_here _ _ _ (g.R.Read.remaining c.read_piece.new.input) _ _ _ _ _ _ _ _ _ _ _ c.loop-number.invariant.comes read one c.in_ok-answer_line.ensures.answered c.in_ok-print-2.ensures.printed.1 unended

pub loop-number-preserved : goal.loop-number-preserved
loop-number-preserved g c =
    let read = piece_there c.in_ok-read_piece.field-0 c.read_piece.new.piece.items (g.R.Read.remaining c.loop-number.input) (g.R.Read.remaining c.read_piece.new.input) c.if-not-branch.false c.in_ok-read_piece.ensures.read in
    let entries : map numbered_line c.in_ok-lines.lines.items ≡ numbered_from 1 c.read_piece.new.piece.items = c.in_ok-lines.ensures ∙ ap (numbered_from 1) c.deref.ensures.value in
    let one : numbered_from c.loop-number.number c.read_piece.new.piece.items ≡ (c.loop-number.number, c.index.result.now.text.now) ∷ [] =
    numbered_one c.loop-number.number c.read_piece.new.piece.items c.in_ok-lines.lines.items c.index.result.now read.some read.stops entries c.index.ensures in
    let ended : ends_with_byte 10 c.read_piece.new.piece.items ≡ true =
    sym (c.is_ended.ensures ∙ ap (ends_with_byte 10) c.deref-in-loop-number.ensures.value) ∙ c.if-not-is_ended.false in
    record {
      comes = goes_on _ _ (g.R.Read.remaining c.loop-number.input) _ _ _ _ _ _ _ _ _ _ _ _ c.loop-number.invariant.comes read one c.in_ok-answer_line.ensures.answered c.in_ok-print-2.ensures.printed.1 ended;
      told = on_further _ _ _ _ _ _ c.loop-number.invariant.told c.answer_line.ensures.told;
    }

pub returns-clause-cut : goal.returns-clause-cut
returns-clause-cut g c = reading_cut _ _ _ _ _ _ _ _ _ _ c.loop-number.invariant.comes (inr refl)

pub returns-in_err-print-clause-told : goal.returns-in_err-print-clause-told
returns-in_err-print-clause-told g c = on_nowhere _ _ _ _ _ refl

pub returns-in_err-answer_line-clause-told : goal.returns-in_err-answer_line-clause-told
returns-in_err-answer_line-clause-told g c = on_further _ _ _ _ _ _ c.loop-number.invariant.told c.answer_line.ensures.told

pub returns-in_err-print-2-clause-told : goal.returns-in_err-print-2-clause-told
returns-in_err-print-2-clause-told g c = on_further _ _ _ _ _ _ c.loop-number.invariant.told c.answer_line.ensures.told

pub returns-then-not-is_ended-clause-told : goal.returns-then-not-is_ended-clause-told
returns-then-not-is_ended-clause-told g c = on_further _ _ _ _ _ _ c.loop-number.invariant.told c.answer_line.ensures.told
