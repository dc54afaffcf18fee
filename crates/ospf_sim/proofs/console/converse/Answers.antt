use Rattle.std.proofs.Common.{refl, subst, sym}
use Rattle.ospf_files.proofs.Cut.{cut_then, for_failure}
use Rattle.ospf_files.specs.Streams.{IsErrorCut, written_on}
use Rattle.ospf_files.specs.declared.status.Status.{Status}
use Rattle.ospf_sim.specs.Consoles.{ConsoleComes, IsConsoleCut, IsNoConsole, in_unread, in_world}
use Rattle.ospf_sim.proofs.Consoles.{consoled, session_cut, unread_of_told}
use Rattle.ospf_sim.proofs.Files.{none_unread}
use Rattle.ospf_sim.proofs.Worlds.{no_world_told, told_from, told_of_none, told_of_unread}
use Rattle.ospf_sim.proofs.console.converse.Goals as goal

pub returns-in-Some-clause-stream : goal.returns-in-Some-clause-stream
returns-in-Some-clause-stream g c =
    unread_of_told _ c.in-Some.file.now c.end_unread.result _ _ _ _ c.in-Some.ensures.some refl c.end_unread.ensures.left c.end_unread.ensures.told

pub returns-in-Some-clause-cut : goal.returns-in-Some-clause-cut
returns-in-Some-clause-cut g c =
    cut_then c.end_unread.result (IsErrorCut c.end_unread.new.streams)
    (IsConsoleCut (g.R.Read.remaining c.args.console.input) c.args.console.prompt.now c.args.files.now c.end_unread.new.streams (written_on (g.O.Write.contents c.args.out.now) (g.E.Write.contents c.args.err.now)) (written_on (g.O.Write.contents c.args.out.now) (g.E.Write.contents c.end_unread.new.err)))
    (λ f begun cut. in_unread c.in-Some.file.now cut c.in-Some.ensures.some begun refl) c.end_unread.ensures.begun c.end_unread.ensures.cut

pub returns-in_err-world-clause-cut : goal.returns-in_err-world-clause-cut
returns-in_err-world-clause-cut g c =
    for_failure c.from_residual.result c.in_err-world.field-0.0
    (IsConsoleCut (g.R.Read.remaining c.args.console.input) c.args.console.prompt.now c.args.files.now c.new_world.new.streams (written_on (g.O.Write.contents c.args.out.now) (g.E.Write.contents c.args.err.now)) (written_on (g.O.Write.contents c.args.out.now) (g.E.Write.contents c.new_world.new.err)))
    c.from_residual.ensures.1 (in_world c.in_default.ensures.none c.in_err-world.ensures.cut refl)

pub returns-in_err-answer_lines-in-Some-2-clause-unwritten : goal.returns-in_err-answer_lines-in-Some-2-clause-unwritten
returns-in_err-answer_lines-in-Some-2-clause-unwritten g c = λ file first. absurd (none_unread _ file c.in_default.ensures.none first)

pub returns-in_err-answer_lines-in-Some-2-clause-cut : goal.returns-in_err-answer_lines-in-Some-2-clause-cut
returns-in_err-answer_lines-in-Some-2-clause-cut g c =
    for_failure c.from_residual-in_err-answer_lines-in-Some-2.result c.in_err-answer_lines-in-Some-2.field-0.0
    (IsConsoleCut (g.R.Read.remaining c.args.console.input) c.args.console.prompt.now c.args.files.now c.answer_lines.new.streams (written_on (g.O.Write.contents c.args.out.now) (g.E.Write.contents c.args.err.now)) (written_on (g.O.Write.contents c.answer_lines.new.out) (g.E.Write.contents c.answer_lines.new.err)))
    c.from_residual-in_err-answer_lines-in-Some-2.ensures.1
    (session_cut c.in_ok-world.field-0 c.in-Some-2.world _ _ _ c.new-started.result _ _ _ _ _ _ c.in-Some-2.is c.in_ok-world.ensures.comes c.in_default.ensures.none c.new-started.ensures
    c.in_err-answer_lines-in-Some-2.ensures.cut)

pub returns-in_ok-answer_lines-in-Some-2-clause-comes : goal.returns-in_ok-answer_lines-in-Some-2-clause-comes
returns-in_ok-answer_lines-in-Some-2-clause-comes g c =
    let all = consoled c.in_ok-world.field-0 c.in-Some-2.world (g.R.Read.remaining c.args.console.input) c.args.console.prompt.now c.args.files.now c.new-started.result c.answer_lines.new.simulation
    c.left_of.result _ _ _ _ c.in-Some-2.is c.in_ok-world.ensures.comes c.in_default.ensures.none c.new-started.ensures c.left_of.ensures.left c.in_ok-answer_lines-in-Some-2.ensures.answered in
    subst (λ (status : Status). ConsoleComes status (g.R.Read.remaining c.args.console.input) c.args.console.prompt.now c.args.files.now c.left_of.result.left (written_on (g.O.Write.contents c.args.out.now) (g.E.Write.contents c.args.err.now)) (written_on (g.O.Write.contents c.answer_lines.new.out) (g.E.Write.contents c.answer_lines.new.err)))
    (sym c.left_of.ensures.status) all

pub returns-in_ok-answer_lines-in-Some-2-clause-unread : goal.returns-in_ok-answer_lines-in-Some-2-clause-unread
returns-in_ok-answer_lines-in-Some-2-clause-unread g c = λ file first. absurd (none_unread _ file c.in_default.ensures.none first)

pub returns-in_ok-answer_lines-in-Some-2-clause-unwritten : goal.returns-in_ok-answer_lines-in-Some-2-clause-unwritten
returns-in_ok-answer_lines-in-Some-2-clause-unwritten g c = λ file first. absurd (none_unread _ file c.in_default.ensures.none first)

pub returns-in-None-clause-comes : goal.returns-in-None-clause-comes
returns-in-None-clause-comes g c =
    let refused : IsNoConsole c.args.files.now c.without.result.left (written_on (g.O.Write.contents c.args.out.now) (g.E.Write.contents c.args.err.now)) (written_on (g.O.Write.contents c.args.out.now) (g.E.Write.contents c.new_world.new.err)) = record {
      read = c.in_default.ensures.none;
      no_world = no_world_told c.in_ok-world.field-0 _ _ _ c.in-None.is c.in_ok-world.ensures.comes;
      none = c.without.ensures.left;
      same_out = refl;
    } in
    subst (λ (status : Status). ConsoleComes status (g.R.Read.remaining c.args.console.input) c.args.console.prompt.now c.args.files.now c.without.result.left (written_on (g.O.Write.contents c.args.out.now) (g.E.Write.contents c.args.err.now)) (written_on (g.O.Write.contents c.args.out.now) (g.E.Write.contents c.new_world.new.err)))
    (sym c.without.ensures.status) refused

pub returns-in-None-clause-unread : goal.returns-in-None-clause-unread
returns-in-None-clause-unread g c = λ file first. absurd (none_unread _ file c.in_default.ensures.none first)

pub returns-in_ok-answer_lines-in-Some-2-clause-told : goal.returns-in_ok-answer_lines-in-Some-2-clause-told
returns-in_ok-answer_lines-in-Some-2-clause-told g c =
    told_from _ _ _ c.in_ok-world.field-0 c.in-Some-2.world _ _ _ _ _ _ _ _ c.in-Some-2.is c.in_ok-world.ensures.comes c.new-started.ensures c.left_of.ensures.left c.answer_lines.ensures.told

pub returns-in-None-clause-told : goal.returns-in-None-clause-told
returns-in-None-clause-told g c = told_of_none _ _ _ _ _ _ _ c.without.ensures.left

pub returns-in-Some-clause-told : goal.returns-in-Some-clause-told
returns-in-Some-clause-told g c = told_of_unread _ _ _ _ c.end_unread.result _ _ c.end_unread.ensures.left
