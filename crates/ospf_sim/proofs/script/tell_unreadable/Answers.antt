use Rattle.std.proofs.Common.{rules, ◌≡◌, ◌∙◌, IfErr, subst}
use Rattle.ospf_files.specs.Streams.{no_text, written_on}
use Rattle.ospf_files.proofs.Cut.{for_memory}
use Rattle.ospf_files.proofs.Written.{nothing_begun, nothing_written}
use Rattle.ospf_script.specs.Words.{Text}
use Rattle.ospf_sim.specs.Begun.{IsTellingCut, in_telling}
use Rattle.ospf_sim.specs.Scripts.{unreadable_line}
use Rattle.ospf_sim.proofs.script.tell_unreadable.Goals as goal

pub returns-in_err-told-clause-cut : goal.returns-in_err-told-clause-cut
returns-in_err-told-clause-cut g c =
    for_memory c.from_residual.result
    (IsTellingCut (unreadable_line c.args.line.now.number c.args.line.now.text.now) c.args.streams.now (written_on (g.O.Write.contents c.args.out.now) (g.E.Write.contents c.args.err.now)) (written_on (g.O.Write.contents c.args.out.now) (g.E.Write.contents c.args.err.now)))
    c.from_residual.ensures.1 (in_telling no_text (nothing_written _) (nothing_begun _ _))

pub returns-clause-cut : goal.returns-clause-cut
returns-clause-cut g c =
    let shown : c.deref.result.now ≡ unreadable_line c.args.line.now.number c.args.line.now.text.now = search (rules, c.deref.ensures ∙ c.in_ok-told.ensures) in
    subst (λ (line : Text). IfErr c.tell_behind.result
    (IsTellingCut line c.tell_behind.new.streams (written_on (g.O.Write.contents c.args.out.now) (g.E.Write.contents c.args.err.now)) (written_on (g.O.Write.contents c.tell_behind.new.out) (g.E.Write.contents c.tell_behind.new.err))))
    shown c.tell_behind.ensures.cut
