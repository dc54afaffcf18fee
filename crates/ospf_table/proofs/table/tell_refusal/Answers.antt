use Rattle.std.proofs.Common.{rules, ◌≡◌, ◌∙◌, subst}
use Rattle.std.specs.Io.KnownBytes.{Appends}
use Rattle.ospf_files.specs.Streams.{IsBegun, IsErrorCut, no_text}
use Rattle.ospf_files.proofs.Cut.{err_then, for_memory, ok_then}
use Rattle.ospf_files.proofs.Written.{nothing_begun, whatever}
use Rattle.ospf_table.specs.Refusal.{refusal_line}
use Rattle.ospf_table.proofs.table.tell_refusal.Goals as goal

pub returns-in_err-line-clause-begun : goal.returns-in_err-line-clause-begun
returns-in_err-line-clause-begun g c = whatever _ (nothing_begun _ _)

pub returns-in_err-line-clause-cut : goal.returns-in_err-line-clause-cut
returns-in_err-line-clause-cut g c = for_memory c.from_residual.result (IsErrorCut c.args.streams.now) c.from_residual.ensures.1 no_text

pub returns-clause-told : goal.returns-clause-told
returns-clause-told g c =
    let shown : c.deref.result.now ≡ refusal_line c.args.number c.args.fault = search (rules, c.deref.ensures ∙ c.in_ok-line.ensures.ok) in
    ok_then c.tell.result (λ told. subst (Appends (g.E.Write.contents c.args.err.now) (g.E.Write.contents c.tell.new.err)) shown told.1) c.tell.ensures.told

pub returns-clause-begun : goal.returns-clause-begun
returns-clause-begun g c =
    let shown : c.deref.result.now ≡ refusal_line c.args.number c.args.fault = search (rules, c.deref.ensures ∙ c.in_ok-line.ensures.ok) in
    err_then c.tell.result (λ begun. subst (IsBegun (g.E.Write.contents c.args.err.now) (g.E.Write.contents c.tell.new.err)) shown begun) c.tell.ensures.begun
