use Rattle.std.proofs.Common.{rules, ℕ, List, refl, subst}
use Rattle.std.specs.Io.KnownBytes.{Appends}
use Rattle.ospf_base.specs.declared.ids.Addr.{Addr}
use Rattle.ospf_files.proofs.Cut.{cut_then, for_failure, for_memory, ok_then}
use Rattle.ospf_files.specs.Streams.{written_on}
use Rattle.ospf_table.specs.Cut.{IsLookupCut, IsOutputBefore, IsOutputBegun, IsTableCut, in_warning, no_table}
use Rattle.ospf_table.specs.Output.{IsOutput}
use Rattle.ospf_table.proofs.Written.{answered, has_warned, is_warned, table_cut, warning_begun}
use Rattle.ospf_table.proofs.table.answer_of.Goals as goal

pub returns-in_err-table-clause-cut : goal.returns-in_err-table-clause-cut
returns-in_err-table-clause-cut g c =
    for_memory c.from_residual.result
    (IsTableCut c.args.listing.now c.args.job.now.root c.args.job.now.addresses.items c.args.streams.now (written_on (g.O.Write.contents c.args.out.now) (g.E.Write.contents c.args.err.now)) (written_on (g.O.Write.contents c.args.out.now) (g.E.Write.contents c.args.err.now)))
    c.from_residual.ensures.1 (no_table refl refl)

pub returns-in_err-warning-clause-cut : goal.returns-in_err-warning-clause-cut
returns-in_err-warning-clause-cut g c =
    for_memory c.from_residual-in_err-warning.result
    (IsTableCut c.args.listing.now c.args.job.now.root c.args.job.now.addresses.items c.args.streams.now (written_on (g.O.Write.contents c.args.out.now) (g.E.Write.contents c.args.err.now)) (written_on (g.O.Write.contents c.args.out.now) (g.E.Write.contents c.args.err.now)))
    c.from_residual-in_err-warning.ensures.1 (no_table refl refl)

pub returns-in_err-tell-clause-cut : goal.returns-in_err-tell-clause-cut
returns-in_err-tell-clause-cut g c =
    for_failure c.from_residual-in_err-tell.result c.in_err-tell.field-0.0
    (IsTableCut c.args.listing.now c.args.job.now.root c.args.job.now.addresses.items c.tell.new.self (written_on (g.O.Write.contents c.args.out.now) (g.E.Write.contents c.args.err.now)) (written_on (g.O.Write.contents c.args.out.now) (g.E.Write.contents c.tell.new.err)))
    c.from_residual-in_err-tell.ensures.1
    (in_warning c.in_ok-table.table c.in_err-tell.ensures.cut (search (rules, c.in_ok-table.ensures))
    (warning_begun _ _ c.args.listing.now c.args.job.now.root c.in_ok-table.table c.as_slice-addresses.result.now c.args.job.now.addresses.items _ c.as_str.result.now
    c.as_slice-addresses.ensures.value c.as_str.ensures.value c.in_ok-warning.ensures c.in_err-tell.ensures.begun) refl)

pub returns-clause-answer : goal.returns-clause-answer
returns-clause-answer g c = λ bytes reads.
    ok_then c.print_answer.result
    (λ output. answered _ _ bytes c.args.listing.now c.args.job.now.root c.in_ok-table.table c.args.job.now.addresses.items reads
    (has_warned _ _ c.args.listing.now c.args.job.now.root c.in_ok-table.table c.as_slice-addresses.result.now c.args.job.now.addresses.items _ c.as_str.result.now
    c.as_slice-addresses.ensures.value c.as_str.ensures.value c.in_ok-warning.ensures c.in_ok-tell.ensures.told.1)
    (search (rules, c.in_ok-table.ensures))
    (subst (λ (addresses : List Addr). (text : List ℕ) × IsOutput c.in_ok-table.table addresses text × Appends (g.O.Write.contents c.args.out.now) (g.O.Write.contents c.print_answer.new.out) text)
    c.as_slice-addresses.ensures.value output))
    c.print_answer.ensures.output

pub returns-clause-cut : goal.returns-clause-cut
returns-clause-cut g c =
    let warned = has_warned _ _ c.args.listing.now c.args.job.now.root c.in_ok-table.table c.as_slice-addresses.result.now c.args.job.now.addresses.items _ c.as_str.result.now
    c.as_slice-addresses.ensures.value c.as_str.ensures.value c.in_ok-warning.ensures c.in_ok-tell.ensures.told.1 in
    cut_then c.print_answer.result (IsLookupCut c.print_answer.new.streams (IsOutputBefore c.in_ok-table.table c.as_slice-addresses.result.now (g.O.Write.contents c.args.out.now) (g.O.Write.contents c.print_answer.new.out)))
    (IsTableCut c.args.listing.now c.args.job.now.root c.args.job.now.addresses.items c.print_answer.new.streams (written_on (g.O.Write.contents c.args.out.now) (g.E.Write.contents c.args.err.now)) (written_on (g.O.Write.contents c.print_answer.new.out) (g.E.Write.contents c.tell.new.err)))
    (λ f begun cut.
    table_cut c.args.listing.now c.args.job.now.root c.args.job.now.addresses.items c.print_answer.new.streams (written_on (g.O.Write.contents c.args.out.now) (g.E.Write.contents c.args.err.now)) (written_on (g.O.Write.contents c.print_answer.new.out) (g.E.Write.contents c.tell.new.err)) c.in_ok-table.table f (is_warned _ _ c.args.listing.now c.args.job.now.root c.in_ok-table.table c.args.job.now.addresses.items warned) (search (rules, c.in_ok-table.ensures))
    (subst (λ (addresses : List Addr). IsOutputBegun c.in_ok-table.table addresses (g.O.Write.contents c.args.out.now) (g.O.Write.contents c.print_answer.new.out)) c.as_slice-addresses.ensures.value begun)
    (subst (λ (addresses : List Addr). IsLookupCut c.print_answer.new.streams (IsOutputBefore c.in_ok-table.table addresses (g.O.Write.contents c.args.out.now) (g.O.Write.contents c.print_answer.new.out)) f) c.as_slice-addresses.ensures.value cut))
    c.print_answer.ensures.begun c.print_answer.ensures.cut
