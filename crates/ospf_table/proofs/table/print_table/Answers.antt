use Rattle.std.proofs.Common.{inl, inr}
use Rattle.std.proofs.lemmas.Result.{IfErr-weaker}
use Rattle.ospf_files.proofs.Cut.{always, for_failure}
use Rattle.ospf_files.proofs.Written.{whatever}
use Rattle.ospf_files.specs.Streams.{IsOutputCut}
use Rattle.ospf_table.specs.Cut.{IsLookupCut, IsOutputBefore}
use Rattle.ospf_table.proofs.Written.{lookups_begun, output_before, output_begun, output_written, routes_begun}
use Rattle.ospf_table.proofs.table.print_table.Goals as goal

pub returns-in_err-print_routes-clause-begun : goal.returns-in_err-print_routes-clause-begun
returns-in_err-print_routes-clause-begun g c =
    whatever _ (routes_begun _ _ c.args.table.now c.routes.result.now c.args.addresses.now c.routes.ensures.routes c.in_err-print_routes.ensures.begun)

pub returns-in_err-print_routes-clause-cut : goal.returns-in_err-print_routes-clause-cut
returns-in_err-print_routes-clause-cut g c =
    for_failure c.from_residual.result c.in_err-print_routes.field-0.0
    (IsLookupCut c.print_routes.new.streams (IsOutputBefore c.args.table.now c.args.addresses.now (g.O.Write.contents c.args.out.now) (g.O.Write.contents c.print_routes.new.out)))
    c.from_residual.ensures.1 (inl c.in_err-print_routes.ensures.cut)

pub returns-in_err-print_lookups-clause-begun : goal.returns-in_err-print_lookups-clause-begun
returns-in_err-print_lookups-clause-begun g c =
    whatever _ (lookups_begun _ _ _ c.args.table.now c.routes.result.now c.args.addresses.now c.routes.ensures.routes c.in_ok-print_routes.ensures.printed
    (c.in_err-print_lookups.ensures.begun c.args.table.now c.requires.published))

pub returns-in_err-print_lookups-clause-cut : goal.returns-in_err-print_lookups-clause-cut
returns-in_err-print_lookups-clause-cut g c =
    for_failure c.from_residual-in_err-print_lookups.result c.in_err-print_lookups.field-0.0
    (IsLookupCut c.print_lookups.new.streams (IsOutputBefore c.args.table.now c.args.addresses.now (g.O.Write.contents c.args.out.now) (g.O.Write.contents c.print_lookups.new.out)))
    c.from_residual-in_err-print_lookups.ensures.1
    (elim (c.in_err-print_lookups.ensures.cut c.args.table.now c.requires.published) [
      | inl cut ↦ inl cut
      | inr (closed, before) ↦ inr (closed, output_before _ _ _ c.args.table.now c.routes.result.now c.args.addresses.now c.routes.ensures.routes c.in_ok-print_routes.ensures.printed before)
    ])

pub returns-clause-output : goal.returns-clause-output
returns-clause-output g c =
    always c.flush.result
    (output_written _ _ _ _ c.args.table.now c.routes.result.now c.args.addresses.now c.routes.ensures.routes c.in_ok-print_routes.ensures.printed
    (c.in_ok-print_lookups.ensures.lookups c.args.table.now c.requires.published) c.flush.ensures.bytes)

pub returns-clause-begun : goal.returns-clause-begun
returns-clause-begun g c =
    whatever c.flush.result
    (output_begun _ _ c.args.table.now c.args.addresses.now
    (output_written _ _ _ _ c.args.table.now c.routes.result.now c.args.addresses.now c.routes.ensures.routes c.in_ok-print_routes.ensures.printed
    (c.in_ok-print_lookups.ensures.lookups c.args.table.now c.requires.published) c.flush.ensures.bytes))

pub returns-clause-cut : goal.returns-clause-cut
returns-clause-cut g c =
    IfErr-weaker c.flush.result (IsOutputCut c.flush.new.self)
    (IsLookupCut c.flush.new.self (IsOutputBefore c.args.table.now c.args.addresses.now (g.O.Write.contents c.args.out.now) (g.O.Write.contents c.flush.new.out))) (λ _ cut. inl cut) c.flush.ensures.cut
