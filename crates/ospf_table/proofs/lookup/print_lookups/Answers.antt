use Rattle.std.proofs.Common.{refl, ap, ◌∙◌, inl, inr, subst}
use Rattle.std.proofs.lemmas.List.{take_all}
use Rattle.ospf_files.proofs.Cut.{for_failure}
use Rattle.ospf_files.proofs.Written.{whatever}
use Rattle.ospf_table.specs.Cut.{AreLookupsBefore, IsLookupCut}
use Rattle.ospf_table.specs.Output.{AreLookups}
use Rattle.ospf_table.proofs.Written.{lookup_begun, lookup_written, lookups_before, lookups_end, no_lookups}
use Rattle.ospf_table.proofs.Looked.{found_line}
use Rattle.ospf_table.proofs.lookup.print_lookups.Goals as goal

pub loop-address-init : goal.loop-address-init
loop-address-init g c = (refl, c.requires, λ table is. no_lookups _ table)

pub returns-in_default-clause-begun : goal.returns-in_default-clause-begun
returns-in_default-clause-begun g c = λ table is. lookups_end _ _ table c.args.addresses.now c.loop-address.address-index (c.loop-address.invariant.2 table is)

pub returns-in_default-clause-cut : goal.returns-in_default-clause-cut
returns-in_default-clause-cut g c = λ table is.
    inr (refl, lookups_before _ _ table c.args.addresses.now c.loop-address.address-index c.loop-address-test.true (c.loop-address.invariant.2 table is))

pub returns-in_err-print_lookup-clause-begun : goal.returns-in_err-print_lookup-clause-begun
returns-in_err-print_lookup-clause-begun g c = λ table is.
    whatever _
    (lookup_begun _ _ _ table _ c.loop-address.address-index _ c.loop-address-test.true (c.loop-address.invariant.2 table is)
    (_, found_line _ table _ c.in-Ok.answer (ap (λ w. w.tables) c.loop-address.invariant.0 ∙ is) c.in-Ok.ensures.answer, c.in_err-print_lookup.ensures.begun))

pub returns-in_err-print_lookup-clause-cut : goal.returns-in_err-print_lookup-clause-cut
returns-in_err-print_lookup-clause-cut g c = λ table is.
    for_failure c.from_residual.result c.in_err-print_lookup.field-0.0
    (IsLookupCut c.print_lookup.new.streams (AreLookupsBefore table c.args.addresses.now (g.O.Write.contents c.args.out.now) (g.O.Write.contents c.print_lookup.new.out)))
    c.from_residual.ensures.1 (inl c.in_err-print_lookup.ensures.cut)

pub loop-address-preserved : goal.loop-address-preserved
loop-address-preserved g c = (
  c.look_up.ensures.writer ∙ c.loop-address.invariant.0,
  c.in-Ok.ensures.seat ∙ c.loop-address.invariant.0,
  λ table is.
      lookup_written _ _ _ table _ c.loop-address.address-index _ c.loop-address-test.true (c.loop-address.invariant.2 table is)
      (_, found_line _ table _ c.in-Ok.answer (ap (λ w. w.tables) c.loop-address.invariant.0 ∙ is) c.in-Ok.ensures.answer, c.in_ok-print_lookup.ensures.printed),
)

pub returns-clause-lookups : goal.returns-clause-lookups
returns-clause-lookups g c = λ table is.
    let done = c.loop-address.invariant.2 table is in
    let all = take_all c.loop-address.address-index c.args.addresses.now c.loop-address-test.false in
    (done.lines, subst (λ front. AreLookups table front done.lines) all done.are, done.written)
