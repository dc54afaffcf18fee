use Rattle.std.proofs.Common.{◌≡◌, not, true, false, ap, inl, inr, sym, ◌∙◌}
use Rattle.std.proofs.lemmas.Result.{err_from_is_err_and}
use Rattle.toml.specs.View.{table_view}
use Rattle.ospf_config.specs.Interfaces.{IsInterfaceOf}
use Rattle.ospf_config.specs.Keys.{is_passive}
use Rattle.ospf_config.specs.Tables.{HasInterfaceFault, IsDeadNotOverHello}
use Rattle.ospf_config.proofs.PassiveLists.{pairs_kept, pairs_left}
use Rattle.ospf_config.proofs.TableLists.{any_table_at, with_table}
use Rattle.ospf_config.proofs.read.interfaces_of.Goals.{then-not-is_passive+in_ok-interface_at+in_ok-push, else-not-is_passive}
use Rattle.ospf_config.proofs.read.interfaces_of.Goals as goal

pub interface_at-requires : goal.interface_at-requires
interface_at-requires c dead =
    c.requires.hellos (c.loop-value.value-index, c.value-item.result, c.loop-value-test.true, sym c.value-item.is, with_table IsDeadNotOverHello _ _ (sym c.table_in-table.ensures) dead)

pub loop-value-preserved : goal.loop-value-preserved
loop-value-preserved c =
    let vs = c.args.values.now in
    let i = c.loop-value.value-index in
    let t = table_view c.table_in-table.result.now in
    elim c.if-not-is_passive.branch [
      | then-not-is_passive+in_ok-interface_at+in_ok-push w ↦
          (let active : not (is_passive t) ≡ true = ap not (sym c.is_passive.ensures ∙ w.if-not-is_passive.true) in
          rw (w.interfaces-is, w.in_ok-push.ensures.items)
          (pairs_kept (λ x. not (is_passive x)) (IsInterfaceOf c.args.rfc3021) vs i c.value-item.result t c.loop-value.interfaces.items c.loop-value-test.true
          c.value-item.is c.table_in-table.ensures active _ c.loop-value.invariant w.in_ok-interface_at.ensures.ok))
      | else-not-is_passive w ↦
          (let passive : not (is_passive t) ≡ false = ap not (sym c.is_passive.ensures ∙ w.if-not-is_passive.false) in
          rw w.interfaces-is
          (pairs_left (λ x. not (is_passive x)) (IsInterfaceOf c.args.rfc3021) vs i c.value-item.result t c.loop-value.interfaces.items c.loop-value-test.true
          c.value-item.is c.table_in-table.ensures passive c.loop-value.invariant))
    ]

pub returns-in_err-interface_at-clause-fault : goal.returns-in_err-interface_at-clause-fault
returns-in_err-interface_at-clause-fault c =
    let p = err_from_is_err_and c.from_residual-in_err-interface_at.result c.from_residual-in_err-interface_at.ensures.1 in
    rw (p.1, p.2)
    (elim c.in_err-interface_at.ensures.fault [
      | inl memory ↦ inl memory
      | inr found ↦ inr (any_table_at (λ t. HasInterfaceFault c.args.rfc3021 t _) c.args.values.now c.loop-value.value-index c.value-item.result _ c.loop-value-test.true c.value-item.is c.table_in-table.ensures found)
    ])
