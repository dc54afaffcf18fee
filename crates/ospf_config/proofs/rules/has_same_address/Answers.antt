use Rattle.std.proofs.Common.{inl, inr, refl}
use Rattle.std.proofs.lemmas.Bool.{iff_false}
use Rattle.std.proofs.lemmas.Result.{err_from_is_err_and}
use Rattle.ospf_config.proofs.ConflictLists.{same_prefix, has_conflict_of}
use Rattle.ospf_config.proofs.rules.has_same_address.Goals as goal

pub returns-in_err-addresses-clause-fault : goal.returns-in_err-addresses-clause-fault
returns-in_err-addresses-clause-fault c =
    let p = err_from_is_err_and c.from_residual.result c.from_residual.ensures.1 in
    let fault = rw (c.interface_values-interfaces.ensures.tables, c.asks_rfc3021-rfc3021.ensures) at c.in_err-addresses.ensures.fault in
    rw (p.1, p.2)
    (elim fault [
      | inl memory ↦ memory
      | inr found ↦ absurd (c.requires _ (inr (inl found)))
    ])

pub returns-then-has_conflict-clause-ok : goal.returns-then-has_conflict-clause-ok
returns-then-has_conflict-clause-ok c =
    let pairs = rw (c.interface_values-interfaces.ensures.tables, c.asks_rfc3021-rfc3021.ensures) at c.in_ok-addresses.ensures.ok in
    let conflict = rw c.deref.ensures.value at (c.has_conflict.ensures.0 c.if-has_conflict.true) in
    ((λ _. inl (same_prefix _ _ _ pairs conflict)), λ _. refl)

pub returns-clause-ok : goal.returns-clause-ok
returns-clause-ok c =
    let pairs = rw (c.interface_values-interfaces.ensures.tables, c.asks_rfc3021-rfc3021.ensures) at c.in_ok-addresses.ensures.ok in
    let taken = rw (c.interface_values-interfaces.ensures.tables, c.asks_rfc3021-rfc3021.ensures, c.host_values.ensures.tables) at c.is_any_taken-taken.ensures in (
      (λ yes. inr (taken.0 yes)),
      λ has. elim has [
        | inl prefix ↦ absurd (iff_false c.has_conflict.ensures c.if-has_conflict.false (rw c.deref.ensures.value (has_conflict_of _ _ _ pairs prefix)))
        | inr any ↦ taken.1 any
      ],
    )
