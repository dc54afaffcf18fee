use Rattle.std.proofs.Common.{inl, inr}
use Rattle.std.proofs.lemmas.Result.{err_from_is_err_and}
use Rattle.ospf_config.proofs.TextFaults.{text_free, text_least}
use Rattle.ospf_config.proofs.config.Config.from_text.Goals as goal

pub returns-in_ok-config-in-Ok-clause-free : goal.returns-in_ok-config-in-Ok-clause-free
returns-in_ok-config-in-Ok-clause-free c = text_free c.args.text.now _ c.in-Ok.ensures.ok c.in_ok-config-in-Ok.ensures.free

pub returns-in_err-config-in-Ok-clause-fault : goal.returns-in_err-config-in-Ok-clause-fault
returns-in_err-config-in-Ok-clause-fault c =
    let p = err_from_is_err_and c.from_residual.result c.from_residual.ensures.1 in
    rw (p.1, p.2)
    (elim c.in_err-config-in-Ok.ensures.fault [
      | inl memory ↦ inl memory
      | inr least ↦ inr (text_least c.args.text.now _ c.in-Ok.ensures.ok _ least)
    ])
