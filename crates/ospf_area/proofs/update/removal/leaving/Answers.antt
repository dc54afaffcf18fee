use Rattle.std.proofs.Common.{sym, ap, ◌∙◌, filter, length}
use Rattle.ospf_area.specs.State.{AreaValue}
use Rattle.ospf_lsdb.specs.Database.{is_expired}
use Rattle.ospf_area.proofs.Updates.RemovalLemmas.{leaving_none}
use Rattle.ospf_area.proofs.update.removal.leaving.Goals as goal

pub returns-then-expired-eq0 : goal.returns-then-expired-eq0
returns-then-expired-eq0 c =
    let none = sym (ap (λ (s : AreaValue). length (filter is_expired s.database)) c.area.view_is) ∙ sym c.expired.ensures ∙ c.if-expired-eq0.true in
    c.new.ensures.items ∙ sym (leaving_none c.args.area.now none)
