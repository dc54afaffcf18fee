use Rattle.std.proofs.Common.{◌==◌, ◌∙◌, List, ap, length}
use Rattle.ospf_spf.specs.declared.changes.Change.{Change}
use Rattle.ospf_router.proofs.TableLemmas.{told_same}
use Rattle.ospf_router.proofs.routes.is_same.Goals as goal

pub returns : goal.returns
returns c =
    let e = c.in_ok-changes.ensures in
    told_same c.args.old.now c.args.new.now c.in_ok-changes.changes.items e.applied e.puts e.gone c.is_empty.result (c.is_empty.ensures ∙ ap (λ (cs : List Change). length cs == 0) c.as_slice.ensures.value)
