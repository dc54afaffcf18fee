use Rattle.std.proofs.Common.{◌++◌, List, ap, map, subst, sym, ◌∙◌}
use Rattle.std.specs.Prelude.{AllPairs}
use Rattle.ospf_spf.specs.Changes.{IsChangeBefore}
use Rattle.ospf_spf.specs.declared.changes.Change.{Change}
use Rattle.ospf_journal.specs.Changes.{route_change}
use Rattle.ospf_journal.proofs.told.lead.Goals as goal

pub edit-requires-clause-in_order : goal.edit-requires-clause-in_order
edit-requires-clause-in_order c = subst (λ (xs : List Change). AllPairs IsChangeBefore xs) (sym c.deref-2.ensures.value) c.in_ok-routes.ensures.in_order

pub returns-clause-along : goal.returns-clause-along
returns-clause-along c =
    let h = c.in_ok-routes.ensures in
    record {
      routes = c.in_ok-routes.routes.items;
      leads = record { applied = h.applied; in_order = h.in_order; puts = h.puts; gone = h.gone };
      all = c.in_ok-push_routes.ensures ∙ ap (λ (rs : List Change). c.args.changes.now.items ++ map route_change rs) c.deref.ensures.value;
    }
