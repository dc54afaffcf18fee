use Rattle.std.proofs.Common.{◌≡◌, ◌∙◌, ap}
use Rattle.std.proofs.Common.{suc, List, subst, arith}
use mathlib.Core.List.{IsPrefix}
use Rattle.ospf_fib.specs.declared.index.rule.ListEvent.{ListEvent}
use Rattle.ospf_fib.specs.PrefixIndex.Rule.{tables_of, opens}
use Rattle.ospf_fib.proofs.PrefixIndex.Prefixes.{prefix_trans}
use Rattle.ospf_fib.proofs.PrefixIndex.Events.{whole, tables_prefix}
use Rattle.ospf_fib.proofs.index.gate.ClosedList.covers.Goals as goal

pub returns-clause-covers : goal.returns-clause-covers
returns-clause-covers c =
    let tells = c.compare_exchange.ensures.7 in
    let after = c.compare_exchange.new.seen.log in
    let stays : IsPrefix c.learn.new.self.log after = search (c.compare_exchange.ensures.6) in
    let own : IsPrefix c.self.inside.seen.log c.learn.new.self.log = subst (λ (s : List ListEvent). IsPrefix s c.learn.new.self.log) (ap (λ s. s.log) c.again-seen.ensures) c.learn.ensures.2 in
    let ahead : IsPrefix c.self.inside.seen.log after = prefix_trans c.self.inside.seen.log c.learn.new.self.log after own stays in
    let other : IsPrefix c.other.inside.seen.log after = prefix_trans c.other.inside.seen.log c.learn.new.self.log after c.learn.ensures.3 stays in
    let key : suc (suc (opens after)) ≡ suc (suc (opens c.self.inside.seen.log)) = tells.0 ∙ ap (λ n. n.key) c.self.invariant.4 in
    let same : after ≡ c.self.inside.seen.log = whole c.self.inside.seen.log after ahead c.self.invariant.2 tells.1 (omega (arith, key)) in
    rw (← c.other.view_is) (subst (λ (l : List ListEvent). IsPrefix (tables_of c.other.inside.seen.log) (tables_of l)) same (tables_prefix c.other.inside.seen.log after other))
