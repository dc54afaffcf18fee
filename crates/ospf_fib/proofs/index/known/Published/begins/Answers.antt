use Rattle.std.proofs.Common.{◌↔◌, ap, subst, IsTrue, nat_le, List}
use Rattle.std.specs.Bool.{OnFalse}
use mathlib.Core.List.{IsPrefix}
use Rattle.ospf_fib.specs.declared.index.rule.ListEvent.{ListEvent}
use Rattle.ospf_fib.specs.PrefixIndex.Rule.{tables_of}
use Rattle.ospf_fib.proofs.PrefixIndex.Events.{tables_prefix}
use Rattle.ospf_fib.proofs.PrefixIndex.Prefixes.{lengths_tell}
use Rattle.ospf_fib.proofs.index.known.Published.begins.Goals as goal

-- what the lengths of both lists tell
told : (c : goal.After-drop-both) →
    (IsTrue (nat_le c.self.inside.count c.other.inside.count) ↔ IsPrefix c.args.self.now.tables c.args.other.now.tables)
    × OnFalse (nat_le c.self.inside.count c.other.inside.count) (IsPrefix c.args.other.now.tables c.args.self.now.tables)
told c =
    let both = c.learn.new.self.log in
    let own : IsPrefix c.self.inside.seen.log both = subst (λ (l : List ListEvent). IsPrefix l both) (ap (λ s. s.log) c.again-both.ensures) c.learn.ensures.2 in
    rw (← c.self.view_is, ← c.other.view_is)
    (lengths_tell (tables_of c.self.inside.seen.log) (tables_of c.other.inside.seen.log) (tables_of both) c.self.inside.count c.other.inside.count (tables_prefix c.self.inside.seen.log both own) (tables_prefix c.other.inside.seen.log both c.learn.ensures.3) c.self.invariant c.other.invariant)

pub returns-clause-begins : goal.returns-clause-begins
returns-clause-begins c = search ((told c).0)

pub returns-clause-longer : goal.returns-clause-longer
returns-clause-longer c = (told c).1
