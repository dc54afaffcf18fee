use Rattle.std.proofs.Common.{subst, ℕ, sym, ap, ◌∙◌, arith}
use Rattle.ospf_fib.specs.PrefixIndex.Sweep.{IsRangeBegun, blocks_of}
use Rattle.ospf_fib.proofs.PrefixIndex.BlockLemmas.{first_is, table_nested}
use Rattle.ospf_fib.proofs.PrefixIndex.SweepLemmas.{begins_one}
use Rattle.ospf_fib.proofs.index.sweep.Sweep.open.Goals as goal

pub close_to-requires-clause-ahead : goal.close_to-requires-clause-ahead
close_to-requires-clause-ahead c = λ k le lt.
    let routes = c.args.routes.now in
    let up = (table_nested routes c.requires.order).in_order c.args.place k le lt in
    omega (arith, up, first_is routes c.args.place c.index-routes-place.result c.requires.within)

pub returns-clause-swept : goal.returns-clause-swept
returns-clause-swept c =
    let routes = c.args.routes.now in
    let after = c.close_to.new.self in
    let b = blocks_of routes in
    let first = first_is routes c.args.place c.index-routes-place.result c.requires.within in
    let last = c.begin_range.new.self.ranges in
    let starts = after.ranges.starts.items in
    let places = after.ranges.places.items in
    let begun : IsRangeBegun starts places (b.first c.args.place) c.args.place last.starts.items last.places.items =
    subst (λ (n : ℕ). IsRangeBegun starts places n c.args.place last.starts.items last.places.items) (sym first) c.begin_range.ensures.begun in
    let next = begins_one b (table_nested routes c.requires.order) c.args.place after.opened.items starts places c.close_to.ensures.swept
    last.starts.items last.places.items c.requires.within (λ some. omega (arith, first, c.close_to.ensures.open some)) begun in
    let opened = ap (λ v. v.items) c.begin_range.ensures.opened ∙ c.in-Ok.ensures.items in
    rw opened next
