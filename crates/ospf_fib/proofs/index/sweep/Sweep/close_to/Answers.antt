use Rattle.std.proofs.Common.{subst, ◌≡◌, ◌-◌, ℕ, length, take, get_or, vec_len, vec_capacity, ap, ◌∙◌, arith}
use Rattle.std.proofs.lemmas.List.{length-take-le}
use Rattle.ospf_fib.specs.PrefixIndex.Sweep.{IsRangeBegun, blocks_of, top}
use Rattle.ospf_fib.proofs.PrefixIndex.BlockLemmas.{table_nested}
use Rattle.ospf_fib.proofs.PrefixIndex.SweepLemmas.{ends_one}
use Rattle.ospf_fib.proofs.index.sweep.Sweep.close_to.Goals as goal

pub loop-end-preserved : goal.loop-end-preserved
loop-end-preserved c =
    let routes = c.args.routes.now in
    let before = c.loop-end.self in
    let opened = before.opened.items in
    let fewer = c.pop-place.new.self.items in
    let long : vec_len before.opened ≡ length opened = omega (arith, before.opened.ok) in
    let is : fewer ≡ take (length opened - 1) opened = c.pop-place.ensures.rest ∙ ap (λ n. take (n - 1) opened) long in
    let some = c.in-Some.ensures.0 in
    let end = c.in-Some.ensures.2 in
    let b = blocks_of routes in
    let starts = before.ranges.starts.items in
    let places = before.ranges.places.items in
    let last = c.begin_range.new.self.ranges in
    let place : c.innermost-place.result ≡ top b.count fewer = c.innermost-place.ensures in
    let begun : IsRangeBegun starts places (b.end (get_or opened (length opened - 1) 0)) (top b.count fewer) last.starts.items last.places.items =
    subst (λ (n : ℕ). IsRangeBegun starts places n (top b.count fewer) last.starts.items last.places.items) end
    (subst (λ (n : ℕ). IsRangeBegun starts places c.in-Some.end n last.starts.items last.places.items) place c.begin_range.ensures.begun) in
    let next = ends_one b (table_nested routes c.requires.order) c.args.begun opened starts places c.loop-end.invariant.0
    c.args.limit fewer last.starts.items last.places.items some is (omega (arith, end, c.in-Some.ensures.1)) c.requires.ahead begun in
    let still = ap (λ v. v.items) c.begin_range.ensures.opened in
    let fewer_long : length fewer ≡ length opened - 1 = ap length is ∙ length-take-le (length opened - 1) opened (omega arith) in
    let popped : vec_len c.pop-place.new.self ≡ length fewer = omega (arith, c.pop-place.new.self.ok) in
    let same = ap (λ v. vec_len v) c.begin_range.ensures.opened in
    let cap = ap (λ v. vec_capacity v) c.begin_range.ensures.opened in
    let room = c.loop-end.invariant.1 in (
      rw still next,
      record {
        few = omega (arith, fewer_long, popped, same, long, some, room.few, c.begin_range.ensures.places_len);
        starts = omega (arith, fewer_long, popped, same, long, some, room.starts, c.begin_range.ensures.starts_len, c.begin_range.ensures.starts_room);
        places = omega (arith, fewer_long, popped, same, long, some, room.places, c.begin_range.ensures.places_len, c.begin_range.ensures.places_room);
        opened = omega (arith, fewer_long, popped, same, cap, long, some, room.opened, c.pop-place.ensures.capacity);
      },
    )
