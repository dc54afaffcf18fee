use Rattle.std.proofs.Common.{◌≡◌, List, [], arith, subst, sym}
use Rattle.std.specs.Prelude.{Vec}
use Rattle.std.specs.declared.alloc.Global.{Global}
use Rattle.ospf_failures.specs.declared.overall.Overall.{Overall}
use Rattle.ospf_failures.proofs.RootLemmas.{IsAddedUp, added_all, added_more, added_none, no_length, piece_fits}
use Rattle.ospf_failures.proofs.roots.added_up.Goals as goal

pub loop-piece-init : goal.loop-piece-init
loop-piece-init c = λ adverts detail groups left.
    subst (λ (l : List (Vec Overall Global)). IsAddedUp adverts detail c.args.outages.now groups l c.in_ok-overalls.overalls.items) (sym c.into_iter-piece-iterator.ensures.into_iter_gives.0)
    (added_none adverts detail c.args.outages.now groups c.args.pieces.items c.in_ok-overalls.overalls.items left (c.in_ok-overalls.ensures adverts detail))

pub add_all-requires : goal.add_all-requires
add_all-requires c =
    let adverts = c.requires.0 in
    let detail = c.requires.1 in
    let groups = c.requires.2 in
    let so_far =
    subst (λ (l : List (Vec Overall Global)). IsAddedUp adverts detail c.args.outages.now groups l c.loop-piece.overalls.items) c.in-Some.ensures.steps.0
    (c.loop-piece.invariant adverts detail groups c.requires.4) in
    piece_fits adverts detail c.args.outages.now groups c.in-Some.piece c.next.new.self.rest.items c.loop-piece.overalls.items so_far c.requires.3

pub loop-piece-preserved : goal.loop-piece-preserved
loop-piece-preserved c = λ adverts detail groups left.
    let so_far =
    subst (λ (l : List (Vec Overall Global)). IsAddedUp adverts detail c.args.outages.now groups l c.loop-piece.overalls.items) c.in-Some.ensures.steps.0
    (c.loop-piece.invariant adverts detail groups left) in
    added_more adverts detail c.args.outages.now groups c.in-Some.piece c.next.new.self.rest.items c.loop-piece.overalls.items so_far c.add_all.new.overalls.items c.in_ok-add_all.ensures

pub returns : goal.returns
returns c = λ adverts detail groups left.
    let none : c.loop-piece.piece-iterator.rest.items ≡ [] = no_length c.loop-piece.piece-iterator.rest.items (omega (arith, c.in-None.ensures.steps.0)) in
    added_all adverts detail c.args.outages.now groups c.loop-piece.overalls.items
    (subst (λ (l : List (Vec Overall Global)). IsAddedUp adverts detail c.args.outages.now groups l c.loop-piece.overalls.items) none (c.loop-piece.invariant adverts detail groups left))
