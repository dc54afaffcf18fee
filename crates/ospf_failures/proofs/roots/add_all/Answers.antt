use Rattle.std.proofs.Common.{◌∷◌, [], arith, refl, sym}
use Rattle.std.proofs.lemmas.List.{length-append}
use Rattle.ospf_failures.proofs.RootLemmas.{added_place, added_whole, fits_there, has_added, none_behind, there, walk_on, within}
use Rattle.ospf_failures.proofs.roots.add_all.Goals as goal

pub loop-one-init : goal.loop-one-init
loop-one-init c = record { walked = sym c.into_iter-one-iterator.ensures.into_iter_gives.0; place = refl; added = ([], tt, refl) }

pub index_mut-requires : goal.index_mut-requires
index_mut-requires c =
    let more = c.args.more.items in
    let yielded = c.loop-one.yielded in
    let short = within more yielded c.loop-one.one-iterator.rest.items c.next.new.self.rest.items c.in-Some.one c.loop-one.invariant.walked c.in-Some.ensures.steps.0 in
    let lt = added_place c.args.overalls.now.items more c.requires yielded c.loop-one.place c.loop-one.overalls.items c.loop-one.invariant.place c.loop-one.invariant.added short in
    omega (arith, lt, c.loop-one.overalls.ok.0)

pub add-requires : goal.add-requires
add-requires c =
    let more = c.args.more.items in
    let yielded = c.loop-one.yielded in
    let rest = c.loop-one.one-iterator.rest.items in
    let next = c.next.new.self.rest.items in
    let one = c.in-Some.one in
    let short = within more yielded rest next one c.loop-one.invariant.walked c.in-Some.ensures.steps.0 in
    fits_there c.args.overalls.now.items more c.requires yielded c.loop-one.place c.loop-one.overalls.items c.loop-one.invariant.place c.loop-one.invariant.added short
    c.index_mut.result.now c.index_mut.ensures.value one (there more yielded rest next one c.loop-one.invariant.walked c.in-Some.ensures.steps.0)

pub loop-one-preserved : goal.loop-one-preserved
loop-one-preserved c =
    let more = c.args.more.items in
    let yielded = c.loop-one.yielded in
    let rest = c.loop-one.one-iterator.rest.items in
    let next = c.next.new.self.rest.items in
    let one = c.in-Some.one in
    let short = within more yielded rest next one c.loop-one.invariant.walked c.in-Some.ensures.steps.0 in
    record {
      walked = walk_on more yielded rest next one c.loop-one.invariant.walked c.in-Some.ensures.steps.0;
      place = (let l = length-append yielded (one ∷ []) in let p = c.loop-one.invariant.place in omega (arith, l, p));
      added =
          has_added c.args.overalls.now.items more c.requires yielded c.loop-one.place c.loop-one.overalls.items c.loop-one.invariant.place c.loop-one.invariant.added short
          c.index_mut.result.now c.index_mut.ensures.value one c.add.new.self c.in_ok-add.ensures;
    }

pub returns : goal.returns
returns c =
    added_whole c.args.overalls.now.items c.args.more.items c.loop-one.yielded c.loop-one.overalls.items c.loop-one.place c.requires
    (none_behind c.args.more.items c.loop-one.yielded c.loop-one.one-iterator.rest.items c.loop-one.invariant.walked (omega (arith, c.in-None.ensures.steps.0)))
    c.loop-one.invariant.place c.loop-one.invariant.added
