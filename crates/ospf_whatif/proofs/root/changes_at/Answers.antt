use Rattle.std.proofs.Common.{◌≡◌, ◌≤◌, ◌<◌, get_or, length, take, refl, sym, subst, inl, inr, arith}
use Rattle.std.specs.List.{Contains}
use Rattle.std.proofs.lemmas.List.{get_or_default, take_all}
use Rattle.ospf_graph.proofs.ListLemmas.{more_members}
use Rattle.ospf_graph.specs.Routes.{IsRoute}
use Rattle.ospf_whatif.specs.Outage.{left_of_area}
use Rattle.ospf_whatif.proofs.EffectLemmas.{before_place, changes_next, changes_skip, changes_up}
use Rattle.ospf_whatif.proofs.root.changes_at.Goals as goal
use Rattle.ospf_whatif.proofs.root.changes_at.Goals.{then-next-at+in_ok-add_change, else-next-at}

pub loop-place-preserved : goal.loop-place-preserved
loop-place-preserved g c =
    let inv = c.loop-place.invariant in
    let routes = c.args.routes.now in
    let places = c.args.places.now in
    let i = c.loop-place.place-index in
    let at = get_or places i 0 in
    let lt : i < length places = c.loop-place-test.true in
    let within : at < length routes = c.requires.within i 0 lt in
    let is : at ≡ get_or places i at = get_or_default places i 0 at lt in
    elim c.if-next-at.branch [
      | then-next-at+in_ok-add_change w ↦ rw (w.next-is, w.changes-is) (record {
        within = omega (arith, within);
        last = inr (at, (more_members places i 0 lt at).1 (inr refl), refl);
        so_far = λ adverts root over all.
            changes_next (left_of_area adverts c.args.outage.now) root routes c.requires.routes places i at c.loop-place.next lt is within c.loop-place.changes.items
            (inv.so_far adverts root over all) w.if-next-at.true w.index-routes-at.result w.index-routes-at.is w.add_change.new.changes.items
            (w.in_ok-add_change.ensures adverts root over (subst (IsRoute adverts root) (sym w.index-routes-at.is) (all at w.index-routes-at.result within)));
      })
      | else-next-at w ↦
          (let low : at < c.loop-place.next = w.if-next-at.false in
          let before : Contains (take i places) at = elim inv.last [
            | inl zero' ↦ absurd (omega (arith, zero', low))
            | inr k ↦ (let most = before_place places i k.0 c.requires.in_order lt k.1 in
                let same : k.0 ≡ at = omega (arith, k.2, most, low) in
                subst (λ n. Contains (take i places) n) same k.1)
          ] in
          rw (w.next-is, w.changes-is) (record {
            within = inv.within;
            last = elim inv.last [ inl zero' ↦ inl zero' | inr k ↦ inr (k.0, (more_members places i 0 lt k.0).1 (inl k.1), k.2) ];
            so_far = λ adverts root over all.
                changes_skip (left_of_area adverts c.args.outage.now) root routes c.requires.routes places i at c.loop-place.next lt is within c.loop-place.changes.items
                (inv.so_far adverts root over all) before;
          }))
    ]

pub returns : goal.returns
returns g c = λ adverts root over all.
    let end : length c.args.places.now ≤ c.loop-place.place-index = c.loop-place-test.false in
    let so_far = rw take_all at c.loop-place.invariant.so_far in
    changes_up (left_of_area adverts c.args.outage.now) root c.args.routes.now c.args.places.now c.loop-place.next (length c.args.routes.now) c.loop-place.changes.items
    c.loop-place.invariant.within (so_far adverts root over all)
