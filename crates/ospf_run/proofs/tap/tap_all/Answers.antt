use Rattle.std.proofs.Common.{◌≡◌, ◌++◌, ◌∷◌, [], arith, subst, sym}
use Rattle.std.specs.List.{AllZip}
use Rattle.ospf_drive.proofs.Joined.{all_gone, pairs_then, walked_on}
use Rattle.ospf_run.proofs.tap.tap_all.Goals as goal

pub loop-place-preserved : goal.loop-place-preserved
loop-place-preserved g c =
    let gone = c.loop-place.invariant.tapped in
    record {
      left = omega (arith, c.in-Some.ensures.cases.1, c.loop-place.invariant.left);
      tapped = (gone.0 ++ c.in-Some.wire ∷ [], walked_on c.args.wires.items gone.0 c.loop-place.wires.rest.items c.next.new.self.rest.items c.in-Some.wire gone.1 c.in-Some.ensures.cases.0, subst (λ ts. AllZip (λ wire it. it.wire ≡ wire) (gone.0 ++ c.in-Some.wire ∷ []) ts) (sym c.in_ok-put.ensures.ok) (pairs_then (λ wire it. it.wire ≡ wire) gone.0 c.loop-place.all.items c.in-Some.wire c.in_ok-tapped.field-0 gone.2 c.in_ok-tapped.ensures));
    }

pub returns : goal.returns
returns g c =
    let gone = c.loop-place.invariant.tapped in
    all_gone (λ wire it. it.wire ≡ wire) c.args.wires.items gone.0 c.loop-place.wires.rest.items c.loop-place.all.items gone.1 (omega (arith, c.loop-place.invariant.left, c.loop-place-test.false, c.requires.wires)) gone.2
