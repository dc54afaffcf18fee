use Rattle.std.proofs.Common.{◌≡◌, ◌+◌, ◌-◌, ◌/◌, ◌<◌, [], get_or, length, subst, sym, arith}
use Rattle.ospf_base.specs.Keys.{Precedes}
use Rattle.ospf_base.specs.declared.ids.LsaKey.{LsaKey}
use Rattle.ospf_lsa.specs.Lsa.{key_of}
use Rattle.std.proofs.lemmas.List.{get_or_default}
use Rattle.ospf_lsa.proofs.KeyLemmas.{key_at}
use Rattle.ospf_lsa.proofs.ListingLemmas.{after_from, before_to}
use Rattle.ospf_lsa.proofs.listing.count_through.Goals as goal

pub loop-low-preserved-then-precedes : goal.loop-low-preserved-then-precedes
loop-low-preserved-then-precedes c =
    let m = c.loop-low.low + (c.loop-low.high - c.loop-low.low) / 2 in
    let ordered = c.loop-low-test.true in
    let within : m < length c.args.lsas.now = omega (arith, c.loop-low.invariant.within) in
    let x = get_or c.args.lsas.now m [] in
    let is : x ≡ get_or c.args.lsas.now m x = get_or_default c.args.lsas.now m [] x within in
    let lt : Precedes c.args.key.now (key_of x) =
    subst (λ (k : LsaKey). Precedes c.args.key.now k) (key_at c.args.keys.now c.args.lsas.now c.requires.keys m _ [] within) (c.precedes.ensures.0 c.if-precedes.true) in
    record {
      ordered = omega arith;
      within = omega arith;
      before = c.loop-low.invariant.before;
      after = after_from c.args.lsas.now c.args.key.now c.requires.rising m x within is lt;
    }

pub loop-low-preserved : goal.loop-low-preserved
loop-low-preserved c =
    let m = c.loop-low.low + (c.loop-low.high - c.loop-low.low) / 2 in
    let ordered = c.loop-low-test.true in
    let within : m < length c.args.lsas.now = omega (arith, c.loop-low.invariant.within) in
    let x = get_or c.args.lsas.now m [] in
    let is : x ≡ get_or c.args.lsas.now m x = get_or_default c.args.lsas.now m [] x within in
    let not : Precedes c.args.key.now (key_of x) → ⊥ =
    λ lt. let yes = c.precedes.ensures.1 (subst (λ (k : LsaKey). Precedes c.args.key.now k) (sym (key_at c.args.keys.now c.args.lsas.now c.requires.keys m _ [] within)) lt) in cc in
    record {
      ordered = omega arith;
      within = c.loop-low.invariant.within;
      before = before_to c.args.lsas.now c.args.key.now c.requires.rising m x within is not;
      after = c.loop-low.invariant.after;
    }
