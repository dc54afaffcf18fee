use Rattle.std.proofs.Common.{subst, ◌<◌, ◌≤◌, ◌⊎◌, ℕ, length, sym, inl, inr, arith}
use Rattle.ospf_fib.proofs.PrefixIndex.RangeLemmas.{at_most_start}
use Rattle.ospf_fib.specs.PrefixIndex.Ranges.{IsInRange, block_start}
use Rattle.ospf_fib.proofs.index.index.directory_of.Goals as goal

less_or_more : (i j : ℕ) → (i < j) ⊎ (j ≤ i)
less_or_more i j = grind arith

pub overflow_cast-range : goal.overflow_cast-range
overflow_cast-range c =
    let range = c.loop-range.range in
    omega (arith, at_most_start c.args.starts.now c.requires.in_order range (omega arith), c.type_inv.starts range)

pub loop-range-preserved : goal.loop-range-preserved
loop-range-preserved c =
    let starts = c.args.starts.now in
    let range = c.loop-range.range in
    let inv = c.loop-range.invariant in
    let old = c.loop-range.directory.items in
    let new = c.name_before.new.directory.items in
    let past = c.blocks_before-past.result in
    let blocks = c.blocks_before-past.ensures in
    let done = c.name_before.ensures in
    let within : range < length starts = omega arith in
    let long : (past ≤ length new) × (length old ≤ length new) × (length new ≤ 65537) = elim (less_or_more past (length old)) [
      | inl less ↦ (omega (arith, done.all (omega arith)), omega (arith, done.all (omega arith)), omega (arith, done.all (omega arith), inv.few))
      | inr more ↦ (omega (arith, done.more more), omega (arith, done.more more), omega (arith, done.more more, blocks.few))
    ] in
    record {
      room = omega (arith, done.room, inv.room);
      few = long.2;
      all = λ le. omega (arith, blocks.all le, long.0, long.2);
      behind = λ lt. omega (arith, blocks.behind lt, long.0);
      named = λ block lt. elim (less_or_more block (length old)) [
        | inl less ↦ subst (λ (r : ℕ). (r < length starts) × IsInRange starts r (block_start block)) (sym (done.same block less)) (inv.named block less)
        | inr more ↦
            let before : block < past = elim (less_or_more past (length old)) [
              | inl less ↦ absurd (omega (arith, done.all (omega arith), lt, more))
              | inr le ↦ omega (arith, done.more le, lt)
            ] in
            let here : (range < length starts) × IsInRange starts range (block_start block) = (within, (omega (arith, inv.behind within, more), λ some. blocks.before block before some)) in
            subst (λ (r : ℕ). (r < length starts) × IsInRange starts r (block_start block)) (sym (done.named block more lt)) here
      ];
    }
