use Rattle.std.proofs.Common.{◌≤◌, length, refl, subst, sym, take}
use Rattle.std.specs.Io.KnownBytes.{Appends}
use Rattle.ospf_files.proofs.Written.{kept_written, more_within, more_written, taken_begun}
use Rattle.ospf_files.proofs.streams.put.Goals as goal
use Rattle.ospf_files.proofs.streams.put.Goals.{in-Ok, in-Err}

pub returns-in-Ok-eq0-clause-err : goal.returns-in-Ok-eq0-clause-err
returns-in-Ok-eq0-clause-err g c =
    let more = rw c.in-Ok-eq0.is at c.write.ensures.bytes in
    taken_begun _ _ _ _ (more_written _ _ _ _ _ _ _ c.loop.invariant.so_far more refl)

pub returns-in-Err-2-clause-err : goal.returns-in-Err-2-clause-err
returns-in-Err-2-clause-err g c =
    taken_begun _ _ _ _ (kept_written _ _ _ _ c.loop.invariant.so_far c.in-Err-2.ensures.bytes)

pub loop-preserved : goal.loop-preserved
loop-preserved g c =
    elim c.match-write.branch [
      | in-Ok w ↦ let more = w.in-Ok.ensures in
          record {
            within = more_within _ _ _ _ c.loop.invariant.within more.bound w.written-is;
            so_far = more_written _ _ _ _ _ _ _ c.loop.invariant.so_far more.bytes w.written-is;
          }
      | in-Err w ↦ record {
        within = subst (λ n. n ≤ length c.args.bytes.now) (sym w.written-is) c.loop.invariant.within;
        so_far = subst (λ n. Appends (g.W.Write.contents c.args.writer.now) (g.W.Write.contents c.write.new.self) (take n c.args.bytes.now)) (sym w.written-is)
            (kept_written _ _ _ _ c.loop.invariant.so_far w.in-Err.ensures.bytes);
      }
    ]

pub returns-clause-err : goal.returns-clause-err
returns-clause-err g c = taken_begun _ _ _ _ c.loop.invariant.so_far
