use Rattle.std.proofs.Common.{suc, take, drop, false, true, ◌≡◌}
use Rattle.ospf_files.proofs.Listed.{file_read, files_split}
use Rattle.ospf_files.proofs.configs.first_unread.Goals as goal

pub loop-file-preserved : goal.loop-file-preserved
loop-file-preserved c =
    file_read _ _ _ c.loop-file-test.true c.file-item.is c.loop-file.invariant (c.is_read.ensures.0 c.if-not-is_read.false)

pub returns-then-not-is_read-clause-some : goal.returns-then-not-is_read-clause-some
returns-then-not-is_read-clause-some c =
    record {
      before = take c.loop-file.file-index c.args.files.now;
      after = drop (suc c.loop-file.file-index) c.args.files.now;
      files_are = files_split _ _ _ c.loop-file-test.true c.file-item.is;
      read = c.loop-file.invariant;
      unread = λ read. let e : false ≡ true = c.if-not-is_read.ensures.1 read in cc;
    }
