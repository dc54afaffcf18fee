use Rattle.ospf_files.proofs.Written.{both_written, front_begun, kept_written, rest_begun, whatever, whole_begun}
use Rattle.ospf_files.proofs.streams.write_joined.Goals as goal

pub returns-in_err-put-clause-err : goal.returns-in_err-put-clause-err
returns-in_err-put-clause-err g c =
    rw (← c.as_bytes.ensures.value) (whatever _ (front_begun _ _ _ _ c.in_err-put.ensures.err))

pub returns-in_err-put-2-clause-err : goal.returns-in_err-put-2-clause-err
returns-in_err-put-2-clause-err g c =
    rw (← c.as_bytes.ensures.value, ← c.as_bytes-2.ensures.value) (whatever _ (rest_begun _ _ _ _ _ c.in_ok-put.ensures.ok c.in_err-put-2.ensures.err))

pub returns-clause-err : goal.returns-clause-err
returns-clause-err g c =
    rw (← c.as_bytes.ensures.value, ← c.as_bytes-2.ensures.value)
    (whatever _ (whole_begun _ _ _ (kept_written _ _ _ _ (both_written _ _ _ _ _ c.in_ok-put.ensures.ok c.in_ok-put-2.ensures.ok) c.flush.ensures.bytes)))
