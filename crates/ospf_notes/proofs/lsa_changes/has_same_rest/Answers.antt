use Rattle.std.proofs.Common.{◌∙◌}
use Rattle.ospf_notes.proofs.Listed.{behind_eq}
use Rattle.ospf_notes.proofs.lsa_changes.has_same_rest.Goals as goal

pub returns : goal.returns
returns c =
    let same = behind_eq 18 c.as_bytes.result.now c.as_bytes-2.result.now in
    let x = c.as_bytes.ensures.bytes in
    let y = c.as_bytes-2.ensures.bytes in
    let is = c.eq.ensures in cc
