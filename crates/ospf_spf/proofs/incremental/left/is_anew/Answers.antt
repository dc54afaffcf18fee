use Rattle.ospf_spf.proofs.IncrementalSpf.LeftLemmas.{told_among}
use Rattle.ospf_spf.proofs.incremental.left.is_anew.Goals as goal

pub returns-else-is_all : goal.returns-else-is_all
returns-else-is_all c = rw c.if-is_all.false (told_among c.args.gone.now c.args.vertex c.is_among.result c.is_among.ensures)
