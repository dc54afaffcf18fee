use Rattle.std.proofs.Common.{◌≡◌, rules, subst, sym}
use Rattle.ospf_files.specs.Streams.{IsOutputCut, no_room}
use Rattle.ospf_files.specs.declared.status.Failure.TheVariants as failure
use Rattle.ospf_notes.proofs.lsa_log.LsaLog.write.Goals as goal

pub returns-in_default-clause-cut : goal.returns-in_default-clause-cut
returns-in_default-clause-cut g c = λ none.
    let memory : c.unwrap_or.result ≡ failure.Memory = search rules in
    subst (IsOutputCut c.self.inside.streams) (sym memory) no_room
