use Rattle.std.proofs.Common.{◌≡◌, length, nat_eq}
use Rattle.ospf_spf.proofs.IncrementalSpf.ChangedLemmas.{extends_holds}
use Rattle.ospf_spf.proofs.IncrementalSpf.KeptShrink.{changes_both, changes_more, empty_of, same_both}
use Rattle.ospf_spf.proofs.incremental.kept.KeptPaths.change.Goals as goal

pub returns-then-is_empty-clause-edges : goal.returns-then-is_empty-clause-edges
returns-then-is_empty-clause-edges c =
    let told : c.is_empty.result ≡ nat_eq (length c.args.less.now) 0 = (let is = c.is_empty.ensures in search) in
    changes_more c.args.less.now c.args.more.now c.args.self.edges c.in_ok-paths.paths.edges (empty_of c.is_empty.result (length c.args.less.now) told c.if-is_empty.true) c.in_ok-paths.ensures.edges

pub returns-clause-edges : goal.returns-clause-edges
returns-clause-edges c =
    changes_both c.args.less.now c.args.more.now c.args.self.edges c.in_ok-left.left.edges c.in_ok-paths-2.paths.edges c.in_ok-left.ensures.edges c.in_ok-paths-2.ensures.edges

pub returns-clause-same : goal.returns-clause-same
returns-clause-same c =
    same_both c.shrink.new.changed.items c.grow-2.new.changed.items c.args.self c.in_ok-left.left c.in_ok-paths-2.paths (extends_holds _ _ c.in_ok-paths-2.ensures.changed)
    c.in_ok-left.ensures.same c.in_ok-paths-2.ensures.same
