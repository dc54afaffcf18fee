use Rattle.std.proofs.Common.{◌<◌, ap, ◌∙◌, List}
use Rattle.ospf_lsdb.specs.Database.{Held, reached_at}
use Rattle.ospf_lsdb.proofs.ReachedKeys.{keys_at-reached}
use Rattle.ospf_lsdb.proofs.dated.Dated.reached.Goals as goal

pub returns : goal.returns
returns c =
    let small : c.self.inside.clock < 65536 = c.self.invariant.kept.on_ring in
    record {
      keys = c.at.ensures.keys ∙ keys_at-reached c.self.inside.clock c.args.age c.self.inside.entries.entries c.self.inside.due small c.self.invariant.kept c.at.ensures.ordered
          ∙ ap (λ (db : List Held). reached_at c.args.age db) c.self.view_is;
    }
