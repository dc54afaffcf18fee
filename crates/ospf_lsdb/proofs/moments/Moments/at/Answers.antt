use Rattle.std.proofs.Common.{rules, ap, ◌∙◌, List, map}
use Rattle.ospf_lsdb.specs.declared.moments.AgeDue.{AgeDue}
use Rattle.ospf_lsdb.specs.Moments.{keys_at}
use Rattle.ospf_lsdb.proofs.MomentLemmas.{keys_at-range}
use Rattle.ospf_lsdb.proofs.moments.Moments.at.Goals as goal

pub returns-clause-keys : goal.returns-clause-keys
returns-clause-keys c =
    ap (λ (ds : List AgeDue). map (λ (d : AgeDue). d.key) ds) (c.range.ensures.between (search rules))
    ∙ keys_at-range c.self.inside.set c.args.moment c.args.age
    ∙ ap (λ (ds : List AgeDue). keys_at c.args.moment c.args.age ds) c.self.view_is
