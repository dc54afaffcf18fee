use Rattle.std.proofs.Common.{◌∙◌, List, ap}
use Rattle.std.specs.Prelude.{codes}
use Rattle.serde_json.specs.Data.{Data, array, put}
use Rattle.serde_json.specs.View.{items_of, members_view}
use Rattle.serde_json.proofs.Views.{view-Array}
use Rattle.ospf_harm.proofs.harmed.put_unknown.Goals as goal

pub returns : goal.returns
returns c =
    let before = members_view c.args.members.now.entries in
    c.in_ok-put.ensures.ok ∙ ap (λ (d : Data). put (codes "unknown_costs") d before) (view-Array c.in_ok-names.names)
    ∙ ap (λ (ds : List Data). put (codes "unknown_costs") (array (items_of ds)) before) c.in_ok-names.ensures
