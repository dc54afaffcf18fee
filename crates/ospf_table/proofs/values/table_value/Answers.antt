use Rattle.std.proofs.Common.{◌∙◌, List, ap, map}
use Rattle.std.proofs.lemmas.Result.{IfOk-weaker}
use Rattle.serde_json.specs.View.{view}
use Rattle.ospf_graph.specs.declared.route.Route.{Route}
use Rattle.ospf_table.specs.Values.{table_data}
use Rattle.ospf_table.proofs.values.table_value.Goals as goal

pub returns : goal.returns
returns c =
    IfOk-weaker c.table_object.result _ _
    (λ value is. (
      map view c.in_ok-lookups.lookups.items,
      c.in_ok-lookups.ensures,
      is ∙ ap (λ (routes : List Route). table_data (map view c.in_ok-lookups.lookups.items) c.args.root routes) c.routes.ensures.routes,
    )) c.table_object.ensures
