use Rattle.std.proofs.Common.{◌≡◌, ◌∙◌, ◌==◌, false, List, ap, length, sym}
use Rattle.std.specs.Prelude.{codes}
use Rattle.serde_json.specs.Data.{Data, put}
use Rattle.serde_json.specs.View.{members_view}
use Rattle.serde_json.proofs.Views.{view-Array}
use Rattle.ospf_harm.specs.Json.{with_hidden}
use Rattle.ospf_harm.proofs.JsonLemmas.{put_names}
use Rattle.ospf_harm.proofs.warnings.put_hidden.Goals as goal

pub returns-in_ok-put : goal.returns-in_ok-put
returns-in_ok-put c =
    let names = c.in_ok-names.names in
    let before = members_view c.args.members.now.entries in
    let some : (length names.items == 0) ≡ false = ap (λ n. n == 0) (sym names.ok.0) ∙ sym c.is_empty.ensures ∙ c.if-not-is_empty.true in
    let here = c.in_ok-put.ensures.ok ∙ ap (λ (d : Data). put (codes "unknown_costs") d before) (view-Array names) in
    here ∙ put_names names.items before some ∙ ap (λ (ds : List Data). with_hidden ds before) c.in_ok-names.ensures
