use Rattle.std.proofs.Common.{rules, ◌≡◌, ◌∙◌, ap, inl, inr}
use Rattle.std.proofs.lemmas.Result.{IfOk-weaker}
use Rattle.serde_json.specs.Data.{Data, null}
use Rattle.serde_json.specs.View.{view}
use Rattle.serde_json.specs.declared.value.Value.{the_lemmas}
use Rattle.serde_json.specs.declared.value.Value.TheVariants as value
use Rattle.ospf_table.specs.Values.{found_data}
use Rattle.ospf_table.proofs.values.lookup_value.Goals as goal

pub returns-in-Some : goal.returns-in-Some
returns-in-Some c = IfOk-weaker c.best_value.result _ _ (λ value is. inr (c.in-Some.route.now, c.in-Some.ensures.found, is)) c.best_value.ensures

pub returns-in-None : goal.returns-in-None
returns-in-None c =
    let none : view value.Null ≡ null = search (rules, the_lemmas) in
    IfOk-weaker c.found_value.result _ _ (λ value is. inl (c.in-None.ensures.none, is ∙ ap (λ (d : Data). found_data c.args.address.0 d) none)) c.found_value.ensures
