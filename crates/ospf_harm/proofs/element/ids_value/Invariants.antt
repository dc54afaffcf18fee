use Rattle.std.proofs.Common.{◌≡◌, map, take}
use Rattle.serde_json.specs.Data.{string}
use Rattle.serde_json.specs.View.{view}
use Rattle.ospf_base.specs.Text.{number_text}
use Rattle.ospf_harm.proofs.element.ids_value.Given as goal

-- those so far
abbrev pub invariant-loop-router : goal.invariant-loop-router
invariant-loop-router l = map view l.items.items ≡ map (λ r. string (number_text r.0)) (take l.router-index l.routers)
