use Rattle.std.proofs.Common.{rules, ◌≡◌, [], string_bytes}
use Rattle.ospf_table.proofs.Lines.{map_some}
use Rattle.ospf_table.specs.Line.{Refuses}
use Rattle.ospf_table.specs.Refusal.{refusal_line}
use Rattle.ospf_harm.specs.Input.{IsAreaRefusal, of_line}
use Rattle.ospf_harm.proofs.input.line_refused.Goals as goal

pub returns-in-Ok : goal.returns-in-Ok
returns-in-Ok c = λ input is.
    let shown : string_bytes c.in-Ok.text ≡ refusal_line c.args.number c.args.fault = search (rules, c.in-Ok.ensures.ok) in
    map_some input (λ bytes. Refuses bytes [] c.args.number c.args.fault) (λ bytes. IsAreaRefusal ⊥ bytes (string_bytes c.in-Ok.text))
    (λ bytes refused. of_line c.args.number c.args.fault refused shown) is
