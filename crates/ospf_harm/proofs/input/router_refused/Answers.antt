use Rattle.std.proofs.Common.{rules, ◌≡◌, [], string_bytes}
use Rattle.std.specs.Bool.{⊤}
use Rattle.ospf_table.proofs.Lines.{map_some}
use Rattle.ospf_table.specs.Line.{Reads}
use Rattle.ospf_harm.specs.Input.{IsAreaRefusal, large_line, of_router}
use Rattle.ospf_harm.proofs.input.router_refused.Goals as goal

pub returns-in-Ok : goal.returns-in-Ok
returns-in-Ok c = λ input listing reads first.
    let shown : string_bytes c.in-Ok.text ≡ large_line c.args.router = search (rules, c.in-Ok.ensures.ok) in
    map_some input (λ bytes. Reads bytes [] listing) (λ bytes. IsAreaRefusal ⊤ bytes (string_bytes c.in-Ok.text))
    (λ bytes read. of_router listing c.args.router read tt first shown) reads
