use Rattle.std.proofs.Common.{List, ℕ, ◌++◌, ap, ◌∙◌, arith}
use Rattle.ospf_packet.specs.Said.{meant}
use Rattle.ospf_packet.proofs.Sealing.{sealed_behind, unsealed}
use Rattle.ospf_packet.proofs.write.push_packet.Goals as goal

pub returns-clause-bytes : goal.returns-clause-bytes
returns-clause-bytes c =
    let old = c.args.out.now.items in
    let m = meant c.args.value.now in
    let head = c.push_bytes.ensures.bytes ∙ ap (λ (x : List ℕ). old ++ x) c.head.ensures.bytes in
    let bytes = unsealed m c.kind_of.result c.args.size old c.push_bytes.new.out.items c.push_body.new.out.items head c.push_body.ensures.bytes c.kind_of.ensures c.requires.size in
    c.seal.ensures ∙ sealed_behind m old c.push_body.new.out.items c.len-start.result (omega (arith, c.len-start.ensures, c.args.out.now.ok)) bytes
