use Rattle.std.proofs.Common.{◌++◌, List, ℕ, ap, sym, ◌∙◌, subst, append_assoc, arith}
use Rattle.std.specs.List.{flat_map}
use Rattle.ospf_packet.specs.Fields.{hello_bytes}
use Rattle.ospf_packet.specs.Meaning.{packet_body_bytes, CountFits}
use Rattle.ospf_lsa.specs.Attached.{router_bytes}
use Rattle.ospf_packet.specs.Said.{body_meant}
use Rattle.ospf_packet.specs.declared.value.BodyValue.{BodyValue}
use Rattle.ospf_packet.proofs.write.push_body.Goals as goal

pub overflow_cast-count : goal.overflow_cast-count
overflow_cast-count c =
    let count = subst (λ (b : BodyValue). CountFits (body_meant b)) c.in-Update.is c.requires.count in
    omega (arith, count, c.len-count.ensures, c.in-Update.lsas.ok)

pub returns-in-Hello-clause-bytes : goal.returns-in-Hello-clause-bytes
returns-in-Hello-clause-bytes c =
    let old = c.args.out.now.items in
    let ns = c.in-Hello.neighbours.items in
    let fields = c.push_bytes.ensures.bytes ∙ ap (λ (t : List ℕ). old ++ t) c.to_bytes.ensures.bytes in
    let routers = rw c.deref.ensures.value at c.push_neighbours.ensures.routers in
    routers ∙ ap (λ (t : List ℕ). t ++ flat_map router_bytes ns) fields ∙ append_assoc old (hello_bytes c.in-Hello.fields) (flat_map router_bytes ns)
    ∙ sym (ap (λ (b : BodyValue). old ++ packet_body_bytes (body_meant b)) c.in-Hello.is)
