use Rattle.std.proofs.Common.{◌≡◌, ◌+◌, ◌*◌, length, ap, ◌∙◌, arith}
use Rattle.ospf_packet.specs.Meaning.{packet_body_bytes}
use Rattle.ospf_packet.specs.Said.{body_meant}
use Rattle.ospf_packet.specs.declared.value.BodyValue.{BodyValue}
use Rattle.ospf_packet.proofs.BodyLengths.{hello_length, description_length, request_length, acknowledgment_length}
use Rattle.ospf_packet.proofs.write.body_length.Goals as goal

pub returns-in-Hello-clause-found : goal.returns-in-Hello-clause-found
returns-in-Hello-clause-found c =
    let ns = c.in-Hello.neighbours.items in
    let counted : length ns ≡ c.len.result = omega (arith, c.len.ensures, c.in-Hello.neighbours.ok) in
    let whole : length (packet_body_bytes (body_meant c.args.body.now)) ≡ 20 + c.len.result * 4 =
    ap (λ (b : BodyValue). length (packet_body_bytes (body_meant b))) c.in-Hello.is ∙ hello_length c.in-Hello.field-0 ns ∙ ap (λ n. 20 + n * 4) counted in
    rw whole c.entries_length.ensures.found

pub returns-in-Hello-clause-none : goal.returns-in-Hello-clause-none
returns-in-Hello-clause-none c =
    let ns = c.in-Hello.neighbours.items in
    let counted : length ns ≡ c.len.result = omega (arith, c.len.ensures, c.in-Hello.neighbours.ok) in
    let whole : length (packet_body_bytes (body_meant c.args.body.now)) ≡ 20 + c.len.result * 4 =
    ap (λ (b : BodyValue). length (packet_body_bytes (body_meant b))) c.in-Hello.is ∙ hello_length c.in-Hello.field-0 ns ∙ ap (λ n. 20 + n * 4) counted in
    rw whole c.entries_length.ensures.none

pub returns-in-Description-clause-found : goal.returns-in-Description-clause-found
returns-in-Description-clause-found c =
    let ns = c.in-Description.headers.items in
    let counted : length ns ≡ c.len-in-Description.result = omega (arith, c.len-in-Description.ensures, c.in-Description.headers.ok) in
    let whole : length (packet_body_bytes (body_meant c.args.body.now)) ≡ 8 + c.len-in-Description.result * 20 =
    ap (λ (b : BodyValue). length (packet_body_bytes (body_meant b))) c.in-Description.is ∙ description_length c.in-Description.field-0 ns ∙ ap (λ n. 8 + n * 20) counted in
    rw whole c.entries_length-in-Description.ensures.found

pub returns-in-Description-clause-none : goal.returns-in-Description-clause-none
returns-in-Description-clause-none c =
    let ns = c.in-Description.headers.items in
    let counted : length ns ≡ c.len-in-Description.result = omega (arith, c.len-in-Description.ensures, c.in-Description.headers.ok) in
    let whole : length (packet_body_bytes (body_meant c.args.body.now)) ≡ 8 + c.len-in-Description.result * 20 =
    ap (λ (b : BodyValue). length (packet_body_bytes (body_meant b))) c.in-Description.is ∙ description_length c.in-Description.field-0 ns ∙ ap (λ n. 8 + n * 20) counted in
    rw whole c.entries_length-in-Description.ensures.none

pub returns-in-Request-clause-found : goal.returns-in-Request-clause-found
returns-in-Request-clause-found c =
    let ns = c.in-Request.entries.items in
    let counted : length ns ≡ c.len-in-Request.result = omega (arith, c.len-in-Request.ensures, c.in-Request.entries.ok) in
    let whole : length (packet_body_bytes (body_meant c.args.body.now)) ≡ 0 + c.len-in-Request.result * 12 =
    ap (λ (b : BodyValue). length (packet_body_bytes (body_meant b))) c.in-Request.is ∙ request_length ns ∙ ap (λ n. 0 + n * 12) counted in
    rw whole c.entries_length-in-Request.ensures.found

pub returns-in-Request-clause-none : goal.returns-in-Request-clause-none
returns-in-Request-clause-none c =
    let ns = c.in-Request.entries.items in
    let counted : length ns ≡ c.len-in-Request.result = omega (arith, c.len-in-Request.ensures, c.in-Request.entries.ok) in
    let whole : length (packet_body_bytes (body_meant c.args.body.now)) ≡ 0 + c.len-in-Request.result * 12 =
    ap (λ (b : BodyValue). length (packet_body_bytes (body_meant b))) c.in-Request.is ∙ request_length ns ∙ ap (λ n. 0 + n * 12) counted in
    rw whole c.entries_length-in-Request.ensures.none

pub returns-in-Acknowledgment-clause-found : goal.returns-in-Acknowledgment-clause-found
returns-in-Acknowledgment-clause-found c =
    let ns = c.in-Acknowledgment.headers.items in
    let counted : length ns ≡ c.len-in-Acknowledgment.result = omega (arith, c.len-in-Acknowledgment.ensures, c.in-Acknowledgment.headers.ok) in
    let whole : length (packet_body_bytes (body_meant c.args.body.now)) ≡ 0 + c.len-in-Acknowledgment.result * 20 =
    ap (λ (b : BodyValue). length (packet_body_bytes (body_meant b))) c.in-Acknowledgment.is ∙ acknowledgment_length ns ∙ ap (λ n. 0 + n * 20) counted in
    rw whole c.entries_length-in-Acknowledgment.ensures.found

pub returns-in-Acknowledgment-clause-none : goal.returns-in-Acknowledgment-clause-none
returns-in-Acknowledgment-clause-none c =
    let ns = c.in-Acknowledgment.headers.items in
    let counted : length ns ≡ c.len-in-Acknowledgment.result = omega (arith, c.len-in-Acknowledgment.ensures, c.in-Acknowledgment.headers.ok) in
    let whole : length (packet_body_bytes (body_meant c.args.body.now)) ≡ 0 + c.len-in-Acknowledgment.result * 20 =
    ap (λ (b : BodyValue). length (packet_body_bytes (body_meant b))) c.in-Acknowledgment.is ∙ acknowledgment_length ns ∙ ap (λ n. 0 + n * 20) counted in
    rw whole c.entries_length-in-Acknowledgment.ensures.none
