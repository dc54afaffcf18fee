use Rattle.std.proofs.Common.{◌≡◌, ◌∙◌, ◌++◌, ◌<◌, ap, sym, subst, refl, Err, length}
use Rattle.std.proofs.lemmas.List.Elements.{All-push}
use Rattle.ospf_base.specs.Constants.{largest_packet}
use Rattle.ospf_packet.specs.Meaning.{packet_bytes}
use Rattle.ospf_packet.specs.Packet.{meaning_of}
use Rattle.ospf_packet.specs.Said.{meant}
use Rattle.ospf_area.specs.Outputs.{AreReadAsSent}
use Rattle.ospf_area.proofs.Words.{IsReadAsSent}
use Rattle.ospf_area.proofs.SendingLemmas.{datagrams_long, datagrams_read, sends_none, packet_said, read_again}
use Rattle.ospf_area.proofs.sending.send.Goals as goal

pub returns-in-Err-TooLong : goal.returns-in-Err-TooLong
returns-in-Err-TooLong c =
    let long : largest_packet < length (packet_bytes (meant c.args.packet.now)) = c.write_packet.ensures.too_long.0 (c.in-Err-TooLong.is ∙ ap Err c.in-Err-TooLong.field-0-is) in
    rw (datagrams_long c.args.way (meant c.args.packet.now) long) (sends_none c.args.out.now)

pub invariant_of-push : goal.invariant_of-push
invariant_of-push c =
    let m = meant c.args.packet.now in
    read_again c.write_packet.new.out.items m (c.in-Ok.ensures.ok ∙ ap (λ bs. bs ++ packet_bytes m) c.new-bytes.ensures.items) c.in-Ok.ensures.again

pub invariant_of-out-2 : goal.invariant_of-out-2
invariant_of-out-2 c =
    let m = meant c.args.packet.now in
    subst AreReadAsSent (sym c.in_ok-push.ensures.items)
    (All-push IsReadAsSent _ _ c.out.invariant (read_again c.write_packet.new.out.items m (c.in-Ok.ensures.ok ∙ ap (λ bs. bs ++ packet_bytes m) c.new-bytes.ensures.items) c.in-Ok.ensures.again))

pub returns : goal.returns
returns c =
    let m = meant c.args.packet.now in
    let short : largest_packet < length (packet_bytes m) → ⊥ = λ long. let is = c.write_packet.ensures.too_long.1 long in absurd (cc) in
    let bytes : c.write_packet.new.out.items ≡ packet_bytes m = c.in-Ok.ensures.ok ∙ ap (λ bs. bs ++ packet_bytes m) c.new-bytes.ensures.items in
    let said : meaning_of (packet_bytes m) ≡ m = packet_said (packet_bytes m) m c.in-Ok.ensures.again in
    rw (datagrams_read c.args.way m short said, ← c.out.view_is, c.in_ok-push.ensures.items, bytes) refl
