use Rattle.std.proofs.Common.{ℕ, ◌-◌, List, [], ◌∷◌, ◌++◌, length, take, drop, ap, ◌∙◌, arith}
use Rattle.std.specs.Prelude.{slice_index_or}
use Rattle.std.proofs.lemmas.List.{length-drop, take_all}
use Rattle.ospf_base.specs.Bytes.{number_bytes}
use Rattle.ospf_base.specs.Sums.{packet_checksum}
use Rattle.ospf_packet.proofs.Sealing.{set_sum_behind}
use Rattle.ospf_packet.proofs.write.seal.Goals as goal

pub returns : goal.returns
returns c =
    let bytes = c.args.out.now.items in
    let start = c.args.start in
    let packet = drop start bytes in
    let set = set_sum_behind bytes start (slice_index_or c.to_be_bytes.result 0 0) (slice_index_or c.to_be_bytes.result 1 0) (omega (arith, c.requires, c.args.out.now.ok)) in
    let summed = ap (λ (x : List ℕ). take (length x - start) (drop start x)) c.deref.ensures.value
    ∙ take_all (length bytes - start) packet (omega (arith, length-drop start bytes)) in
    let sum = c.to_be_bytes.ensures ∙ ap (number_bytes 2) (c.packet_sum.ensures ∙ ap packet_checksum summed) in
    set ∙ ap (λ (s : List ℕ). take start bytes ++ (take 12 packet ++ (slice_index_or s 0 0 ∷ slice_index_or s 1 0 ∷ []) ++ drop 14 packet)) sum
