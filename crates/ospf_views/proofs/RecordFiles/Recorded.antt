-- A record that is written part by part.
use Rattle.std.proofs.Common.{◌≡◌, ℕ, ◌+◌, List, ◌++◌, length, sym, ap, ◌∙◌, append_assoc, arith}
use Rattle.ospf_base.specs.Constants.{ip_header}
use Rattle.ospf_views.specs.RecordFiles.Ip.{ip_header_bytes, ip_packet}
use Rattle.ospf_views.specs.RecordFiles.Pcap.{record_bytes, record_header}

-- what stands before the packet, the IP header, and the OSPF packet
pub recorded : (old headed addressed new ospf : List ℕ) (seconds micros source destination size : ℕ) → size ≡ ip_header + length ospf
    → headed ≡ old ++ record_header seconds micros size → addressed ≡ headed ++ ip_header_bytes size source destination → new ≡ addressed ++ ospf
    → new ≡ old ++ record_bytes (record { seconds = seconds; microseconds = micros; packet = ip_packet source destination ospf })
recorded old headed addressed new ospf seconds micros source destination size is head address rest =
    let packet = ip_packet source destination ospf in
    let front = record_header seconds micros size in
    let whole : length packet ≡ size = omega (arith, is) in
    rest ∙ ap (λ l. l ++ ospf) (address ∙ ap (λ l. l ++ ip_header_bytes size source destination) head)
    ∙ append_assoc (old ++ front) (ip_header_bytes size source destination) ospf ∙ append_assoc old front (ip_header_bytes size source destination ++ ospf)
    ∙ ap (λ n. old ++ (front ++ (ip_header_bytes n source destination ++ ospf))) is ∙ ap (λ n. old ++ (record_header seconds micros n ++ packet)) (sym whole)
