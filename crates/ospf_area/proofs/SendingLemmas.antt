-- What is sent of a packet.
use Rattle.ospf_packet.specs.PacketOf as read
use Rattle.ospf_packet.proofs.PacketLaws.{packet_decided, packet_of-is, packet_of-not}
use Rattle.ospf_packet.specs.Packet.{meaning_of}
use Rattle.std.proofs.lemmas.Option.{none-some, same_Some}
use Rattle.std.proofs.Common.{sym, subst, ◌∙◌, inl, inr, Some}
use Rattle.std.proofs.Common.{◌≡◌, ◌<◌, ◌≤◌, ◌+◌, ◌++◌, ℕ, List, [], ◌∷◌, length, take, get_or, sym, ap, ◌∙◌, arith, append-nil, append_assoc}
use Rattle.std.proofs.lemmas.Bool.Decides.{nat_tests}
use Rattle.ospf_packet.specs.Meaning.{Meaning, packet_bytes}
use Rattle.ospf_base.specs.Constants.{largest_lsa, largest_packet}
use Rattle.std.specs.List.{flat_map}
use Rattle.ospf_area.specs.Outputs.{SentValue, OutputsValue}
use Rattle.ospf_area.specs.Places.{flat_from}
use Rattle.ospf_area.specs.Sending.{and_sends, datagrams, packet_from, update_out}
use Rattle.ospf_area.specs.Laws.{sent_as}
use Rattle.ospf_packet.specs.Slices.{lsas_bytes}
use Rattle.ospf_packet.specs.Meaning as meaning
use Rattle.ospf_area.specs.declared.sending.RouterContext.{RouterContext}
use Rattle.ospf_area.specs.declared.sending.Way.{Way}
use Rattle.ospf_area.proofs.PlaceLemmas.{flat_map_step, flat_from_step}

pub datagrams_long : (way : Way) (m : Meaning) → largest_packet < length (packet_bytes m) → datagrams way m ≡ []
unfolding datagrams
datagrams_long way m long = grind (arith, nat_tests)

pub datagrams_short : (way : Way) (m : Meaning) → (largest_packet < length (packet_bytes m) → ⊥)
    → datagrams way m ≡ record { link = way.link; source = way.source; destination = way.destination; bytes = packet_bytes m; packet = m } ∷ []
unfolding datagrams
datagrams_short way m short = grind (arith, nat_tests)

-- nothing more is sent
pub sends_none : (out : OutputsValue) → out ≡ and_sends out []
sends_none out = ap (λ (ds : List SentValue). record out { sent = ds }) (sym (append-nil out.sent))

-- these datagrams, and then those
pub sends_more : (out : OutputsValue) (ds es : List SentValue) → and_sends (and_sends out ds) es ≡ and_sends out (ds ++ es)
sends_more out ds es = ap (λ (all : List SentValue). record out { sent = all }) (append_assoc out.sent ds es)

-- one more of those who send
pub sends_step : {X : Type 0} (f : X → List SentValue) (out now : OutputsValue) (xs : List X) (i : ℕ) (x y : X) → i < length xs → y ≡ x → x ≡ get_or xs i x
    → now ≡ and_sends out (flat_map f (take i xs)) → and_sends now (f y) ≡ and_sends out (flat_map f (take (i + 1) xs))
sends_step f out now xs i x y lt is read before =
    ap (λ (o : OutputsValue). and_sends o (f y)) before
    ∙ sends_more out (flat_map f (take i xs)) (f y)
    ∙ ap (λ v. and_sends out (flat_map f (take i xs) ++ f v)) (is ∙ read)
    ∙ ap (and_sends out) (sym (flat_map_step f xs i x lt))

pub sends_step_from : {X : Type 0} (f : ℕ → X → List SentValue) (out now : OutputsValue) (xs : List X) (i : ℕ) (x y : X) → i < length xs → y ≡ x → x ≡ get_or xs i x
    → now ≡ and_sends out (flat_from f 0 (take i xs)) → and_sends now (f i y) ≡ and_sends out (flat_from f 0 (take (i + 1) xs))
sends_step_from f out now xs i x y lt is read before =
    ap (λ (o : OutputsValue). and_sends o (f i y)) before
    ∙ sends_more out (flat_from f 0 (take i xs)) (f i y)
    ∙ ap (λ v. and_sends out (flat_from f 0 (take i xs) ++ f i v)) (is ∙ read)
    ∙ ap (and_sends out) (sym (flat_from_step f xs i x lt))

-- what bytes are read as is what they say
pub packet_said : (bytes : List ℕ) (m : Meaning) → read.packet_of bytes ≡ Some m → meaning_of bytes ≡ m
packet_said bytes m is = elim (packet_decided bytes) [
  | inl one ↦ same_Some (meaning_of bytes) m (sym (packet_of-is bytes one) ∙ is)
  | inr not_one ↦ absurd (none-some m (sym (packet_of-not bytes not_one) ∙ is))
]

-- and so it is sent
pub datagrams_read : (way : Way) (m : Meaning) → (largest_packet < length (packet_bytes m) → ⊥) → meaning_of (packet_bytes m) ≡ m
    → datagrams way m ≡ record { link = way.link; source = way.source; destination = way.destination; bytes = packet_bytes m; packet = meaning_of (packet_bytes m) } ∷ []
datagrams_read way m short said =
    datagrams_short way m short
    ∙ ap (λ (p : Meaning). record { link = way.link; source = way.source; destination = way.destination; bytes = packet_bytes m; packet = p } ∷ []) (sym said)

-- bytes that were written are read as what they say
pub read_again : (bytes : List ℕ) (m : Meaning) → bytes ≡ packet_bytes m → read.packet_of (packet_bytes m) ≡ Some m → read.packet_of bytes ≡ Some (meaning_of bytes)
read_again bytes m are again =
    subst (λ bs. read.packet_of bs ≡ Some (meaning_of bs)) (sym are) (again ∙ ap Some (sym (packet_said (packet_bytes m) m again)))

-- an Update of one LSA
pub lsa_out_short : (own : RouterContext) (way : Way) (lsa : List ℕ) → length lsa ≤ largest_lsa
    → update_out own way (lsa ∷ []) ≡ sent_as way (packet_from own (meaning.update (lsa ∷ []))) ∷ []
lsa_out_short own way lsa fits =
    datagrams_short way (packet_from own (meaning.update (lsa ∷ []))) (λ long.
    let one : length (lsas_bytes (lsa ∷ [])) ≡ length lsa = ap length (append-nil lsa) in
    let whole : length (packet_bytes (packet_from own (meaning.update (lsa ∷ [])))) ≡ 28 + length (lsas_bytes (lsa ∷ [])) = omega arith in
    omega (arith, fits, long, one, whole))
