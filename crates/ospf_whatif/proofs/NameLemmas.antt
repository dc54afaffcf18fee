-- Names of failures tell them apart.
use Rattle.std.proofs.Common.{◌≡◌, ◌-◌, ℕ, ◌^◌, ◌<◌, ◌≤◌, List, [], ◌∷◌, ◌++◌, get_or, drop, length, decimal, sym, ap, subst, inl, inr, ◌∙◌, arith}
use Rattle.std.specs.Prelude.{bit_and}
use Rattle.std.proofs.NetLemmas.Numbers.{NoDigit}
use Rattle.std.proofs.lemmas.Fmt.{decimal_injective}
use Rattle.std.proofs.lemmas.List.{append_assoc, append-nil}
use Rattle.std.proofs.lemmas.Nat.{and_le_r, pow_pos}
use Rattle.ospf_base.specs.Masks.{mask_of}
use Rattle.ospf_base.specs.Text.{number_text, prefix_text}
use Rattle.ospf_base.specs.declared.ids.RouterId.{RouterId}
use Rattle.ospf_base.specs.declared.prefix.Prefix.{Prefix}
use Rattle.ospf_base.proofs.Dotted.{no_number, same_number}
use Rattle.ospf_base.proofs.PrefixLaws.{prefix_same}
use Rattle.ospf_lsa.specs.Listing.{IsListing}
use Rattle.ospf_graph.specs.Graph.{IsEdgeBetween}
use Rattle.ospf_graph.specs.declared.graph.Vertex.TheVariants as vertex
use Rattle.ospf_graph.specs.EdgeLists.Listed.{advertisements_of}
use Rattle.ospf_graph.proofs.EdgeLists.FitLemmas.{network_fits, router_fits}
use Rattle.ospf_whatif.specs.Laws.{AllNamesTellApart, FailureNamesTellApart}
use Rattle.ospf_whatif.specs.Name.{area_failure_text}
use Rattle.ospf_whatif.specs.Single.{IsFailure, IsOn}
use Rattle.ospf_whatif.specs.Stubs.{IsAnyFailure}
use Rattle.ospf_whatif.specs.declared.failure.AreaFailure.{AreaFailure}
use Rattle.ospf_whatif.specs.declared.failure.AreaFailure.TheVariants.{Link, End, Links, Attachment, Network, Router, Stub}

-- the numbers of a failure fit their fields
abbrev pub FailureFits : AreaFailure → Type 0
FailureFits (Link a b subnet) = (a.0 < 2 ^ 32) × (b.0 < 2 ^ 32)
FailureFits (End a b subnet) = (a.0 < 2 ^ 32) × (b.0 < 2 ^ 32)
FailureFits (Links a b) = (a.0 < 2 ^ 32) × (b.0 < 2 ^ 32)
FailureFits (Attachment router network) = (router.0 < 2 ^ 32) × (network < 2 ^ 32)
FailureFits (Network network) = network < 2 ^ 32
FailureFits (Router router) = router.0 < 2 ^ 32
FailureFits (Stub router prefix) = router.0 < 2 ^ 32

-- ---- numbers at the front

-- no number begins with an at sign
no_at : (m : ℕ) (xs ys : List ℕ) → NoDigit 10 xs → number_text m ++ xs ≡ 64 ∷ ys → ⊥
no_at m xs ys stop e = no_number m xs (64 ∷ ys) stop (omega arith) (λ h. omega arith) e

router_same : (a b : RouterId) → a.0 ≡ b.0 → a ≡ b
router_same a b e = λ i. record { 0 = e i }

-- ---- what stands behind the first number of a name

-- a prefix
abbrev prefix_spelled : Prefix → List ℕ
prefix_spelled p = number_text p.address.0 ++ 47 ∷ decimal p.length

link_text : (a b : RouterId) (p : Prefix) → area_failure_text (Link a b p) ≡ number_text a.0 ++ 45 ∷ (number_text b.0 ++ 64 ∷ prefix_spelled p)
link_text a b p =
    let whole = prefix_text p in
    append_assoc (number_text a.0 ++ 45 ∷ [] ++ number_text b.0) (64 ∷ []) whole
    ∙ append_assoc (number_text a.0 ++ 45 ∷ []) (number_text b.0) (64 ∷ whole)
    ∙ append_assoc (number_text a.0) (45 ∷ []) (number_text b.0 ++ 64 ∷ whole)
    ∙ ap (λ (x : List ℕ). number_text a.0 ++ 45 ∷ (number_text b.0 ++ 64 ∷ x)) (append_assoc (number_text p.address.0) (47 ∷ []) (decimal p.length))

end_text : (a b : RouterId) (p : Prefix) → area_failure_text (End a b p) ≡ number_text a.0 ++ 58 ∷ (number_text b.0 ++ 64 ∷ prefix_spelled p)
end_text a b p =
    let whole = prefix_text p in
    append_assoc (number_text a.0 ++ 58 ∷ [] ++ number_text b.0) (64 ∷ []) whole
    ∙ append_assoc (number_text a.0 ++ 58 ∷ []) (number_text b.0) (64 ∷ whole)
    ∙ append_assoc (number_text a.0) (58 ∷ []) (number_text b.0 ++ 64 ∷ whole)
    ∙ ap (λ (x : List ℕ). number_text a.0 ++ 58 ∷ (number_text b.0 ++ 64 ∷ x)) (append_assoc (number_text p.address.0) (47 ∷ []) (decimal p.length))

-- two numbers, with a byte between them
two_text : (a b byte : ℕ) → number_text a ++ byte ∷ [] ++ number_text b ≡ number_text a ++ byte ∷ (number_text b ++ [])
two_text a b byte =
    append_assoc (number_text a) (byte ∷ []) (number_text b)
    ∙ ap (λ (x : List ℕ). number_text a ++ byte ∷ x) (sym (append-nil (number_text b)))

links_text : (a b : RouterId) → area_failure_text (Links a b) ≡ number_text a.0 ++ 45 ∷ (number_text b.0 ++ [])
links_text a b = two_text a.0 b.0 45

attachment_text : (r : RouterId) (n : ℕ) → area_failure_text (Attachment r n) ≡ number_text r.0 ++ 64 ∷ (number_text n ++ [])
attachment_text r n = two_text r.0 n 64

network_text : (n : ℕ) → area_failure_text (Network n) ≡ 64 ∷ (number_text n ++ [])
network_text n = ap (λ (x : List ℕ). 64 ∷ x) (sym (append-nil (number_text n)))

router_text : (r : RouterId) → area_failure_text (Router r) ≡ number_text r.0 ++ []
router_text r = sym (append-nil (number_text r.0))

stub_text : (r : RouterId) (p : Prefix) → area_failure_text (Stub r p) ≡ number_text r.0 ++ 64 ∷ prefix_spelled p
stub_text r p =
    append_assoc (number_text r.0) (64 ∷ []) (prefix_text p)
    ∙ ap (λ (x : List ℕ). number_text r.0 ++ 64 ∷ x) (append_assoc (number_text p.address.0) (47 ∷ []) (decimal p.length))

-- ---- names that are one

-- no bit is behind the mask, and so the address fits its field
address_fits : (p : Prefix) → p.address.0 < 2 ^ 32
address_fits p =
    let masked = p.masked in
    let some : 0 < 2 ^ (32 - p.length) = pow_pos (32 - p.length) in
    let le : bit_and p.address.0 (mask_of p.length) ≤ mask_of p.length = and_le_r p.address.0 (mask_of p.length) in
    omega (arith, masked, some, le)

prefix_one : (p q : Prefix) → prefix_spelled p ≡ prefix_spelled q → p ≡ q
prefix_one p q e =
    let address = same_number p.address.0 q.address.0 (47 ∷ decimal p.length) (47 ∷ decimal q.length) (address_fits p) (address_fits q) (omega arith) (omega arith) e in
    let short = p.short in
    let short' = q.short in
    prefix_same p q address.0 (decimal_injective p.length q.length (omega arith) (omega arith) (ap (drop 1) address.1))

-- ---- names of one kind

links_one : (a b c d : RouterId) (xs ys : List ℕ) → FailureFits (Links a b) → FailureFits (Links c d) → NoDigit 10 xs → NoDigit 10 ys
    → number_text a.0 ++ 45 ∷ (number_text b.0 ++ xs) ≡ number_text c.0 ++ 45 ∷ (number_text d.0 ++ ys) → (a ≡ c) × (b ≡ d) × (xs ≡ ys)
links_one a b c d xs ys hf hg sx sy e =
    let one = same_number a.0 c.0 (45 ∷ (number_text b.0 ++ xs)) (45 ∷ (number_text d.0 ++ ys)) hf.0 hg.0 (omega arith) (omega arith) e in
    let two = same_number b.0 d.0 xs ys hf.1 hg.1 sx sy (ap (drop 1) one.1) in
    (router_same a c one.0, router_same b d two.0, two.1)

link_link : (a b c d : RouterId) (p q : Prefix) → FailureFits (Links a b) → FailureFits (Links c d)
    → area_failure_text (Link a b p) ≡ area_failure_text (Link c d q) → Link a b p ≡ Link c d q
link_link a b c d p q hf hg e =
    let all = links_one a b c d (64 ∷ prefix_spelled p) (64 ∷ prefix_spelled q) hf hg (omega arith) (omega arith) (sym (link_text a b p) ∙ e ∙ link_text c d q) in
    let third : p ≡ q = prefix_one p q (ap (drop 1) all.2) in
    λ i. Link (all.0 i) (all.1 i) (third i)

end_end : (a b c d : RouterId) (p q : Prefix) → FailureFits (Links a b) → FailureFits (Links c d)
    → area_failure_text (End a b p) ≡ area_failure_text (End c d q) → End a b p ≡ End c d q
end_end a b c d p q hf hg e =
    let one = same_number a.0 c.0 (58 ∷ (number_text b.0 ++ 64 ∷ prefix_spelled p)) (58 ∷ (number_text d.0 ++ 64 ∷ prefix_spelled q)) hf.0 hg.0 (omega arith) (omega arith) (sym (end_text a b p) ∙ e ∙ end_text c d q) in
    let two = same_number b.0 d.0 (64 ∷ prefix_spelled p) (64 ∷ prefix_spelled q) hf.1 hg.1 (omega arith) (omega arith) (ap (drop 1) one.1) in
    let first : a ≡ c = router_same a c one.0 in
    let second : b ≡ d = router_same b d two.0 in
    let third : p ≡ q = prefix_one p q (ap (drop 1) two.1) in
    λ i. End (first i) (second i) (third i)

links_links : (a b c d : RouterId) → FailureFits (Links a b) → FailureFits (Links c d)
    → area_failure_text (Links a b) ≡ area_failure_text (Links c d) → Links a b ≡ Links c d
links_links a b c d hf hg e =
    let all = links_one a b c d [] [] hf hg (omega arith) (omega arith) (sym (links_text a b) ∙ e ∙ links_text c d) in
    λ i. Links (all.0 i) (all.1 i)

attachment_attachment : (r s : RouterId) (n m : ℕ) → FailureFits (Attachment r n) → FailureFits (Attachment s m)
    → area_failure_text (Attachment r n) ≡ area_failure_text (Attachment s m) → Attachment r n ≡ Attachment s m
attachment_attachment r s n m hf hg e =
    let one = same_number r.0 s.0 (64 ∷ (number_text n ++ [])) (64 ∷ (number_text m ++ [])) hf.0 hg.0 (omega arith) (omega arith) (sym (attachment_text r n) ∙ e ∙ attachment_text s m) in
    let two = same_number n m [] [] hf.1 hg.1 (omega arith) (omega arith) (ap (drop 1) one.1) in
    let router : r ≡ s = router_same r s one.0 in
    let network : n ≡ m = two.0 in
    λ i. Attachment (router i) (network i)

network_network : (n m : ℕ) → n < 2 ^ 32 → m < 2 ^ 32 → area_failure_text (Network n) ≡ area_failure_text (Network m) → Network n ≡ Network m
network_network n m hf hg e =
    let two = same_number n m [] [] hf hg (omega arith) (omega arith) (ap (drop 1) (sym (network_text n) ∙ e ∙ network_text m)) in
    ap (λ (x : ℕ). Network x) two.0

router_router : (r s : RouterId) → r.0 < 2 ^ 32 → s.0 < 2 ^ 32 → area_failure_text (Router r) ≡ area_failure_text (Router s) → Router r ≡ Router s
router_router r s hf hg e =
    let one = same_number r.0 s.0 [] [] hf hg (omega arith) (omega arith) (sym (router_text r) ∙ e ∙ router_text s) in
    ap (λ (x : RouterId). Router x) (router_same r s one.0)

stub_stub : (r s : RouterId) (p q : Prefix) → r.0 < 2 ^ 32 → s.0 < 2 ^ 32 → area_failure_text (Stub r p) ≡ area_failure_text (Stub s q) → Stub r p ≡ Stub s q
stub_stub r s p q hf hg e =
    let one = same_number r.0 s.0 (64 ∷ prefix_spelled p) (64 ∷ prefix_spelled q) hf hg (omega arith) (omega arith) (sym (stub_text r p) ∙ e ∙ stub_text s q) in
    let first : r ≡ s = router_same r s one.0 in
    let second : p ≡ q = prefix_one p q (ap (drop 1) one.1) in
    λ i. Stub (first i) (second i)

-- ---- names of two kinds

link_links : (a b c d : RouterId) (p : Prefix) → FailureFits (Links a b) → FailureFits (Links c d) → area_failure_text (Link a b p) ≡ area_failure_text (Links c d) → ⊥
link_links a b c d p hf hg e =
    let all = links_one a b c d (64 ∷ prefix_spelled p) [] hf hg (omega arith) (omega arith) (sym (link_text a b p) ∙ e ∙ links_text c d) in
    omega (arith, ap length all.2)

-- the bytes behind the first number of a name differ
behind_apart : (m n : ℕ) (xs ys : List ℕ) → m < 2 ^ 32 → n < 2 ^ 32 → NoDigit 10 xs → NoDigit 10 ys → (get_or xs 0 0 ≡ get_or ys 0 0 → ⊥)
    → number_text m ++ xs ≡ number_text n ++ ys → ⊥
behind_apart m n xs ys hm hn sx sy apart e = apart (ap (λ (l : List ℕ). get_or l 0 0) (same_number m n xs ys hm hn sx sy e).1)

end_link : (a b c d : RouterId) (p q : Prefix) → a.0 < 2 ^ 32 → c.0 < 2 ^ 32 → area_failure_text (End a b p) ≡ area_failure_text (Link c d q) → ⊥
end_link a b c d p q ha hc e =
    behind_apart a.0 c.0 (58 ∷ (number_text b.0 ++ 64 ∷ prefix_spelled p)) (45 ∷ (number_text d.0 ++ 64 ∷ prefix_spelled q)) ha hc (omega arith) (omega arith) (λ h. omega (arith, h))
    (sym (end_text a b p) ∙ e ∙ link_text c d q)

end_links : (a b c d : RouterId) (p : Prefix) → a.0 < 2 ^ 32 → c.0 < 2 ^ 32 → area_failure_text (End a b p) ≡ area_failure_text (Links c d) → ⊥
end_links a b c d p ha hc e =
    behind_apart a.0 c.0 (58 ∷ (number_text b.0 ++ 64 ∷ prefix_spelled p)) (45 ∷ (number_text d.0 ++ [])) ha hc (omega arith) (omega arith) (λ h. omega (arith, h))
    (sym (end_text a b p) ∙ e ∙ links_text c d)

end_attachment : (a b r : RouterId) (p : Prefix) (n : ℕ) → a.0 < 2 ^ 32 → r.0 < 2 ^ 32 → area_failure_text (End a b p) ≡ area_failure_text (Attachment r n) → ⊥
end_attachment a b r p n ha hr e =
    behind_apart a.0 r.0 (58 ∷ (number_text b.0 ++ 64 ∷ prefix_spelled p)) (64 ∷ (number_text n ++ [])) ha hr (omega arith) (omega arith) (λ h. omega (arith, h))
    (sym (end_text a b p) ∙ e ∙ attachment_text r n)

end_router : (a b r : RouterId) (p : Prefix) → a.0 < 2 ^ 32 → r.0 < 2 ^ 32 → area_failure_text (End a b p) ≡ area_failure_text (Router r) → ⊥
end_router a b r p ha hr e =
    behind_apart a.0 r.0 (58 ∷ (number_text b.0 ++ 64 ∷ prefix_spelled p)) [] ha hr (omega arith) (omega arith) (λ h. omega (arith, h))
    (sym (end_text a b p) ∙ e ∙ router_text r)

link_attachment : (a b r : RouterId) (p : Prefix) (n : ℕ) → a.0 < 2 ^ 32 → r.0 < 2 ^ 32 → area_failure_text (Link a b p) ≡ area_failure_text (Attachment r n) → ⊥
link_attachment a b r p n ha hr e =
    behind_apart a.0 r.0 (45 ∷ (number_text b.0 ++ 64 ∷ prefix_spelled p)) (64 ∷ (number_text n ++ [])) ha hr (omega arith) (omega arith) (λ h. omega (arith, h))
    (sym (link_text a b p) ∙ e ∙ attachment_text r n)

link_router : (a b r : RouterId) (p : Prefix) → a.0 < 2 ^ 32 → r.0 < 2 ^ 32 → area_failure_text (Link a b p) ≡ area_failure_text (Router r) → ⊥
link_router a b r p ha hr e =
    behind_apart a.0 r.0 (45 ∷ (number_text b.0 ++ 64 ∷ prefix_spelled p)) [] ha hr (omega arith) (omega arith) (λ h. omega (arith, h))
    (sym (link_text a b p) ∙ e ∙ router_text r)

links_attachment : (a b r : RouterId) (n : ℕ) → a.0 < 2 ^ 32 → r.0 < 2 ^ 32 → area_failure_text (Links a b) ≡ area_failure_text (Attachment r n) → ⊥
links_attachment a b r n ha hr e =
    behind_apart a.0 r.0 (45 ∷ (number_text b.0 ++ [])) (64 ∷ (number_text n ++ [])) ha hr (omega arith) (omega arith) (λ h. omega (arith, h))
    (sym (links_text a b) ∙ e ∙ attachment_text r n)

links_router : (a b r : RouterId) → a.0 < 2 ^ 32 → r.0 < 2 ^ 32 → area_failure_text (Links a b) ≡ area_failure_text (Router r) → ⊥
links_router a b r ha hr e =
    behind_apart a.0 r.0 (45 ∷ (number_text b.0 ++ [])) [] ha hr (omega arith) (omega arith) (λ h. omega (arith, h))
    (sym (links_text a b) ∙ e ∙ router_text r)

attachment_router : (r s : RouterId) (n : ℕ) → r.0 < 2 ^ 32 → s.0 < 2 ^ 32 → area_failure_text (Attachment r n) ≡ area_failure_text (Router s) → ⊥
attachment_router r s n hr hs e =
    behind_apart r.0 s.0 (64 ∷ (number_text n ++ [])) [] hr hs (omega arith) (omega arith) (λ h. omega (arith, h))
    (sym (attachment_text r n) ∙ e ∙ router_text s)

stub_link : (a b r : RouterId) (p q : Prefix) → a.0 < 2 ^ 32 → r.0 < 2 ^ 32 → area_failure_text (Link a b p) ≡ area_failure_text (Stub r q) → ⊥
stub_link a b r p q ha hr e =
    behind_apart a.0 r.0 (45 ∷ (number_text b.0 ++ 64 ∷ prefix_spelled p)) (64 ∷ prefix_spelled q) ha hr (omega arith) (omega arith) (λ h. omega (arith, h))
    (sym (link_text a b p) ∙ e ∙ stub_text r q)

stub_end : (a b r : RouterId) (p q : Prefix) → a.0 < 2 ^ 32 → r.0 < 2 ^ 32 → area_failure_text (End a b p) ≡ area_failure_text (Stub r q) → ⊥
stub_end a b r p q ha hr e =
    behind_apart a.0 r.0 (58 ∷ (number_text b.0 ++ 64 ∷ prefix_spelled p)) (64 ∷ prefix_spelled q) ha hr (omega arith) (omega arith) (λ h. omega (arith, h))
    (sym (end_text a b p) ∙ e ∙ stub_text r q)

stub_links : (a b r : RouterId) (q : Prefix) → a.0 < 2 ^ 32 → r.0 < 2 ^ 32 → area_failure_text (Links a b) ≡ area_failure_text (Stub r q) → ⊥
stub_links a b r q ha hr e =
    behind_apart a.0 r.0 (45 ∷ (number_text b.0 ++ [])) (64 ∷ prefix_spelled q) ha hr (omega arith) (omega arith) (λ h. omega (arith, h))
    (sym (links_text a b) ∙ e ∙ stub_text r q)

-- behind the address of a prefix is a slash
stub_attachment : (r s : RouterId) (n : ℕ) (q : Prefix) → FailureFits (Attachment r n) → s.0 < 2 ^ 32 → area_failure_text (Attachment r n) ≡ area_failure_text (Stub s q) → ⊥
stub_attachment r s n q hf hg e =
    let one = same_number r.0 s.0 (64 ∷ (number_text n ++ [])) (64 ∷ prefix_spelled q) hf.0 hg (omega arith) (omega arith) (sym (attachment_text r n) ∙ e ∙ stub_text s q) in
    let two = same_number n q.address.0 [] (47 ∷ decimal q.length) hf.1 (address_fits q) (omega arith) (omega arith) (ap (drop 1) one.1) in
    omega (arith, ap length two.1)

stub_router : (r s : RouterId) (q : Prefix) → r.0 < 2 ^ 32 → s.0 < 2 ^ 32 → area_failure_text (Router r) ≡ area_failure_text (Stub s q) → ⊥
stub_router r s q hr hs e =
    behind_apart r.0 s.0 [] (64 ∷ prefix_spelled q) hr hs (omega arith) (omega arith) (λ h. omega (arith, h))
    (sym (router_text r) ∙ e ∙ stub_text s q)

-- a name that begins with a number is that of no network
network_stub : (r : RouterId) (p : Prefix) (n : ℕ) → area_failure_text (Stub r p) ≡ area_failure_text (Network n) → ⊥
network_stub r p n e = no_at r.0 (64 ∷ prefix_spelled p) (number_text n ++ []) (omega arith) (sym (stub_text r p) ∙ e ∙ network_text n)

network_link : (a b : RouterId) (p : Prefix) (n : ℕ) → area_failure_text (Link a b p) ≡ area_failure_text (Network n) → ⊥
network_link a b p n e = no_at a.0 (45 ∷ (number_text b.0 ++ 64 ∷ prefix_spelled p)) (number_text n ++ []) (omega arith) (sym (link_text a b p) ∙ e ∙ network_text n)

network_end : (a b : RouterId) (p : Prefix) (n : ℕ) → area_failure_text (End a b p) ≡ area_failure_text (Network n) → ⊥
network_end a b p n e = no_at a.0 (58 ∷ (number_text b.0 ++ 64 ∷ prefix_spelled p)) (number_text n ++ []) (omega arith) (sym (end_text a b p) ∙ e ∙ network_text n)

network_links : (a b : RouterId) (n : ℕ) → area_failure_text (Links a b) ≡ area_failure_text (Network n) → ⊥
network_links a b n e = no_at a.0 (45 ∷ (number_text b.0 ++ [])) (number_text n ++ []) (omega arith) (sym (links_text a b) ∙ e ∙ network_text n)

network_attachment : (r : RouterId) (m n : ℕ) → area_failure_text (Attachment r m) ≡ area_failure_text (Network n) → ⊥
network_attachment r m n e = no_at r.0 (64 ∷ (number_text m ++ [])) (number_text n ++ []) (omega arith) (sym (attachment_text r m) ∙ e ∙ network_text n)

network_router : (r : RouterId) (n : ℕ) → area_failure_text (Router r) ≡ area_failure_text (Network n) → ⊥
network_router r n e = no_at r.0 [] (number_text n ++ []) (omega arith) (sym (router_text r) ∙ e ∙ network_text n)

-- ---- all names

of_link : (a b : RouterId) (p : Prefix) (g : AreaFailure) → FailureFits (Links a b) → FailureFits g → area_failure_text (Link a b p) ≡ area_failure_text g → Link a b p ≡ g
of_link a b p (Link c d q) hf hg e = link_link a b c d p q hf hg e
of_link a b p (End c d q) hf hg e = absurd (end_link c d a b q p hg.0 hf.0 (sym e))
of_link a b p (Links c d) hf hg e = absurd (link_links a b c d p hf hg e)
of_link a b p (Attachment r n) hf hg e = absurd (link_attachment a b r p n hf.0 hg.0 e)
of_link a b p (Network n) hf hg e = absurd (network_link a b p n e)
of_link a b p (Router r) hf hg e = absurd (link_router a b r p hf.0 hg e)
of_link a b p (Stub r q) hf hg e = absurd (stub_link a b r p q hf.0 hg e)

of_end : (a b : RouterId) (p : Prefix) (g : AreaFailure) → FailureFits (Links a b) → FailureFits g → area_failure_text (End a b p) ≡ area_failure_text g → End a b p ≡ g
of_end a b p (Link c d q) hf hg e = absurd (end_link a b c d p q hf.0 hg.0 e)
of_end a b p (End c d q) hf hg e = end_end a b c d p q hf hg e
of_end a b p (Links c d) hf hg e = absurd (end_links a b c d p hf.0 hg.0 e)
of_end a b p (Attachment r n) hf hg e = absurd (end_attachment a b r p n hf.0 hg.0 e)
of_end a b p (Network n) hf hg e = absurd (network_end a b p n e)
of_end a b p (Router r) hf hg e = absurd (end_router a b r p hf.0 hg e)
of_end a b p (Stub r q) hf hg e = absurd (stub_end a b r p q hf.0 hg e)

of_links : (a b : RouterId) (g : AreaFailure) → FailureFits (Links a b) → FailureFits g → area_failure_text (Links a b) ≡ area_failure_text g → Links a b ≡ g
of_links a b (Link c d q) hf hg e = absurd (link_links c d a b q hg hf (sym e))
of_links a b (End c d q) hf hg e = absurd (end_links c d a b q hg.0 hf.0 (sym e))
of_links a b (Links c d) hf hg e = links_links a b c d hf hg e
of_links a b (Attachment r n) hf hg e = absurd (links_attachment a b r n hf.0 hg.0 e)
of_links a b (Network n) hf hg e = absurd (network_links a b n e)
of_links a b (Router r) hf hg e = absurd (links_router a b r hf.0 hg e)
of_links a b (Stub r q) hf hg e = absurd (stub_links a b r q hf.0 hg e)

of_attachment : (r : RouterId) (n : ℕ) (g : AreaFailure) → FailureFits (Attachment r n) → FailureFits g → area_failure_text (Attachment r n) ≡ area_failure_text g → Attachment r n ≡ g
of_attachment r n (Link c d q) hf hg e = absurd (link_attachment c d r q n hg.0 hf.0 (sym e))
of_attachment r n (End c d q) hf hg e = absurd (end_attachment c d r q n hg.0 hf.0 (sym e))
of_attachment r n (Links c d) hf hg e = absurd (links_attachment c d r n hg.0 hf.0 (sym e))
of_attachment r n (Attachment s m) hf hg e = attachment_attachment r s n m hf hg e
of_attachment r n (Network m) hf hg e = absurd (network_attachment r n m e)
of_attachment r n (Router s) hf hg e = absurd (attachment_router r s n hf.0 hg e)
of_attachment r n (Stub s q) hf hg e = absurd (stub_attachment r s n q hf hg e)

of_network : (n : ℕ) (g : AreaFailure) → n < 2 ^ 32 → FailureFits g → area_failure_text (Network n) ≡ area_failure_text g → Network n ≡ g
of_network n (Link c d q) hf hg e = absurd (network_link c d q n (sym e))
of_network n (End c d q) hf hg e = absurd (network_end c d q n (sym e))
of_network n (Links c d) hf hg e = absurd (network_links c d n (sym e))
of_network n (Attachment s m) hf hg e = absurd (network_attachment s m n (sym e))
of_network n (Network m) hf hg e = network_network n m hf hg e
of_network n (Router s) hf hg e = absurd (network_router s n (sym e))
of_network n (Stub s q) hf hg e = absurd (network_stub s q n (sym e))

of_router : (r : RouterId) (g : AreaFailure) → r.0 < 2 ^ 32 → FailureFits g → area_failure_text (Router r) ≡ area_failure_text g → Router r ≡ g
of_router r (Link c d q) hf hg e = absurd (link_router c d r q hg.0 hf (sym e))
of_router r (End c d q) hf hg e = absurd (end_router c d r q hg.0 hf (sym e))
of_router r (Links c d) hf hg e = absurd (links_router c d r hg.0 hf (sym e))
of_router r (Attachment s m) hf hg e = absurd (attachment_router s r m hg.0 hf (sym e))
of_router r (Network n) hf hg e = absurd (network_router r n e)
of_router r (Router s) hf hg e = router_router r s hf hg e
of_router r (Stub s q) hf hg e = absurd (stub_router r s q hf hg e)

of_stub : (r : RouterId) (p : Prefix) (g : AreaFailure) → r.0 < 2 ^ 32 → FailureFits g → area_failure_text (Stub r p) ≡ area_failure_text g → Stub r p ≡ g
of_stub r p (Link c d q) hf hg e = absurd (stub_link c d r q p hg.0 hf (sym e))
of_stub r p (End c d q) hf hg e = absurd (stub_end c d r q p hg.0 hf (sym e))
of_stub r p (Links c d) hf hg e = absurd (stub_links c d r p hg.0 hf (sym e))
of_stub r p (Attachment s m) hf hg e = absurd (stub_attachment s r m p hg hf (sym e))
of_stub r p (Network n) hf hg e = absurd (network_stub r p n e)
of_stub r p (Router s) hf hg e = absurd (stub_router s r p hg hf (sym e))
of_stub r p (Stub s q) hf hg e = stub_stub r s p q hf hg e

pub names_apart : (f g : AreaFailure) → FailureFits f → FailureFits g → area_failure_text f ≡ area_failure_text g → f ≡ g
names_apart (Link a b p) g hf hg e = of_link a b p g hf hg e
names_apart (End a b p) g hf hg e = of_end a b p g hf hg e
names_apart (Links a b) g hf hg e = of_links a b g hf hg e
names_apart (Attachment r n) g hf hg e = of_attachment r n g hf hg e
names_apart (Network n) g hf hg e = of_network n g hf hg e
names_apart (Router r) g hf hg e = of_router r g hf hg e
names_apart (Stub r p) g hf hg e = of_stub r p g hf hg e

-- ---- failures of what is listed

module _ (lsas : List (List ℕ)) (is : IsListing lsas) where
  ends_fit : (a b : RouterId) (cost address : ℕ) → IsEdgeBetween (advertisements_of lsas) (vertex.Router a) (vertex.Router b) cost address → FailureFits (Links a b)
  ends_fit a b cost address (here, back, metric, there) = (router_fits lsas is a (here.links, here.listed), router_fits lsas is b (there.links, there.listed))

  attached_fit : (r : RouterId) (n : ℕ) → IsOn (advertisements_of lsas) r n → FailureFits (Attachment r n)
  attached_fit r n (cost, address, (link, attached)) =
      (router_fits lsas is r (link.links, link.listed), network_fits lsas is n attached.network.router attached.mask attached.attached attached.network.listed)

  pub failure_fits : (f : AreaFailure) → IsFailure (advertisements_of lsas) f → FailureFits f
  failure_fits (Link a b p) (inl wire) = ends_fit a b wire.cost wire.address wire.edge
  failure_fits (Link a b p) (inr links) = ends_fit a b links.cost links.address links.edge
  failure_fits (End a b p) never = absurd never
  failure_fits (Links a b) (smaller, (cost, address, edge), none) = ends_fit a b cost address edge
  failure_fits (Attachment r n) on = attached_fit r n on
  failure_fits (Network n) (r, on) = (attached_fit r n on).1
  failure_fits (Router r) listed = router_fits lsas is r listed
  failure_fits (Stub r p) never = absurd never

  any_fits : (f : AreaFailure) → IsAnyFailure (advertisements_of lsas) f → FailureFits f
  any_fits f (inl failure) = failure_fits f failure
  any_fits f (inr stub) = subst FailureFits (sym stub.3) (router_fits lsas is stub.0 (stub.2.links, stub.2.listed))

pub failure_names_tell_apart : FailureNamesTellApart
failure_names_tell_apart lsas f g is fails fails' e = names_apart f g (failure_fits lsas is f fails) (failure_fits lsas is g fails') e

pub all_names_tell_apart : AllNamesTellApart
all_names_tell_apart lsas f g is fails fails' e = names_apart f g (any_fits lsas is f fails) (any_fits lsas is g fails') e
