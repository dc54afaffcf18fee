-- What fails, and how much that harms, holds no float as JSON.
use Rattle.std.proofs.Common.{◌≡◌, ℕ, Bool, true, false, List, refl}
use Rattle.std.specs.Prelude.{◌||◌, ◌^◌, codes, decimal, if◌then◌else◌}
use Rattle.std.specs.Bool.{nat_lt}
use Rattle.std.specs.Cmp.Lexicographic.{slice_cmp}
use Rattle.std.specs.Ordering.{match_ordering, nat_cmp}
use Rattle.std.specs.declared.cmp.Ordering.{Ordering}
use Rattle.std.specs.declared.cmp.Ordering.TheVariants as ordering
use Rattle.serde_json.specs.Data.{Data, Members, member, no_members, number, put, string, unsigned}
use Rattle.serde_json.specs.Written.{has_float, members_have_float}
use Rattle.ospf_base.specs.Text.{number_text}
use Rattle.ospf_base.specs.declared.ids.RouterId.{RouterId}
use Rattle.ospf_table.proofs.FloatLemmas.{items_none}
use Rattle.ospf_table.specs.Objects.{count_data}
use Rattle.ospf_whatif.specs.declared.failure.AreaFailure.{AreaFailure}
use Rattle.ospf_whatif.specs.declared.failure.AreaFailure.TheVariants.{Attachment, End, Link, Links, Network, Router, Stub}
use Rattle.ospf_harm.specs.Element.{link_state_data, named_routers, routers_data, subnet_data, with_element, with_harm}
use Rattle.ospf_harm.specs.declared.harm.Harm.{Harm}

count_none : (n : ℕ) → has_float (count_data n) ≡ false
count_none n = go (nat_lt n (2 ^ 64))
  where
    go : (small : Bool) → has_float (if small then number (unsigned n) else string (decimal n)) ≡ false
    go true = refl
    go false = refl

or_none : (b c : Bool) → (b || c) ≡ false → (b ≡ false) × (c ≡ false)
or_none true c e = absurd (let same : true ≡ false = e in cc)
or_none false c e = (refl, e)

-- a member more
pub put_none : (k : List ℕ) (d : Data) (ms : Members) → has_float d ≡ false → members_have_float ms ≡ false → members_have_float (put k d ms) ≡ false
put_none k d no_members here rest = rw here refl
put_none k d (member l e ms) here rest =
    let both = or_none (has_float e) (members_have_float ms) rest in
    go (slice_cmp nat_cmp k l) both.0 both.1 (put_none k d ms here both.1)
  where
    go : (o : Ordering) → has_float e ≡ false → members_have_float ms ≡ false → members_have_float (put k d ms) ≡ false
        → members_have_float (match_ordering o (member k d (member l e ms)) (member l d ms) (member l e (put k d ms))) ≡ false
    go ordering.Less first others more = rw (here, first, others) refl
    go ordering.Equal first others more = rw (here, others) refl
    go ordering.Greater first others more = rw (first, more) refl

routers_none : (f : AreaFailure) → has_float (routers_data f) ≡ false
routers_none f = items_none (λ (r : RouterId). string (number_text r.0)) (λ r. refl) (named_routers f)

subnet_none : (f : AreaFailure) → has_float (subnet_data f) ≡ false
subnet_none (Link a b subnet) = refl
subnet_none (End router other subnet) = refl
subnet_none (Links a b) = refl
subnet_none (Attachment router network) = refl
subnet_none (Network network) = refl
subnet_none (Router router) = refl
subnet_none (Stub router prefix) = refl

network_none : (f : AreaFailure) → has_float (link_state_data f) ≡ false
network_none (Link a b subnet) = refl
network_none (End router other subnet) = refl
network_none (Links a b) = refl
network_none (Attachment router network) = refl
network_none (Network network) = refl
network_none (Router router) = refl
network_none (Stub router prefix) = refl

pub element_none : (f : AreaFailure) (ms : Members) → members_have_float ms ≡ false → members_have_float (with_element f ms) ≡ false
element_none f ms none =
    let a : Members = put (codes "network") (link_state_data f) ms in
    let b : Members = put (codes "routers") (routers_data f) a in
    put_none (codes "subnet") (subnet_data f) b (subnet_none f)
    (put_none (codes "routers") (routers_data f) a (routers_none f) (put_none (codes "network") (link_state_data f) ms (network_none f) none))

pub harm_none : (h : Harm) (ms : Members) → members_have_float ms ≡ false → members_have_float (with_harm h ms) ≡ false
harm_none h ms none =
    let a : Members = put (codes "lost") (count_data h.lost) ms in
    let b : Members = put (codes "rerouted") (count_data h.rerouted) a in
    let c : Members = put (codes "own") (count_data h.own) b in
    put_none (codes "worst_rise") (number (unsigned h.rise)) c refl
    (put_none (codes "own") (count_data h.own) b (count_none h.own)
    (put_none (codes "rerouted") (count_data h.rerouted) a (count_none h.rerouted) (put_none (codes "lost") (count_data h.lost) ms (count_none h.lost) none)))
